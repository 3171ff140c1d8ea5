-- The loop over entries that writes their lines.
use mathlib.Core.Path.{◌≡◌, refl, sym, ap, ap₂, subst, ◌∙◌}
use mathlib.Core.Bool.{Bool, true, false, cond}
use mathlib.Core.List.{List, [], ◌∷◌, ◌++◌, append_assoc, append-nil}
use Prim.Native.Nat.{ℕ, zero, suc, ◌+◌, ◌*◌, ◌-◌, ◌≤◌, ◌<◌}
use native.Mathlib.Nat.{zero-add}
use native.Mathlib.Omega.{arith}
use lib.Dec.{eqb}
use lib.ListN.{length, length-append, drop, replicate, take}
use lib.Seq.{take-append_seam}
use borrow.Author.Tests.{le-leb, eq-eqb, ne_eqb}
use Rattle.std.specs.Prelude.{Result as StdResult, Ok, Err}
use Rattle.definitions.specs.Words.{at}
use Rattle.definitions.specs.Answers.{given, refused, Result}
use Rattle.definitions.specs.Images.{entry_at, body_of, reference_of, entry_numbers, is_row, check_image, RowRecord, recorded, decode_row}
use Rattle.definitions.specs.CartridgeLists.{entry_line, line_of, row_line, row_lines, lines_of, image_line, list_image}
use Rattle.answers.specs.Answering.{refusal_number, refused_as, outcome_as, answer_of, leaves}
use Rattle.answers.specs.declared.Refusal.{Refusal}
use Rattle.answers.specs.declared.Refusal.TheVariants.{NoPatternInPlane}
use Rattle.image.proofs.Checked.{row_of}
use Rattle.row_reading.specs.Records.{record_as, CheckedRow}
use Rattle.row_reading.specs.declared.Record.{Record}
use Rattle.directory.proofs.Numbers.{left, left_first, left_next, left_end}
use Rattle.row_lines.specs.Writing.{Puts, Room, Adds, Printable}
use Rattle.row_lines.specs.declared.Lines.{Lines}
use Rattle.row_lines.proofs.Putting.{adds_nothing, adds_as, adds_then}
use Rattle.listing.specs.Lines.{AddsLine}
use Rattle.listing.proofs.Bounds.{row_printable}

-- what the loop keeps: the lines of the entries before k are written, 256 bytes at most for each, and those from k on are left
pub record Written (x : List ℕ) (lent : Lines) (k : ℕ) (l : Lines) : Type 0 where
  pub low : 1 ≤ k
  pub text : List ℕ
  pub adds : Adds lent text l
  pub short : length text ≤ 256 * (k - 1)
  pub left_to_write : row_lines x (entry_numbers x) ≡ text ++ row_lines x (left k (at x 0))

module _ (x : List ℕ) (lent : Lines) where
  pub begins : Room lent 8192 → Written x lent 1 lent
  begins h = record {
    low = omega arith;
    text = [];
    adds = adds_nothing lent (omega arith);
    short = omega arith;
    left_to_write = ap (row_lines x) (left_first (at x 0));
  }

  module _ (k : ℕ) (l : Lines) (w : Written x lent k l) where
    pub room : Room lent 8192 → k ≤ at x 0 → at x 0 ≤ 32 → Room l 256
    room h more few = omega (arith, w.adds.puts.behind, w.adds.long, w.short, w.low)

    pub next_line : (m : Lines) → k ≤ at x 0 → AddsLine l (entry_line x k) m → Written x lent (k + 1) m
    next_line m more p = record {
      low = omega arith;
      text = w.text ++ entry_line x k;
      adds = adds_then w.adds p.adds;
      short = rw (length-append w.text (entry_line x k)) (omega (arith, w.short, w.low, p.short));
      left_to_write =
          w.left_to_write
          ∙ ap (λ (ks : List ℕ). w.text ++ row_lines x ks) (left_next k (at x 0) more)
          ∙ sym (append_assoc w.text (entry_line x k) (row_lines x (left (k + 1) (at x 0))));
    }

    pub all_written : at x 0 < k → Adds lent (row_lines x (entry_numbers x)) l
    all_written h =
        adds_as
        (sym (w.left_to_write ∙ ap (λ (ks : List ℕ). w.text ++ row_lines x ks) (left_end k (at x 0) h) ∙ append-nil w.text))
        w.adds

-- a row that was read: its entry, its numbers and its line
module _ (x : List ℕ) (k : ℕ) (c : CheckedRow x k) (r : Record) (lent after : List ℕ) (e : (record_as r, after) ≡ recorded k (decode_row x k lent)) where
  pub read_entry : r.entry ≡ k
  read_entry = ap (λ (u : RowRecord × List ℕ). u.0.entry) e

  pub read_printable : Printable (outcome_as r.outcome) after
  read_printable = subst (λ (u : RowRecord × List ℕ). Printable u.0.outcome u.1) (sym e) (row_printable x k c lent)

  pub read_small : r.entry < 100
  read_small = let h = (row_of x c.checked k c.row).high in let i = read_entry in omega arith

  pub read_line : lent ≡ replicate (at (body_of x (reference_of x k)) 0) 0 → row_line r.entry (leaves (outcome_as r.outcome) after) ≡ line_of x k
  read_line z =
      ap (λ (u : RowRecord × List ℕ). row_line u.0.entry (leaves u.0.outcome u.1)) e
      ∙ ap (λ (l : List ℕ). row_line k (decode_row x k l)) z

pub take-zeros : (n m : ℕ) → n ≤ m → take {A = ℕ} n (replicate m 0) ≡ replicate n 0
take-zeros zero m h = refl
take-zeros (suc n) zero h = absurd (omega arith)
take-zeros (suc n) (suc m) h = ap (λ (l : List ℕ). 0 ∷ l) (take-zeros n m (omega arith))

-- an entry is a row by its kind
module _ (x : List ℕ) (k : ℕ) (low : 1 ≤ k) (high : k ≤ at x 0) where
  kind_decides : is_row x k ≡ eqb (entry_at x k).kind 3
  kind_decides = let c = le-leb 1 k low in let d = le-leb k (at x 0) high in rw (c, d)

  pub no_line : is_row x k ≡ false → entry_line x k ≡ []
  no_line e = ap (λ (t : Bool). cond t (line_of x k) []) (sym kind_decides ∙ e)

  pub row_line_lem : is_row x k ≡ true → entry_line x k ≡ line_of x k
  row_line_lem e = ap (λ (t : Bool). cond t (line_of x k) []) (sym kind_decides ∙ e)

-- an answer that gives a number is Ok
given_ok : (r : StdResult ℕ Refusal) (k : ℕ) → answer_of r ≡ given k → r ≡ Ok k
given_ok (Ok a) k e = ap Ok cc
given_ok (Err (NoPatternInPlane j)) k e = absurd cc
given_ok (Err y) k e = absurd cc

-- the operation
module _ (x out : List ℕ) where
  pub wrong_buffer : (length out ≡ 8192 → ⊥) → leaves (refused 8) out ≡ list_image x out
  unfolding list_image
  wrong_buffer h = let e = ne_eqb (length out) 8192 h in rw e

  pub listed :
      length out ≡ 8192 → (next : ℕ) (after : List ℕ) → Puts out 0 (lines_of x) next after
      → leaves (given next) after ≡ list_image x out
  unfolding list_image
  listed h next after p =
      let e = eq-eqb (length out) 8192 h in
      rw e
      (ap₂ {C = Result ℕ} (λ (n : ℕ) (a : List ℕ). leaves (given n) a) (p.behind ∙ zero-add (length (lines_of x)))
      (p.text ∙ ap (λ (u : ℕ). lines_of x ++ drop u out) (zero-add (length (lines_of x)))))

  -- what it answers for a buffer of its length, and what the buffer then begins with
  module _ (h : length out ≡ 8192) (r : StdResult ℕ Refusal) (after : List ℕ) (e : leaves (answer_of r) after ≡ list_image x out) where
    whole : leaves (answer_of r) after ≡ leaves (given (length (lines_of x))) (lines_of x ++ drop (length (lines_of x)) out)
    unfolding list_image
    whole = let f = eq-eqb (length out) 8192 h in e ∙ rw f refl

    pub is_given : r ≡ Ok (length (lines_of x))
    is_given = given_ok r (length (lines_of x)) (ap (λ (u : Result ℕ). u.answer) whole)

    pub text_first : take (length (lines_of x)) after ≡ lines_of x
    text_first = ap (λ (u : Result ℕ). take (length (lines_of x)) u.out) whole ∙ take-append_seam (lines_of x) (drop (length (lines_of x)) out)

-- the lines of an image by its check
module _ (x : List ℕ) where
  pub passed_lines : given tt ≡ check_image x → row_lines x (entry_numbers x) ≡ lines_of x
  unfolding lines_of
  passed_lines e = rw (← e)

  pub refused_line : (y : Refusal) → refused_as y ≡ check_image x → image_line (refusal_number y) ≡ lines_of x
  unfolding lines_of
  refused_line (NoPatternInPlane j) e = rw (← e)
  refused_line y e = rw (← e)
