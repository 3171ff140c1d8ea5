-- The numbers of a line are small: what is given back has at most 64 cells, and its levels are below 64.
use mathlib.Core.Path.{◌≡◌, refl, sym, subst}
use mathlib.Core.Bool.{Bool, true, false, cond}
use mathlib.Core.List.{List, [], ◌∷◌}
use Prim.Native.Nat.{ℕ, suc, ◌+◌, ◌≤◌, ◌<◌}
use native.Mathlib.Omega.{arith}
use lib.Dec.{eqb}
use lib.ListN.{length}
use Rattle.definitions.specs.Words.{distance, EachCell}
use Rattle.definitions.specs.Answers.{Answer, given, refused, refused_at, Result}
use Rattle.definitions.specs.Decoding.{decode}
use Rattle.definitions.specs.CodeOperations.{open_code, decode_code}
use Rattle.definitions.specs.Stacks.{levels}
use Rattle.definitions.specs.StackDecoding.{decode_word}
use Rattle.definitions.specs.StackOperations.{open_stack, decode_stack}
use Rattle.definitions.specs.Images.{body_of, reference_of, decode_row}
use Rattle.word_laws.proofs.Cells.{each_map}
use Rattle.code_theorems.proofs.Refusals.{given_read}
use Rattle.code_theorems.proofs.Opened.{opened}
use Rattle.code_theorems.proofs.Demands.{decode_some}
use Rattle.stack_theorems.proofs.Opened.{stack_opened}
use Rattle.stack_theorems.proofs.Demands.{decode-within}
use Rattle.image.proofs.Checked.{Named, plan, stack, row_of}
use Rattle.row_reading.specs.Records.{CheckedRow}
use Rattle.row_reading.proofs.Rows.{by_plan, by_stack}
use Rattle.row_lines.specs.Writing.{Printable}

distance-short : (x y : List ℕ) → distance x y ≤ length x
distance-short [] y = omega arith
distance-short (a ∷ x) [] = omega arith
distance-short (a ∷ x) (b ∷ y) = let h = distance-short x y in step (eqb a b) h
  where
    step : (t : Bool) → distance x y ≤ length x → cond t 0 1 + distance x y ≤ suc (length x)
    step true h = omega arith
    step false h = omega arith

-- a count k whose levels are a word of n cells below q, at distance k from the row
small : (n q k : ℕ) (out y : List ℕ) → n ≤ 64 → q ≤ 64 → length out ≡ n → EachCell (λ v. v < q) out → k ≡ distance out y → Printable (given k) out
small n q k out y hn hq long levels d = let s = distance-short out y in (omega arith, omega arith, each_map (λ v h. omega arith) out levels)

by_cases : (a : Answer ℕ) (levels : List ℕ) → ((k : ℕ) → a ≡ given k → Printable (given k) levels) → Printable a levels
by_cases (given k) levels h = h k refl
by_cases (refused k) levels h = tt
by_cases (refused_at k j) levels h = tt

module _ (b y out : List ℕ) where
  code_printable : Printable (decode_code b y out).answer (decode_code b y out).out
  unfolding decode_code
  code_printable =
      by_cases (decode_code b y out).answer (decode_code b y out).out λ k e.
      let (p, opens, ly, lo, h) = given_read (open_code b) (λ p. p.n) (λ p. p.q) (λ p. decode p y) y out k e in
      let (w, d) = (decode_some b p opens y out ly lo h).back k e in
      let r = (opened b p opens).1.range in
      small p.n p.q k (decode_code b y out).out y r.n-high r.q-high w.0.long w.0.levels d

  stack_printable : Printable (decode_stack b y out).answer (decode_stack b y out).out
  unfolding decode_stack
  stack_printable =
      by_cases (decode_stack b y out).answer (decode_stack b y out).out λ k e.
      let (S, opens, ly, lo, h) = given_read (open_stack b) (λ S. S.n) levels (λ S. decode_word S y) y out k e in
      let (w, d) = decode-within b S opens y out ly lo h k e in
      let r = stack_opened b S opens in
      small S.n (levels S) k (decode_stack b y out).out y r.n-high r.q-high w.0.long w.0.bounded d

module _ (x : List ℕ) (k : ℕ) (c : CheckedRow x k) where
  named : Named x (reference_of x k)
  named = (row_of x c.checked k c.row).named

  pub row_printable : (out : List ℕ) → Printable (decode_row x k out).answer (decode_row x k out).out
  row_printable out = step named
    where
      step : Named x (reference_of x k) → Printable (decode_row x k out).answer (decode_row x k out).out
      step (plan e t) =
          subst (λ (r : Result ℕ). Printable r.answer r.out) (sym (by_plan x k out e)) (code_printable (body_of x (reference_of x k)) (body_of x k) out)
      step (stack e t) =
          subst (λ (r : Result ℕ). Printable r.answer r.out) (sym (by_stack x k out e)) (stack_printable (body_of x (reference_of x k)) (body_of x k) out)
