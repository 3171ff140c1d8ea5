-- The texts of the lines: how they are put together, and how long they are.
use Rattle.std.proofs.Common.{◌≡◌, refl, sym, ap, ◌∙◌, List, [], ◌∷◌, ◌++◌, ℕ, ◌+◌, ◌*◌, ◌≤◌, ◌<◌, length, take, lt-ltb, le-ltb, arith}
use mathlib.Core.List.{append_assoc, append-nil}
use native.Mathlib.Numerals.{add-one}
use native.Mathlib.Decide.{dec_lt}
use lib.ListN.{length-append}
use lib.Seq.{take-suc, length-take-le}
use Rattle.definitions.specs.Words.{at}
use Rattle.definitions.specs.CartridgeLists.{refused_text, decimal, spaced, outcome_text, row_line}
use Rattle.definitions.specs.Answers.{Answer, given, refused, refused_at}
use Rattle.answers.specs.Answering.{refusal_number, refused_as, leaves}
use Rattle.answers.specs.declared.Refusal.{Refusal}
use Rattle.answers.specs.declared.Refusal.TheVariants as refusal
use Rattle.row_lines.specs.Writing.{Adds, Printable}
use Rattle.row_lines.specs.declared.Lines.{Lines}

pub decimal-short : (n : ℕ) → length (decimal n) ≤ 2
decimal-short n = step (dec_lt n 10)
  where
    step : Dec (n < 10) → length (decimal n) ≤ 2
    step (yes h) = let e = lt-ltb n 10 h in rw e (omega arith)
    step (no h) = let e = le-ltb n 10 (omega arith) in rw e (omega arith)

-- the levels before cell i, and one more
spaced_append : (x y : List ℕ) → spaced (x ++ y) ≡ spaced x ++ spaced y
spaced_append [] y = refl
spaced_append (v ∷ x) y =
    ap (λ (u : List ℕ). (32 ∷ decimal v) ++ u) (spaced_append x y) ∙ sym (append_assoc (32 ∷ decimal v) (spaced x) (spaced y))

pub spaced_more : (x : List ℕ) (i : ℕ) → i < length x → spaced (take (i + 1) x) ≡ spaced (take i x) ++ (32 ∷ decimal (at x i))
spaced_more x i h =
    rw (add-one i, take-suc x i 0 h)
    (spaced_append (take i x) (at x i ∷ []) ∙ ap (λ (u : List ℕ). spaced (take i x) ++ u) (append-nil (32 ∷ decimal (at x i))))

pub spaced-short : (x : List ℕ) → length (spaced x) ≤ 3 * length x
spaced-short [] = omega arith
spaced-short (v ∷ x) =
    let a = decimal-short v in
    let b = spaced-short x in
    simp length-append (omega arith)

-- a refusal's text has no plane
pub refused-text : (x : Refusal) (levels : List ℕ) → refused_text ++ decimal (refusal_number x) ≡ outcome_text (refused_as x) levels
refused-text (refusal.NoPatternInPlane j) levels = refl
refused-text x levels = refl

pub outcome-short : (a : Answer ℕ) (levels : List ℕ) → Printable a levels → length (outcome_text a levels) ≤ 208
outcome-short (given count) levels h =
    let d = decimal-short count in
    let s = spaced-short levels in
    let l = h.1 in
    simp length-append (omega arith)
outcome-short (refused k) levels h = let d = decimal-short k in simp length-append (omega arith)
outcome-short (refused_at k j) levels h = let d = decimal-short k in simp length-append (omega arith)

pub row-short : (k : ℕ) (a : Answer ℕ) (levels : List ℕ) → Printable a levels → length (row_line k (leaves a levels)) ≤ 256
row-short k a levels h =
    let d = decimal-short k in
    let o = outcome-short a levels h in
    simp length-append (omega arith)

-- the room for the levels from cell i on
pub levels_left :
    {l k : Lines} (x : List ℕ) (i : ℕ) → i < length x → l.place + 3 * length x ≤ length l.out.now → Adds l (spaced (take i x)) k
    → k.place + 3 ≤ length k.out.now
levels_left x i h room p = omega (arith, spaced-short (take i x), length-take-le i x (omega arith), p.puts.behind, p.long)
