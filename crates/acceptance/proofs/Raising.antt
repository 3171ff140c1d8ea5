-- Raising a cell: what it does to each entry of a syndrome.
use mathlib.Core.Path.{◌≡◌, refl, sym, ap, ◌∙◌}
use mathlib.Core.List.{List}
use Prim.Native.Nat.{ℕ, ◌+◌, ◌%◌, ◌<◌}
use native.Mathlib.Nat.{mod-lt, zero-add}
use native.Mathlib.Numerals.{add-one}
use native.Mathlib.Omega.{arith}
use lib.ListN.{length}
use lib.Seq.{ext_get_or}
use Rattle.definitions.specs.Words.{at, EachCell}
use Rattle.definitions.specs.Codes.{Code}
use Rattle.word_laws.proofs.Cells.{at_each, at-up_from}
use Rattle.definitions.proofs.Tests.{below_each}
use Rattle.syndrome.specs.Columns.{column}
use Rattle.syndrome.proofs.Columns.{column-below}
use Rattle.opening.specs.Viewed.{code}
use Rattle.opening.specs.declared.Code.{Code as Opened}
use Rattle.acceptance.specs.Listing.{raised, raised_by}

module _ (p : Code) (cell : ℕ) (s : List ℕ) where
  abbrev entry : ℕ → ℕ
  entry k = (at s k + column p k cell) % p.M

  pub length-raised : length (raised p cell s) ≡ 16
  unfolding raised
  length-raised = refl

  pub at-raised : (k : ℕ) → k < 16 → at (raised p cell s) k ≡ entry k
  unfolding raised
  at-raised k h = at-up_from entry 0 16 k h ∙ ap entry (zero-add k)

  -- all entries are raised
  pub all_raised : (x : List ℕ) → length x ≡ 16 → ((k : ℕ) → k < 16 → at x k ≡ entry k) → 0 < p.M
      → (x ≡ raised p cell s) × EachCell (λ v. v < p.M) x × (length x ≡ 16)
  all_raised x l h m = (
    ext_get_or 0 x (raised p cell s) (l ∙ sym length-raised) (λ k b. h k (omega (arith, l)) ∙ sym (at-raised k (omega (arith, l)))),
    at_each (λ v. v < p.M) x (λ k b. rw (h k (omega (arith, l))) (mod-lt (at s k + column p k cell) m)),
    l,
  )

-- magnitude after magnitude
pub raised-zero : (p : Code) (cell : ℕ) (s : List ℕ) → s ≡ raised_by p cell 0 s
unfolding raised_by
raised-zero p cell s = refl

pub raised_more : (p : Code) (cell mag : ℕ) (s x y : List ℕ) → x ≡ raised_by p cell mag s → y ≡ raised p cell x → y ≡ raised_by p cell (mag + 1) s
unfolding raised_by
raised_more p cell mag s x y e f = rw (add-one mag) (f ∙ ap (raised p cell) e)

-- a column's entries are below M
pub columns_below : (o : Opened) (cell k : ℕ) → column (code o) k cell < o.m
columns_below o cell k = column-below (code o) k cell (omega (arith, o.levels.0)) (below_each o.m o.matrix.now (rw o.entries tt))
