-- What remains of the syndrome as the magnitude of a cell grows from 0.
use mathlib.Core.Path.{◌≡◌, refl, sym, ap, ◌∙◌, subst}
use mathlib.Core.List.{List, ◌++◌}
use Prim.Native.Nat.{ℕ, ◌+◌, ◌*◌, ◌-◌, ◌%◌, ◌≤◌, ◌<◌}
use native.Mathlib.Nat.{add-mod-mod}
use native.Mathlib.Omega.{arith}
use Rattle.definitions.specs.Words.{at}
use Rattle.definitions.specs.Codes as codes
use Rattle.definitions.proofs.Tests.{below_each}
use Rattle.opening.specs.declared.Code.{Code}
use Rattle.opening.specs.Viewed as viewed
use Rattle.definitions.specs.Codewords.{syndrome_entry}
use Rattle.word_laws.proofs.Remainders.{cong_add}
use Rattle.syndrome.specs.Columns.{column}
use Rattle.syndrome.proofs.Columns.{column-below}
use Rattle.candidate_patterns.specs.declared.Risen.{Risen}
use Rattle.candidate_patterns.specs.declared.asked.Asked.{Asked}
use Rattle.search.specs.declared.Choices.{Choices}
use Rattle.search.specs.Search.{Reached, cells_from, magnitudes_from}
use Rattle.candidate_patterns.specs.Candidates.{magnitude_of, magnitude_at, word_of, added, Chosen, Remains}
use Rattle.candidate_patterns.proofs.Choices.{of_more, added-at, added_none, word_same, chosen-added}
use Rattle.candidate_patterns.proofs.Syndromes.{Raised, entry-raised, remains_same}
use Rattle.search_filters.specs.Filters.{less_modulo}
use Rattle.search_filters.proofs.Differences.{less_below, less_adds}
use Rattle.search.proofs.Order.{mag_more}

-- the magnitude of a cell is one more
remains-lowered :
    (p : codes.Code) (s : List ℕ) (k : Risen) (rest : List ℕ) → Remains p s k rest → (c : ℕ) (k' : Risen) (rest' : List ℕ) → c < p.n → Raised k c 1 k'
    → ((i : ℕ) → column p i c < p.M) → ((i : ℕ) → at rest' i ≡ less_modulo p.M (at rest i) (column p i c)) → Remains p s k' rest'
remains-lowered p s k rest left c k' rest' h g b e = record {
  below = λ i. subst (λ (v : ℕ). v < p.M) (sym (e i)) (less_below p.M (at rest i) (column p i c) (left.below i) (b i));
  sum = λ i. step i (syndrome_entry p (word_of p.n k) i) (column p i c) (left.sum i) (e i) (b i) (entry-raised p k c 1 k' h g i);
}
  where
    step :
        (i x u : ℕ) → (at rest i + x) % p.M ≡ at s i → at rest' i ≡ less_modulo p.M (at rest i) u → u < p.M
        → syndrome_entry p (word_of p.n k') i ≡ (x + 1 * u) % p.M → (at rest' i + syndrome_entry p (word_of p.n k') i) % p.M ≡ at s i
    step i x u f q m z =
        ap (λ (v : ℕ). (at rest' i + v) % p.M) z ∙ add-mod-mod (at rest' i) (x + 1 * u) p.M
        ∙ ap (λ (v : ℕ). v % p.M) (order (at rest' i)) ∙ ap (λ (v : ℕ). (v + u + x) % p.M) q
        ∙ cong_add p.M (less_modulo p.M (at rest i) u + u) (at rest i) x x (less_adds p.M (at rest i) u m) refl ∙ f
      where
        order : (a : ℕ) → a + (x + 1 * u) ≡ a + u + x
        order a = omega arith

module _ (p : codes.Code) (s : List ℕ) (k : Risen) (left cell : ℕ) (ch : Chosen k left cell) (one : 1 ≤ left) where
  pub remains_start : (rest : List ℕ) → Remains p s k rest → Remains p s (added k cell 0) rest
  remains_start rest r =
      remains_same p s k (added k cell 0) rest (word_same p.n k (added k cell 0) (λ i h. sym (added_none k ch.three (ch.free 2 (omega arith)) cell i))) r

  pub remains-next :
      (mag : ℕ) (rest rest' : List ℕ) → cell < p.n → ((i : ℕ) → column p i cell < p.M) → Remains p s (added k cell mag) rest
      → ((i : ℕ) → at rest' i ≡ less_modulo p.M (at rest i) (column p i cell)) → Remains p s (added k cell (mag + 1)) rest'
  remains-next mag rest rest' h b r e = remains-lowered p s (added k cell mag) rest r cell (added k cell (mag + 1)) rest' h more b e
    where
      plus : (d j : ℕ) → magnitude_at (added k cell d) j ≡ magnitude_at k j + magnitude_of cell d j
      plus d = added-at k ch.three (ch.free 2 (omega arith)) cell d (ch.before cell (omega arith))

      regroup : (a x y z : ℕ) → x ≡ y + z → a + x ≡ a + y + z
      regroup a x y z e = omega arith

      more : Raised (added k cell mag) cell 1 (added k cell (mag + 1))
      more j =
          plus (mag + 1) j
          ∙ regroup (magnitude_at k j) (magnitude_of cell (mag + 1) j) (magnitude_of cell mag j) (magnitude_of cell 1 j) (of_more cell mag j)
          ∙ ap (λ (v : ℕ). v + magnitude_of cell 1 j) (sym (plus mag j))

pub columns_below : (p : Code) (cell i : ℕ) → column (viewed.code p) i cell < p.m
columns_below p cell i = column-below (viewed.code p) i cell (omega arith) (below_each p.m p.matrix.now (rw p.entries tt))

-- the cell has one magnitude more: the choices then, and the patterns still to be tried in two parts
pub with_magnitude :
    (a : Asked) (k : Choices) (rest : List ℕ) → Reached a k rest × (1 ≤ k.left) × (k.cell < a.code.n) → (mag : ℕ) → mag < a.code.l
    → (tried : ℕ) (entries next lowered : List ℕ) → ((i : ℕ) → at entries i ≡ column (viewed.code a.code) i k.cell)
    → ((i : ℕ) → at lowered i ≡ less_modulo a.code.m (at next i) (at entries i))
    → Remains (viewed.code a.code) a.s (added k.risen k.cell mag) next
    → Reached a (record { risen = added k.risen k.cell (mag + 1); left = k.left - 1; cell = k.cell + 1; tried = tried }) lowered
    × (magnitudes_from (viewed.code a.code) k.risen k.left k.cell mag
    ≡ cells_from (viewed.code a.code) (added k.risen k.cell (mag + 1)) (k.left - 1) (k.cell + 1)
    ++ magnitudes_from (viewed.code a.code) k.risen k.left k.cell (mag + 1))
with_magnitude a k rest (reached, one, here) mag below tried entries next lowered is less r =
    let p = viewed.code a.code in (
      record {
        chosen = chosen-added k.risen k.left k.cell (mag + 1) reached.chosen one;
        cells = omega arith;
        remains =
            remains-next p a.s k.risen k.left k.cell reached.chosen one mag next lowered here (columns_below a.code k.cell) r
            (λ i. less i ∙ ap (less_modulo a.code.m (at next i)) (is i));
      },
      mag_more p k.risen k.left k.cell mag below reached.chosen one,
    )
