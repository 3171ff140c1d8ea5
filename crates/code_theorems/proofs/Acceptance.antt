-- The patterns of a code are those listed, P in all and in document 01's order; and acceptance as computed is acceptance.
use mathlib.Core.Path.{◌≡◌, refl, ap, ◌∙◌}
use mathlib.Core.Logic.{inl, inr, ◌↔◌}
use mathlib.Core.List.{List, Memᴰ}
use Prim.Native.Nat.{ℕ, zero, suc, ◌*◌, ◌^◌, ◌≤◌, ◌<◌}
use native.Mathlib.Omega.{arith}
use lib.Dec.{T}
use lib.ListN.{length}
use Rattle.definitions.specs.Words.{sum_to, up_from}
use Rattle.definitions.specs.Codes.{Code}
use Rattle.definitions.specs.Codewords.{syndrome}
use Rattle.definitions.specs.Patterns.{patterns_of, pattern_count, Pattern, Before, binomial}
use Rattle.definitions.specs.Acceptance.{Accepted, accepted}
use Rattle.word_laws.proofs.Cells.{each_map, length-up_from, up_from_bounds, up_from_mem}
use Rattle.word_laws.proofs.Lists.{different_apart, apart_different}
use Rattle.word_laws.proofs.PatternList.{Entry, pattern_listed, listed_pattern, Ascending, ascending_patterns, once-patterns, rising_up_from, length-patterns}
use Rattle.code_theorems.proofs.Syndromes.{entries-syndrome, syndrome-entries}

entry_le : (l v : ℕ) → Entry (up_from 1 l) v → v ≤ l
entry_le l v (inl p) = omega arith
entry_le l v (inr m) = omega (arith, up_from_bounds 1 l v m)

le_entry : (l v : ℕ) → v ≤ l → Entry (up_from 1 l) v
le_entry l zero h = inl refl
le_entry l (suc v) h = inr (up_from_mem 1 l (suc v) (omega arith) (omega arith))

pub magnitude_pos : (l v : ℕ) → Memᴰ v (up_from 1 l) → 0 < v
magnitude_pos l v m = omega (arith, up_from_bounds 1 l v m)

module _ (p : Code) where
  -- the list holds exactly the patterns
  pub pattern_in : (e : List ℕ) → Pattern p e → Memᴰ e (patterns_of p)
  unfolding patterns_of
  pattern_in e h =
      pattern_listed (up_from 1 p.l) p.t p.n e (record { long = h.long; each = each_map (le_entry p.l) e h.each; few = h.few })

  pub in_pattern : (e : List ℕ) → Memᴰ e (patterns_of p) → Pattern p e
  unfolding patterns_of
  in_pattern e m =
      let h = listed_pattern (up_from 1 p.l) (magnitude_pos p.l) p.t p.n e m in
      record { long = h.long; each = each_map (entry_le p.l) e h.each; few = h.few }

  -- in document 01's order, so each once
  pub patterns_ascend : Ascending Before (patterns_of p)
  unfolding patterns_of
  patterns_ascend = ascending_patterns (up_from 1 p.l) (magnitude_pos p.l) (rising_up_from 1 p.l) p.t p.n

  -- P in all
  pub patterns-number : length (patterns_of p) ≡ pattern_count p
  unfolding patterns_of pattern_count
  patterns-number =
      length-patterns (up_from 1 p.l) p.t p.n
      ∙ ap (λ (m : ℕ). sum_to (suc p.t) (λ i. binomial p.n i * m ^ i)) (length-up_from 1 p.l)

  pub acceptance : T (accepted p) ↔ Accepted p
  unfolding accepted patterns_of
  acceptance = (
    (λ h a b ha hb e. different_apart (syndrome p) (patterns_of p) h a b (pattern_in a ha) (pattern_in b hb) (entries-syndrome p a b e)),
    (λ h. apart_different (syndrome p) (patterns_of p)
        (once-patterns (up_from 1 p.l) (magnitude_pos p.l) (rising_up_from 1 p.l) p.t p.n)
        (λ a b ma mb e. h a b (in_pattern a ma) (in_pattern b mb) (syndrome-entries p a b e))),
  )
