-- Where no choice is left, and where a part of the search found its pattern.
use mathlib.Core.Path.{◌≡◌, refl, sym, ap, ◌∙◌}
use mathlib.Core.Bool.{Bool, true, false}
use mathlib.Core.List.{List, [], ◌∷◌, ◌++◌}
use Prim.Native.Nat.{ℕ, ◌+◌, ◌≤◌}
use Rattle.definitions.specs.Codes.{Code}
use Rattle.candidate_patterns.specs.declared.Risen.{Risen}
use Rattle.candidate_patterns.specs.Candidates.{word_of, Chosen}
use Rattle.std.proofs.Common.{Break}
use mathlib.Core.Option.{none, some}
use Rattle.search.specs.Search.{Sought, cells_from, seek, sought_as}
use Rattle.search.proofs.Order.{all_chosen, one_hit, one_miss, seek_none, seek_hit}

-- no choice left
module _ (p : Code) (k : Risen) (left cell : ℕ) (z : left ≡ 0) (h : cell ≤ p.n) (ch : Chosen k left cell) (f : List ℕ → Bool) (t : ℕ) where
  abbrev e : List ℕ
  e = word_of p.n k

  alone : cells_from p k left cell ≡ e ∷ []
  alone = all_chosen p k left cell z h ch.before

  pub done_hit : true ≡ f e → (some e, t + 1) ≡ seek f (cells_from p k left cell) t
  done_hit b = one_hit f (cells_from p k left cell) [] e t alone (sym b)

  pub done_miss : false ≡ f e → (none, t + 1) ≡ seek f (cells_from p k left cell) t
  done_miss b = seek_none f (t + 1) [] refl ∙ sym (one_miss f (cells_from p k left cell) [] e t alone (sym b))

-- what is found in the first part of a list
pub part_hit :
    (n : ℕ) (f : List ℕ → Bool) (zs xs ys : List (List ℕ)) (t : ℕ) → zs ≡ xs ++ ys → (s : Sought) (x : Risen × ℕ) → s ≡ Break x
    → sought_as n s ≡ seek f xs t → sought_as n s ≡ seek f zs t
part_hit n f zs xs ys t split s x q e =
    ap (sought_as n) q ∙ seek_hit f zs xs ys t split (word_of n x.0) x.1 (sym (ap (sought_as n) q) ∙ e)
