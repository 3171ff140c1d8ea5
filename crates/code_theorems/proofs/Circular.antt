-- Circular reading and ours: for an accepted code they agree wherever a codeword is within reach, and where they differ ours is 11.
use mathlib.Core.Path.{◌≡◌, refl, sym, ap, ap₂, ◌∙◌}
use mathlib.Core.List.{List, [], ◌∷◌}
use mathlib.Core.Option.{Option, none, some}
use Prim.Native.Nat.{ℕ, ◌+◌, ◌*◌, ◌-◌, ◌%◌, ◌≤◌, ◌<◌}
use native.Mathlib.Nat.{mul-one, add-mod_right, mod-eq_of_lt}
use native.Mathlib.Omega.{arith}
use lib.ListN.{length}
use Rattle.definitions.specs.Words.{subtract, weight, EachCell, EachPair}
use Rattle.definitions.specs.Answers.{refused}
use Rattle.definitions.specs.Codes.{Code}
use Rattle.definitions.specs.Acceptance.{Accepted}
use Rattle.definitions.specs.Patterns.{patterns_of}
use Rattle.definitions.specs.Decoding.{first, same_syndrome, fits, decoded_by, decode}
use Rattle.definitions.specs.StackDecoding.{first_with_syndrome, lowered}
use Rattle.definitions.specs.Circular.{circular_by, decode_circular}
use Rattle.definitions.specs.Demands.{of_code, WithinReach}
use Rattle.word_laws.proofs.Lists.{first_some, first_none}
use Rattle.code_theorems.proofs.Syndromes.{syndrome-entries}
use Rattle.code_theorems.proofs.Acceptance.{in_pattern}
use Rattle.code_theorems.proofs.Deciding.{pair}
use Rattle.code_theorems.proofs.Decoding.{same_syndrome_lem, syndrome_same, fits-above, fits-syndrome, found}

-- a pattern nowhere above the word is subtracted modulo q as it is
lowered-subtract : (q : ℕ) (y e : List ℕ) → EachCell (λ v. v < q) y → EachPair (λ a b. b ≤ a) y e → lowered q 1 y e ≡ subtract y e
lowered-subtract q [] [] h g = refl
lowered-subtract q [] (e ∷ es) h g = absurd g
lowered-subtract q (y ∷ ys) [] h g = absurd g
lowered-subtract q (y ∷ ys) (e ∷ es) h g = ap₂ {C = List ℕ} (λ a b. a ∷ b) cell (lowered-subtract q ys es h.1 g.1)
  where
    regroup : (y e q : ℕ) → e ≤ y → y < q → y + (q - e) ≡ (y - e) + q
    regroup y e q h g = omega arith

    cell : (y + (q - e * 1)) % q ≡ y - e
    cell =
        ap (λ (u : ℕ). (y + (q - u)) % q) (mul-one e) ∙ ap (λ (u : ℕ). u % q) (regroup y e q g.0 h.0)
        ∙ add-mod_right (y - e) q ∙ mod-eq_of_lt (omega arith)

module _ (p : Code) (acc : Accepted p) (y : List ℕ) (long : length y ≡ p.n) (levels : EachCell (λ v. v < p.q) y) where
  -- the pattern that fits is the first with the word's syndrome
  first-fit : (e : List ℕ) → first (fits p y) (patterns_of p) ≡ some e → first_with_syndrome p y ≡ some e
  unfolding first_with_syndrome
  first-fit e q =
      let (m, f) = first_some (fits p y) (patterns_of p) e q in
      step (first (same_syndrome p y) (patterns_of p)) refl
      (λ h. first_none (same_syndrome p y) (patterns_of p) h e m (syndrome_same p y e (fits-syndrome p y long e f)))
      (λ a h.
      let (k, g) = first_some (same_syndrome p y) (patterns_of p) a h in
      acc a e (in_pattern p a k) (in_pattern p e m) (syndrome-entries p a e (same_syndrome_lem p y a g ∙ sym (fits-syndrome p y long e f))))
    where
      step : (o : Option (List ℕ)) → first (same_syndrome p y) (patterns_of p) ≡ o → (first (same_syndrome p y) (patterns_of p) ≡ none → ⊥)
          → ((a : List ℕ) → first (same_syndrome p y) (patterns_of p) ≡ some a → a ≡ e) → o ≡ some e
      step none h a b = absurd (a h)
      step (some x) h a b = ap {B = Option (List ℕ)} some (b x h)

  agree : (e : List ℕ) → first (fits p y) (patterns_of p) ≡ some e → decode_circular p y ≡ decode p y
  unfolding decode_circular decode
  agree e q =
      let (m, f) = first_some (fits p y) (patterns_of p) e q in
      ap (circular_by p y) (first-fit e q) ∙ ap (pair (weight e)) (lowered-subtract p.q y e levels (fits-above p y long e f)) ∙ sym (ap (decoded_by y) q)

  pub circular_agrees : (c : List ℕ) → WithinReach (of_code p) y c → decode_circular p y ≡ decode p y
  circular_agrees c h = let (e, q) = found p y long c h in agree e q

  pub differing_refused : (decode_circular p y ≡ decode p y → ⊥) → decode p y ≡ refused 11
  unfolding decode
  differing_refused differ = step (first (fits p y) (patterns_of p)) refl
    where
      step : (o : Option (List ℕ)) → first (fits p y) (patterns_of p) ≡ o → decoded_by y o ≡ refused 11
      step none q = refl
      step (some e) q = absurd (differ (agree e q))
