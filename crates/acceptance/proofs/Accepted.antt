-- The stored keys are all different exactly when the code is accepted.
use mathlib.Core.Path.{◌≡◌, refl, sym, ap, ◌∙◌, subst}
use mathlib.Core.Bool.{Bool, true, false}
use mathlib.Core.List.{List, [], ◌∷◌, ◌++◌, map, map-map, Memᴰ}
use Prim.Native.Nat.{ℕ}
use native.Mathlib.Omega.{arith}
use lib.Dec.{T}
use lib.ListN.{length, length-map}
use Rattle.definitions.specs.Words.{up_from, same_word}
use Rattle.definitions.specs.Codewords.{syndrome}
use Rattle.definitions.specs.Patterns.{patterns, patterns_of, pattern_count}
use Rattle.definitions.specs.Acceptance.{all_different, accepted}
use Rattle.definitions.proofs.Tests.{same_eq, same_refl}
use Rattle.definitions.specs.Codes.{Code}
use Rattle.opening.specs.Viewed.{code}
use Rattle.opening.specs.declared.Code.{Code as Opened}
use Rattle.acceptance.specs.Listing.{reached, zero_syndrome, syndromes}
use Rattle.arrayvec.specs.ArrayVec.{ArrayVec}
use Rattle.acceptance.specs.Keys.{key_of, Stored, word_of}
use Rattle.code_theorems.proofs.Acceptance.{in_pattern, patterns-number}
use Rattle.acceptance.proofs.Distinct.{Each, different_alike}
use Rattle.acceptance.proofs.Syndromes.{end, small, same_end, same_syndrome_lem, same_keys}

-- each pattern has n cells
each_member : (P : List ℕ → Type 0) (xs : List (List ℕ)) → ((x : List ℕ) → Memᴰ x xs → P x) → Each P xs
each_member P [] h = tt
each_member P (x ∷ xs) h = (h x (Memᴰ.head refl), each_member P xs (λ y m. h y (Memᴰ.tail m)))

-- two tests that pass together
passes : (b : Bool) → T b → b ≡ true
passes true h = refl
passes false h = absurd h

same_test : (a b : Bool) → (T a → T b) → (T b → T a) → a ≡ b
same_test true b f g = sym (passes b (f tt))
same_test false true f g = absurd (g tt)
same_test false false f g = refl

alike : (x y z w : List ℕ) → (x ≡ y → z ≡ w) → (z ≡ w → x ≡ y) → same_word x y ≡ same_word z w
alike x y z w f g =
    same_test (same_word x y) (same_word z w)
    (λ h. subst (λ (v : List ℕ). T (same_word z v)) (f (same_eq x y h)) (same_refl z))
    (λ h. subst (λ (v : List ℕ). T (same_word x v)) (g (same_eq z w h)) (same_refl x))

pub length-syndromes : (p : Code) → length (syndromes p) ≡ pattern_count p
unfolding syndromes patterns_of
length-syndromes p =
    length-map (patterns_of p) (reached p 0 zero_syndrome) ∙ patterns-number p

module _ (o : Opened) where
  abbrev p : Code
  p = code o

  keys_alike : (a b : List ℕ) → length a ≡ p.n → length b ≡ p.n
      → same_word (word_of (key_of (end o a))) (word_of (key_of (end o b))) ≡ same_word (syndrome p a) (syndrome p b)
  keys_alike a b la lb =
      alike (word_of (key_of (end o a))) (word_of (key_of (end o b))) (syndrome p a) (syndrome p b)
      (λ e. let k : key_of (end o a) ≡ key_of (end o b) = cc in
      same_syndrome_lem o a b la lb (λ i h. same_keys (end o a) (end o b) (small o a) (small o b) k i (omega arith)))
      (λ e. ap (λ (s : List ℕ). word_of (key_of s)) (same_end o a b la lb e))

  pub keys-accepted : (b b' : ArrayVec ℕ) → Stored (syndromes p) b b' → b.items ≡ [] → all_different (map word_of b'.items) ≡ accepted p
  unfolding accepted patterns_of syndromes
  keys-accepted b b' x none =
      ap (λ (l : List ℕ). all_different (map word_of l)) (x ∙ ap (λ (k : List ℕ). k ++ map key_of (syndromes p)) none)
      ∙ ap all_different (map-map word_of key_of (syndromes p) ∙ map-map (λ (s : List ℕ). word_of (key_of s)) (end o) es)
      ∙ different_alike (λ e. word_of (key_of (end o e))) (syndrome p) (λ e. length e ≡ p.n) keys_alike es
      (each_member (λ e. length e ≡ p.n) es (λ e m. (in_pattern p e m).long))
    where
      es : List (List ℕ)
      es = patterns (up_from 1 p.l) p.t p.n
