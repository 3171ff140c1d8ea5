-- A code of which P patterns with different syndromes are known is accepted: each pattern is one of these, since there are as many of both.
use mathlib.Core.Path.{◌≡◌, refl, sym, ap, ◌∙◌, subst}
use mathlib.Core.Logic.{◌⊎◌, inl, inr}
use mathlib.Core.List.Memᴰ
use mathlib.Core.List.{List, [], ◌∷◌, Memᴰ}
use Prim.Native.Nat.{ℕ, zero, suc, ◌≤◌, ◌<◌}
use native.Mathlib.Omega.{arith}
use lib.Dec.{T}
use lib.ListN.{length}
use Rattle.definitions.specs.Codes.{Code}
use Rattle.definitions.specs.Codewords.{syndrome}
use Rattle.definitions.specs.Patterns.{Pattern, patterns_of, pattern_count}
use Rattle.definitions.specs.Acceptance.{Accepted, among}
use Rattle.definitions.specs.Tried.{Once}
use Rattle.definitions.proofs.Tests.{passes_or_not}
use Rattle.word_laws.proofs.Lists.{among_mem, mem_among}
use Rattle.word_laws.proofs.Places.{once_shorter}
use Rattle.code_theorems.proofs.Acceptance.{pattern_in, patterns-number}
use Rattle.code_theorems.proofs.Syndromes.{entries-syndrome}

module _ (p : Code) (known : ℕ → List ℕ) (P : ℕ) (number : pattern_count p ≡ P) (is_pattern : (i : ℕ) → i < P → Pattern p (known i))
    (apart : (i j : ℕ) → i < P → j < P → syndrome p (known i) ≡ syndrome p (known j) → i ≡ j) where
  -- the first n of them
  abbrev firsts : ℕ → List (List ℕ)
  firsts zero = []
  firsts (suc n) = known n ∷ firsts n

  length-firsts : (n : ℕ) → length (firsts n) ≡ n
  length-firsts zero = refl
  length-firsts (suc n) = ap suc (length-firsts n)

  in_firsts : (n : ℕ) (e : List ℕ) → Memᴰ e (firsts n) → (i : ℕ) × (i < n) × (e ≡ known i)
  in_firsts zero e m = absurd (Memᴰ.not-nil m)
  in_firsts (suc n) e m = elim (Memᴰ.cases_cons m) as (λ _. (i : ℕ) × (i < suc n) × (e ≡ known i))
      [ inl s ↦ (n, omega arith, s) | inr k ↦ let (i, h, s) = in_firsts n e k in (i, omega arith, s) ]

  once-firsts : (n : ℕ) → n ≤ P → Once (firsts n)
  once-firsts zero h = tt
  once-firsts (suc n) h = (
    (λ m. let (i, b, s) = in_firsts n (known n) m in
        let same : n ≡ i = apart n i (omega arith) (omega arith) (ap (syndrome p) s) in
        absurd (omega arith)),
    once-firsts n (omega arith),
  )

  known_listed : (e : List ℕ) → Memᴰ e (firsts P) → Memᴰ e (patterns_of p)
  known_listed e m = let (i, b, s) = in_firsts P e m in subst (λ z. Memᴰ z (patterns_of p)) (sym s) (pattern_in p (known i) (is_pattern i b))

  -- one more than these there cannot be
  is_known : (e : List ℕ) → Pattern p e → (i : ℕ) × (i < P) × (e ≡ known i)
  is_known e h = step (passes_or_not (among e (firsts P)))
    where
      step : T (among e (firsts P)) ⊎ (T (among e (firsts P)) → ⊥) → (i : ℕ) × (i < P) × (e ≡ known i)
      step (inl t) = in_firsts P e (mem_among e (firsts P) t)
      step (inr t) =
          let l = once_shorter (e ∷ firsts P) (patterns_of p) ((λ m. t (among_mem e (firsts P) m)), once-firsts P (omega arith))
          (λ z m. elim (Memᴰ.cases_cons m) as (λ _. Memᴰ z (patterns_of p))
          [ inl s ↦ subst (λ w. Memᴰ w (patterns_of p)) (sym s) (pattern_in p e h) | inr k ↦ known_listed z k ]) in
          absurd (omega (arith, patterns-number p, length-firsts P))

  pub accepted_by_count : Accepted p
  accepted_by_count a b ha hb h =
      let (i, hi, s) = is_known a ha in
      let (j, hj, z) = is_known b hb in
      let same : i ≡ j = apart i j hi hj (ap (syndrome p) (sym s) ∙ entries-syndrome p a b h ∙ ap (syndrome p) z) in
      s ∙ ap known same ∙ sym z
