-- Where M divides q the ceiling of the check cells asks nothing: a codeword is a word whose levels modulo M form a codeword
-- of the M-ary code (document 000, construction (1)). With M = q a code is a null space (document 003).
use mathlib.Core.Path.{◌≡◌, refl, sym, ap, ap₂, ◌∙◌, subst}
use mathlib.Core.Logic.{◌↔◌}
use mathlib.Core.List.{List, [], ◌∷◌, map}
use Prim.Native.Nat.{ℕ, zero, suc, ◌+◌, ◌*◌, ◌/◌, ◌%◌, ◌<◌}
use native.Mathlib.Nat.{mul-div_cancel_left, mul-one, mul-zero, zero-mod, mod-mod, mod-lt, div_self}
use native.Mathlib.Omega.{arith}
use lib.ListN.{length, drop, length-map}
use Rattle.definitions.specs.Words.{at, sum_to, EachCell}
use Rattle.definitions.specs.Codes.{Code, data_cells}
use Rattle.definitions.specs.Codewords.{syndrome_entry, ceiling, Codeword}
use Rattle.word_laws.proofs.Cells.{at_each, each-drop}
use Rattle.code_theorems.proofs.Syndromes.{syndrome-zero}

-- a word of n levels below q with syndrome 0
pub record InNullSpace (p : Code) (c : List ℕ) : Type 0 where
  pub long : length c ≡ p.n
  pub levels : EachCell (λ v. v < p.q) c
  pub zero : (k : ℕ) → k < p.r → syndrome_entry p c k ≡ 0

-- the code over M levels with the same matrix
abbrev pub over_m : Code → Code
over_m p = record { n = p.n; r = p.r; q = p.M; M = p.M; l = p.l; t = p.t; A = p.A }

abbrev pub modulo : ℕ → List ℕ → List ℕ
modulo M c = map (λ v. v % M) c

module _ (p : Code) (pos : 0 < p.M) where
  at_modulo : (c : List ℕ) (j : ℕ) → at (modulo p.M c) j ≡ at c j % p.M
  at_modulo [] j = sym (zero-mod p.M)
  at_modulo (v ∷ c) zero = refl
  at_modulo (v ∷ c) (suc j) = at_modulo c j

  empty-sum : (w : ℕ) (a : ℕ → ℕ) → sum_to w (λ j. a j * 0) ≡ 0
  empty-sum zero a = refl
  empty-sum (suc w) a = ap₂ ◌+◌ (empty-sum w a) (mul-zero (a w))

  empty-zero : (k : ℕ) → syndrome_entry p [] k ≡ 0
  unfolding syndrome_entry
  empty-zero k = ap (λ (u : ℕ). (u + 0) % p.M) (empty-sum (data_cells p) (λ j. at p.A (k * data_cells p + j))) ∙ zero-mod p.M

  -- a syndrome is a matter of the levels modulo M
  pub syndrome_modulo : (c : List ℕ) (k : ℕ) → syndrome_entry p (modulo p.M c) k ≡ syndrome_entry p c k
  syndrome_modulo c k = syndrome-zero p c [] (modulo p.M c) (λ j. sym (ap (λ (u : ℕ). u % p.M) (step j) ∙ mod-mod (at c j) p.M)) k (empty-zero k)
    where
      step : (j : ℕ) → 0 + at (modulo p.M c) j ≡ at c j % p.M
      step j = omega (arith, at_modulo c j)

  module _ (s : ℕ) (divides : p.q ≡ p.M * s) where
    ceiling-q : ceiling p ≡ p.q
    ceiling-q = ap (λ (u : ℕ). p.M * (u / p.M)) divides ∙ ap (λ (u : ℕ). p.M * u) (mul-div_cancel_left s pos) ∙ sym divides

    -- the ceiling asks nothing
    pub null_space : (c : List ℕ) → Codeword p c ↔ InNullSpace p c
    null_space c = (
      (λ h. record { long = h.long; levels = h.levels; zero = h.zero }),
      (λ h. record {
        long = h.long;
        levels = h.levels;
        checks = subst (λ (b : ℕ). EachCell (λ v. v < b) (drop (data_cells p) c)) (sym ceiling-q) (each-drop (λ v. v < p.q) (data_cells p) c h.levels);
        zero = h.zero;
      }),
    )

    -- document 000's construction (1)
    pub construction_1 : (c : List ℕ) → Codeword p c ↔ ((length c ≡ p.n) × EachCell (λ v. v < p.q) c × Codeword (over_m p) (modulo p.M c))
    unfolding syndrome_entry
    construction_1 c = (
      (λ h. (
        h.long,
        h.levels,
        record {
          long = length-map c (λ v. v % p.M) ∙ h.long;
          levels = small;
          checks =
              subst (λ (b : ℕ). EachCell (λ v. v < b) (drop (data_cells p) (modulo p.M c))) (sym whole)
              (each-drop (λ v. v < p.M) (data_cells p) (modulo p.M c) small);
          zero = λ k g. syndrome_modulo c k ∙ h.zero k g;
        },
      )),
      (λ h. (null_space c).1 (record { long = h.0; levels = h.1; zero = λ k g. sym (syndrome_modulo c k) ∙ h.2.zero k g })),
    )
      where
        small : EachCell (λ v. v < p.M) (modulo p.M c)
        small = at_each (λ v. v < p.M) (modulo p.M c) (λ j g. subst (λ (u : ℕ). u < p.M) (sym (at_modulo c j)) (mod-lt (at c j) pos))

        whole : p.M * (p.M / p.M) ≡ p.M
        whole = ap (λ (u : ℕ). p.M * u) (div_self pos) ∙ mul-one p.M

  -- with M = q: document 003's null space
  pub null_space_q : p.q ≡ p.M → (c : List ℕ) → Codeword p c ↔ InNullSpace p c
  null_space_q e c = null_space 1 (e ∙ sym (mul-one p.M)) c
