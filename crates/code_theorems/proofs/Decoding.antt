-- Demand 3 for codes: the distance decides.
use mathlib.Core.Path.{◌≡◌, refl, sym, ap, ap₂, ◌∙◌, subst}
use mathlib.Core.Bool.{◌&&◌}
use mathlib.Core.List.{List}
use mathlib.Core.Option.{Option, none, some}
use Prim.Native.Nat.{ℕ, ◌%◌, ◌≤◌}
use native.Mathlib.Omega.{arith}
use lib.Dec.{T}
use lib.ListN.{length}
use Rattle.definitions.specs.Words.{same_word, nowhere_above, subtract, weight, distance, EachPair}
use Rattle.definitions.specs.Answers.{given, refused, result, number}
use Rattle.definitions.specs.Codes.{Code}
use Rattle.definitions.specs.Codewords.{syndrome, Codeword, is_codeword}
use Rattle.definitions.specs.Patterns.{Pattern, patterns_of}
use Rattle.definitions.specs.Acceptance.{Accepted}
use Rattle.definitions.specs.Decoding.{first, same_syndrome, fits, decoded_by, decode}
use Rattle.definitions.specs.Reach.{Reach}
use Rattle.definitions.specs.Demands.{of_code, WithinReach, DistanceDecides, SomeCodeword}
use Rattle.definitions.proofs.Tests.{and_left, and_right, and_both, same_eq, same_refl, above-each, each-above}
use Rattle.word_laws.proofs.Lists.{first_some, first_none}
use Rattle.word_laws.proofs.Subtraction.{subtract-length, subtract-each, subtract-weight, subtract-subtract, subtract-above, subtract-sum}
use Rattle.word_laws.proofs.Subtraction.{subtract_near, subtract-back}
use Rattle.code_theorems.proofs.Syndromes.{syndrome-zero, entries-syndrome, syndrome-entries}
use Rattle.code_theorems.proofs.Codewords.{test_codeword, codeword_test}
use Rattle.code_theorems.proofs.Acceptance.{pattern_in, in_pattern}
use Rattle.code_theorems.proofs.Deciding.{given_pair, pair, decides, some_codeword}

pub same_syndrome_lem : (p : Code) (y e : List ℕ) → T (same_syndrome p y e) → syndrome p e ≡ syndrome p y
unfolding same_syndrome
same_syndrome_lem p y e h = same_eq (syndrome p e) (syndrome p y) h

pub syndrome_same : (p : Code) (y e : List ℕ) → syndrome p e ≡ syndrome p y → T (same_syndrome p y e)
unfolding same_syndrome
syndrome_same p y e h = subst (λ (s : List ℕ). T (same_word (syndrome p e) s)) h (same_refl (syndrome p e))

module _ (p : Code) (y : List ℕ) (long : length y ≡ p.n) where
  -- a codeword within reach leaves a pattern that fits
  pub reach-pattern : (c : List ℕ) → Reach p y c → Pattern p (subtract y c)
  reach-pattern c h = record {
    long = subtract-length p.l y c h.cells ∙ long;
    each = subtract-each p.l y c h.cells;
    few = subst (λ (k : ℕ). k ≤ p.t) (sym (subtract-weight p.l y c h.cells)) h.few;
  }

  pub reach-syndrome : (c : List ℕ) → Codeword p c → Reach p y c → syndrome p (subtract y c) ≡ syndrome p y
  reach-syndrome c hc h = entries-syndrome p (subtract y c) y
      (λ k g. syndrome-zero p y c (subtract y c) (λ j. ap (λ (z : ℕ). z % p.M) (subtract-sum p.l y c h.cells j)) k (hc.zero k g))

  reach-fits : (c : List ℕ) → Codeword p c → Reach p y c → T (fits p y (subtract y c))
  unfolding fits
  reach-fits c hc h =
      let e = subtract y c in
      and_both (same_syndrome p y e && nowhere_above e y) (is_codeword p (subtract y e))
      (and_both (same_syndrome p y e) (nowhere_above e y) (syndrome_same p y e (reach-syndrome c hc h))
      (each-above e y (subtract-above p.l y c h.cells)))
      (subst (λ (d : List ℕ). T (is_codeword p d)) (sym (subtract-subtract p.l y c h.cells)) (codeword_test p c hc))

  -- a pattern that fits leaves a codeword within reach
  pub fits-above : (e : List ℕ) → T (fits p y e) → EachPair (λ a b. b ≤ a) y e
  unfolding fits
  fits-above e h =
      above-each e y (and_right (same_syndrome p y e) (nowhere_above e y)
      (and_left (same_syndrome p y e && nowhere_above e y) (is_codeword p (subtract y e)) h))

  pub fits-syndrome : (e : List ℕ) → T (fits p y e) → syndrome p e ≡ syndrome p y
  unfolding fits
  fits-syndrome e h =
      same_syndrome_lem p y e (and_left (same_syndrome p y e) (nowhere_above e y)
      (and_left (same_syndrome p y e && nowhere_above e y) (is_codeword p (subtract y e)) h))

  fits-codeword : (e : List ℕ) → T (fits p y e) → Codeword p (subtract y e)
  unfolding fits
  fits-codeword e h = test_codeword p (subtract y e) (and_right (same_syndrome p y e && nowhere_above e y) (is_codeword p (subtract y e)) h)

  -- a pattern nowhere above the word
  module _ (e : List ℕ) (hp : Pattern p e) (under : EachPair (λ a b. b ≤ a) y e) where
    pub pattern-distance : weight e ≡ distance (subtract y e) y
    pattern-distance = ap weight (sym (subtract-back y e under)) ∙ subtract-weight p.l y (subtract y e) (subtract_near p.l y e under hp.each)

    pub pattern-reach : Reach p y (subtract y e)
    pattern-reach = record { cells = subtract_near p.l y e under hp.each; few = subst (λ (k : ℕ). k ≤ p.t) pattern-distance hp.few }

  -- what is found is a codeword within reach
  found_within : (e : List ℕ) → first (fits p y) (patterns_of p) ≡ some e → WithinReach (of_code p) y (subtract y e) × (weight e ≡ distance (subtract y e) y)
  found_within e q =
      let (m, f) = first_some (fits p y) (patterns_of p) e q in
      let hp = in_pattern p e m in
      let under = fits-above e f in
      ((fits-codeword e f, pattern-reach e hp under), pattern-distance e hp under)

  -- and what is given back was found
  pub given-found : (k : ℕ) (c : List ℕ) → decode p y ≡ given (k, c)
      → (e : List ℕ) × (first (fits p y) (patterns_of p) ≡ some e) × (weight e ≡ k) × (subtract y e ≡ c)
  unfolding decode
  given-found k c q = step (first (fits p y) (patterns_of p)) q
    where
      step : (o : Option (List ℕ)) → decoded_by y o ≡ given (k, c) → (e : List ℕ) × (o ≡ some e) × (weight e ≡ k) × (subtract y e ≡ c)
      step none g = let z : ◌≡◌ {A = ℕ} 0 1 = cc in absurd (omega arith)
      step (some e) g = let (i, s) = given_pair (weight e) k (subtract y e) c g in (e, refl, i, s)

  pub decode-only : (k : ℕ) (c : List ℕ) → decode p y ≡ given (k, c) → WithinReach (of_code p) y c × (k ≡ distance c y)
  decode-only k c q =
      let (e, f, i, s) = given-found k c q in
      let (h, w) = found_within e f in
      (subst (WithinReach (of_code p) y) s h, sym i ∙ w ∙ ap (λ (d : List ℕ). distance d y) s)

  pub decode-other : ((c : List ℕ) → WithinReach (of_code p) y c → ⊥) → decode p y ≡ refused 11
  unfolding decode
  decode-other h = step (first (fits p y) (patterns_of p)) refl
    where
      step : (o : Option (List ℕ)) → first (fits p y) (patterns_of p) ≡ o → decoded_by y o ≡ refused 11
      step none f = refl
      step (some e) f = absurd (h (subtract y e) (found_within e f).0)

  -- where a codeword is within reach, some pattern is found
  pub found : (c : List ℕ) → WithinReach (of_code p) y c → (e : List ℕ) × (first (fits p y) (patterns_of p) ≡ some e)
  found c h = step (first (fits p y) (patterns_of p)) refl
    where
      step : (o : Option (List ℕ)) → first (fits p y) (patterns_of p) ≡ o → (e : List ℕ) × (o ≡ some e)
      step none q =
          absurd
          (first_none (fits p y) (patterns_of p) q (subtract y c) (pattern_in p (subtract y c) (reach-pattern c h.1)) (reach-fits c h.0 h.1))
      step (some e) q = (e, refl)

  decode-found : (e : List ℕ) → first (fits p y) (patterns_of p) ≡ some e → decode p y ≡ given (weight e, subtract y e)
  unfolding decode
  decode-found e q = ap (decoded_by y) q

  -- and, in an accepted code, it is what that codeword leaves
  pub decode-back : Accepted p → (c : List ℕ) → WithinReach (of_code p) y c → decode p y ≡ given (distance c y, c)
  decode-back acc c h =
      let (e, q) = found c h in
      let (m, f) = first_some (fits p y) (patterns_of p) e q in
      let s : e ≡ subtract y c
      = acc e (subtract y c) (in_pattern p e m) (reach-pattern c h.1)
      (syndrome-entries p e (subtract y c) (fits-syndrome e f ∙ sym (reach-syndrome c h.0 h.1))) in
      decode-found e q
      ∙ ap₂ pair (ap weight s ∙ subtract-weight p.l y c h.1.cells) (ap (subtract y) s ∙ subtract-subtract p.l y c h.1.cells)

  pub distance_decides : Accepted p → (out : List ℕ) → DistanceDecides (of_code p) y (result (decode p y) out).answer (result (decode p y) out).out
  distance_decides acc out = decides (of_code p) y (decode p y) decode-only (λ h. ap number (decode-other h)) out (decode-back acc)

  -- reading needs no acceptance; uniqueness does
  pub decodes_some : (out : List ℕ) → SomeCodeword (of_code p) y (result (decode p y) out).answer (result (decode p y) out).out
  decodes_some out = some_codeword (of_code p) y (decode p y) decode-only (λ h. ap number (decode-other h)) out
      (λ c h. let (e, q) = found c h in (weight e, subtract y e, decode-found e q))

  -- a count is at most t
  pub count_bound : (k : ℕ) (c : List ℕ) → decode p y ≡ given (k, c) → k ≤ p.t
  count_bound k c q = let (h, e) = decode-only k c q in subst (λ (u : ℕ). u ≤ p.t) (sym e) h.1.few
