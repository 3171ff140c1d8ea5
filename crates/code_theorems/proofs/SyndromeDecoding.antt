-- Syndrome decoding: in an accepted code whose M divides q, the one pattern with a word's syndrome decides. Nothing has to be searched.
use mathlib.Core.Path.{◌≡◌, sym, ap, ◌∙◌, subst}
use mathlib.Core.List.{List}
use Prim.Native.Nat.{ℕ, ◌+◌, ◌*◌, ◌-◌, ◌%◌, ◌≤◌, ◌<◌}
use native.Mathlib.Omega.{arith}
use lib.ListN.{length}
use Rattle.definitions.specs.Words.{at, subtract, weight, EachCell, EachPair}
use Rattle.definitions.specs.Answers.{given, refused}
use Rattle.definitions.specs.Codes.{Code}
use Rattle.definitions.specs.Codewords.{syndrome}
use Rattle.definitions.specs.Patterns.{Pattern}
use Rattle.definitions.specs.Acceptance.{Accepted}
use Rattle.definitions.specs.Decoding.{decode}
use Rattle.definitions.specs.Demands.{of_code, WithinReach}
use Rattle.word_laws.proofs.Cells.{each_at, at_each, length-map2}
use Rattle.word_laws.proofs.Subtraction.{subtract_near, subtract-back, subtract-above, subtract-sum}
use Rattle.code_theorems.proofs.Syndromes.{zero_where_same, syndrome-entries}
use Rattle.code_theorems.proofs.Divides.{null_space}
use Rattle.code_theorems.proofs.Decoding.{reach-pattern, reach-syndrome, pattern-distance, pattern-reach, decode-back, decode-other}

module _ (p : Code) (pos : 0 < p.M) (s : ℕ) (divides : p.q ≡ p.M * s) (acc : Accepted p)
    (y : List ℕ) (long : length y ≡ p.n) (levels : EachCell (λ v. v < p.q) y)
    (e : List ℕ) (is_pattern : Pattern p e) (same : syndrome p e ≡ syndrome p y) where
  -- nowhere above the word
  abbrev pub Under : Type 0
  Under = EachPair (λ a b. b ≤ a) y e

  module _ (under : Under) where
    c : List ℕ
    c = subtract y e

    long-c : length c ≡ p.n
    unfolding c
    long-c = length-map2 (λ a b. a - b) y e (omega (arith, is_pattern.long)) ∙ long

    sum : (j : ℕ) → at y j ≡ at c j + at e j
    unfolding c
    sum j = subtract-sum p.l y c (subtract_near p.l y e under is_pattern.each) j ∙ ap (λ z. at c j + at z j) (subtract-back y e under)

    within : WithinReach (of_code p) y c
    unfolding c
    within = (
      (null_space p pos s divides c).1 (record {
        long = long-c;
        levels = at_each (λ v. v < p.q) c λ j g. let l = each_at (λ v. v < p.q) y levels j (omega (arith, long-c)) in omega (arith, sum j);
        zero = λ k h. zero_where_same p pos y c e (λ j. ap (λ (v : ℕ). v % p.M) (sum j)) k (syndrome-entries p e y same k h);
      }),
      pattern-reach p y long e is_pattern under,
    )

    pub decode-under : decode p y ≡ given (weight e, subtract y e)
    unfolding c
    decode-under = decode-back p y long acc c within ∙ ap (λ (k : ℕ). given (k, c)) (sym (pattern-distance p y long e is_pattern under))

  pub decode-above : (Under → ⊥) → decode p y ≡ refused 11
  decode-above n = decode-other p y long λ d h.
      n (subst (EachPair (λ a b. b ≤ a) y)
      (acc (subtract y d) e (reach-pattern p y long d h.1) is_pattern
      (syndrome-entries p (subtract y d) e (reach-syndrome p y long d h.0 h.1 ∙ sym same)))
      (subtract-above p.l y d h.1.cells))
