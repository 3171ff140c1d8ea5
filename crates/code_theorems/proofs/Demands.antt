-- The demands for codes, from the description's bytes to the answer and the output buffer.
use mathlib.Core.Path.{◌≡◌, refl, sym, subst, ◌∙◌}
use mathlib.Core.Bool.{Bool, true, false, not}
use mathlib.Core.List.{List}
use Prim.Native.Nat.{ℕ, ◌≤◌, ◌<◌}
use native.Mathlib.Omega.{arith}
use lib.Dec.{T}
use lib.ListN.{length}
use borrow.Author.Tests.{eq-eqb}
use Rattle.definitions.specs.Words.{all_below, EachCell}
use Rattle.definitions.specs.Answers.{given, Result, refuse◌when◌else◌, result}
use Rattle.definitions.specs.Codes.{Code}
use Rattle.definitions.specs.Codewords.{Codeword, is_codeword}
use Rattle.definitions.specs.Acceptance.{Accepted, accepted}
use Rattle.definitions.specs.Decoding.{decode}
use Rattle.definitions.specs.Messages.{Message, symbols_fit, encode, message}
use Rattle.definitions.specs.CodeOperations.{open_code, test_code, encode_code, decode_code, recover_code}
use Rattle.definitions.specs.Demands.{of_code, OneToOne, Tested, OneCodeword, Recovered, DistanceDecides, SomeCodeword, KeepsMessages}
use Rattle.definitions.proofs.Tests.{each_below}
use Rattle.word_laws.proofs.Subtraction.{near_self, distance_self}
use Rattle.code_theorems.proofs.Refusals.{is_true}
use Rattle.code_theorems.proofs.Opened.{opened}
use Rattle.code_theorems.proofs.Codewords.{codeword_test}
use Rattle.code_theorems.proofs.Acceptance.{acceptance}
use Rattle.code_theorems.proofs.Deciding.{one-codeword, recovered, keeps_messages}
use Rattle.code_theorems.proofs.Decoding.{distance_decides, decodes_some}
use Rattle.code_theorems.proofs.Messages.{symbols_pass, messages_codewords}

-- a test that refuses 6 or gives nothing more
pub tested_by : (a : Bool) (P : Type 0) → (T a → P) → (P → T a) → Tested P (refuse 6 when not a else given tt)
tested_by true P f g = record {
  fit = ((λ e. f tt), (λ h. refl));
  unfit = ((λ e. let z : ◌≡◌ {A = ℕ} 0 1 = cc in absurd (omega arith)), (λ h. absurd (h (f tt))));
}
tested_by false P f g = record {
  fit = ((λ e. let z : ◌≡◌ {A = ℕ} 0 1 = cc in absurd (omega arith)), (λ h. absurd (g h)));
  unfit = ((λ e h. g h), (λ h. refl));
}

module _ (b : List ℕ) (p : Code) (opens : open_code b ≡ given p) where
  pub one_to_one : OneToOne (of_code p)
  one_to_one = let (_, h) = opened b p opens in messages_codewords p (omega (arith, h.range.r-below)) (omega (arith, h.range.m-low))

  -- demand 1, of the test
  pub test_demand : Tested (Accepted p) (test_code b)
  unfolding test_code
  test_demand =
      rw opens (tested_by (accepted p) (Accepted p) (acceptance p).0 (acceptance p).1)

  -- demand 2, of encoding
  pub encodes : (s out : List ℕ) → Message p s → length out ≡ p.n → encode_code b s out ≡ record { answer = given tt; out = encode p s }
  unfolding encode_code
  encodes s out m lo =
      rw (
        opens,
        eq-eqb (length s) p.n m.long,
        eq-eqb (length out) p.n lo,
        is_true (symbols_fit p s) (symbols_pass p s m),
      )

  pub encode_demand : (s out : List ℕ) → Message p s → length out ≡ p.n → OneCodeword (of_code p) s (encode_code b s out).answer (encode_code b s out).out
  encode_demand s out m lo =
      subst (λ (r : Result (Unit {0})). OneCodeword (of_code p) s r.answer r.out) (sym (encodes s out m lo)) (one-codeword (of_code p) one_to_one s m)

  -- demand 2, of recovery
  pub recovers : (c out : List ℕ) → Codeword p c → length out ≡ p.n → recover_code b c out ≡ record { answer = given tt; out = message p c }
  unfolding recover_code
  recovers c out h lo =
      rw (
        opens,
        eq-eqb (length c) p.n h.long,
        eq-eqb (length out) p.n lo,
        is_true (all_below p.q c) (each_below p.q c h.levels),
        is_true (is_codeword p c) (codeword_test p c h),
      )

  pub recover_demand : (c out : List ℕ) → Codeword p c → length out ≡ p.n → Recovered (of_code p) c (recover_code b c out).answer (recover_code b c out).out
  recover_demand c out h lo =
      subst (λ (r : Result (Unit {0})). Recovered (of_code p) c r.answer r.out) (sym (recovers c out h lo)) (recovered (of_code p) one_to_one c h)

  -- "the message recovered from a codeword, written again, is that codeword": encoding what recovery left
  pub written-again :
      (c message out : List ℕ) → Codeword p c → length message ≡ p.n → length out ≡ p.n
      → encode_code b (recover_code b c message).out out ≡ record { answer = given tt; out = c }
  written-again c message out h lm lo =
      let m = recover_demand c message h lm in
      encodes (recover_code b c message).out out m.is_message lo ∙ (let e = m.again in rw e)

  module _ (y out : List ℕ) (ly : length y ≡ p.n) (lo : length out ≡ p.n) (levels : EachCell (λ v. v < p.q) y) where
    pub decodes : decode_code b y out ≡ result (decode p y) out
    unfolding decode_code
    decodes =
        rw (opens, eq-eqb (length y) p.n ly, eq-eqb (length out) p.n lo, is_true (all_below p.q y) (each_below p.q y levels))

    -- what holds of decoding without acceptance
    pub decode_some : SomeCodeword (of_code p) y (decode_code b y out).answer (decode_code b y out).out
    decode_some = subst (λ (r : Result ℕ). SomeCodeword (of_code p) y r.answer r.out) (sym decodes) (decodes_some p y ly out)

    -- a count is at most t
    pub count-at-most : (k : ℕ) → (decode_code b y out).answer ≡ given k → k ≤ p.t
    count-at-most k e = let (h, d) = decode_some.back k e in subst (λ (u : ℕ). u ≤ p.t) (sym d) h.1.few

    module _ (fit : Accepted p) where
      -- demand 3
      pub decode_demand : DistanceDecides (of_code p) y (decode_code b y out).answer (decode_code b y out).out
      decode_demand =
          subst (λ (r : Result ℕ). DistanceDecides (of_code p) y r.answer r.out) (sym decodes)
          (distance_decides p y ly fit out)

      -- kept messages
      pub decode_keeps : KeepsMessages (of_code p) y (decode_code b y out).answer (decode_code b y out).out
      decode_keeps =
          keeps_messages (of_code p) one_to_one y (decode_code b y out).answer (decode_code b y out).out
          (λ c. record { cells = near_self p.l y; few = subst (λ (u : ℕ). u ≤ p.t) (sym (distance_self y)) (omega arith) }) decode_demand
