-- Messages and their numbers (document 02, wish 2): one is got back from the other.
use mathlib.Core.Path.{◌≡◌, refl, sym, ap, ◌∙◌, subst}
use mathlib.Core.Bool.{Bool, true, false, ◌&&◌, cond, not}
use mathlib.Core.List.{List}
use mathlib.Core.Option.{some, none-ne-some}
use Prim.Native.Nat.{ℕ, suc, ◌*◌, ◌/◌, ◌%◌, ◌^◌, ◌≤◌, ◌<◌}
use native.Mathlib.Nat.{zero-add, mul_comm, mod-lt, mod-eq_of_lt}
use native.Mathlib.Omega.{arith}
use lib.Dec.{T, eqb, ltb, eqb→eq, ltb→lt}
use lib.ListN.{length, length-map}
use lib.Seq.{ext_get_or}
use borrow.Author.Tests.{eq-eqb, lt-ltb, le-ltb}
use Rattle.definitions.specs.Words.{at, up_from, EachCell}
use Rattle.definitions.specs.Answers.{Answer, given, refuse◌when◌else◌, result, number}
use Rattle.definitions.specs.Codes.{Code, data_cells}
use Rattle.definitions.specs.Codewords.{Codeword}
use Rattle.definitions.specs.Acceptance.{Accepted}
use Rattle.definitions.specs.Messages.{Message, symbols_fit, encode}
use Rattle.definitions.specs.CodeOperations.{open_code, encode_code, decode_code, recover_code}
use Rattle.definitions.specs.Reach.{Reach}
use Rattle.definitions.specs.Packing.{radix}
use Rattle.definitions.specs.MessageNumbers.{place_value, radix_product, message_number, number_message, NumbersOneToOne}
use Rattle.definitions.specs.MessageNumberOperations.{open_numbered, message_of_number, number_of_message, MessageMade, NumberMade}
use Rattle.word_laws.proofs.Cells.{sum_same, at-up_from, length-up_from}
use Rattle.word_laws.proofs.MixedRadix.{quotient_positive, made-below, digit-made, made-digits}
use Rattle.code_theorems.proofs.Deciding.{result-given}
use Rattle.code_theorems.proofs.Messages.{symbols_pass, fits}
use Rattle.code_theorems.proofs.Packing.{below-radix, radix-below}
use Rattle.code_theorems.proofs.Refusals.{is_true, not_refused, passed, after-given}
use Rattle.code_theorems.proofs.Opened.{opened}
use Rattle.code_theorems.proofs.Demands.{one_to_one, recovers, decode_keeps}

module _ (p : Code) where
  -- the place values are the products of the radices
  pub value-next : (i : ℕ) → place_value p (suc i) ≡ radix p i * place_value p i
  value-next i = mul_comm (place_value p i) (radix p i)

  pub number-long : (x : ℕ) → length (number_message p x) ≡ p.n
  unfolding number_message
  number-long x = length-map (up_from 0 p.n) (λ i. x / place_value p i % radix p i) ∙ length-up_from 0 p.n

  pub number_at : (x i : ℕ) → i < p.n → at (number_message p x) i ≡ x / place_value p i % radix p i
  unfolding number_message
  number_at x i h =
      at-up_from (λ i. x / place_value p i % radix p i) 0 p.n i h ∙ ap (λ (k : ℕ). x / place_value p k % radix p k) (zero-add i)

  -- a message's number is below the product
  number-below : (s : List ℕ) → Message p s → message_number p s < radix_product p
  unfolding message_number radix_product
  number-below s m = made-below (radix p) (place_value p) refl value-next (at s) p.n (below-radix p s m)

  -- message to number to message
  message-again : (s : List ℕ) → Message p s → number_message p (message_number p s) ≡ s
  unfolding message_number
  message-again s m =
      ext_get_or 0 (number_message p (message_number p s)) s (number-long (message_number p s) ∙ sym m.long) (λ i h.
      let l = number-long (message_number p s) in
      let g : i < p.n = omega arith in
      number_at (message_number p s) i g ∙ digit-made (radix p) (place_value p) refl value-next (at s) p.n (below-radix p s m) i g)

  module _ (hM : 0 < p.M) (hq : p.M ≤ p.q) where
    pub radix_positive : (i : ℕ) → 0 < radix p i
    radix_positive i = step (ltb i (data_cells p))
      where
        step : (t : Bool) → 0 < cond t p.q (p.q / p.M)
        step true = omega arith
        step false = quotient_positive p.q p.M hM hq

    number-message : (x : ℕ) → Message p (number_message p x)
    number-message x =
        radix-below p (number_message p x) (number-long x) (λ i h. rw (number_at x i h) (mod-lt (x / place_value p i) (radix_positive i)))

    -- number to message to number
    number-back : (x : ℕ) → x < radix_product p → message_number p (number_message p x) ≡ x
    unfolding message_number radix_product
    number-back x h =
        sum_same p.n (λ i. at (number_message p x) i * place_value p i) (λ i. x / place_value p i % radix p i * place_value p i)
        (λ i g. ap (λ (v : ℕ). v * place_value p i) (number_at x i g))
        ∙ made-digits (radix p) (place_value p) refl value-next radix_positive x p.n ∙ mod-eq_of_lt h

    pub numbers_messages : NumbersOneToOne p
    numbers_messages = record {
      is_message = λ x _. number-message x;
      back = number-back;
      below = number-below;
      again = message-again;
    }

-- a message is not refused 9
module _ (b : List ℕ) (p : Code) (opens : open_code b ≡ given p) where
  pub not_9 : (s : List ℕ) → Message p s → (cells : List ℕ) → number (encode_code b s cells).answer ≡ some 9 → ⊥
  unfolding encode_code
  not_9 s m cells = rw (opens, is_true (symbols_fit p s) (symbols_pass p s m)) (step (eqb (length s) p.n && eqb (length cells) p.n))
    where
      step : (t : Bool) → number (result {A = Unit {0}} (refuse 8 when not t else given (tt {0}, encode p s)) cells).answer ≡ some 9 → ⊥
      step true e = none-ne-some 9 e
      step false e = let z : ◌≡◌ {A = ℕ} 8 9 = cc in absurd (omega arith)

  -- the operations, for a code whose product is at most 2^63
  module _ (within : radix_product p ≤ 2 ^ 63) where
    numbered : NumbersOneToOne p
    numbered = let (_, h) = opened b p opens in numbers_messages p (omega (arith, h.range.m-low)) h.range.m-high

    pub begins : (k : ℕ) → k ≡ p.n → open_numbered b k ≡ given p
    unfolding open_numbered
    begins k e = rw (opens, eq-eqb k p.n e, le-ltb (2 ^ 63) (radix_product p) within)

    pub makes_message : (x : ℕ) (out : List ℕ) → x < radix_product p → length out ≡ p.n
        → message_of_number b x out ≡ record { answer = given tt; out = number_message p x }
    unfolding message_of_number
    makes_message x out h lo = rw (begins (length out) lo, lt-ltb x (radix_product p) h)

    pub makes_number : (s : List ℕ) → Message p s → number_of_message b s ≡ given (message_number p s)
    unfolding number_of_message
    makes_number s m = rw (begins (length s) m.long, is_true (symbols_fit p s) (symbols_pass p s m))

    -- what began is the code
    began : (k : ℕ) (o : Code) → open_numbered b k ≡ given o → (o ≡ p) × (k ≡ p.n)
    unfolding open_numbered
    began k o e =
        let (u, e₁, e₂) = after-given (open_code b) _ o e in
        let (h, e₃) = passed 8 (eqb k u.n) _ o e₂ in
        let (_, e₄) = not_refused 17 (ltb (2 ^ 63) (radix_product u)) _ o e₃ in
        let same : u ≡ p = cc in
        let again : u ≡ o = cc in
        (sym again ∙ same, eqb→eq k u.n h ∙ ap (λ (c : Code). c.n) same)

    number-given : (s : List ℕ) (x : ℕ) → number_of_message b s ≡ given x → Message p s × (message_number p s ≡ x)
    unfolding number_of_message
    number-given s x e =
        let (o, e₁, e₂) = after-given (open_numbered b (length s)) _ x e in
        let (same, long) = began (length s) o e₁ in
        let (h, e₃) = passed 9 (symbols_fit o s) _ x e₂ in
        let t = subst (λ (c : Code). T (symbols_fit c s)) same h in
        let y : message_number o s ≡ x = cc in
        (fits p s long (is_true (symbols_fit p s) t), ap (λ (c : Code). message_number c s) (sym same) ∙ y)

    message-given : (x : ℕ) (out s : List ℕ) → message_of_number b x out ≡ record { answer = given tt; out = s }
        → (x < radix_product p) × (number_message p x ≡ s)
    unfolding message_of_number
    message-given x out s e =
        let d = result-given _ out tt (ap (λ u. u.answer) e) in
        let (o, e₁, e₂) = after-given (open_numbered b (length out)) _ _ d in
        let (same, long) = began (length out) o e₁ in
        let (h, _) = passed 18 (ltb x (radix_product o)) _ _ e₂ in
        let below = subst (λ (c : Code). x < radix_product c) same (ltb→lt x (radix_product o) h) in
        (below, sym (ap (λ u. u.out) (makes_message x out below long)) ∙ ap (λ u. u.out) e)

    pub message_demand : (x : ℕ) (out : List ℕ) → x < radix_product p → length out ≡ p.n
        → MessageMade b p x (message_of_number b x out).answer (message_of_number b x out).out
    message_demand x out h lo =
        let m = numbered.is_message x h in
        rw (makes_message x out h lo) (record {
          made = refl;
          is_message = m;
          writable = not_9 (number_message p x) m;
          back = makes_number (number_message p x) m ∙ ap {B = Answer ℕ} given (numbered.back x h);
          only = λ s e. let (g, y) = number-given s x e in sym (numbered.again s g) ∙ ap (number_message p) y;
        })

    pub number_demand : (s : List ℕ) → Message p s → NumberMade b p s (number_of_message b s)
    number_demand s m =
        record {
          x = message_number p s;
          made = makes_number s m;
          below = numbered.below s m;
          back = λ out lo. makes_message (message_number p s) out (numbered.below s m) lo ∙ (let e = numbered.again s m in rw e);
          only = λ y out e. let (h, g) = message-given y out s e in sym (numbered.back y h) ∙ ap (message_number p) g;
        }

    -- a number whose message was written comes back from every word within reach: decoded, its message recovered, and that one's number
    pub number-kept :
        Accepted p
        → (x : ℕ)
        → x < radix_product p
        → (y out lent : List ℕ)
        → length y ≡ p.n
        → length out ≡ p.n
        → length lent ≡ p.n
        → EachCell (λ v. v < p.q) y
        → Reach p y (encode p (number_message p x))
        → number_of_message b (recover_code b (decode_code b y out).out lent).out ≡ given x
    number-kept fit x h y out lent ly lo ll levels near =
        let m = numbered.is_message x h in
        let (_, back, carried) = (decode_keeps b p opens y out ly lo levels fit).kept (number_message p x) m near in
        let codeword = subst (Codeword p) (sym back) ((one_to_one b p opens).codeword (number_message p x) m) in
        let recovered = ap (λ r. r.out) (recovers b p opens (decode_code b y out).out lent codeword ll) ∙ carried in
        ap (number_of_message b) recovered ∙ makes_number (number_message p x) m ∙ ap {B = Answer ℕ} given (numbered.back x h)
