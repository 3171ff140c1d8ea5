-- Demand 2 for codes: messages and codewords correspond one to one.
use mathlib.Core.Path.{◌≡◌, sym, ap, ap₂, ◌∙◌, subst}
use mathlib.Core.Bool.{Bool, true}
use mathlib.Core.List.{List, ◌++◌, map}
use Prim.Native.Nat.{ℕ, ◌+◌, ◌*◌, ◌-◌, ◌/◌, ◌%◌, ◌≤◌, ◌<◌}
use native.Mathlib.Nat.{add-zero, zero-add, mod-lt, mul-add-div, div-eq_of_lt, div-add-mod, mul-div-le, lt_of_lt_of_le, div-lt_iff_lt-mul, mul_comm}
use native.Mathlib.Decide.{dec_lt}
use native.Mathlib.Omega.{arith}
use lib.Arith.{digits_lt}
use lib.Dec.{T}
use lib.ListN.{length, take, drop, length-drop, length-append, length-map, take-append-drop, get_or-append}
use lib.Seq.{length-take-le, take_at, drop_at, get_or-take, get_or-drop, get_or-append-add, ext_get_or}
use Rattle.definitions.specs.Words.{at, sum_to, up_from, all_below, EachCell}
use Rattle.definitions.specs.Codes.{Code, data_cells}
use Rattle.definitions.specs.Codewords.{syndrome_entry, ceiling, Codeword}
use Rattle.definitions.specs.Messages.{Message, symbols_fit, message, check_level, encode}
use Rattle.definitions.specs.Demands.{of_code, OneToOne}
use Rattle.definitions.proofs.Tests.{and_left, and_right, and_both, below_each, each_below}
use Rattle.word_laws.proofs.Cells.{each_at, at_each, each_take, at_map, sum_same, length-up_from, at-up_from}
use Rattle.word_laws.proofs.Remainders.{fills, filled}

-- the test of symbols is the proposition
module _ (p : Code) (s : List ℕ) where
  abbrev low : Bool
  low = all_below p.q (take (data_cells p) s)

  abbrev high : Bool
  high = all_below (p.q / p.M) (drop (data_cells p) s)

  pub fits : length s ≡ p.n → symbols_fit p s ≡ true → Message p s
  unfolding symbols_fit
  fits long e =
      let h : T (symbols_fit p s) = subst T (sym e) tt in
      record {
        long = long;
        levels = below_each p.q (take (data_cells p) s) (and_left low high h);
        checks = below_each (p.q / p.M) (drop (data_cells p) s) (and_right low high h);
      }

  pub symbols_pass : Message p s → T (symbols_fit p s)
  unfolding symbols_fit
  symbols_pass m =
      and_both low high (each_below p.q (take (data_cells p) s) m.levels) (each_below (p.q / p.M) (drop (data_cells p) s) m.checks)

-- a word of n cells in its two parts
module _ (n k : ℕ) (a b : List ℕ) (la : length a ≡ k) (le : k ≤ n) (lb : length b ≡ n - k) where
  parts_long : length (a ++ b) ≡ n
  parts_long = length-append a b ∙ ap₂ ◌+◌ la lb ∙ omega arith

  parts_front : (j : ℕ) → j < k → at (a ++ b) j ≡ at a j
  parts_front j h = get_or-append a b 0 j (omega arith)

  parts_check : (i : ℕ) → at (a ++ b) (k + i) ≡ at b i
  parts_check i = ap (λ (u : ℕ). at (a ++ b) (u + i)) (sym la) ∙ get_or-append-add a b i 0

-- two words of n cells are equal when they are before cell k, and from it on
parts_equal :
    (n k r : ℕ) (x y : List ℕ) → n ≡ k + r → length x ≡ n → length y ≡ n → ((j : ℕ) → j < k → at x j ≡ at y j)
    → ((i : ℕ) → i < r → at x (k + i) ≡ at y (k + i)) → x ≡ y
parts_equal n k r x y e lx ly front check = ext_get_or 0 x y (lx ∙ sym ly) (λ i h. here i h (dec_lt i k))
  where
    here : (i : ℕ) → i < length x → Dec (i < k) → at x i ≡ at y i
    here i h (yes g) = front i g
    here i h (no g) =
        let s : k + (i - k) ≡ i = omega arith in
        subst (λ (u : ℕ). at x u ≡ at y u) s (check (i - k) (omega arith))

module _ (p : Code) (hr : p.r ≤ p.n) (hM : 0 < p.M) where
  abbrev w : ℕ
  w = data_cells p

  abbrev total : ℕ → List ℕ → ℕ
  total k x = sum_to w (λ j. at p.A (k * w + j) * at x j)

  total_same : (k : ℕ) (x y : List ℕ) → ((j : ℕ) → j < w → at x j ≡ at y j) → total k x ≡ total k y
  total_same k x y h = sum_same w (λ j. at p.A (k * w + j) * at x j) (λ j. at p.A (k * w + j) * at y j)
      (λ j g. ap (λ (u : ℕ). at p.A (k * w + j) * u) (h j g))

  module _ (s : List ℕ) (long : length s ≡ p.n) where
    front : length (take w s) ≡ w
    front = length-take-le w s (omega arith)

    abbrev checks : List ℕ
    checks = map (check_level p s) (up_from 0 p.r)

    checks-long : length checks ≡ p.n - w
    checks-long = length-map (up_from 0 p.r) (check_level p s) ∙ length-up_from 0 p.r ∙ omega arith

    check_at : (k : ℕ) → k < p.r → at checks k ≡ check_level p s k
    check_at k h = at-up_from (check_level p s) 0 p.r k h ∙ ap (check_level p s) (zero-add k)

    pub encode-long : length (encode p s) ≡ p.n
    unfolding encode
    encode-long = parts_long p.n w (take w s) checks front (omega arith) checks-long

    pub encode_front : (j : ℕ) → j < w → at (encode p s) j ≡ at s j
    unfolding encode
    encode_front j h = parts_front p.n w (take w s) checks front (omega arith) checks-long j h ∙ get_or-take w s j 0 h

    pub encode_check : (k : ℕ) → k < p.r → at (encode p s) (w + k) ≡ check_level p s k
    unfolding encode
    encode_check k h = parts_check p.n w (take w s) checks front (omega arith) checks-long k ∙ check_at k h

    encode-zero : (k : ℕ) → k < p.r → syndrome_entry p (encode p s) k ≡ 0
    unfolding syndrome_entry check_level
    encode-zero k h =
        ap₂ (λ (a b : ℕ). (a + b) % p.M) (total_same k (encode p s) s encode_front) (encode_check k h)
        ∙ fills p.M (total k s) (at s (w + k)) hM

    module _ (m : Message p s) where
      pub check_small : (k : ℕ) → k < p.r → check_level p s k < ceiling p
      unfolding check_level
      check_small k h =
          let b : at s (w + k) < p.q / p.M
          = subst (λ (u : ℕ). u < p.q / p.M) (get_or-drop w s k 0)
          (each_at (λ v. v < p.q / p.M) (drop w s) m.checks k (omega (arith, length-drop w s))) in
          omega (arith, digits_lt b (mod-lt (p.M - total k s % p.M) hM))

      encode-codeword : Codeword p (encode p s)
      unfolding encode
      encode-codeword = record {
        long = encode-long;
        levels = at_each (λ v. v < p.q) (encode p s) (λ i h. level i h (dec_lt i w));
        checks = subst (EachCell (λ v. v < ceiling p)) (sym (drop_at (take w s) checks w front))
            (at_each (λ v. v < ceiling p) checks
            (λ k h. let g : k < p.r = omega (arith, checks-long) in subst (λ (u : ℕ). u < ceiling p) (sym (check_at k g)) (check_small k g)));
        zero = encode-zero;
      }
        where
          level : (i : ℕ) → i < length (encode p s) → Dec (i < w) → at (encode p s) i < p.q
          level i h (yes g) =
              subst (λ (u : ℕ). u < p.q) (get_or-take w s i 0 g ∙ sym (encode_front i g))
              (each_at (λ v. v < p.q) (take w s) m.levels i (omega (arith, front)))
          level i h (no g) =
              let k : i - w < p.r = omega (arith, encode-long) in
              let e : w + (i - w) ≡ i = omega arith in
              subst (λ (u : ℕ). at (encode p s) u < p.q) e
              (subst (λ (u : ℕ). u < p.q) (sym (encode_check (i - w) k)) (lt_of_lt_of_le (check_small (i - w) k) (mul-div-le p.q p.M)))

    message-encode : message p (encode p s) ≡ s
    unfolding message encode check_level
    message-encode =
        ap₂ (λ (a b : List ℕ). a ++ map (λ v. v / p.M) b) (take_at (take w s) checks w front) (drop_at (take w s) checks w front)
        ∙ ap (λ (b : List ℕ). take w s ++ b) (ext_get_or 0 (map (λ v. v / p.M) checks) (drop w s) lengths cell)
        ∙ take-append-drop w s
      where
        lengths : length (map (λ v. v / p.M) checks) ≡ length (drop w s)
        lengths = length-map checks (λ v. v / p.M) ∙ checks-long ∙ omega (arith, length-drop w s)

        cell : (k : ℕ) → k < length (map (λ v. v / p.M) checks) → at (map (λ v. v / p.M) checks) k ≡ at (drop w s) k
        cell k h =
            let l : length (map (λ v. v / p.M) checks) ≡ length checks = length-map checks (λ v. v / p.M) in
            let g : k < p.r = omega (arith, checks-long) in
            at_map (λ v. v / p.M) checks k (omega arith) ∙ ap (λ (u : ℕ). u / p.M) (check_at k g)
            ∙ mul-add-div hM (at s (w + k)) ((p.M - total k s % p.M) % p.M)
            ∙ ap (λ (u : ℕ). at s (w + k) + u) (div-eq_of_lt (mod-lt _ hM)) ∙ add-zero _
            ∙ sym (get_or-drop w s k 0)

  -- the message that a word carries, cell by cell
  module _ (c : List ℕ) (long : length c ≡ p.n) where
    front_c : length (take w c) ≡ w
    front_c = length-take-le w c (omega arith)

    abbrev symbols : List ℕ
    symbols = map (λ v. v / p.M) (drop w c)

    symbols-long : length symbols ≡ p.n - w
    symbols-long = length-map (drop w c) (λ v. v / p.M) ∙ omega (arith, length-drop w c)

    symbol_at_lem : (k : ℕ) → k < p.r → at symbols k ≡ at c (w + k) / p.M
    symbol_at_lem k h = at_map (λ v. v / p.M) (drop w c) k (omega (arith, length-drop w c)) ∙ ap (λ (u : ℕ). u / p.M) (get_or-drop w c k 0)

    pub message-long : length (message p c) ≡ p.n
    unfolding message
    message-long = parts_long p.n w (take w c) symbols front_c (omega arith) symbols-long

    pub message_front : (j : ℕ) → j < w → at (message p c) j ≡ at c j
    unfolding message
    message_front j h = parts_front p.n w (take w c) symbols front_c (omega arith) symbols-long j h ∙ get_or-take w c j 0 h

    pub message_check : (k : ℕ) → k < p.r → at (message p c) (w + k) ≡ at c (w + k) / p.M
    unfolding message
    message_check k h = parts_check p.n w (take w c) symbols front_c (omega arith) symbols-long k ∙ symbol_at_lem k h

    -- a codeword is what its message is encoded as
    module _ (hc : Codeword p c) where
      message-message : Message p (message p c)
      unfolding message
      message-message = record {
        long = message-long;
        levels = subst (EachCell (λ v. v < p.q)) (sym (take_at (take w c) symbols w front_c)) (each_take (λ v. v < p.q) w c hc.levels);
        checks = subst (EachCell (λ v. v < p.q / p.M)) (sym (drop_at (take w c) symbols w front_c))
            (at_each (λ v. v < p.q / p.M) symbols (λ k h. symbol_small k (omega (arith, symbols-long))));
      }
        where
          symbol_small : (k : ℕ) → k < p.r → at symbols k < p.q / p.M
          symbol_small k g =
              let b : at (drop w c) k < ceiling p = each_at (λ v. v < ceiling p) (drop w c) hc.checks k (omega (arith, length-drop w c)) in
              let e : at c (w + k) < p.q / p.M * p.M = subst (λ (u : ℕ). at c (w + k) < u) (mul_comm p.M (p.q / p.M))
              (subst (λ (u : ℕ). u < ceiling p) (get_or-drop w c k 0) b) in
              subst (λ (u : ℕ). u < p.q / p.M) (sym (symbol_at_lem k g)) ((div-lt_iff_lt-mul hM).1 e)

      check_back : (k : ℕ) → k < p.r → check_level p (message p c) k ≡ at c (w + k)
      unfolding check_level syndrome_entry
      check_back k h =
          ap₂ (λ (a b : ℕ). p.M * a + (p.M - b % p.M) % p.M) (message_check k h) (total_same k (message p c) c message_front)
          ∙ ap (λ (u : ℕ). p.M * (at c (w + k) / p.M) + u) (filled p.M (total k c) (at c (w + k)) hM (hc.zero k h))
          ∙ div-add-mod (at c (w + k)) p.M

      encode-message : encode p (message p c) ≡ c
      encode-message = parts_equal p.n w p.r (encode p (message p c)) c (omega arith) (encode-long (message p c) message-long) long
          (λ j g. encode_front (message p c) message-long j g ∙ message_front j g)
          (λ k h. encode_check (message p c) message-long k h ∙ check_back k h)

  pub messages_codewords : OneToOne (of_code p)
  messages_codewords = record {
    codeword = λ s m. encode-codeword s m.long m;
    carries = λ s m. message-encode s m.long;
    is_message = λ c h. message-message c h.long h;
    again = λ c h. encode-message c h.long h;
  }
