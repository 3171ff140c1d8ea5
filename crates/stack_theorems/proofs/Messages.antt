-- Demand 2 for stacks: messages and codewords correspond one to one.
use mathlib.Core.Path.{◌≡◌, refl, sym, ap, ap₂, ◌∙◌, subst}
use mathlib.Core.List.{List, [], ◌∷◌, ◌++◌, map}
use Prim.Native.Nat.{ℕ, zero, suc, ◌+◌, ◌*◌, ◌/◌, ◌%◌, ◌<◌}
use native.Mathlib.Nat.{mul-one, one-mul, zero-mul, div-one, div_self, div-eq_of_lt, div-div-eq-div-mul, mod-add-div, mul_assoc, mul_right_comm}
use native.Mathlib.Omega.{arith}
use lib.Arith.{digits_lt}
use lib.ListN.{length, take, drop, replicate, length-append, length-drop, length-replicate, take-append-drop}
use lib.Seq.{length-take-le, take_at, drop_at}
use Rattle.definitions.specs.Words.{map2, EachCell}
use Rattle.definitions.specs.Codes.{Code, data_cells}
use Rattle.definitions.specs.Codewords.{Codeword}
use Rattle.definitions.specs.Messages.{Message, encode, message}
use Rattle.definitions.specs.Stacks.{Stack, product, levels, digits}
use Rattle.definitions.specs.StackCodewords.{StackCodeword}
use Rattle.definitions.specs.StackMessages.{message_length, DigitsBelow, StackMessage, message_from, stack_message, encode_plane, encode_from, encode_word}
use Rattle.definitions.specs.Demands.{of_code, of_stack, OneToOne}
use Rattle.word_laws.proofs.Cells.{length-map2, each_take, each-drop, each_map}
use Rattle.code_theorems.proofs.Messages.{messages_codewords}
use Rattle.stack_theorems.proofs.Digits.{digits-length, digits-small, joined, digits_low, digits-high, planes-high}
use Rattle.stack_theorems.proofs.Opened.{IsPlane, ArePlanes, plane_pos}
use Rattle.stack_theorems.proofs.Decoding.{CodewordDigits}

each-replicate : (P : ℕ → Type 0) (k a : ℕ) → P a → EachCell P (replicate k a)
each-replicate P zero a h = tt
each-replicate P (suc k) a h = (h, each-replicate P k a h)

-- a word of n zeros, of any quotient
map-zeros : (f : ℕ → ℕ) (x : List ℕ) → EachCell (λ v. f v ≡ 0) x → map f x ≡ replicate (length x) 0
map-zeros f [] h = refl
map-zeros f (v ∷ x) h = ap₂ {C = List ℕ} (λ a b. a ∷ b) h.0 (map-zeros f x h.1)

-- the message of a plane, and the plane's word
module _ (n : ℕ) (p : Code) (hp : IsPlane n p) where
  cells_are : data_cells p + p.r ≡ n
  cells_are = omega (arith, hp.r-below, hp.long)

  one_to_one : OneToOne (of_code p)
  one_to_one = messages_codewords p (omega (arith, hp.r-below)) (plane_pos n p hp)

  one_symbol : p.q / p.M ≡ 1
  one_symbol = ap (λ (u : ℕ). u / p.M) hp.whole ∙ div_self (plane_pos n p hp)

  module _ (s : List ℕ) (ls : length (take (data_cells p) s) ≡ data_cells p) where
    plane_message : EachCell (λ v. v < p.M) (take (data_cells p) s) → Message p (take (data_cells p) s ++ replicate p.r 0)
    plane_message h = record {
      long = length-append (take (data_cells p) s) (replicate p.r 0) ∙ ap₂ ◌+◌ ls (length-replicate p.r 0) ∙ cells_are ∙ sym hp.long;
      levels =
          subst (EachCell (λ v. v < p.q)) (sym (take_at (take (data_cells p) s) (replicate p.r 0) (data_cells p) ls))
          (subst (λ (b : ℕ). EachCell (λ v. v < b) (take (data_cells p) s)) (sym hp.whole) h);
      checks =
          subst (EachCell (λ v. v < p.q / p.M)) (sym (drop_at (take (data_cells p) s) (replicate p.r 0) (data_cells p) ls))
          (each-replicate (λ v. v < p.q / p.M) p.r 0 (omega (arith, one_symbol)));
    }

    plane_encodes : EachCell (λ v. v < p.M) (take (data_cells p) s) → Codeword p (encode_plane p s)
    plane_encodes h = one_to_one.codeword (take (data_cells p) s ++ replicate p.r 0) (plane_message h)

    plane_front : take (data_cells p) (encode_plane p s) ≡ take (data_cells p) s
    unfolding encode
    plane_front =
        take_at _ _ (data_cells p) (ap length same ∙ ls) ∙ same
      where
        same : take (data_cells p) (take (data_cells p) s ++ replicate p.r 0) ≡ take (data_cells p) s
        same = take_at (take (data_cells p) s) (replicate p.r 0) (data_cells p) ls

  -- the digits of a codeword before the check cells are written as that codeword
  plane_again : (d s : List ℕ) → Codeword p d → take (data_cells p) s ≡ take (data_cells p) d → encode_plane p s ≡ d
  unfolding message
  plane_again d s h e =
      ap (λ (x : List ℕ). encode p (x ++ replicate p.r 0)) e ∙ ap (encode p) (sym carried) ∙ one_to_one.again d h
    where
      rest : length (drop (data_cells p) d) ≡ p.r
      rest = omega (arith, length-drop (data_cells p) d, h.long, cells_are, hp.long)

      small : EachCell (λ v. v / p.M ≡ 0) (drop (data_cells p) d)
      small = each-drop (λ v. v / p.M ≡ 0) (data_cells p) d (each_map (λ v g. div-eq_of_lt (subst (λ (u : ℕ). v < u) hp.whole g)) d h.levels)

      carried : message p d ≡ take (data_cells p) d ++ replicate p.r 0
      carried = ap (λ (x : List ℕ). take (data_cells p) d ++ x) (map-zeros (λ v. v / p.M) (drop (data_cells p) d) small ∙ ap (λ (k : ℕ). replicate k 0) rest)

-- what encoding writes from place value w upward, in units of w
abbrev units : ℕ → List Code → List ℕ → List ℕ
units n [] s = replicate n 0
units n (p ∷ ps) s = joined p.M (encode_plane p s) (units n ps (drop (data_cells p) s))

times_zeros : (n w : ℕ) → replicate n 0 ≡ map (λ v. v * w) (replicate n 0)
times_zeros zero w = refl
times_zeros (suc n) w = ap₂ {C = List ℕ} (λ a b. a ∷ b) (sym (zero-mul w)) (times_zeros n w)

times_joined : (w M : ℕ) (e U : List ℕ) → map2 (λ d v. d * w + v) e (map (λ v. v * (w * M)) U) ≡ map (λ v. v * w) (joined M e U)
times_joined w M [] U = refl
times_joined w M (d ∷ e) [] = refl
times_joined w M (d ∷ e) (u ∷ U) = ap₂ {C = List ℕ} (λ a b. a ∷ b) (omega arith) (times_joined w M e U)

times_one : (x : List ℕ) → map (λ v. v * 1) x ≡ x
times_one [] = refl
times_one (v ∷ x) = ap₂ {C = List ℕ} (λ a b. a ∷ b) (mul-one v) (times_one x)

over_one : (x : List ℕ) → map (λ v. v / 1) x ≡ x
over_one [] = refl
over_one (v ∷ x) = ap₂ {C = List ℕ} (λ a b. a ∷ b) (div-one v) (over_one x)

module _ (n : ℕ) where
  encode_units : (w : ℕ) (ps : List Code) (s : List ℕ) → encode_from n w ps s ≡ map (λ v. v * w) (units n ps s)
  encode_units w [] s = times_zeros n w
  encode_units w (p ∷ ps) s =
      ap (map2 (λ d v. d * w + v) (encode_plane p s)) (encode_units (w * p.M) ps (drop (data_cells p) s))
      ∙ times_joined w p.M (encode_plane p s) (units n ps (drop (data_cells p) s))

  -- encoding writes a codeword
  record Written (ps : List Code) (s U : List ℕ) : Type 0 where
    long : length U ≡ n
    bounded : EachCell (λ v. v < product ps) U
    code : CodewordDigits U 1 ps
    carries : message_from 1 ps U ≡ s

  joined_bounded : (M m : ℕ) (e U : List ℕ) → EachCell (λ v. v < M) e → EachCell (λ v. v < m) U → EachCell (λ v. v < M * m) (joined M e U)
  joined_bounded M m [] U h g = tt
  joined_bounded M m (a ∷ e) [] h g = tt
  joined_bounded M m (a ∷ e) (u ∷ U) h g = (omega (arith, digits_lt g.0 h.0), joined_bounded M m e U h.1 g.1)

  message-high : (M : ℕ) (e D : List ℕ) → length e ≡ length D → EachCell (λ v. v < M) e → (w : ℕ) (ps : List Code)
      → message_from (w * M) ps (joined M e D) ≡ message_from w ps D
  message-high M e D h b w [] = refl
  message-high M e D h b w (p ∷ ps) =
      ap₂ {C = List ℕ} (λ x y. take (data_cells p) x ++ y) (digits-high M w p.M e D h b)
      (ap (λ (u : ℕ). message_from u ps (joined M e D)) (mul_right_comm w M p.M) ∙ message-high M e D h b (w * p.M) ps)

  joined_written : (p : Code) (ps : List Code) → IsPlane n p → (s : List ℕ) → length s ≡ message_length (p ∷ ps)
      → EachCell (λ v. v < p.M) (take (data_cells p) s)
      → (U : List ℕ) → Written ps (drop (data_cells p) s) U → Written (p ∷ ps) s (joined p.M (encode_plane p s) U)
  joined_written p ps hp s ls h U u = record {
    long = length-map2 (λ a d. a + p.M * d) e U same ∙ le;
    bounded = joined_bounded p.M (product ps) e U small u.bounded;
    code = (subst (Codeword p) (sym low) code, planes-high p.M Codeword e U same small 1 ps u.code);
    carries =
        ap₂ {C = List ℕ} (λ x y. take (data_cells p) x ++ y) low (message-high p.M e U same small 1 ps ∙ u.carries)
        ∙ ap (λ (x : List ℕ). x ++ drop (data_cells p) s) (plane_front n p hp s front) ∙ take-append-drop (data_cells p) s;
  }
    where
      e : List ℕ
      e = encode_plane p s

      front : length (take (data_cells p) s) ≡ data_cells p
      front = length-take-le (data_cells p) s (omega arith)

      code : Codeword p e
      code = plane_encodes n p hp s front h

      le : length e ≡ n
      le = code.long ∙ hp.long

      same : length e ≡ length U
      same = le ∙ sym u.long

      small : EachCell (λ v. v < p.M) e
      small = subst (λ (b : ℕ). EachCell (λ v. v < b) e) hp.whole code.levels

      low : digits 1 p.M (joined p.M e U) ≡ e
      low = digits_low p.M e U same small

  units_written : (ps : List Code) → ArePlanes n ps → (s : List ℕ) → length s ≡ message_length ps → DigitsBelow ps s → Written ps s (units n ps s)
  units_written [] hps s ls h = record {
    long = length-replicate n 0;
    bounded = each-replicate (λ v. v < 1) n 0 (omega arith);
    code = tt;
    carries = nothing s ls;
  }
    where
      nothing : (s : List ℕ) → length s ≡ 0 → [] ≡ s
      nothing [] g = refl
      nothing (v ∷ s) g = absurd (omega arith)
  units_written (p ∷ ps) hps s ls h =
      joined_written p ps hps.0 s ls h.0 (units n ps (drop (data_cells p) s))
      (units_written ps hps.1 (drop (data_cells p) s) (omega (arith, length-drop (data_cells p) s)) h.1)

  -- a word carries a message
  word-message : (ps : List Code) → ArePlanes n ps → (w : ℕ) (c : List ℕ) → length c ≡ n
      → (length (message_from w ps c) ≡ message_length ps) × DigitsBelow ps (message_from w ps c)
  word-message [] hps w c lc = (refl, tt)
  word-message (p ∷ ps) hps w c lc =
      let d : List ℕ = take (data_cells p) (digits w p.M c) in
      let m : List ℕ = message_from (w * p.M) ps c in
      let ld : length d ≡ data_cells p = length-take-le (data_cells p) (digits w p.M c) (omega (arith, digits-length w p.M c, cells_are n p hps.0)) in
      let (lm, hm) = word-message ps hps.1 (w * p.M) c lc in (
        length-append d m ∙ ap₂ ◌+◌ ld lm,
        (
          subst (EachCell (λ v. v < p.M)) (sym (take_at d m (data_cells p) ld))
              (each_take (λ v. v < p.M) (data_cells p) (digits w p.M c) (digits-small w p.M c (plane_pos n p hps.0))),
          subst (DigitsBelow ps) (sym (drop_at d m (data_cells p) ld)) hm,
        ),
      )

  -- and, if it is a codeword, is what that message is written as: from place value w upward
  digit_joined : (w M : ℕ) (c : List ℕ) → joined M (digits w M c) (map (λ v. v / (w * M)) c) ≡ map (λ v. v / w) c
  digit_joined w M [] = refl
  digit_joined w M (v ∷ c) =
      ap₂ {C = List ℕ} (λ a b. a ∷ b) (ap (λ (u : ℕ). v / w % M + M * u) (sym (div-div-eq-div-mul v w M)) ∙ mod-add-div (v / w) M) (digit_joined w M c)

  units_again : (ps : List Code) → ArePlanes n ps → (w : ℕ) (c : List ℕ) → length c ≡ n → EachCell (λ v. v < w * product ps) c → CodewordDigits c w ps
      → units n ps (message_from w ps c) ≡ map (λ v. v / w) c
  units_again [] hps w c lc b h =
      ap (λ (k : ℕ). replicate k 0) (sym lc)
      ∙ sym (map-zeros (λ v. v / w) c (each_map (λ v g. div-eq_of_lt (subst (λ (u : ℕ). v < u) (mul-one w) g)) c b))
  units_again (p ∷ ps) hps w c lc b h =
      let d : List ℕ = take (data_cells p) (digits w p.M c) in
      let m : List ℕ = message_from (w * p.M) ps c in
      let ld : length d ≡ data_cells p = length-take-le (data_cells p) (digits w p.M c) (omega (arith, digits-length w p.M c, cells_are n p hps.0)) in
      ap₂ {C = List ℕ} (joined p.M) (plane_again n p hps.0 (digits w p.M c) (d ++ m) h.0 (take_at d m (data_cells p) ld))
      (ap (units n ps) (drop_at d m (data_cells p) ld)
      ∙ units_again ps hps.1 (w * p.M) c lc (subst (λ (q : ℕ). EachCell (λ v. v < q) c) (sym (mul_assoc w p.M (product ps))) b) h.1)
      ∙ digit_joined w p.M c

pub stack_messages_codewords : (S : Stack) → ArePlanes S.n S.planes → OneToOne (of_stack S)
unfolding encode_word stack_message
stack_messages_codewords S hps = record {
  codeword = λ s m.
      let u = written s m in
      subst (StackCodeword S) (sym (units_are s)) (record { long = u.long; bounded = u.bounded; planes = u.code });
  carries = λ s m. ap (message_from 1 S.planes) (units_are s) ∙ (written s m).carries;
  is_message = λ c h. let (l, b) = word-message S.n S.planes hps 1 c h.long in record { long = l; below = b };
  again = λ c h.
      units_are (message_from 1 S.planes c)
      ∙ units_again S.n S.planes hps 1 c h.long (subst (λ (q : ℕ). EachCell (λ v. v < q) c) (sym (one-mul (levels S))) h.bounded) h.planes
      ∙ over_one c;
}
  where
    units_are : (s : List ℕ) → encode_from S.n 1 S.planes s ≡ units S.n S.planes s
    units_are s = encode_units S.n 1 S.planes s ∙ times_one (units S.n S.planes s)

    written : (s : List ℕ) → StackMessage S s → Written S.n S.planes s (units S.n S.planes s)
    written s m = units_written S.n S.planes hps s m.long m.below
