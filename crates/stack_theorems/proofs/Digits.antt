-- One cell of a stack: the digit of place value w below M, where the levels are below q = w * (M * s). And words of digits.
use mathlib.Core.Path.{◌≡◌, refl, sym, ap, ap₂, ◌∙◌, subst}
use mathlib.Core.List.{List, [], ◌∷◌}
use Prim.Native.Nat.{ℕ, zero, suc, ◌+◌, ◌*◌, ◌-◌, ◌/◌, ◌%◌, ◌≤◌, ◌<◌}
use native.Mathlib.Nat.{add-mod, mod-lt, mod-eq_of_lt, mod-add-mod, add-mod-mod, add-mod_right, add-mul-div_right, div-add-mod', div-div-eq-div-mul}
use native.Mathlib.Nat.{mod-mod_of_dvd, dvd-mul_right, div-eq_of_lt, div-one, mul-one, mul_comm, add-mul-mod_self_left, add-mul-div_left, zero-mul}
use native.Mathlib.Nat.{add-zero, mul-pos, mul-le-mul_right, le-mul_of_pos_right, zero-add, zero-div, zero-mod, mul_right_comm}
use native.Mathlib.Omega.{arith}
use lib.Arith.{mod-mul, digits_div}
use lib.ListN.{length, length-map}
use Rattle.definitions.specs.Words.{at, map2, EachCell}
use Rattle.definitions.specs.Codes.{Code}
use Rattle.definitions.specs.Stacks.{digits, EachPlane}

module _ (w M s : ℕ) (pw : 0 < w) (p_m : 0 < M) (ps : 0 < s) where
  pub digit_mod : (z : ℕ) → z % (w * (M * s)) / w % M ≡ z / w % M
  digit_mod z =
      ap (λ (u : ℕ). z % u / w % M) (mul_comm w (M * s))
      ∙ ap (λ (u : ℕ). u / w % M) (mod-mul z (mul-pos p_m ps) pw)
      ∙ ap (λ (u : ℕ). u % M) (digits_div (z / w % (M * s)) (mod-lt z pw))
      ∙ mod-mod_of_dvd M (z / w) (dvd-mul_right M s)

  -- x is a codeword's level, E an error below q; x + (E / w) * w modulo q is the present level, once the planes below w are decoded.
  -- Its digit is that of the codeword and that of the error together
  pub digit_present : (x E : ℕ) → (x + E / w * w) % (w * (M * s)) / w % M ≡ (x / w % M + E / w % M) % M
  digit_present x E = digit_mod (x + E / w * w) ∙ ap (λ (u : ℕ). u % M) (add-mul-div_right x (E / w) pw) ∙ add-mod (x / w) (E / w) M

  split : (E : ℕ) → E / w * w ≡ E / (w * M) * (w * M) + E / w % M * w
  split E =
      let a : E / w / M * M + E / w % M ≡ E / w = div-add-mod' (E / w) M in
      let b : E / w / M ≡ E / (w * M) = div-div-eq-div-mul E w M in
      let c : E / w * w ≡ (E / w / M * M + E / w % M) * w = ap (λ (u : ℕ). u * w) (sym a) in
      let d : E / w / M * (w * M) ≡ E / (w * M) * (w * M) = ap (λ (u : ℕ). u * (w * M)) b in
      omega arith

  small : (e : ℕ) → e < M → e * w ≤ w * (M * s)
  small e h =
      let a : e * w ≤ M * w = mul-le-mul_right w (omega arith) in
      let b : M * w ≤ (M * w) * s = le-mul_of_pos_right (M * w) ps in
      omega arith

  -- lowered by the digit of the error, it is the present level of the next plane
  pub lower_present : (x E : ℕ) → ((x + E / w * w) % (w * (M * s)) + (w * (M * s) - E / w % M * w)) % (w * (M * s))
      ≡ (x + E / (w * M) * (w * M)) % (w * (M * s))
  lower_present x E =
      let a : E / w * w ≡ E / (w * M) * (w * M) + E / w % M * w = split E in
      let b : E / w % M * w ≤ w * (M * s) = small (E / w % M) (mod-lt (E / w) p_m) in
      mod-add-mod (x + E / w * w) (w * (M * s)) (w * (M * s) - E / w % M * w)
      ∙ ap (λ (u : ℕ). u % (w * (M * s))) (regroup x (E / w * w) (E / (w * M) * (w * M)) (E / w % M * w) (w * (M * s)) a b)
      ∙ add-mod_right (x + E / (w * M) * (w * M)) (w * (M * s))
    where
      regroup : (x a b c q : ℕ) → a ≡ b + c → c ≤ q → x + a + (q - c) ≡ (x + b) + q
      regroup x a b c q h g = omega arith

  -- the other way: what stood before the level was lowered by a digit e
  pub raise_present : (y x e D : ℕ) → y < w * (M * s) → e < M → (y + (w * (M * s) - e * w)) % (w * (M * s)) ≡ (x + D * (w * M)) % (w * (M * s))
      → y ≡ (x + (e + M * D) * w) % (w * (M * s))
  raise_present y x e D hy he h =
      sym (mod-eq_of_lt hy) ∙ sym (add-mod_right y (w * (M * s)))
      ∙ ap (λ (u : ℕ). u % (w * (M * s))) (regroup y (e * w) (w * (M * s)) (small e he))
      ∙ sym (mod-add-mod (y + (w * (M * s) - e * w)) (w * (M * s)) (e * w))
      ∙ ap (λ (u : ℕ). (u + e * w) % (w * (M * s))) h
      ∙ mod-add-mod (x + D * (w * M)) (w * (M * s)) (e * w)
      ∙ ap (λ (u : ℕ). u % (w * (M * s))) (collect x D e)
    where
      regroup : (y c q : ℕ) → c ≤ q → y + q ≡ y + (q - c) + c
      regroup y c q g = omega arith

      collect : (x D e : ℕ) → x + D * (w * M) + e * w ≡ x + (e + M * D) * w
      collect x D e = omega arith

  pub digit-before : (y x e D : ℕ) → y ≡ (x + (e + M * D) * w) % (w * (M * s)) → y / w % M ≡ (x / w % M + e) % M
  digit-before y x e D h =
      ap (λ (u : ℕ). u / w % M) h
      ∙ digit_mod (x + (e + M * D) * w)
      ∙ ap (λ (u : ℕ). u % M) (add-mul-div_right x (e + M * D) pw ∙ regroup (x / w) e (M * D))
      ∙ add-mul-mod_self_left (x / w + e) M D
      ∙ sym (mod-add-mod (x / w) M e)
    where
      regroup : (a b c : ℕ) → a + (b + c) ≡ a + b + c
      regroup a b c = omega arith

-- a number whose lowest digit is e
pub low_digit : (M e D : ℕ) → e < M → (e + M * D) / 1 % M ≡ e
low_digit M e D h = ap (λ (u : ℕ). u % M) (div-one (e + M * D)) ∙ add-mul-mod_self_left e M D ∙ mod-eq_of_lt h

pub high-digits : (M w e D : ℕ) → e < M → (e + M * D) / (w * M) ≡ D / w
high-digits M w e D h =
    ap (λ (u : ℕ). (e + M * D) / u) (mul_comm w M)
    ∙ sym (div-div-eq-div-mul (e + M * D) M w)
    ∙ ap (λ (u : ℕ). u / w) (add-mul-div_left e D (omega arith) ∙ ap (λ (u : ℕ). u + D) (div-eq_of_lt h) ∙ zero-add D)

-- at place value 1 the present level is the level read, and at place value q the codeword's
pub first_present : (q x y : ℕ) → x < q → y < q → (x + (y + (q - x)) % q / 1 * 1) % q ≡ y
first_present q x y hx hy =
    ap (λ (u : ℕ). (x + u) % q) (mul-one ((y + (q - x)) % q / 1) ∙ div-one ((y + (q - x)) % q))
    ∙ add-mod-mod x (y + (q - x)) q
    ∙ ap (λ (u : ℕ). u % q) (regroup x y q (omega arith)) ∙ add-mod_right y q ∙ mod-eq_of_lt hy
  where
    regroup : (x y q : ℕ) → x ≤ q → x + (y + (q - x)) ≡ y + q
    regroup x y q h = omega arith

pub last_present : (q x E : ℕ) → x < q → E < q → (x + E / q * q) % q ≡ x
last_present q x E hx hE =
    ap (λ (u : ℕ). (x + u * q) % q) (div-eq_of_lt hE)
    ∙ ap (λ (u : ℕ). u % q) (ap (λ (u : ℕ). x + u) (zero-mul q) ∙ add-zero x) ∙ mod-eq_of_lt hx

pub gap_present : (q x y D : ℕ) → x < q → D < q → y ≡ (x + D * 1) % q → (y + (q - x)) % q ≡ D
gap_present q x y D hx hD h =
    ap (λ (u : ℕ). (u + (q - x)) % q) h
    ∙ mod-add-mod (x + D * 1) q (q - x)
    ∙ ap (λ (u : ℕ). u % q) (regroup x D q (omega arith)) ∙ add-mod_right D q ∙ mod-eq_of_lt hD
  where
    regroup : (x D q : ℕ) → x ≤ q → x + D * 1 + (q - x) ≡ D + q
    regroup x D q h = omega arith

-- Words of digits

pub at-digits : (w c : ℕ) (x : List ℕ) (j : ℕ) → at (digits w c x) j ≡ at x j / w % c
at-digits w c [] j = sym (ap (λ (u : ℕ). u % c) (zero-div w) ∙ zero-mod c)
at-digits w c (v ∷ x) zero = refl
at-digits w c (v ∷ x) (suc j) = at-digits w c x j

pub digits-length : (w c : ℕ) (x : List ℕ) → length (digits w c x) ≡ length x
digits-length w c x = length-map x (λ v. v / w % c)

pub digits-small : (w c : ℕ) (x : List ℕ) → 0 < c → EachCell (λ v. v < c) (digits w c x)
digits-small w c [] h = tt
digits-small w c (v ∷ x) h = (mod-lt (v / w) h, digits-small w c x h)

-- a word of digits of place value 1 and of what stands above them
abbrev pub joined : ℕ → List ℕ → List ℕ → List ℕ
joined M e D = map2 (λ a d. a + M * d) e D

module _ (M : ℕ) where
  pub digits_low : (e D : List ℕ) → length e ≡ length D → EachCell (λ v. v < M) e → digits 1 M (joined M e D) ≡ e
  digits_low [] D h b = refl
  digits_low (a ∷ e) [] h b = absurd (omega arith)
  digits_low (a ∷ e) (d ∷ D) h b = ap₂ {C = List ℕ} (λ u v. u ∷ v) (low_digit M a d b.0) (digits_low e D (omega arith) b.1)

  pub digits-high : (w c : ℕ) (e D : List ℕ) → length e ≡ length D → EachCell (λ v. v < M) e → digits (w * M) c (joined M e D) ≡ digits w c D
  digits-high w c [] [] h b = refl
  digits-high w c [] (d ∷ D) h b = absurd (omega arith)
  digits-high w c (a ∷ e) [] h b = absurd (omega arith)
  digits-high w c (a ∷ e) (d ∷ D) h b =
      ap₂ {C = List ℕ} (λ u v. u ∷ v) (ap (λ (u : ℕ). u % c) (high-digits M w a d b.0)) (digits-high w c e D (omega arith) b.1)

  -- what holds of the digits from place value w upward holds of them where they stand above e
  pub planes-high : (R : Code → List ℕ → Type 0) (e D : List ℕ) → length e ≡ length D → EachCell (λ v. v < M) e → (w : ℕ) (ps : List Code)
      → EachPlane (λ w p. R p (digits w p.M D)) w ps → EachPlane (λ w p. R p (digits w p.M (joined M e D))) (w * M) ps
  planes-high R e D h b w [] f = tt
  planes-high R e D h b w (p ∷ ps) f = (
    subst (R p) (sym (digits-high w p.M e D h b)) f.0,
    subst (λ (u : ℕ). EachPlane (λ w p. R p (digits w p.M (joined M e D))) u ps) (mul_right_comm w p.M M) (planes-high R e D h b (w * p.M) ps f.1),
  )
