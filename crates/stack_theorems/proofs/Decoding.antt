-- Demand 3 for stacks: the distance decides, plane by plane.
use mathlib.Core.Path.{◌≡◌, refl, sym, ap, ap₂, ◌∙◌, subst}
use mathlib.Core.Logic.{◌⊎◌, inl, inr}
use mathlib.Core.List.{List, [], ◌∷◌, map}
use mathlib.Core.Option.{Option, none, some, none-ne-some}
use Prim.Native.Nat.{ℕ, zero, suc, ◌+◌, ◌*◌, ◌-◌, ◌/◌, ◌%◌, ◌≤◌, ◌<◌}
use native.Mathlib.Nat.{zero-div, zero-mod, mod-lt, mod-mod, mod-eq_of_lt, mul_assoc, mul-one, one-mul, mul-pos, div_self, add-zero, zero-mul}
use native.Mathlib.Decide.{dec_lt}
use native.Mathlib.Omega.{arith}
use lib.Arith.{digits_lt}
use lib.ListN.{length, drop, length-map}
use lib.Seq.{ext_get_or}
use Rattle.definitions.specs.Words.{at, map2, weight, distance, EachCell}
use Rattle.definitions.specs.Answers.{Answer, given, refused_at, result, number, after}
use Rattle.definitions.specs.Codes.{Code, data_cells}
use Rattle.definitions.specs.Codewords.{syndrome_entry, syndrome, ceiling, Codeword}
use Rattle.definitions.specs.Patterns.{Pattern, patterns_of}
use Rattle.definitions.specs.Acceptance.{Accepted}
use Rattle.definitions.specs.Decoding.{first, same_syndrome}
use Rattle.definitions.specs.Stacks.{Stack, product, levels, digits, EachPlane}
use Rattle.definitions.specs.Reach.{difference}
use Rattle.definitions.specs.StackCodewords.{AcceptedStack}
use Rattle.definitions.specs.StackDecoding.{first_with_syndrome, lowered, decode_planes, decode_word}
use Rattle.definitions.specs.Demands.{of_stack, WithinReach, DistanceDecides}
use Rattle.word_laws.proofs.Cells.{at-past, at-map2, length-map2, each_at, at_each, each-drop}
use Rattle.word_laws.proofs.Remainders.{cancel}
use Rattle.word_laws.proofs.Lists.{first_some, first_none}
use Rattle.code_theorems.proofs.Syndromes.{Together, syndrome-add, syndrome-below, syndrome-zero, entries-syndrome, syndrome-entries}
use Rattle.code_theorems.proofs.Acceptance.{pattern_in, in_pattern}
use Rattle.code_theorems.proofs.Decoding.{same_syndrome_lem, syndrome_same}
use Rattle.code_theorems.proofs.Deciding.{given_pair, decides}
use Rattle.stack_theorems.proofs.Digits.{digit_present, lower_present, raise_present, digit-before, first_present, last_present, gap_present}
use Rattle.stack_theorems.proofs.Digits.{at-digits, digits-length, digits-small, joined, digits_low, planes-high}
use Rattle.stack_theorems.proofs.Opened.{IsPlane, ArePlanes, plane_pos, product_pos}

-- from place value w upward: the digits of x are codewords; those of E have at most t cells not 0
abbrev pub CodewordDigits : List ℕ → ℕ → List Code → Type 0
CodewordDigits x w ps = EachPlane (λ w p. Codeword p (digits w p.M x)) w ps

abbrev pub FewDigits : List ℕ → ℕ → List Code → Type 0
FewDigits E w ps = EachPlane (λ w p. weight (digits w p.M E) ≤ p.t) w ps

abbrev AcceptedFrom : ℕ → List Code → Type 0
AcceptedFrom w ps = EachPlane (λ w p. Accepted p) w ps

-- a plane, and the first pattern with the syndrome of the digits
module _ (n : ℕ) (p : Code) (hp : IsPlane n p) where
  digits-pattern : (w : ℕ) (E : List ℕ) → length E ≡ n → weight (digits w p.M E) ≤ p.t → Pattern p (digits w p.M E)
  digits-pattern w E long few = record {
    long = digits-length w p.M E ∙ long ∙ sym hp.long;
    each = at_each (λ v. v ≤ p.l) (digits w p.M E) (λ j g. rw (at-digits w p.M E j) (omega (arith, mod-lt (at E j / w) (plane_pos n p hp), hp.top)));
    few = few;
  }

  -- the digits d are those of a codeword and of a pattern together: that pattern is found
  plane_found : Accepted p → (d c e : List ℕ) → Together p.M d c e → Codeword p c → Pattern p e → first_with_syndrome p d ≡ some e
  unfolding first_with_syndrome
  plane_found acc d c e tog hc he = step (first (same_syndrome p d) (patterns_of p)) refl
    where
      same : syndrome p e ≡ syndrome p d
      same = entries-syndrome p e d (λ k g. syndrome-zero p d c e tog k (hc.zero k g))

      step : (o : Option (List ℕ)) → first (same_syndrome p d) (patterns_of p) ≡ o → o ≡ some e
      step none q = absurd (first_none (same_syndrome p d) (patterns_of p) q e (pattern_in p e he) (syndrome_same p d e same))
      step (some a) q =
          let (m, f) = first_some (same_syndrome p d) (patterns_of p) a q in
          ap {B = Option (List ℕ)} some (acc a e (in_pattern p a m) he (syndrome-entries p a e (same_syndrome_lem p d a f ∙ sym same)))

  found_plane : (d e : List ℕ) → first_with_syndrome p d ≡ some e → Pattern p e × (syndrome p e ≡ syndrome p d)
  unfolding first_with_syndrome
  found_plane d e q =
      let (m, f) = first_some (same_syndrome p d) (patterns_of p) e q in
      (in_pattern p e m, same_syndrome_lem p d e f)

  -- digits of a word are a codeword of the plane where the syndrome is 0: check cells have no further bound
  plane_codeword : (w : ℕ) (x : List ℕ) → length x ≡ n → ((k : ℕ) → k < p.r → syndrome_entry p (digits w p.M x) k ≡ 0) → Codeword p (digits w p.M x)
  plane_codeword w x long z = record {
    long = digits-length w p.M x ∙ long ∙ sym hp.long;
    levels = subst (λ (b : ℕ). EachCell (λ v. v < b) (digits w p.M x)) (sym hp.whole) small;
    checks =
        subst (λ (b : ℕ). EachCell (λ v. v < b) (drop (data_cells p) (digits w p.M x))) top
        (each-drop (λ v. v < p.M) (data_cells p) (digits w p.M x) small);
    zero = z;
  }
    where
      small : EachCell (λ v. v < p.M) (digits w p.M x)
      small = digits-small w p.M x (plane_pos n p hp)

      top : p.M ≡ ceiling p
      top = sym (ap (λ (u : ℕ). p.M * (u / p.M)) hp.whole ∙ ap (λ (u : ℕ). p.M * u) (div_self (plane_pos n p hp)) ∙ mul-one p.M)

  plane_left : (w : ℕ) (x d e : List ℕ) → length x ≡ n → Together p.M d (digits w p.M x) e → syndrome p e ≡ syndrome p d → Codeword p (digits w p.M x)
  plane_left w x d e long tog same = plane_codeword w x long (λ k g.
      cancel p.M (syndrome_entry p e k) (syndrome_entry p (digits w p.M x) k) (syndrome-below p (plane_pos n p hp) e k)
      (syndrome-below p (plane_pos n p hp) (digits w p.M x) k)
      (syndrome-entries p e d same k g ∙ syndrome-add p d (digits w p.M x) e tog k))

-- the present levels, once the planes below place value w are decoded: the codeword x, and the error E from w upward
abbrev shifted : ℕ → ℕ → List ℕ → List ℕ → List ℕ
shifted q w x E = map2 (λ a b. (a + b / w * w) % q) x E

-- a codeword within reach is what is left in the end
module _ (n q : ℕ) (x E : List ℕ) (lx : length x ≡ n) (l_e : length E ≡ n) where
  lowered_shifted : (w M s : ℕ) → 0 < w → 0 < M → 0 < s → q ≡ w * (M * s) → (a b : List ℕ)
      → lowered q w (shifted q w a b) (digits w M b) ≡ shifted q (w * M) a b
  lowered_shifted w M s pw p_m ps eq [] b = refl
  lowered_shifted w M s pw p_m ps eq (u ∷ a) [] = refl
  lowered_shifted w M s pw p_m ps eq (u ∷ a) (v ∷ b) =
      ap₂ {C = List ℕ} (λ h t. h ∷ t) (rw eq (lower_present w M s pw p_m ps u v)) (lowered_shifted w M s pw p_m ps eq a b)

  shifted_length : (w : ℕ) → length (shifted q w x E) ≡ n
  shifted_length w = length-map2 (λ a b. (a + b / w * w) % q) x E (lx ∙ sym l_e) ∙ lx

  shifted_at : (w i : ℕ) → i < n → at (shifted q w x E) i ≡ (at x i + at E i / w * w) % q
  shifted_at w i g = at-map2 (λ a b. (a + b / w * w) % q) x E i (omega arith) (omega arith)

  together : (w M s : ℕ) → 0 < w → 0 < M → 0 < s → q ≡ w * (M * s) → Together M (digits w M (shifted q w x E)) (digits w M x) (digits w M E)
  together w M s pw p_m ps eq j =
      ap (λ (u : ℕ). u % M) (at-digits w M (shifted q w x E) j)
      ∙ step (dec_lt j n)
      ∙ sym (ap₂ (λ (u v : ℕ). (u + v) % M) (at-digits w M x j) (at-digits w M E j))
    where
      step : Dec (j < n) → at (shifted q w x E) j / w % M % M ≡ (at x j / w % M + at E j / w % M) % M
      step (yes h) =
          ap (λ (u : ℕ). u / w % M % M) (shifted_at w j h)
          ∙ mod-mod ((at x j + at E j / w * w) % q / w) M
          ∙ rw eq (digit_present w M s pw p_m ps (at x j) (at E j))
      step (no h) =
          let a : at x j ≡ 0 = at-past x j (omega arith) in
          let b : at E j ≡ 0 = at-past E j (omega arith) in
          let c : at (shifted q w x E) j ≡ 0 = at-past (shifted q w x E) j (omega (arith, shifted_length w)) in
          rw (a, b, c) (rw (zero-div w) (rw (zero-mod M) refl))

  planes-back : (ps : List Code) (w j : ℕ) → 0 < w → q ≡ w * product ps → ArePlanes n ps → AcceptedFrom w ps
      → ((i : ℕ) → i < n → (at x i < q) × (at E i < q)) → CodewordDigits x w ps → FewDigits E w ps → decode_planes q w j ps (shifted q w x E) ≡ given x
  unfolding decode_planes
  planes-back [] w j pw eq hps acc bounds code few = ap {B = Answer (List ℕ)} given (ext_get_or 0 (shifted q w x E) x (shifted_length w ∙ sym lx) cell)
    where
      cell : (i : ℕ) → i < length (shifted q w x E) → at (shifted q w x E) i ≡ at x i
      cell i h =
          let g : i < n = omega (arith, shifted_length w) in
          let e : w ≡ q = sym (eq ∙ mul-one w) in
          shifted_at w i g
          ∙ ap (λ (u : ℕ). (at x i + at E i / u * u) % q) e
          ∙ last_present q (at x i) (at E i) (bounds i g).0 (bounds i g).1
  planes-back (p ∷ ps) w j pw eq hps acc bounds code few =
      ap (λ (o : Option (List ℕ)). elim o as (λ a. Answer (List ℕ))
      [ none ↦ refused_at 11 j | some e ↦ decode_planes q (w * p.M) (suc j) ps (lowered q w (shifted q w x E) e) ])
      (plane_found n p hps.0 acc.0 (digits w p.M (shifted q w x E)) (digits w p.M x) (digits w p.M E)
      (together w p.M (product ps) pw p_m (product_pos n ps hps.1) eq) code.0 (digits-pattern n p hps.0 w E l_e few.0))
      ∙ ap (decode_planes q (w * p.M) (suc j) ps) (lowered_shifted w p.M (product ps) pw p_m (product_pos n ps hps.1) eq x E)
      ∙ planes-back ps (w * p.M) (suc j) (mul-pos pw p_m) (eq ∙ sym (mul_assoc w p.M (product ps))) hps.1 acc.1 bounds code.1 few.1
    where
      p_m : 0 < p.M
      p_m = plane_pos n p hps.0

-- what is left in the end is a codeword within reach: D is the error from place value w upward, in units of w
record Left (n q w : ℕ) (ps : List Code) (y x D : List ℕ) : Type 0 where
  lx : length x ≡ n
  l_d : length D ≡ n
  bx : (i : ℕ) → i < n → at x i < q
  b_d : (i : ℕ) → i < n → at D i < product ps
  cells : (i : ℕ) → i < n → at y i ≡ (at x i + at D i * w) % q
  code : CodewordDigits x w ps
  few : FewDigits D 1 ps

at-zeros : (y : List ℕ) (i : ℕ) → at (map (λ v. 0) y) i ≡ 0
at-zeros [] i = refl
at-zeros (v ∷ y) zero = refl
at-zeros (v ∷ y) (suc i) = at-zeros y i

module _ (n q : ℕ) where
  step_only : (p : Code) (ps : List Code) (w : ℕ) (y x e D : List ℕ) → 0 < w → q ≡ w * (p.M * product ps) → IsPlane n p → ArePlanes n ps → length y ≡ n
      → ((i : ℕ) → i < n → at y i < q) → Pattern p e → syndrome p e ≡ syndrome p (digits w p.M y)
      → Left n q (w * p.M) ps (lowered q w y e) x D → Left n q w (p ∷ ps) y x (joined p.M e D)
  step_only p ps w y x e D pw eq hp hps ly by he same h = record {
    lx = h.lx;
    l_d = length-map2 (λ a d. a + p.M * d) e D (le ∙ sym h.l_d) ∙ le;
    bx = h.bx;
    b_d = λ i g. rw (joined_at i g) (omega (arith, digits_lt (h.b_d i g) (small i g)));
    cells = λ i g. cell i g ∙ ap (λ (u : ℕ). (at x i + u * w) % q) (sym (joined_at i g));
    code = (plane_left n p hp w x (digits w p.M y) e h.lx tog same, h.code);
    few = (
      subst (λ (d : List ℕ). weight d ≤ p.t) (sym (digits_low p.M e D (le ∙ sym h.l_d) be)) he.few,
      planes-high p.M (λ p d. weight d ≤ p.t) e D (le ∙ sym h.l_d) be 1 ps h.few,
    );
  }
    where
      p_m : 0 < p.M
      p_m = plane_pos n p hp

      le : length e ≡ n
      le = he.long ∙ hp.long

      be : EachCell (λ v. v < p.M) e
      be = at_each (λ v. v < p.M) e (λ j g. omega (arith, each_at (λ v. v ≤ p.l) e he.each j g, hp.top))

      small : (i : ℕ) → i < n → at e i < p.M
      small i g = each_at (λ v. v < p.M) e be i (omega arith)

      joined_at : (i : ℕ) → i < n → at (joined p.M e D) i ≡ at e i + p.M * at D i
      joined_at i g = at-map2 (λ a d. a + p.M * d) e D i (omega arith) (omega (arith, h.l_d))

      cell : (i : ℕ) → i < n → at y i ≡ (at x i + (at e i + p.M * at D i) * w) % q
      cell i g =
          let a : (at y i + (q - at e i * w)) % q ≡ (at x i + at D i * (w * p.M)) % q
          = sym (at-map2 (λ u v. (u + (q - v * w)) % q) y e i (omega arith) (omega arith)) ∙ h.cells i g in
          subst (λ (k : ℕ). at y i < k → (at y i + (k - at e i * w)) % k ≡ (at x i + at D i * (w * p.M)) % k
          → at y i ≡ (at x i + (at e i + p.M * at D i) * w) % k) (sym eq)
          (λ u v. raise_present w p.M (product ps) pw p_m (product_pos n ps hps) (at y i) (at x i) (at e i) (at D i) u (small i g) v) (by i g) a

      tog : Together p.M (digits w p.M y) (digits w p.M x) e
      tog j =
          ap (λ (u : ℕ). u % p.M) (at-digits w p.M y j) ∙ mod-mod (at y j / w) p.M
          ∙ here (dec_lt j n)
          ∙ sym (ap (λ (u : ℕ). (u + at e j) % p.M) (at-digits w p.M x j))
        where
          here : Dec (j < n) → at y j / w % p.M ≡ (at x j / w % p.M + at e j) % p.M
          here (yes g) = digit-before w p.M (product ps) pw p_m (product_pos n ps hps) (at y j) (at x j) (at e j) (at D j) (rw eq at (cell j g))
          here (no g) =
              let a : at x j ≡ 0 = at-past x j (omega (arith, h.lx)) in
              let b : at y j ≡ 0 = at-past y j (omega arith) in
              let c : at e j ≡ 0 = at-past e j (omega arith) in
              rw (a, b, c) (rw (zero-div w) (rw (zero-mod p.M) (sym (zero-mod p.M))))

  planes-only : (ps : List Code) (w j : ℕ) (y x : List ℕ) → 0 < w → q ≡ w * product ps → ArePlanes n ps → length y ≡ n → ((i : ℕ) → i < n → at y i < q)
      → decode_planes q w j ps y ≡ given x → (D : List ℕ) × Left n q w ps y x D
  unfolding decode_planes
  planes-only [] w j y x pw eq hps ly by e =
      let s : y ≡ x = cc in
      subst (λ (z : List ℕ). (D : List ℕ) × Left n q w [] y z D) s (
        map (λ v. 0) y,
        record {
          lx = ly;
          l_d = length-map y (λ v. 0) ∙ ly;
          bx = by;
          b_d = λ i g. rw (at-zeros y i) (omega arith);
          cells = λ i g. sym
              (ap (λ (u : ℕ). (at y i + u * w) % q) (at-zeros y i) ∙ ap (λ (u : ℕ). (at y i + u) % q) (zero-mul w)
              ∙ ap (λ (u : ℕ). u % q) (add-zero (at y i)) ∙ mod-eq_of_lt (by i g));
          code = tt;
          few = tt;
        },
      )
  planes-only (p ∷ ps) w j y x pw eq hps ly by e =
      onward (first_with_syndrome p (digits w p.M y)) refl e
      (λ (a : List ℕ) (la : length a ≡ n) (k : decode_planes q (w * p.M) (suc j) ps (lowered q w y a) ≡ given x).
      planes-only ps (w * p.M) (suc j) (lowered q w y a) x (mul-pos pw (plane_pos n p hps.0)) (eq ∙ sym (mul_assoc w p.M (product ps))) hps.1
      (length-map2 (λ u v. (u + (q - v * w)) % q) y a (ly ∙ sym la) ∙ ly)
      (λ i g. rw (at-map2 (λ u v. (u + (q - v * w)) % q) y a i (omega arith) (omega arith)) (mod-lt (at y i + (q - at a i * w)) qpos)) k)
    where
      qpos : 0 < q
      qpos = subst (λ (u : ℕ). 0 < u) (sym eq) (mul-pos pw (product_pos n (p ∷ ps) hps))

      onward : (o : Option (List ℕ)) → first_with_syndrome p (digits w p.M y) ≡ o
          → elim o as (λ a. Answer (List ℕ)) [ none ↦ refused_at 11 j | some a ↦ decode_planes q (w * p.M) (suc j) ps (lowered q w y a) ] ≡ given x
          → ((a : List ℕ) → length a ≡ n → decode_planes q (w * p.M) (suc j) ps (lowered q w y a) ≡ given x
          → (D : List ℕ) × Left n q (w * p.M) ps (lowered q w y a) x D)
          → (D : List ℕ) × Left n q w (p ∷ ps) y x D
      onward none h k ih = let z : ◌≡◌ {A = ℕ} 0 1 = cc in absurd (omega arith)
      onward (some a) h k ih =
          let (he, same) = found_plane n p hps.0 (digits w p.M y) a h in
          let (D, g) = ih a (he.long ∙ hps.0.long) k in
          (joined p.M a D, step_only p ps w y x a D pw eq hps.0 hps.1 ly by he same g)

-- the levels that all planes leave, or 11 at a plane
abbrev LevelsOr11 : Answer (List ℕ) → Type 0
LevelsOr11 a = ((x : List ℕ) × (a ≡ given x)) ⊎ ((i : ℕ) × (a ≡ refused_at 11 i))

planes-answer : (q w j : ℕ) (ps : List Code) (y : List ℕ) → LevelsOr11 (decode_planes q w j ps y)
unfolding decode_planes
planes-answer q w j [] y = inl (y, refl)
planes-answer q w j (p ∷ ps) y =
    step (first_with_syndrome p (digits w p.M y)) (λ e. planes-answer q (w * p.M) (suc j) ps (lowered q w y e))
  where
    step : (o : Option (List ℕ))
        → ((e : List ℕ) → LevelsOr11 (decode_planes q (w * p.M) (suc j) ps (lowered q w y e)))
        → LevelsOr11 (elim o as (λ a. Answer (List ℕ)) [ none ↦ refused_at 11 j | some e ↦ decode_planes q (w * p.M) (suc j) ps (lowered q w y e) ])
    step none ih = inr (j, refl)
    step (some e) ih = ih e

-- the difference of a word read and a codeword, cell by cell
module _ (n q : ℕ) (y c : List ℕ) (ly : length y ≡ n) (lc : length c ≡ n) where
  pub difference-length : length (difference q y c) ≡ n
  difference-length = length-map2 (λ a b. (a + (q - b)) % q) y c (ly ∙ sym lc) ∙ ly

  difference-at : (i : ℕ) → i < n → at (difference q y c) i ≡ (at y i + (q - at c i)) % q
  difference-at i g = at-map2 (λ a b. (a + (q - b)) % q) y c i (omega arith) (omega arith)

  pub difference_below : 0 < q → (i : ℕ) → i < n → at (difference q y c) i < q
  difference_below h i g = rw (difference-at i g) (mod-lt (at y i + (q - at c i)) h)

-- demand 3 for stacks
module _ (S : Stack) (y : List ℕ) (hps : ArePlanes S.n S.planes) (ly : length y ≡ S.n) (bounded : EachCell (λ v. v < levels S) y) where
  below : (i : ℕ) → i < S.n → at y i < levels S
  below i g = each_at (λ v. v < levels S) y bounded i (omega arith)

  decode-given : (x : List ℕ) → decode_planes (levels S) 1 0 S.planes y ≡ given x → decode_word S y ≡ given (distance x y, x)
  unfolding decode_word
  decode-given x e = ap (λ (a : Answer (List ℕ)). after a λ x. given (distance x y, x)) e

  decode_11 : (i : ℕ) → decode_planes (levels S) 1 0 S.planes y ≡ refused_at 11 i → number (decode_word S y) ≡ some 11
  unfolding decode_word
  decode_11 i e = ap (λ (a : Answer (List ℕ)). number {A = ℕ × List ℕ} (after a λ x. given (distance x y, x))) e

  pub decode-back : AcceptedStack S → (c : List ℕ) → WithinReach (of_stack S) y c → decode_word S y ≡ given (distance c y, c)
  decode-back acc c h =
      decode-given c (ap (decode_planes (levels S) 1 0 S.planes) (sym whole)
      ∙ planes-back S.n (levels S) c E h.0.long l_e S.planes 1 0 (omega arith) (sym (one-mul (levels S))) hps acc bounds h.0.planes h.1)
    where
      E : List ℕ
      E = difference (levels S) y c

      l_e : length E ≡ S.n
      l_e = difference-length S.n (levels S) y c ly h.0.long

      bc : (i : ℕ) → i < S.n → at c i < levels S
      bc i g = each_at (λ v. v < levels S) c h.0.bounded i (omega (arith, h.0.long))

      bounds : (i : ℕ) → i < S.n → (at c i < levels S) × (at E i < levels S)
      bounds i g = (bc i g, difference_below S.n (levels S) y c ly h.0.long (product_pos S.n S.planes hps) i g)

      whole : shifted (levels S) 1 c E ≡ y
      whole = ext_get_or 0 (shifted (levels S) 1 c E) y (shifted_length S.n (levels S) c E h.0.long l_e 1 ∙ sym ly)
          (λ i g.
          let k : i < S.n = omega (arith, shifted_length S.n (levels S) c E h.0.long l_e 1) in
          shifted_at S.n (levels S) c E h.0.long l_e 1 i k
          ∙ ap (λ (u : ℕ). (at c i + u / 1 * 1) % levels S) (difference-at S.n (levels S) y c ly h.0.long i k)
          ∙ first_present (levels S) (at c i) (at y i) (bc i k) (below i k))

  planes-within : (x : List ℕ) → decode_planes (levels S) 1 0 S.planes y ≡ given x → WithinReach (of_stack S) y x
  planes-within x e =
      let (D, h) = planes-only S.n (levels S) S.planes 1 0 y x (omega arith) (sym (one-mul (levels S))) hps ly below e in
      let lg : length (difference (levels S) y x) ≡ S.n = difference-length S.n (levels S) y x ly h.lx in
      let whole : difference (levels S) y x ≡ D
      = ext_get_or 0 (difference (levels S) y x) D (lg ∙ sym h.l_d)
      (λ i g.
      let k : i < S.n = omega (arith, lg) in
      difference-at S.n (levels S) y x ly h.lx i k
      ∙ gap_present (levels S) (at x i) (at y i) (at D i) (h.bx i k) (h.b_d i k) (h.cells i k)) in (
        record { long = h.lx; bounded = at_each (λ v. v < levels S) x (λ i g. h.bx i (omega (arith, h.lx))); planes = h.code },
        subst (λ (d : List ℕ). FewDigits d 1 S.planes) (sym whole) h.few,
      )

  pub decode-only : (k : ℕ) (c : List ℕ) → decode_word S y ≡ given (k, c) → WithinReach (of_stack S) y c × (k ≡ distance c y)
  decode-only k c e = step (planes-answer (levels S) 1 0 S.planes y)
    where
      step : LevelsOr11 (decode_planes (levels S) 1 0 S.planes y) → WithinReach (of_stack S) y c × (k ≡ distance c y)
      step (inl (x, q)) =
          let (i, s) = given_pair (distance x y) k x c (sym (decode-given x q) ∙ e) in
          (subst (WithinReach (of_stack S) y) s (planes-within x q), sym i ∙ ap (λ (d : List ℕ). distance d y) s)
      step (inr (i, q)) = absurd (none-ne-some 11 (sym (ap number e) ∙ decode_11 i q))

  pub decode-other : ((c : List ℕ) → WithinReach (of_stack S) y c → ⊥) → number (decode_word S y) ≡ some 11
  decode-other f = step (planes-answer (levels S) 1 0 S.planes y)
    where
      step : LevelsOr11 (decode_planes (levels S) 1 0 S.planes y) → number (decode_word S y) ≡ some 11
      step (inl (x, q)) = absurd (f x (planes-within x q))
      step (inr (i, q)) = decode_11 i q

  pub distance_decides : AcceptedStack S → (out : List ℕ)
      → DistanceDecides (of_stack S) y (result (decode_word S y) out).answer (result (decode_word S y) out).out
  distance_decides acc out = decides (of_stack S) y (decode_word S y) decode-only decode-other out (decode-back acc)
