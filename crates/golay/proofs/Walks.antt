-- Walks over the risen cells of a pattern, from the last to the first.
use Rattle.std.proofs.Common.{◌≡◌, ◌≢◌, ℕ, zero, suc, ◌+◌, ◌-◌, ◌/◌, ◌^◌, ◌<◌, ◌≤◌, min, true, false, List, length, set, refl, sym, ap, ◌∙◌}
use Rattle.std.proofs.Common.{subst, inl, inr, ◌⊎◌, arith, w32, get_or-set_same, get_or-set_other}
use lib.Dec.{T}
use lib.Seq.{ext_get_or}
use Rattle.std.specs.Int.{bit_at, trailing_zeros}
use Rattle.std.specs.Int.Bits.{bit_and}
use Rattle.std.proofs.Math.ListN.{length-set}
use Rattle.std.proofs.lemmas.Bool.{cases_eq, cases_lt, false_from_ne_true}
use Rattle.std.proofs.lemmas.Nat.{and_le_r}
use Rattle.std.proofs.lemmas.Nat.Bits.{bit_at-zero, bit_at_above, bit_at-trailing_zeros, bit_at_and, bit_at-suc, bit_at_lowest}
use Rattle.definitions.specs.Words.{at, subtract, nowhere_above}
use Rattle.definitions.specs.Golay.{word_of_bits}
use Rattle.definitions.proofs.Tests.{above-each, each-above}
use Rattle.word_laws.proofs.Cells.{at-map2, length-map2, pair_at, at_pair, each_at}
use Rattle.code_theorems.proofs.Refusals.{is_true}
use Rattle.golay_table.proofs.BitWords.{length-word_of_bits, at-word_of_bits, each_bit}
use Rattle.golay.specs.RisenCells.{WithoutCell}

pub lowest_bit : (n : ℕ) → 0 < n → n < 2 ^ 23 → trailing_zeros w32 n ≤ 22
lowest_bit n pos small =
    let (a, b, c) = bit_at-trailing_zeros w32 n pos (omega arith) in
    elim (cases_lt (trailing_zeros w32 n) 23) as (λ _. trailing_zeros w32 n ≤ 22)
    [ inl l ↦ omega arith | inr g ↦ let z = bit_at_above n 23 (trailing_zeros w32 n) small g in absurd (omega arith) ]

-- one less than a number has a 0 where the number's lowest 1 is, and the same bits above it
one_less_at : (t n : ℕ) → bit_at n t ≡ 1 → ((i : ℕ) → i < t → bit_at n i ≡ 0) → bit_at (n - 1) t ≡ 0
one_less_at zero n s z = omega (arith, bit_at_lowest n, bit_at_lowest (n - 1))
one_less_at (suc t) n s z =
    let half : (n - 1) / 2 ≡ n / 2 - 1 = omega (arith, bit_at_lowest n, z 0 (omega arith)) in
    bit_at-suc (n - 1) t ∙ ap (λ (m : ℕ). bit_at m t) half
    ∙ one_less_at t (n / 2) (sym (bit_at-suc n t) ∙ s) (λ i l. sym (bit_at-suc n i) ∙ z (suc i) (omega arith))

one_less_above : (t n i : ℕ) → bit_at n t ≡ 1 → ((i : ℕ) → i < t → bit_at n i ≡ 0) → t < i → bit_at (n - 1) i ≡ bit_at n i
one_less_above t n zero s z l = absurd (omega arith)
one_less_above zero n (suc i) s z l =
    let half : (n - 1) / 2 ≡ n / 2 = omega (arith, bit_at_lowest n) in
    bit_at-suc (n - 1) i ∙ ap (λ (m : ℕ). bit_at m i) half ∙ sym (bit_at-suc n i)
one_less_above (suc t) n (suc i) s z l =
    let half : (n - 1) / 2 ≡ n / 2 - 1 = omega (arith, bit_at_lowest n, z 0 (omega arith)) in
    bit_at-suc (n - 1) i ∙ ap (λ (m : ℕ). bit_at m i) half
    ∙ one_less_above t (n / 2) i (sym (bit_at-suc n t) ∙ s) (λ i l. sym (bit_at-suc n i) ∙ z (suc i) (omega arith)) (omega arith)
    ∙ sym (bit_at-suc n i)

-- so the lowest bit is cleared, which is that of the last risen cell
pub last_taken : (n : ℕ) → 0 < n → n < 2 ^ 23 → WithoutCell n (22 - trailing_zeros w32 n) (bit_and n (n - 1))
last_taken n pos small =
    let k = trailing_zeros w32 n in
    let (a, b, c) = bit_at-trailing_zeros w32 n pos (omega arith) in
    let low : k ≤ 22 = lowest_bit n pos small in
    let back : 22 - (22 - k) ≡ k = omega arith in
    record {
      in_word = omega arith;
      risen = at-word_of_bits n (22 - k) (omega arith) ∙ ap (bit_at n) back ∙ b;
      gone =
          at-word_of_bits (bit_and n (n - 1)) (22 - k) (omega arith) ∙ ap (bit_at (bit_and n (n - 1))) back
          ∙ omega (arith, bit_at_and n (n - 1) k, one_less_at k n b c);
      others = λ j h e.
          at-word_of_bits (bit_and n (n - 1)) j h
          ∙ bit_at_and n (n - 1) (22 - j)
          ∙ step (22 - j) (cases_lt (22 - j) k) (omega arith)
          ∙ sym (at-word_of_bits n j h);
      fewer = omega (arith, and_le_r n (n - 1));
    }
  where
    step : (i : ℕ) → (i < trailing_zeros w32 n) ⊎ (trailing_zeros w32 n ≤ i) → i ≢ trailing_zeros w32 n → min (bit_at n i) (bit_at (n - 1) i) ≡ bit_at n i
    step i (inl l) e =
        let (a, b, c) = bit_at-trailing_zeros w32 n pos (omega arith) in
        omega (arith, c i l)
    step i (inr g) e =
        let (a, b, c) = bit_at-trailing_zeros w32 n pos (omega arith) in
        omega (arith, one_less_above (trailing_zeros w32 n) n i b c (omega arith))

at-no_bits : (j : ℕ) → j < 23 → at (word_of_bits 0) j ≡ 0
at-no_bits j h = at-word_of_bits 0 j h ∙ bit_at-zero (22 - j)

bit_le : (x j : ℕ) → j < 23 → at (word_of_bits x) j ≤ 1
bit_le x j h = each_at (λ v. v ≤ 1) (word_of_bits x) (each_bit x) j (omega (arith, length-word_of_bits x))

-- the risen cells of left are some of those of x, which are still to be seen
pub record Left (x left : ℕ) : Type 0 where
  pub small : left < 2 ^ 23
  pub within : (j : ℕ) → j < 23 → at (word_of_bits left) j ≤ at (word_of_bits x) j

all_left : (x : ℕ) → x < 2 ^ 23 → Left x x
all_left x h = record { small = h; within = λ j l. omega arith }

one_fewer : (x l c r : ℕ) → Left x l → WithoutCell l c r → Left x r
one_fewer x l c r h w = record {
  small = omega (arith, h.small, w.fewer);
  within = λ j g. elim (cases_eq j c) as (λ _. at (word_of_bits r) j ≤ at (word_of_bits x) j)
      [ inl e ↦ rw (e, w.gone) (omega arith) | inr d ↦ rw (w.others j g d) (h.within j g) ];
}

-- of the risen cells seen none was read at 0
pub record NoneAtZero (y : List ℕ) (x left : ℕ) : Type 0 where
  pub rest : Left x left
  pub seen : (j : ℕ) → j < 23 → at (word_of_bits x) j ≤ at (word_of_bits left) j + at y j

pub all_unseen : (y : List ℕ) (x : ℕ) → x < 2 ^ 23 → NoneAtZero y x x
all_unseen y x h = record { rest = all_left x h; seen = λ j l. omega arith }

pub one_seen : (y : List ℕ) (x l c r : ℕ) → NoneAtZero y x l → WithoutCell l c r → at y c ≢ 0 → NoneAtZero y x r
one_seen y x l c r h w n = record {
  rest = one_fewer x l c r h.rest w;
  seen = λ j g. elim (cases_eq j c) as (λ _. at (word_of_bits x) j ≤ at (word_of_bits r) j + at y j)
      [ inl e ↦ rw (e, w.gone) (omega (arith, bit_le x c w.in_word)) | inr d ↦ rw (w.others j g d) (h.seen j g) ];
}

pub all_seen : (y : List ℕ) (x l : ℕ) → length y ≡ 23 → NoneAtZero y x l → l ≡ 0 → nowhere_above (word_of_bits x) y ≡ true
all_seen y x l ly h e =
    is_true _ (each-above (word_of_bits x) y (at_pair (λ a b. b ≤ a) y (word_of_bits x) (ly ∙ sym (length-word_of_bits x)) λ j g.
    let s = h.seen j (omega arith) in
    omega (arith, at-no_bits j (omega arith), rw e at s)))

under_at : (y : List ℕ) (x j : ℕ) → length y ≡ 23 → nowhere_above (word_of_bits x) y ≡ true → j < 23 → at (word_of_bits x) j ≤ at y j
under_at y x j ly t h = pair_at (λ a b. b ≤ a) y (word_of_bits x) (above-each (word_of_bits x) y (subst T (sym t) tt)) j (omega arith)

pub one_above :
    (y : List ℕ) (x l c r : ℕ) → length y ≡ 23 → NoneAtZero y x l → WithoutCell l c r → at y c ≡ 0 → nowhere_above (word_of_bits x) y ≡ false
one_above y x l c r ly h w z = false_from_ne_true _ λ t. omega (arith, under_at y x c ly t w.in_word, h.rest.within c w.in_word, w.risen)

-- the risen cells seen are lowered
pub record Lowered (y : List ℕ) (x : ℕ) (out : List ℕ) (left : ℕ) : Type 0 where
  pub rest : Left x left
  pub room : length out ≡ 23
  pub cells : (j : ℕ) → j < 23 → at out j + at (word_of_bits x) j ≡ at y j + at (word_of_bits left) j

pub none_lowered : (y : List ℕ) (x : ℕ) → length y ≡ 23 → x < 2 ^ 23 → Lowered y x y x
none_lowered y x ly h = record { rest = all_left x h; room = ly; cells = λ j l. refl }

pub can_lower :
    (y : List ℕ) (x : ℕ) (out : List ℕ) (l c r : ℕ) → length y ≡ 23 → nowhere_above (word_of_bits x) y ≡ true → Lowered y x out l
    → WithoutCell l c r → 1 ≤ at y c
can_lower y x out l c r ly t h w = omega (arith, under_at y x c ly t w.in_word, h.rest.within c w.in_word, w.risen)

pub one_lowered : (y : List ℕ) (x : ℕ) (out : List ℕ) (l c r : ℕ) → Lowered y x out l → WithoutCell l c r → 1 ≤ at y c
    → Lowered y x (set out c (at y c - 1)) r
one_lowered y x out l c r h w n = record {
  rest = one_fewer x l c r h.rest w;
  room = simp length-set h.room;
  cells = λ j g. elim (cases_eq j c) as (λ _. at (set out c (at y c - 1)) j + at (word_of_bits x) j ≡ at y j + at (word_of_bits r) j) [
    | inl e ↦
        let m : c < length out = omega (arith, h.room, w.in_word) in
        rw (e, get_or-set_same, w.gone) (omega (arith, h.rest.within c w.in_word, w.risen, bit_le x c w.in_word))
    | inr d ↦ rw (get_or-set_other, w.others j g d) (h.cells j g)
  ];
}

pub all_lowered : (y : List ℕ) (x : ℕ) (out : List ℕ) (l : ℕ) → length y ≡ 23 → Lowered y x out l → l ≡ 0 → out ≡ subtract y (word_of_bits x)
all_lowered y x out l ly h e = ext_get_or 0 out (subtract y (word_of_bits x)) (h.room ∙ sym long) λ j g.
    let s = h.cells j (omega (arith, h.room)) in
    rw (at-map2 (λ a b. a - b) y (word_of_bits x) j (omega (arith, h.room)) (omega (arith, h.room, length-word_of_bits x)))
    (omega (arith, at-no_bits j (omega (arith, h.room)), rw e at s))
  where
    long : length (subtract y (word_of_bits x)) ≡ 23
    long = length-map2 (λ a b. a - b) y (word_of_bits x) (ly ∙ sym (length-word_of_bits x)) ∙ ly
