-- The table's rule: one test that is computed over all its entries, and what it says of each. So the code is accepted, over each number of
-- levels.
use Rattle.std.proofs.Common.{◌≡◌, ℕ, suc, zero, ◌+◌, ◌-◌, ◌*◌, ◌/◌, ◌%◌, ◌^◌, ◌<◌, Bool, true, ◌&&◌, ltb, leb, eqb, subst, sym, refl, ap, ◌∙◌, arith}
use native.Mathlib.Nat.{pow-succ'}
use lib.Count.{ones, ones_in, ones_step}
use lib.Dec.{T, eqb→eq, leb→le, ltb→lt}
use Rattle.std.specs.Int.{bit_at}
use Rattle.std.specs.Int.RustNames.{count_ones}
use Rattle.std.specs.List.{list_all, enumerate_from}
use Rattle.std.proofs.lemmas.Nat.Bits.{same_from_bits_below}
use Rattle.definitions.specs.Words.{at, up_from, same_word, weight}
use Rattle.definitions.specs.Codewords.{syndrome, syndrome_entry}
use Rattle.definitions.specs.Patterns.{pattern_count}
use Rattle.definitions.specs.Acceptance.{Accepted}
use Rattle.definitions.specs.Golay.{golay_code, golay_matrix, syndrome_of_index, word_of_bits, HasIndex}
use Rattle.definitions.proofs.Tests.{and_left, and_right, same_eq}
use Rattle.word_laws.proofs.Cells.{same_map, up_from_mem}
use Rattle.word_laws.proofs.Lists.{entry_passes}
use Rattle.code_theorems.proofs.Counting.{accepted_by_count}
use Rattle.golay_table.specs.declared.TheConstants.{PATTERNS}
use Rattle.golay_table.proofs.BitWords.{length-word_of_bits, each_bit}

-- an index and its entry: the entry's word has the syndrome of that index, and is a pattern; its risen cells are counted in 23 bits, since
-- `count_ones` does not compute
is_right : ℕ × ℕ → Bool
is_right k =
    same_word (syndrome (golay_code 2) (word_of_bits k.1)) (syndrome_of_index k.0)
    && (leb (weight (word_of_bits k.1)) 3 && (ltb k.1 (2 ^ 23) && eqb (ones_in 23 k.1) (weight (word_of_bits k.1))))

all_right : list_all is_right (enumerate_from 0 PATTERNS) ≡ true
unfolding is_right ones_in syndrome syndrome_entry golay_matrix syndrome_of_index word_of_bits
all_right = refl

count_ones-bits : (d n : ℕ) → n < 2 ^ d → count_ones n ≡ ones_in d n
unfolding ones ones_in
count_ones-bits zero n h = let z : n ≡ 0 = omega arith in rw z refl
count_ones-bits (suc d) n h =
    ones_step n ∙ ap (λ (m : ℕ). n % 2 + m) (count_ones-bits d (n / 2) (let p : 2 ^ suc d ≡ 2 * 2 ^ d = pow-succ' 2 d in omega arith))

told : (i x : ℕ) → T (is_right (i, x)) → HasIndex i x × (count_ones x ≡ weight (word_of_bits x))
unfolding is_right syndrome syndrome_entry
told i x t =
    let few_on = and_right (same_word (syndrome (golay_code 2) (word_of_bits x)) (syndrome_of_index i)) _ t in
    let small_on = and_right (leb (weight (word_of_bits x)) 3) _ few_on in
    let small = ltb→lt x (2 ^ 23) (and_left (ltb x (2 ^ 23)) _ small_on) in (
      record {
        bits = small;
        is_pattern = λ q. record {
          long = length-word_of_bits x;
          each = each_bit x;
          few = leb→le (weight (word_of_bits x)) 3 (and_left (leb (weight (word_of_bits x)) 3) _ few_on);
        };
        index = λ q. same_eq _ _ (and_left (same_word (syndrome (golay_code 2) (word_of_bits x)) (syndrome_of_index i)) _ t);
      },
      count_ones-bits 23 x small ∙ eqb→eq _ _ (and_right (ltb x (2 ^ 23)) _ small_on),
    )

each_told : (i : ℕ) → i < 2048 → HasIndex i (at PATTERNS i) × (count_ones (at PATTERNS i) ≡ weight (word_of_bits (at PATTERNS i)))
each_told i h = told i _ (subst T (sym (entry_passes is_right PATTERNS all_right i h)) tt)

pub rule : (i : ℕ) → i < 2048 → HasIndex i (at PATTERNS i)
rule i h = (each_told i h).0

pub weighed : (i : ℕ) → i < 2048 → count_ones (at PATTERNS i) ≡ weight (word_of_bits (at PATTERNS i))
weighed i h = (each_told i h).1

-- a syndrome has one index
one_index : (i j : ℕ) → i < 2048 → j < 2048 → syndrome_of_index i ≡ syndrome_of_index j → i ≡ j
unfolding syndrome_of_index
one_index i j h g e = same_from_bits_below 11 i j h g λ b l.
    let s : 10 - (10 - b) ≡ b = omega arith in
    subst (λ c. bit_at i c ≡ bit_at j c) s
    (same_map (λ k. bit_at i (10 - k)) (λ k. bit_at j (10 - k)) (up_from 0 11) e (10 - b) (up_from_mem 0 11 (10 - b) (omega arith) (omega arith)))

golay_patterns : (q : ℕ) → pattern_count (golay_code q) ≡ 2048
unfolding pattern_count
golay_patterns q = refl

pub golay_accepted : (q : ℕ) → Accepted (golay_code q)
golay_accepted q = accepted_by_count (golay_code q) (λ i. word_of_bits (at PATTERNS i)) 2048 (golay_patterns q) (λ i h. (rule i h).is_pattern q)
    (λ i j h g e. one_index i j h g (sym ((rule i h).index q) ∙ e ∙ (rule j g).index q))
