-- The test of a pattern: by what its choices leave of the syndrome, and for a received word the definitions of decoding.
use mathlib.Core.Path.{◌≡◌, sym, ap, ◌∙◌, subst}
use mathlib.Core.Bool.{Bool, true, false, ◌&&◌}
use mathlib.Core.List.{List, map}
use Prim.Native.Nat.{ℕ, ◌+◌, ◌*◌, ◌%◌, ◌<◌}
use native.Mathlib.Nat.{zero-mul, zero-mod, add-zero}
use native.Mathlib.Decide.{dec_lt}
use native.Mathlib.Omega.{arith}
use lib.Dec.{T}
use lib.ListN.{length}
use Rattle.definitions.specs.Words.{at, up_from, all_zero, same_word, nowhere_above, subtract}
use Rattle.definitions.specs.Codes.{Code}
use Rattle.definitions.specs.Codewords.{syndrome_entry, syndrome, is_codeword}
use Rattle.definitions.specs.Decoding.{first, fits, same_syndrome}
use Rattle.definitions.proofs.Tests.{same_eq, same_refl}
use Rattle.word_laws.proofs.Cells.{up_from_bounds, up_from_mem, map_same, same_map}
use Rattle.code_theorems.proofs.Syndromes.{syndrome-below}
use Rattle.opening.specs.declared.Code as opened
use Rattle.opening.specs.Viewed as viewed
use Rattle.syndrome.specs.Columns.{column, Syndrome}
use Rattle.syndrome.proofs.Columns.{entry_past}
use Rattle.candidate_patterns.specs.declared.Risen.{Risen}
use Rattle.candidate_patterns.specs.declared.asked.Asked.{Asked}
use Rattle.candidate_patterns.specs.Candidates.{magnitude_at, word_of, added, has_syndrome, test_of, test_for}
use Rattle.candidate_patterns.specs.Candidates.{SyndromeInRange, Chosen, Remains}
use Rattle.candidate_patterns.proofs.Choices.{of_none, chosen_plus, length-word}
use Rattle.candidate_patterns.proofs.Syndromes.{Raised, column_hit, column-only}
use Rattle.candidate_patterns.proofs.Fits.{is_true, is_false, zeros-each, each-zeros}

-- a pattern has a syndrome exactly where their r entries are equal
module _ (p : Code) (s e : List ℕ) where
  ks : List ℕ
  ks = up_from 0 p.r

  has_all : ((i : ℕ) → i < p.r → syndrome_entry p e i ≡ at s i) → has_syndrome p s e ≡ true
  unfolding has_syndrome syndrome ks
  has_all h =
      let q : map (syndrome_entry p e) ks ≡ map (at s) ks =
      map_same (syndrome_entry p e) (at s) ks (λ k m. h k (let (a, b) = up_from_bounds 0 p.r k m in omega arith)) in
      is_true _ (rw q (same_refl (map (at s) ks)))

  has_each : has_syndrome p s e ≡ true → (i : ℕ) → i < p.r → syndrome_entry p e i ≡ at s i
  unfolding has_syndrome syndrome ks
  has_each t i h =
      let q : map (syndrome_entry p e) ks ≡ map (at s) ks = same_eq (map (syndrome_entry p e) ks) (map (at s) ks) (subst T (sym t) tt) in
      same_map (syndrome_entry p e) (at s) ks q i (up_from_mem 0 p.r i (omega arith) (omega arith))

-- without the syndrome no test passes
pub test_not : (b : Bool) (p : Code) (s y e : List ℕ) → has_syndrome p s e ≡ false → false ≡ test_of b p s y e
test_not true p s y e h = rw h
test_not false p s y e h = sym h

-- the syndrome of a received word
module _ (p : Code) (y s : List ℕ) (is : Syndrome p y s) where
  taken : map (at s) (up_from 0 p.r) ≡ syndrome p y
  unfolding syndrome
  taken = map_same (at s) (syndrome_entry p y) (up_from 0 p.r) (λ k m. is k)

  -- the tests are those of decoding
  pub tests_same : (e z : List ℕ) → test_of false p s z e ≡ same_syndrome p y e
  unfolding has_syndrome same_syndrome
  tests_same e z = ap (same_word (syndrome p e)) taken

  pub tests_fit : ◌≡◌ {A = List ℕ → Bool} (test_of true p s y) (fits p y)
  unfolding has_syndrome same_syndrome fits
  tests_fit = ap (λ (x : List ℕ). λ (e : List ℕ). same_word (syndrome p e) x && nowhere_above e y && is_codeword p (subtract y e)) taken

  -- and so is what is found
  pub first_same : (z : List ℕ) (es : List (List ℕ)) → first (test_of false p s z) es ≡ first (same_syndrome p y) es
  unfolding has_syndrome same_syndrome
  first_same z es = ap (λ (x : List ℕ). first (λ (e : List ℕ). same_word (syndrome p e) x) es) taken

-- its entries are in their range
pub syndrome-range :
    (c : opened.Code) (y s : List ℕ) → length y ≡ c.n → Syndrome (viewed.code c) y s → SyndromeInRange (viewed.code c) s
syndrome-range c y s long is = record {
  below = λ i. subst (λ (v : ℕ). v < c.m) (sym (is i)) (syndrome-below (viewed.code c) (omega arith) y i);
  past = λ i h. is i ∙ entry_past (viewed.code c) y i c.size long (omega arith) (omega arith) h;
}

-- where no codeword is asked for, nothing is asked of a word
pub no_word : {X : Type 0} → ◌≡◌ {A = Bool} false true → X
no_word e = absurd (subst T (sym e) tt)

-- the test of a pattern by what its choices leave
module _ (a : Asked) (k : Risen) (rest : List ℕ) (left : Remains (viewed.code a.code) a.s k rest) where
  abbrev code : Code
  code = viewed.code a.code

  entry : (k' : Risen) → has_syndrome code a.s (word_of a.code.n k') ≡ true → (i : ℕ) → syndrome_entry code (word_of a.code.n k') i ≡ at a.s i
  entry k' e i = step (dec_lt i a.code.r)
    where
      m : 0 < a.code.m
      m = omega arith

      step : Dec (i < a.code.r) → syndrome_entry code (word_of a.code.n k') i ≡ at a.s i
      step (yes l) = has_each code a.s (word_of a.code.n k') e i l
      step (no l) =
          entry_past code (word_of a.code.n k') i a.code.size (length-word a.code.n k') (omega arith) m (omega arith)
          ∙ sym (a.past i (omega arith))

  -- no multiple of a cell's column that is not what remains
  pub misses :
      (c d : ℕ) → Chosen k 1 c → c < a.code.n → (((i : ℕ) → (d * column code i c) % a.code.m ≡ at rest i) → ⊥)
      → false ≡ test_for a (word_of a.code.n (added k c d))
  misses c d ch h n = test_not a.codeword code a.s a.word.now (word_of a.code.n (added k c d))
      (is_false (has_syndrome code a.s (word_of a.code.n (added k c d)))
      (λ t. n (λ i. column-only code a.s k rest left c d (added k c d) h raised i (entry (added k c d) (is_true _ t) i))))
    where
      raised : Raised k c d (added k c d)
      raised = chosen_plus k 1 c d ch (omega arith)

  -- nothing may remain
  module _ (b : Bool) (e : b ≡ all_zero rest) where
    first_cell : 0 < a.code.n
    first_cell = omega arith

    still : Raised k 0 0 k
    still j = sym (ap (λ (v : ℕ). magnitude_at k j + v) (of_none 0 j) ∙ add-zero (magnitude_at k j))

    none : (i : ℕ) → (0 * column code i 0) % a.code.m ≡ 0
    none i = ap (λ (v : ℕ). v % a.code.m) (zero-mul (column code i 0)) ∙ zero-mod a.code.m

    pub nothing_remains : b ≡ true → has_syndrome code a.s (word_of a.code.n k) ≡ true
    nothing_remains t =
        has_all code a.s (word_of a.code.n k)
        (λ i l. column_hit code a.s k rest left 0 0 k first_cell still i (none i ∙ sym (zeros-each rest (subst T (sym (sym e ∙ t)) tt) i)))

    pub something_remains : b ≡ false → false ≡ test_for a (word_of a.code.n k)
    something_remains t = test_not a.codeword code a.s a.word.now (word_of a.code.n k)
        (is_false (has_syndrome code a.s (word_of a.code.n k)) (λ same. subst T (sym e ∙ t) (each-zeros rest (zeros (is_true _ same)))))
      where
        zeros : has_syndrome code a.s (word_of a.code.n k) ≡ true → (i : ℕ) → at rest i ≡ 0
        zeros same i = sym (column-only code a.s k rest left 0 0 k first_cell still i (entry k same i)) ∙ none i

-- the test where a codeword is asked for, and where it is not
pub codeword_decides : (p : Code) (s y e : List ℕ) (b r : Bool) → b ≡ true → Syndrome p y s → r ≡ fits p y e → r ≡ test_of b p s y e
codeword_decides p s y e b r eb is er = rw eb (er ∙ sym (ap (λ (f : List ℕ → Bool). f e) (tests_fit p y s is)))

pub syndrome_decides : (p : Code) (s y e : List ℕ) (b : Bool) → b ≡ false → has_syndrome p s e ≡ true → true ≡ test_of b p s y e
syndrome_decides p s y e b eb er = rw eb (sym er)
