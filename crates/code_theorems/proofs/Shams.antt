-- Operations on codes that answer wrongly do not meet the demands. Witnesses: R, the words 4 5 3 2 1 and
-- 0 1 1 1 1, and the message 3 2 1 0 0.
use mathlib.Core.Path.{◌≡◌, refl, sym, ap, ◌∙◌, subst}
use mathlib.Core.List.{List, [], ◌∷◌}
use mathlib.Core.Option.{some}
use Prim.Native.Nat.{ℕ, ◌-◌, ◌≤◌}
use native.Mathlib.Omega.{arith}
use lib.Dec.{lit≤}
use Rattle.definitions.specs.Words.{subtract, weight}
use Rattle.definitions.specs.Answers.{Answer, given, refused, number}
use Rattle.definitions.specs.Codes.{Code, code_of}
use Rattle.definitions.specs.Codewords.{syndrome_entry, syndrome, Codeword, is_codeword}
use Rattle.definitions.specs.Patterns.{patterns_of, pattern_count, Pattern}
use Rattle.definitions.specs.Acceptance.{Accepted, accepted}
use Rattle.definitions.specs.Decoding.{same_syndrome, fits, decode}
use Rattle.definitions.specs.Messages.{message}
use Rattle.definitions.specs.CodeOperations.{in_range, open_code, decode_code}
use Rattle.definitions.specs.Demands.{of_code, Tested, OneCodeword, Recovered, DistanceDecides, SomeCodeword, KeepsMessages, WithinReach}
use Rattle.definitions.specs.Tried.{place_of, GivenPattern, PatternsBefore, GivenAt, TriedIsPlace}
use Rattle.definitions.specs.Examples.{R, lent, zeros}
use Rattle.word_laws.proofs.Subtraction.{subtract-back}
use Rattle.code_theorems.proofs.Codewords.{test_codeword}
use Rattle.code_theorems.proofs.Acceptance.{acceptance}
use Rattle.code_theorems.proofs.Demands.{decode_demand}
use Rattle.code_theorems.proofs.Tried.{patterns-before, one_number}

pub code : Code
code = code_of R

-- what was read, the codeword within its reach, and the message that the codeword carries
abbrev read : List ℕ
read = 4 ∷ 5 ∷ 3 ∷ 2 ∷ 1 ∷ []

abbrev written : List ℕ
written = 3 ∷ 5 ∷ 3 ∷ 1 ∷ 1 ∷ []

abbrev carried : List ℕ
carried = 3 ∷ 2 ∷ 1 ∷ 0 ∷ 0 ∷ []

fit : Accepted code
unfolding code R accepted patterns_of syndrome syndrome_entry
fit = (acceptance (code_of R)).0 tt

codeword : Codeword code written
unfolding code R is_codeword syndrome syndrome_entry
codeword = test_codeword (code_of R) written tt

near : WithinReach (of_code code) read written
unfolding code R
near = (codeword, record { cells = omega arith; few = lit≤ tt })

itself : WithinReach (of_code code) written written
unfolding code R
itself = (codeword, record { cells = omega arith; few = lit≤ tt })

-- a word beyond the reach of every codeword (example d)
abbrev beyond : List ℕ
beyond = 0 ∷ 1 ∷ 1 ∷ 1 ∷ 1 ∷ []

opens : open_code R ≡ given (code_of R)
unfolding R open_code in_range pattern_count
opens = refl

refused_11 : number (decode_code R beyond (lent 5)).answer ≡ some 11
unfolding R open_code in_range pattern_count decode_code decode fits same_syndrome patterns_of is_codeword syndrome syndrome_entry
refused_11 = refl

differ : {A : Type 0} {k : ℕ} {a : A} → refused k ≡ given a → ⊥
differ e = let z : ◌≡◌ {A = ℕ} 0 1 = cc in omega arith

-- a test that finds every code unfit
pub always_unfit : Tested (Accepted code) (refused 6) → ⊥
always_unfit h = differ (h.fit.1 fit)

-- a reader that reports no codeword before it tries a pattern, even the empty one
pub before_trying : (out : List ℕ) → DistanceDecides (of_code code) written (refused 11) out → ⊥
before_trying out h = differ (h.count written itself)

-- a reader that always refuses
pub always_refuses : (k : ℕ) (out : List ℕ) → DistanceDecides (of_code code) read (refused k) out → ⊥
always_refuses k out h = differ (h.count written near)

-- a reader that refuses a word by another number where no codeword is within reach
pub other-number : (k : ℕ) (out : List ℕ) → (k ≡ 11 → ⊥) → DistanceDecides (of_code code) beyond (refused k) out → ⊥
unfolding code R
other-number k out other h =
    let none = (decode_demand R (code_of R) opens beyond (lent 5) refl refl (omega arith) fit).other.1 refused_11 in
    let e : some k ≡ some 11 = h.other.0 none in
    other (cc)

-- an invented count
pub invented_count : (k : ℕ) (out : List ℕ) → (k ≡ 2 → ⊥) → DistanceDecides (of_code code) read (given k) out → ⊥
invented_count k out other h = let e : ◌≡◌ {A = Answer ℕ} (given k) (given 2) = h.count written near in other (cc)

-- the pattern by which 4 5 3 2 1 is given back
abbrev risen : List ℕ
risen = 1 ∷ 0 ∷ 0 ∷ 1 ∷ 0 ∷ []

risen_pattern : Pattern code risen
unfolding code R
risen_pattern = record { long = refl; each = omega arith; few = lit≤ tt }

risen_given : GivenPattern code read written risen
risen_given = record { is_pattern = risen_pattern; nowhere_above = omega arith; leaves = refl }

-- a reader that reports another number of patterns tried: 1 0 0 1 0 is at place 9
pub other_place : (k : ℕ) → (k ≡ 9 → ⊥) → TriedIsPlace code read (given k) written → ⊥
unfolding code R place_of patterns_of
other_place k other h = let g = h k refl in other (g.place ∙ ap (place_of code) (sym (g.only risen risen_given)))

-- and, in words of the order alone, another number of patterns before it than 8
pub other-number-before : (k : ℕ) → (k - 1 ≡ 8 → ⊥) → TriedIsPlace code read (given k) written → ⊥
unfolding code R place_of patterns_of
other-number-before k other h =
    let g = h k refl in
    let b = subst (λ (e : List ℕ). PatternsBefore code e (k - 1)) (sym (g.only risen risen_given)) g.before in
    other (one_number code risen (k - 1) 8 b (patterns-before code risen risen_pattern))

-- the pattern by which a word y is given back as x
given-pattern : (y x : List ℕ) (k : ℕ) (h : GivenAt code y x k) → h.pattern ≡ subtract y x
given-pattern y x k h =
    sym (subtract-back y h.pattern h.subtracted.nowhere_above) ∙ ap (subtract y) h.subtracted.leaves

-- a reader that lowers three cells, where a pattern of R raises at most two
pub no_pattern : (k : ℕ) → TriedIsPlace code (1 ∷ 1 ∷ 1 ∷ 0 ∷ 0 ∷ []) (given k) (zeros 5) → ⊥
unfolding code R
no_pattern k h =
    let g = h k refl in
    let w : weight g.pattern ≡ 3 = ap weight (given-pattern (1 ∷ 1 ∷ 1 ∷ 0 ∷ 0 ∷ []) (zeros 5) k g) in
    let f : weight g.pattern ≤ 2 = g.subtracted.is_pattern.few in
    omega arith

-- a reader that reports another number than 1 for the empty pattern; 0 patterns tried; more than R's 16
pub empty_not_1 : (k : ℕ) → (k ≡ 1 → ⊥) → TriedIsPlace code written (given k) written → ⊥
empty_not_1 k other h = let g = h k refl in other (g.empty (ap weight (given-pattern written written k g)))

pub none_tried : (y x : List ℕ) → TriedIsPlace code y (given 0) x → ⊥
none_tried y x h = omega (arith, (h 0 refl).least)

pub more_than_all : (y x : List ℕ) → TriedIsPlace code y (given 17) x → ⊥
unfolding code R pattern_count
more_than_all y x h = let l = (h 17 refl).most in omega arith

-- a writer that emits one fixed codeword
pub fixed_codeword : OneCodeword (of_code code) carried (given tt) (zeros 5) → ⊥
unfolding code R message
fixed_codeword h = let e = h.carries in let z : ◌≡◌ {A = ℕ} 0 3 = cc in omega arith

-- a writer that leaves its buffer as lent
pub silent_writer : OneCodeword (of_code code) carried (given tt) (lent 5) → ⊥
unfolding code R
silent_writer h = let b = h.codeword.levels.0 in omega arith

-- a recovery that leaves its buffer as lent
pub silent_recovery : Recovered (of_code code) written (given tt) (lent 5) → ⊥
unfolding code R
silent_recovery h = let b = h.is_message.levels.0 in omega arith

-- readers that refuse a word although a codeword is within its reach, or a codeword itself
pub refuses_within_reach : (out : List ℕ) → SomeCodeword (of_code code) read (refused 11) out → ⊥
refuses_within_reach out h = h.other.1 refl written near

pub refuses_codeword : (k : ℕ) (out : List ℕ) → KeepsMessages (of_code code) written (refused k) out → ⊥
refuses_codeword k out h = differ (h.still codeword).0
