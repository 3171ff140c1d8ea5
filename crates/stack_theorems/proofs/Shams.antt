-- Operations on stacks that answer wrongly do not meet the demands. Witnesses: S, the words 5 5 4 and 0 1 7, and the message 1 0 1.
use mathlib.Core.Path.{◌≡◌, refl, sym, ap, ◌∙◌}
use mathlib.Core.List.{List, [], ◌∷◌}
use mathlib.Core.Option.{some, none-ne-some}
use Prim.Native.Nat.{ℕ}
use native.Mathlib.Omega.{arith}
use Rattle.definitions.specs.Answers.{Answer, given, refused, refused_at, number}
use Rattle.definitions.specs.Codes.{Code}
use Rattle.definitions.specs.Codewords.{syndrome_entry, syndrome, is_codeword}
use Rattle.definitions.specs.Patterns.{patterns_of, pattern_count}
use Rattle.definitions.specs.Acceptance.{accepted}
use Rattle.definitions.specs.Decoding.{same_syndrome}
use Rattle.definitions.specs.Stacks.{Stack, levels, digits}
use Rattle.definitions.specs.StackCodewords.{StackCodeword, is_stack_codeword, AcceptedStack, accepted_stack}
use Rattle.definitions.specs.StackDecoding.{first_with_syndrome, lowered, decode_planes, decode_word}
use Rattle.definitions.specs.StackMessages.{stack_message}
use Rattle.definitions.specs.StackOperations.{open_plane, open_planes, open_stack, decode_stack}
use Rattle.definitions.specs.Demands.{of_stack, Tested, OneCodeword, Recovered, DistanceDecides, GivenWithinReach, KeepsMessages, WithinReach}
use Rattle.definitions.specs.Examples.{S, K, lent, zeros}
use Rattle.stack_theorems.proofs.Opened.{stack_acceptance}
use Rattle.stack_theorems.proofs.Codewords.{stack_codeword_test}
use Rattle.stack_theorems.proofs.Demands.{decode_demand}

abbrev plane : Code
plane = record { n = 3; r = 2; q = 2; M = 2; l = 1; t = 1; A = 1 ∷ 1 ∷ [] }

abbrev pub stack : Stack
stack = record { n = 3; planes = plane ∷ plane ∷ plane ∷ [] }

pub opens : open_stack S ≡ given stack
unfolding S open_stack open_planes open_plane pattern_count
opens = refl

fit : AcceptedStack stack
unfolding accepted_stack accepted patterns_of syndrome syndrome_entry
fit = (stack_acceptance stack).0 tt

-- what was read, the codeword within its reach, and the message that the codeword carries
abbrev read : List ℕ
read = 5 ∷ 5 ∷ 4 ∷ []

abbrev written : List ℕ
written = 5 ∷ 5 ∷ 5 ∷ []

abbrev carried : List ℕ
carried = 1 ∷ 0 ∷ 1 ∷ []

codeword : StackCodeword stack written
unfolding is_stack_codeword is_codeword syndrome syndrome_entry
codeword = (stack_codeword_test stack written).0 tt

near : WithinReach (of_stack stack) read written
near = (codeword, omega arith)

itself : WithinReach (of_stack stack) written written
itself = (codeword, omega arith)

-- two cells changed, and in each plane one digit
two_changed : WithinReach (of_stack stack) (0 ∷ 1 ∷ 7 ∷ []) (7 ∷ 7 ∷ 7 ∷ [])
unfolding is_stack_codeword is_codeword syndrome syndrome_entry
two_changed = ((stack_codeword_test stack (7 ∷ 7 ∷ 7 ∷ [])).0 tt, omega arith)

-- the stack of example k, and a word beyond the reach of its codewords
abbrev single : Stack
single = record { n = 2; planes = record { n = 2; r = 1; q = 2; M = 2; l = 1; t = 0; A = 1 ∷ [] } ∷ [] }

abbrev beyond : List ℕ
beyond = 0 ∷ 1 ∷ []

single_opens : open_stack K ≡ given single
unfolding K open_stack open_planes open_plane pattern_count
single_opens = refl

single_fit : AcceptedStack single
unfolding accepted_stack accepted patterns_of syndrome syndrome_entry
single_fit = (stack_acceptance single).0 tt

refused_11 : number (decode_stack K beyond (lent 2)).answer ≡ some 11
unfolding
    K open_stack open_planes open_plane pattern_count decode_stack decode_word decode_planes first_with_syndrome same_syndrome patterns_of syndrome
    syndrome_entry
refused_11 = refl

-- an answer with a number gives nothing
nothing : {A : Type 0} (answer : Answer A) (k : ℕ) (a : A) → number answer ≡ some k → answer ≡ given a → ⊥
nothing answer k a n e = none-ne-some k (sym (ap number e) ∙ n)

-- a test that finds every stack unfit
pub always_unfit : Tested (AcceptedStack stack) (refused 6) → ⊥
always_unfit h = nothing (refused 6) 6 tt refl (h.fit.1 fit)

-- a reader that reports no codeword before it tries a pattern, even the empty one
pub before_trying : (out : List ℕ) → DistanceDecides (of_stack stack) written (refused_at 11 0) out → ⊥
before_trying out h = nothing (refused_at 11 0) 11 0 refl (h.count written itself)

-- a reader that always refuses, with a plane's number or without
pub always_refuses : (answer : Answer ℕ) (k : ℕ) (out : List ℕ) → number answer ≡ some k → DistanceDecides (of_stack stack) read answer out → ⊥
always_refuses answer k out n h = nothing answer k 1 n (h.count written near)

-- a reader that decodes plane 0 alone and passes the rest through; so does one that takes all planes' digits from the levels first read
pub found_in_plane_0 : first_with_syndrome plane (digits 1 2 read) ≡ some (0 ∷ 0 ∷ 1 ∷ [])
unfolding first_with_syndrome same_syndrome patterns_of syndrome syndrome_entry
found_in_plane_0 = refl

pub plane_0_alone : (k : ℕ) → DistanceDecides (of_stack stack) read (given k) (lowered (levels stack) 1 read (0 ∷ 0 ∷ 1 ∷ [])) → ⊥
plane_0_alone k h = let e = h.back written near in let z : ◌≡◌ {A = ℕ} 3 5 = cc in omega arith

-- a reader that limits the changed cells to a plane's t
pub limits_cells : (answer : Answer ℕ) (k : ℕ) (out : List ℕ) → number answer ≡ some k → DistanceDecides (of_stack stack) (0 ∷ 1 ∷ 7 ∷ []) answer out → ⊥
limits_cells answer k out n h = nothing answer k 2 n (h.count (7 ∷ 7 ∷ 7 ∷ []) two_changed)

-- a reader that refuses a word by another number where no codeword is within reach
pub other-number : (k j : ℕ) (out : List ℕ) → (k ≡ 11 → ⊥) → DistanceDecides (of_stack single) beyond (refused_at k j) out → ⊥
other-number k j out other h =
    let none = (decode_demand K single single_opens beyond (lent 2) refl refl (omega arith) single_fit).other.1 refused_11 in
    let e : some k ≡ some 11 = h.other.0 none in
    other (cc)

-- an invented count
pub invented_count : (k : ℕ) (out : List ℕ) → (k ≡ 1 → ⊥) → DistanceDecides (of_stack stack) read (given k) out → ⊥
invented_count k out other h = let e : ◌≡◌ {A = Answer ℕ} (given k) (given 1) = h.count written near in other (cc)

-- a count of digits instead of cells: one cell changed, its digits in two planes
one_changed : WithinReach (of_stack stack) (2 ∷ 7 ∷ 7 ∷ []) (7 ∷ 7 ∷ 7 ∷ [])
unfolding is_stack_codeword is_codeword syndrome syndrome_entry
one_changed = ((stack_codeword_test stack (7 ∷ 7 ∷ 7 ∷ [])).0 tt, omega arith)

pub digits_counted : (out : List ℕ) → DistanceDecides (of_stack stack) (2 ∷ 7 ∷ 7 ∷ []) (given 2) out → ⊥
digits_counted out h =
    let e : ◌≡◌ {A = Answer ℕ} (given 2) (given 1) = h.count (7 ∷ 7 ∷ 7 ∷ []) one_changed in
    let z : ◌≡◌ {A = ℕ} 2 1 = cc in
    omega arith

-- a writer that emits one fixed codeword
pub fixed_codeword : OneCodeword (of_stack stack) carried (given tt) (zeros 3) → ⊥
unfolding stack_message
fixed_codeword h = let e = h.carries in let z : ◌≡◌ {A = ℕ} 0 1 = cc in omega arith

-- a writer that leaves its buffer as lent
pub silent_writer : OneCodeword (of_stack stack) carried (given tt) (lent 3) → ⊥
silent_writer h = let b = h.codeword.bounded.0 in omega arith

-- a recovery that leaves its buffer as lent
pub silent_recovery : Recovered (of_stack stack) written (given tt) (lent 3) → ⊥
silent_recovery h = let b = h.is_message.below.0.0 in omega arith

-- a reader that gives a word back as it was read, though it is no codeword
pub word_as_read : (k : ℕ) → GivenWithinReach (of_stack stack) read (given k) read → ⊥
unfolding syndrome_entry
word_as_read k h = let (w, _) = h k refl in let e = w.0.planes.0.zero 1 (omega arith) in omega arith

-- a reader that refuses a codeword
pub refuses_codeword : (k j : ℕ) (out : List ℕ) → KeepsMessages (of_stack stack) written (refused_at k j) out → ⊥
refuses_codeword k j out h = nothing (refused_at k j) k 0 refl (h.still codeword).0
