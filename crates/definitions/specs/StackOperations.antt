-- The operations on stacks, for every byte string and every buffer: document 01's refusals in their order.
use Rattle.std.specs.Prelude.{Bool, ◌&&◌, not, List, [], ◌∷◌, ℕ, zero, suc, ◌+◌, ◌*◌, ◌-◌, eqb, leb, ltb, length, take, drop}
use Rattle.definitions.specs.Words.{at, all_below}
use Rattle.definitions.specs.Answers.{Answer, given, Result, refuse◌when◌else◌, result, after}
use Rattle.definitions.specs.Codes.{Code}
use Rattle.definitions.specs.Patterns.{pattern_count}
use Rattle.definitions.specs.CodeOperations.{between}
use Rattle.definitions.specs.Stacks.{Stack, product, levels}
use Rattle.definitions.specs.StackCodewords.{is_stack_codeword, accepted_stack}
use Rattle.definitions.specs.StackDecoding.{decode_word}
use Rattle.definitions.specs.StackMessages.{message_length, digits_fit, stack_message, encode_word}

-- the plane at the head of the bytes left: c, r, t, then its matrix
abbrev pub plane_of : ℕ → List ℕ → Code
plane_of n b =
    record { n = n; r = at b 1; q = at b 0; M = at b 0; l = at b 0 - 1; t = at b 2; A = take (at b 1 * (n - at b 1)) (drop 3 b) }

-- document 01's ranges of a plane's c, r and t in a stack of n cells
abbrev pub plane_in_range : ℕ → ℕ → ℕ → ℕ → Bool
plane_in_range n c r t = between 2 c 64 && (leb r 12 && ltb r n) && (leb t 3 && leb t n)

unfoldable pub open_plane : ℕ → List ℕ → Answer Code
open_plane n b =
    refuse 1 when ltb (length b) 3 else
    refuse 2 when not (plane_in_range n (at b 0) (at b 1) (at b 2)) else
    refuse 3 when ltb (length b) (3 + at b 1 * (n - at b 1)) else
    refuse 4 when not (all_below (at b 0) (plane_of n b).A) else
    refuse 5 when ltb 4096 (pattern_count (plane_of n b)) else
    given (plane_of n b)

-- plane after plane; 3 bytes left over
unfoldable pub open_planes : ℕ → ℕ → List ℕ → Answer (List Code)
open_planes zero n b = refuse 3 when not (eqb (length b) 0) else given []
open_planes (suc m) n b =
    after (open_plane n b) λ p. after (open_planes m n (drop (3 + at b 1 * (n - at b 1)) b)) λ ps. given (p ∷ ps)

-- document 01's ranges of a stack's cells and planes
abbrev pub stack_in_range : ℕ → ℕ → Bool
stack_in_range n m = between 1 n 64 && between 1 m 6

-- document 01: open a stack
unfoldable pub open_stack : List ℕ → Answer Stack
open_stack b =
    refuse 1 when ltb (length b) 2 else
    refuse 2 when not (stack_in_range (at b 0) (at b 1)) else
    after (open_planes (at b 1) (at b 0) (drop 2 b)) λ ps.
    refuse 7 when ltb 64 (product ps) else
    given (record { n = at b 0; planes = ps })

-- document 01: test a stack
unfoldable pub test_stack : List ℕ → Answer (Unit {0})
test_stack b = after (open_stack b) λ S. refuse 6 when not (accepted_stack S) else given tt

-- document 01: write. Description, message, output buffer
unfoldable pub encode_stack : List ℕ → List ℕ → List ℕ → Result (Unit {0})
encode_stack b s out =
    result
    (after (open_stack b) λ S.
    refuse 8 when not (eqb (length s) (message_length S.planes) && eqb (length out) S.n) else
    refuse 9 when not (digits_fit S.planes s) else
    given (tt, encode_word S s))
    out

-- document 01: read. Description, received word, output buffer; what is given is the count
unfoldable pub decode_stack : List ℕ → List ℕ → List ℕ → Result ℕ
decode_stack b y out =
    result
    (after (open_stack b) λ S.
    refuse 8 when not (eqb (length y) S.n && eqb (length out) S.n) else
    refuse 10 when not (all_below (levels S) y) else
    decode_word S y)
    out

-- document 01: recover a message. Description, codeword, output buffer
unfoldable pub recover_stack : List ℕ → List ℕ → List ℕ → Result (Unit {0})
recover_stack b c out =
    result
    (after (open_stack b) λ S.
    refuse 8 when not (eqb (length c) S.n && eqb (length out) (message_length S.planes)) else
    refuse 10 when not (all_below (levels S) c) else
    refuse 12 when not (is_stack_codeword S c) else
    given (tt, stack_message S c))
    out
