-- The operations on codes, for every byte string and every buffer: document 01's refusals in their order.
use Rattle.std.specs.Prelude.{Bool, ◌&&◌, not, List, ℕ, ◌+◌, ◌*◌, ◌-◌, eqb, leb, ltb, length}
use Rattle.definitions.specs.Words.{all_below}
use Rattle.definitions.specs.Answers.{Answer, given, Result, refuse◌when◌else◌, result, after}
use Rattle.definitions.specs.Codes.{Code, code_of, data_cells}
use Rattle.definitions.specs.Codewords.{is_codeword}
use Rattle.definitions.specs.Patterns.{pattern_count}
use Rattle.definitions.specs.Acceptance.{accepted}
use Rattle.definitions.specs.Decoding.{decode}
use Rattle.definitions.specs.Messages.{symbols_fit, encode, message}

abbrev pub between : ℕ → ℕ → ℕ → Bool
between a x b = leb a x && leb x b

-- document 01: ranges
unfoldable pub in_range : Code → Bool
in_range p =
    between 1 p.n 64
    && (leb p.r 12 && ltb p.r p.n)
    && between 2 p.q 64
    && between 2 p.M p.q
    && between 1 p.l (p.M - 1)
    && (leb p.t 3 && leb p.t p.n)

-- document 01: open a plan
unfoldable pub open_code : List ℕ → Answer Code
open_code b =
    refuse 1 when ltb (length b) 6 else
    refuse 2 when not (in_range (code_of b)) else
    refuse 3 when not (eqb (length b) (6 + (code_of b).r * data_cells (code_of b))) else
    refuse 4 when not (all_below (code_of b).M (code_of b).A) else
    refuse 5 when ltb 4096 (pattern_count (code_of b)) else
    given (code_of b)

-- document 01: test a plan
unfoldable pub test_code : List ℕ → Answer (Unit {0})
test_code b = after (open_code b) λ p. refuse 6 when not (accepted p) else given tt

-- document 01: write. Description, message, output buffer
unfoldable pub encode_code : List ℕ → List ℕ → List ℕ → Result (Unit {0})
encode_code b s out =
    result
    (after (open_code b) λ p.
    refuse 8 when not (eqb (length s) p.n && eqb (length out) p.n) else
    refuse 9 when not (symbols_fit p s) else
    given (tt, encode p s))
    out

-- document 01: read. Description, received word, output buffer; what is given is the count
unfoldable pub decode_code : List ℕ → List ℕ → List ℕ → Result ℕ
decode_code b y out =
    result
    (after (open_code b) λ p.
    refuse 8 when not (eqb (length y) p.n && eqb (length out) p.n) else
    refuse 10 when not (all_below p.q y) else
    decode p y)
    out

-- document 01: recover a message. Description, codeword, output buffer
unfoldable pub recover_code : List ℕ → List ℕ → List ℕ → Result (Unit {0})
recover_code b c out =
    result
    (after (open_code b) λ p.
    refuse 8 when not (eqb (length c) p.n && eqb (length out) p.n) else
    refuse 10 when not (all_below p.q c) else
    refuse 12 when not (is_codeword p c) else
    given (tt, message p c))
    out
