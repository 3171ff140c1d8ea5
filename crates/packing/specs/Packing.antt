-- The operations of a code that opens and can be packed, and what their clauses suppose.
use Rattle.std.specs.Prelude.{◌≡◌, ◌&&◌, not, List, ℕ, eqb, length}
use Rattle.definitions.specs.Answers.{given, Result, refuse◌when◌else◌, result}
use Rattle.definitions.specs.Codes.{Code}
use Rattle.definitions.specs.Messages.{Message, symbols_fit}
use Rattle.definitions.specs.Packing.{byte_count, pack, unpack, leftover_set}
use Rattle.definitions.specs.PackingOperations.{open_packable}

unfoldable pub packing : Code → List ℕ → List ℕ → Result (Unit {0})
packing p s out =
    result
    (refuse 8 when not (eqb (length s) p.n && eqb (length out) (byte_count p)) else
    refuse 9 when not (symbols_fit p s) else
    given (tt, pack p s))
    out

unfoldable pub unpacking : Code → List ℕ → List ℕ → Result (Unit {0})
unpacking p bytes out =
    result
    (refuse 8 when not (eqb (length bytes) (byte_count p) && eqb (length out) p.n) else
    refuse 19 when leftover_set p bytes else
    given (tt, unpack p bytes))
    out

-- for a code that opens and can be packed, a message that can be written, and an output buffer of its length
abbrev pub WherePacked : List ℕ → List ℕ → List ℕ → (Code → Type 0) → Type 0
WherePacked b s out Q = (p : Code) → open_packable b ≡ given p → Message p s → length out ≡ byte_count p → Q p

-- and for bytes and an output buffer of their lengths
abbrev pub WhereUnpacked : List ℕ → List ℕ → List ℕ → (Code → Type 0) → Type 0
WhereUnpacked b bytes out Q = (p : Code) → open_packable b ≡ given p → length bytes ≡ byte_count p → length out ≡ p.n → Q p
