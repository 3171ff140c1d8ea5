-- What the operations of codes and stacks share, over what differs.
use Rattle.std.specs.Prelude.{◌≡◌, Bool, true, ◌&&◌, not, List, ℕ, ◌<◌, eqb, length}
use Rattle.definitions.specs.Words.{all_below, EachCell}
use Rattle.definitions.specs.Answers.{Answer, given, Result, refuse◌when◌else◌, result}
use Rattle.definitions.specs.Demands.{Coding}

-- test, of an opened code or stack
abbrev pub testing_by : Bool → Answer (Unit {0})
testing_by accepts = refuse 6 when not accepts else given tt

-- encode, of an opened code or stack
unfoldable pub encoding_by : ℕ → ℕ → (List ℕ → Bool) → (List ℕ → List ℕ) → List ℕ → List ℕ → Result (Unit {0})
encoding_by symbols cells fits encoded s out =
    result
    (refuse 8 when not (eqb (length s) symbols && eqb (length out) cells) else
    refuse 9 when not (fits s) else
    given (tt, encoded s))
    out

-- decode, of an opened code or stack
unfoldable pub decoding_by : ℕ → ℕ → (List ℕ → Answer (ℕ × List ℕ)) → List ℕ → List ℕ → Result ℕ
decoding_by cells levels decoded y out =
    result
    (refuse 8 when not (eqb (length y) cells && eqb (length out) cells) else
    refuse 10 when not (all_below levels y) else
    decoded y)
    out

-- recover, of an opened code or stack
unfoldable pub recovering_by : ℕ → ℕ → ℕ → (List ℕ → Bool) → (List ℕ → List ℕ) → List ℕ → List ℕ → Result (Unit {0})
recovering_by cells symbols levels passes carried c out =
    result
    (refuse 8 when not (eqb (length c) cells && eqb (length out) symbols) else
    refuse 10 when not (all_below levels c) else
    refuse 12 when not (passes c) else
    given (tt, carried c))
    out

-- a codeword passes the tests of recovery
pub record Passes (K : Coding) (cells levels : ℕ) (passes : List ℕ → Bool) : Type 0 where
  pub long : (c : List ℕ) → K.codeword c → length c ≡ cells
  pub below : (c : List ℕ) → K.codeword c → all_below levels c ≡ true
  pub passed : (c : List ℕ) → K.codeword c → passes c ≡ true

-- for a word of as many levels, each below the bound, with an output buffer of as many cells
abbrev pub WhereReads : ℕ → ℕ → List ℕ → List ℕ → Type 0 → Type 0
WhereReads cells levels y out Q = length y ≡ cells → length out ≡ cells → EachCell (λ v. v < levels) y → Q

-- of what is given for each such word
abbrev pub EachReading : ℕ → ℕ → (List ℕ → Answer (ℕ × List ℕ)) → (List ℕ → Answer ℕ → List ℕ → Type 0) → Type 0
EachReading cells levels decoded P =
    (y out : List ℕ) → length y ≡ cells → EachCell (λ v. v < levels) y → P y (result (decoded y) out).answer (result (decoded y) out).out
