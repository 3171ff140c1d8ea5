-- What the numbers that stand for an answer are.
use Rattle.std.specs.Prelude.{◌≡◌, ℕ, zero, suc}
use Rattle.definitions.specs.Answers.{Answer, given, refused, refused_at}
use Rattle.numbered_answers.specs.declared.Reading.{Reading}
use Rattle.numbered_answers.specs.declared.Size.{Size}
use Rattle.numbered_answers.specs.declared.Value.{Value}

-- 0, or the refusal's number
abbrev pub number_of : {A : Type 0} → Answer A → ℕ
number_of (given a) = 0
number_of (refused k) = k
number_of (refused_at k j) = k

-- the count, the size, the patterns tried or a message's number, or 0
abbrev pub count_of : Answer ℕ → ℕ
count_of (given k) = k
count_of (refused k) = 0
count_of (refused_at k j) = 0

-- the plane that a refusal adds, or 0
abbrev pub answer_plane : {A : Type 0} → Answer A → ℕ
answer_plane (given a) = 0
answer_plane (refused k) = 0
answer_plane (refused_at k j) = j

-- the numbers r stand for the answer of reading
pub record ReadNumbered (a : Answer ℕ) (r : Reading) : Type 0 where
  pub number_is : r.number ≡ number_of a
  pub count_is : r.count ≡ count_of a
  pub plane_is : r.plane ≡ answer_plane a

-- of a size
pub record SizeNumbered (a : Answer ℕ) (r : Size) : Type 0 where
  pub number_is : r.number ≡ number_of a
  pub size_is : r.size ≡ count_of a

-- of a message's number
pub record ValueNumbered (a : Answer ℕ) (r : Value) : Type 0 where
  pub number_is : r.number ≡ number_of a
  pub value_is : r.value ≡ count_of a

-- the answer that a number stands for: of a test, and of writing
abbrev pub answer_by : ℕ → Answer (Unit {0})
answer_by zero = given tt
answer_by (suc k) = refused (suc k)

-- and of reading, with the count, or of a message's number, with its value
abbrev pub count_by : ℕ → ℕ → Answer ℕ
count_by zero count = given count
count_by (suc k) count = refused (suc k)
