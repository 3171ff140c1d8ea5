-- Sizes that a caller needs before a call, since 8 asks for exact lengths: an addition to document 01's operations. Each is the size, or
-- the number that opening refuses with.
use Rattle.std.specs.Prelude.{not, List, ℕ}
use Rattle.definitions.specs.Answers.{Answer, given, refuse◌when◌else◌, after}
use Rattle.definitions.specs.Words.{at}
use Rattle.definitions.specs.CodeOperations.{open_code}
use Rattle.definitions.specs.Images.{body_of, reference_of, is_row, check_image}
use Rattle.definitions.specs.Packing.{byte_count}
use Rattle.definitions.specs.PackingOperations.{open_packable}
use Rattle.definitions.specs.StackMessages.{message_length}
use Rattle.definitions.specs.StackOperations.{open_stack}

-- the cells of a code, and the symbols of its message
unfoldable pub code_cells : List ℕ → Answer ℕ
code_cells b = after (open_code b) λ p. given p.n

unfoldable pub stack_cells : List ℕ → Answer ℕ
stack_cells b = after (open_stack b) λ S. given S.n

-- the digits of a stack's message
unfoldable pub stack_symbols : List ℕ → Answer ℕ
stack_symbols b = after (open_stack b) λ S. given (message_length S.planes)

-- the bytes of a code's packed message
unfoldable pub packed_bytes : List ℕ → Answer ℕ
packed_bytes b = after (open_packable b) λ p. given (byte_count p)

-- the cells of the plan or stack that row entry k of the image x refers to: both bodies begin with n
unfoldable pub row_cells : List ℕ → ℕ → Answer ℕ
row_cells x k =
    after (check_image x) λ u.
    refuse 2 when not (is_row x k) else
    given (at (body_of x (reference_of x k)) 0)
