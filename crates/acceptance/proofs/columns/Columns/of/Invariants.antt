use Rattle.std.proofs.Common.{◌≡◌, [], ℕ, ◌<◌, length, slice_index_or}
use Rattle.definitions.specs.Words.{at}
use Rattle.opening.specs.Viewed.{code}
use Rattle.syndrome.specs.Columns.{column}
use Rattle.acceptance.proofs.columns.Columns.of.Given as goal

abbrev pub invariant-loop-cell : goal.invariant-loop-cell
invariant-loop-cell l = record {
  cells : length l.table ≡ 64;
  long : (c : ℕ) → c < l.cell → length (slice_index_or l.table c []) ≡ 16;
  entry : (c k : ℕ) → c < l.cell → at (slice_index_or l.table c []) k ≡ column (code l.code) k c;
}
