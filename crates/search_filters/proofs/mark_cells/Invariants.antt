use Rattle.std.proofs.Common.{◌≡◌, ℕ, ◌≤◌, length}
use Rattle.definitions.specs.Words.{at}
use Rattle.opening.specs.Viewed.{code}
use Rattle.search_filters.proofs.Marks.{MarkedBefore}
use Rattle.search_filters.proofs.mark_cells.Given as goal

abbrev pub invariant-loop-c : goal.invariant-loop-c
invariant-loop-c l = ((h : ℕ) → at l.last h ≤ l.c) × MarkedBefore (code l.code) l.c l.last × (length l.last ≡ 4096)
