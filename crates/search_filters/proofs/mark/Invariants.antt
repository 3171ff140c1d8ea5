use Rattle.std.proofs.Common.{◌≡◌, ℕ, length}
use Rattle.definitions.specs.Words.{at}
use Rattle.search_filters.specs.Filters.{times_of, Marked}
use Rattle.search_filters.proofs.mark.Given as goal

-- the multiples so far are marked
abbrev pub invariant-loop : goal.invariant-loop
invariant-loop l = (length l.last ≡ 4096) × ((i : ℕ) → at l.s i ≡ times_of l.m (at l.column) l.counter i)
    × Marked (at l.column) l.m l.cell l.counter l.initial.last l.last
