use Rattle.std.proofs.Common.{rules}
use Rattle.search_filters.specs.Filters.{less_modulo}
use Rattle.byte_helpers.proofs.Entries.{past_too}
use Rattle.search_filters.proofs.lowered.Goals as goal

pub returns : goal.returns
returns c =
    past_too (less_modulo c.args.m) 12 c.args.rest c.args.column c.entrywise.result (search rules) (search rules) (search rules) (search rules)
    (λ i h. let r = c.entrywise.ensures.entry i h in search rules)
