use Rattle.std.proofs.Common.{ℕ, ◌+◌, ◌%◌, rules}
use Rattle.byte_helpers.proofs.Entries.{past_too}
use Rattle.byte_helpers.proofs.add_entries.Goals as goal

pub returns-clause-entry : goal.returns-clause-entry
returns-clause-entry g c =
    past_too (λ (a : ℕ) (e : ℕ). (a + e) % c.args.m) g.row.N c.args.s.now c.args.column.now c.entrywise.result (search rules) c.told-s c.told-column
    (search rules) (λ i h. let r = c.entrywise.ensures.entry i h in search rules)
