use Rattle.std.proofs.Common.{sym, ◌∙◌}
use Rattle.labeling.proofs.Making.{made_permuted}
use Rattle.labeling.proofs.make_labels.Goals as goal

pub returns-clause-permutation : goal.returns-clause-permutation
returns-clause-permutation c given = made_permuted _ _ _ c.store_labels.ensures (sym c.lacks_power.ensures ∙ c.if-lacks_power.false)
