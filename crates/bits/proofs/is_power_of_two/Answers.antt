use Rattle.definitions.specs.PowersOfTwo.{is_power_of_two}
use Rattle.bits.proofs.is_power_of_two.Goals as goal

pub returns : goal.returns
unfolding is_power_of_two
returns c = rw (c.power.ensures.0, c.log2.ensures.0)
