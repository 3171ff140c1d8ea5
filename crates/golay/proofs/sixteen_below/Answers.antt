use Rattle.golay.proofs.Levels.{lanes_below}
use Rattle.golay.proofs.sixteen_below.Goals as goal

pub returns : goal.returns
returns c = lanes_below c.args.q c.args.word.now c.args.first c.told-word c.requires
