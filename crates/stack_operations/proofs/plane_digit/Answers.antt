use Rattle.std.proofs.Common.{◌∙◌, arith}
use Rattle.stack_operations.proofs.Encoding.{digit_front, digit_check}
use Rattle.opening.specs.Viewed.{code}
use Rattle.stack_operations.proofs.plane_digit.Goals as goal

pub returns-then-i-k : goal.returns-then-i-k
returns-then-i-k c = c.from.ensures ∙ digit_front (code c.args.code.now) c.args.symbols.now (omega arith) (omega arith) (omega arith) c.args.i c.if-i-k.true

pub returns : goal.returns
returns c =
    c.filling.ensures.0
    ∙ digit_check (code c.args.code.now) c.args.symbols.now (omega arith) (omega arith) (omega arith) c.args.i (omega arith) (omega arith)
