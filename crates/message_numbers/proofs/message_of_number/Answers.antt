use Rattle.std.proofs.Common.{rules}
use Rattle.definitions.specs.MessageNumberOperations.{message_of_number}
use Rattle.message_numbers.proofs.Operations.{message_made}
use Rattle.message_numbers.proofs.message_of_number.Goals as goal

pub returns-in_default-clause-made : goal.returns-in_default-clause-made
unfolding message_of_number
returns-in_default-clause-made c = message_made c.args.body.now c.args.x c.args.out.now _ _ (search rules)

pub returns-then-numbered-x-clause-made : goal.returns-then-numbered-x-clause-made
unfolding message_of_number
returns-then-numbered-x-clause-made c = message_made c.args.body.now c.args.x c.args.out.now _ _ (search rules)

pub returns-clause-made : goal.returns-clause-made
unfolding message_of_number
returns-clause-made c = message_made c.args.body.now c.args.x c.args.out.now _ _ (search rules)
