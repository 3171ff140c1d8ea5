-- From the operations' equations to what is demanded of their answers and of what the buffer holds at exit.
use Rattle.std.proofs.Common.{◌≡◌, List, ℕ, sym, subst}
use Rattle.definitions.specs.Answers.{Answer, Result}
use Rattle.definitions.specs.MessageNumberOperations.{message_of_number, number_of_message, MessageMade, NumberMade}
use Rattle.answers.specs.Answering.{leaves}
use Rattle.code_theorems.proofs.MessageNumbers.{message_demand, number_demand}
use Rattle.message_numbers.specs.Numbering.{WhereNumber, WhereMessage}

pub message_made :
    (b : List ℕ) (x : ℕ) (lent out : List ℕ) (a : Answer (Unit {0})) → leaves a out ≡ message_of_number b x lent
    → WhereNumber b x lent (λ p. MessageMade b p x a out)
message_made b x lent out a e p opens within below long =
    subst (λ (r : Result (Unit {0})). MessageMade b p x r.answer r.out) (sym e) (message_demand b p opens within x lent below long)

pub number_made : (b s : List ℕ) (a : Answer ℕ) → a ≡ number_of_message b s → WhereMessage b s (λ p. NumberMade b p s a)
number_made b s a e p opens within m = subst (NumberMade b p s) (sym e) (number_demand b p opens within s m)
