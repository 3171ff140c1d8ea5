use Rattle.std.proofs.Common.{◌∙◌, ap, map, length, arith}
use Rattle.definitions.specs.Acceptance.{all_different}
use Rattle.acceptance.specs.Keys.{word_of}
use Rattle.opening.specs.Viewed.{code}
use Rattle.acceptance.proofs.Accepted.{length-syndromes, keys-accepted}
use Rattle.acceptance.proofs.is_accepted.Goals as goal

-- The keys of the syndromes of all patterns are all different exactly when the code is accepted.

pub list_patterns-requires : goal.list_patterns-requires
list_patterns-requires c = omega (arith, length-syndromes (code c.of.result.code), c.of.result.code.few, ap length c.new-listed.ensures)

pub returns : goal.returns
returns c =
    rw (← c.of.ensures)
    (c.all_different.ensures
    ∙ ap (λ l. all_different (map word_of l)) c.deref.ensures.0
    ∙ keys-accepted c.of.result.code _ _ c.list_patterns.ensures c.new-listed.ensures)
