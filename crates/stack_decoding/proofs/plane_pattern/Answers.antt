use Rattle.std.proofs.Common.{◌∙◌, ap, length}
use Rattle.definitions.specs.Patterns.{patterns_of}
use Rattle.definitions.specs.Decoding.{first, same_syndrome}
use Rattle.definitions.specs.StackDecoding.{first_with_syndrome}
use Rattle.candidate_patterns.proofs.Tests.{syndrome-range, first_same, no_word}
use Rattle.opening.specs.Viewed.{code}
use Rattle.stack_decoding.proofs.plane_pattern.Goals as goal

pub invariant_of-asked : goal.invariant_of-asked
invariant_of-asked c =
    let long = ap length c.deref.ensures.0 ∙ c.plane_digits-digits.ensures.long ∙ c.requires in
    let range = syndrome-range c.args.plane.now.code _ c.syndrome.result long c.syndrome.ensures in
    record { below = range.below; past = range.past; long = no_word; levels = no_word; is = no_word }

pub returns : goal.returns
unfolding first_with_syndrome
returns c =
    let p = code c.args.plane.now.code in
    c.first_pattern.ensures.found
    ∙ first_same p _ c.syndrome.result c.syndrome.ensures c.args.word.now (patterns_of p)
    ∙ ap (λ d. first (same_syndrome p d) (patterns_of p)) (c.deref.ensures.0 ∙ c.plane_digits-digits.ensures.digits)
