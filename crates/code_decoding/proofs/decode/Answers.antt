use Rattle.std.proofs.Common.{ℕ, ap, ◌∙◌}
use Rattle.definitions.specs.Words.{subtract}
use Rattle.opening.specs.Viewed.{code}
use Rattle.candidate_patterns.specs.Candidates.{word_of}
use Rattle.candidate_patterns.proofs.Tests.{syndrome-range}
use Rattle.code_decoding.proofs.Decoding.{when_found, when_nothing}
use Rattle.code_decoding.proofs.decode.Goals as goal

pub invariant_of-asked : goal.invariant_of-asked
invariant_of-asked c =
    let range = syndrome-range c.args.code.now c.args.word.now c.syndrome.result c.requires.long c.syndrome.ensures in
    record {
      below = range.below;
      past = range.past;
      long = λ _. c.requires.long;
      levels = λ _. c.requires.below;
      is = λ _. c.syndrome.ensures;
    }

pub returns : goal.returns
returns c =
    let y = c.args.word.now in
    let x = c.in-Some.pattern in
    let (decoded, tried) =
    when_found (code c.args.code.now) y c.syndrome.result c.args.out.now c.syndrome.ensures x c.in-Some.ensures.found c.in-Some.ensures.counts in
    let out = c.store_decoded.ensures ∙ ap (λ (n : ℕ). subtract y (word_of n x.risen)) c.requires.long in
    record { decoded = rw out decoded; tried = tried }

pub returns-in_default-clause-decoded : goal.returns-in_default-clause-decoded
returns-in_default-clause-decoded c =
    when_nothing (code c.args.code.now) c.args.word.now c.syndrome.result c.args.out.now c.syndrome.ensures c.in_default.ensures.found
