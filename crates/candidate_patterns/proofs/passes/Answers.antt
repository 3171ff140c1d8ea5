use Rattle.std.proofs.Common.{sym, ◌∙◌}
use Rattle.candidate_patterns.specs.Candidates.{word_of}
use Rattle.candidate_patterns.proofs.Tests.{tests_same, codeword_decides, syndrome_decides}
use Rattle.opening.specs.Viewed.{code}
use Rattle.candidate_patterns.proofs.Tests.{nothing_remains, something_remains}
use Rattle.candidate_patterns.proofs.passes.Goals as goal

pub returns-then-not-is_zero : goal.returns-then-not-is_zero
returns-then-not-is_zero c = something_remains c.args.a.now c.args.k c.args.rest.now c.requires _ c.is_zero.ensures c.if-not-is_zero.true

pub leaves_codeword-requires-clause-same : goal.leaves_codeword-requires-clause-same
leaves_codeword-requires-clause-same c =
    let a = c.args.a.now in
    let e = word_of a.code.n c.args.k in
    sym (tests_same (code a.code) a.word.now a.s (a.is c.if-a.true) e a.word.now)
    ∙ nothing_remains a c.args.k c.args.rest.now c.requires _ c.is_zero.ensures c.if-not-is_zero.false

pub returns-then-a : goal.returns-then-a
returns-then-a c =
    let a = c.args.a.now in
    codeword_decides (code a.code) a.s a.word.now (word_of a.code.n c.args.k) _ _ c.if-a.true (a.is c.if-a.true) c.leaves_codeword.ensures

pub returns : goal.returns
returns c =
    let a = c.args.a.now in
    syndrome_decides (code a.code) a.s a.word.now (word_of a.code.n c.args.k) _ c.if-a.false
    (nothing_remains a c.args.k c.args.rest.now c.requires _ c.is_zero.ensures c.if-not-is_zero.false)
