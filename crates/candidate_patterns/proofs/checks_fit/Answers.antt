use Rattle.std.proofs.Common.{◌-◌, ◌<◌, ◌≤◌, refl, arith, rules, tests}
use Rattle.std.proofs.lemmas.Iterator.{cases_from_all, YieldsList-from_range}
use Rattle.definitions.specs.Words.{at}
use Rattle.definitions.proofs.Tests.{below_each}
use Rattle.candidate_patterns.specs.Candidates.{magnitude_at}
use Rattle.candidate_patterns.proofs.Fits.{checks_decide}
use Rattle.opening.specs.Viewed.{code}
use Rattle.candidate_patterns.proofs.checks_fit.Goals as goal

pub returns : goal.returns
returns c =
    let a = c.args.a.now in
    checks_decide (code a.code) a.word.now c.args.k (a.long c.requires.asked) (omega arith)
    (below_each a.code.q a.word.now (rw (a.levels c.requires.asked) tt)) c.requires.same c.requires.under _ c.requires.bound c.all.result
    (cases_from_all _ _ _ (λ i. at a.word.now i - magnitude_at c.args.k i < c.args.high) (λ i. c.args.high ≤ at a.word.now i - magnitude_at c.args.k i)
    c.all.ensures.ran (YieldsList-from_range _ _ _ refl refl) (λ i q k. search (rules, tests)) (λ i q k. search (rules, tests)))
