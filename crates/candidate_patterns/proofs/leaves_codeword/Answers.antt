use Rattle.std.proofs.Common.{◌≡◌, true, false, ◌∙◌, arith, rules, tests}
use Rattle.std.proofs.lemmas.Iterator.{cases_from_any, YieldsList-from_slice}
use borrow.Author.Tests.{eq-eqb}
use Rattle.definitions.proofs.Tests.{below_each}
use Rattle.opening.specs.Viewed.{code}
use Rattle.candidate_patterns.proofs.Fits.{is_above_at, Above, chosen_above, chosen_under, no_ceiling}
use Rattle.candidate_patterns.proofs.leaves_codeword.Goals.{After-any}
use Rattle.candidate_patterns.proofs.leaves_codeword.Goals as goal

above : (c : After-any) → Above (code c.args.a.now.code) c.args.a.now.word.now c.args.k (c.args.a.now.long c.requires.asked) c.any.result
above c =
    let tested = is_above_at c.args.a.now.word.now c.args.k in
    cases_from_any _ _ _ (λ r. tested r.cell ≡ true) (λ r. tested r.cell ≡ false) c.any.ensures.ran (YieldsList-from_slice c.args.k.rises cc)
    (λ x q k. search (rules, tests)) (λ x q k. search (rules, tests))

pub returns-then-any : goal.returns-then-any
returns-then-any c =
    let a = c.args.a.now in
    chosen_above (code a.code) a.word.now c.args.k (a.long c.requires.asked) _ (above (goal.at.returns-then-any c).After-any) c.if-any.true

pub checks_fit-requires-clause-under : goal.checks_fit-requires-clause-under
checks_fit-requires-clause-under c =
    let a = c.args.a.now in
    chosen_under (code a.code) a.word.now c.args.k (a.long c.requires.asked) _ (above (goal.at.checks_fit-requires-clause-under c).After-any) c.if-any.false

pub returns-then-high-a : goal.returns-then-high-a
returns-then-high-a c =
    let a = c.args.a.now in
    let long = a.long c.requires.asked in
    let under = chosen_under (code a.code) a.word.now c.args.k long _ (above (goal.at.returns-then-high-a c).After-any) c.if-any.false in
    eq-eqb _ _ c.if-high-a.true
    ∙ no_ceiling (code a.code) a.word.now c.args.k long (omega arith) (below_each a.code.q a.word.now (rw (a.levels c.requires.asked) tt))
    c.requires.same under _ c.ceiling-high.ensures.0 c.if-high-a.true
