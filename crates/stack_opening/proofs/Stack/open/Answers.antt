use Rattle.std.proofs.Common.{◌≡◌, ◌∙◌, ℕ, ◌+◌, length, sym, ap, take, drop, arith}
use Rattle.std.proofs.lemmas.Grind.{common_steps}
use Rattle.std.proofs.lemmas.List.{take_more_set}
use Rattle.std.proofs.lemmas.List.Elements.{All-push}
use native.Mathlib.Nat.{mul-pos}
use Rattle.word_laws.proofs.Filling.{take_rest}
use Rattle.definitions.specs.Answers.{given}
use Rattle.definitions.specs.StackOperations.{open_planes, open_stack}
use Rattle.stack_opening.specs.Planes.{as_codes}
use Rattle.stack_opening.proofs.Filling.{codes_more, levels_more, message_more, values_more, levels_grow, levels_fit}
use Rattle.stack_opening.proofs.Walk.{passed_on, within_levels, opens, left_next, stack_refused, stack_longer, stack_levels, stack_given}
use Rattle.stack_opening.proofs.Stack.open.Goals as goal
use Rattle.stack_opening.proofs.Stack.open.Goals.{Else-not-stack_in_range}

-- the first two bytes passed their tests
tested : (c : Else-not-stack_in_range)
    → open_stack c.args.body.now ≡ within_levels c.from-n.result (open_planes c.from-m.result c.from-n.result (drop 2 c.args.body.now))
tested c =
    opens _ _ c.args.body.now (omega arith) c.from-n.ensures c.from-m.ensures (sym c.stack_in_range.ensures.tested ∙ c.if-not-stack_in_range.false)

pub returns-in_err-code : goal.returns-in_err-code
returns-in_err-code c =
    let opened = tested (goal.at.returns-in_err-code c).Else-not-stack_in_range in
    let x = c.in_err-code.field-0.0 in
    passed_on _ c.from_residual.result x c.from_residual.ensures
    ∙ sym (stack_refused c.args.body.now _ _ opened _ _ c.loop-j.j c.loop-j.invariant.left x c.loop-j-test.true c.in_err-code.ensures.opened)

pub overflow_mul-q : goal.overflow_mul-q
overflow_mul-q c =
    omega (arith, levels_grow c.loop-j.j c.loop-j.q c.in_ok-code.code.m c.loop-j.invariant.small (omega arith), levels_fit (c.loop-j.j + 1) (omega arith))

pub loop-j-preserved : goal.loop-j-preserved
loop-j-preserved c =
    let i = c.loop-j.invariant in
    let planes = take c.loop-j.j c.loop-j.all in
    let code = c.in_ok-code.code in
    let pushed = take_more_set c.loop-j.all c.loop-j.j _ (omega (arith, i.room)) in
    record {
      room = grind (arith, common_steps);
      each = rw pushed (All-push (λ p. p.code.n ≡ c.from-n.result) planes _ i.each c.in_ok-code.ensures.plane.0);
      levels = levels_more planes _ _ pushed c.loop-j.q i.levels;
      low = mul-pos i.low (omega arith);
      small = levels_grow c.loop-j.j c.loop-j.q code.m i.small (omega arith);
      message = message_more planes _ _ pushed c.loop-j.symbols _ c.in_ok-code.ensures.plane.0 i.message;
      few = omega arith;
      values = values_more planes _ _ pushed i.levels i.values;
      left =
          rw (codes_more planes _ _ pushed, take_rest (3 + length code.matrix.now) c.loop-j.rest.now)
          (left_next (drop 2 c.args.body.now) _ _ _ _ c.loop-j.j i.left _ c.loop-j-test.true (sym c.in_ok-code.ensures.opened));
    }

pub returns-then-not-is_empty : goal.returns-then-not-is_empty
returns-then-not-is_empty c =
    let opened = tested (goal.at.returns-then-not-is_empty c).Else-not-stack_in_range in
    stack_longer c.args.body.now _ _ opened _ _ c.loop-j.j c.loop-j.invariant.left (omega arith) (sym c.is_empty.ensures ∙ c.if-not-is_empty.true)

pub returns-then-q-gt-MOST_LEVELS : goal.returns-then-q-gt-MOST_LEVELS
returns-then-q-gt-MOST_LEVELS c =
    let opened = tested (goal.at.returns-then-q-gt-MOST_LEVELS c).Else-not-stack_in_range in
    let i = c.loop-j.invariant in
    stack_levels c.args.body.now _ _ opened _ _ c.loop-j.j i.left (omega arith) (sym c.is_empty.ensures ∙ c.if-not-is_empty.false) (omega (arith, i.levels))

pub returns : goal.returns
returns c =
    let opened = tested (goal.at.returns c).Else-not-stack_in_range in
    let i = c.loop-j.invariant in
    let e : c.from-m.result ≡ c.loop-j.j = omega arith in
    ap (λ (k : ℕ). given (record { n = c.from-n.result; planes = as_codes (take k c.loop-j.all) })) e
    ∙ stack_given c.args.body.now _ _ opened _ _ c.loop-j.j i.left (omega arith) (sym c.is_empty.ensures ∙ c.if-not-is_empty.false) (omega (arith, i.levels))
