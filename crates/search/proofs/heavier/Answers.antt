use Rattle.std.proofs.Common.{◌≡◌, ℕ, ◌+◌, ◌-◌, ◌≤◌, length, sym, ap, ◌∙◌, subst, arith}
use mathlib.Core.Option.{none}
use native.Mathlib.Nat.{zero-add}
use lib.ListN.{length-replicate}
use Rattle.word_laws.proofs.Filling.{zeros-at}
use Rattle.candidate_patterns.proofs.Choices.{chosen_none}
use Rattle.candidate_patterns.proofs.Syndromes.{remains_all}
use Rattle.opening.specs.Viewed.{code}
use Rattle.search.specs.Search.{seek, sought_as}
use Rattle.candidate_patterns.specs.Candidates.{test_for}
use Rattle.search.proofs.Ruled.{range}
use Rattle.search.proofs.Order.{all_tried}
use Rattle.search.proofs.Whole.{up_to, answer_none, answer-found, answer_counts, found_weighs, weight_done, room_all}
use Rattle.search.proofs.heavier.Goals as goal

pub mark_cells-requires : goal.mark_cells-requires
mark_cells-requires c = ((λ h. zeros-at 4096 h), length-replicate {A = ℕ} 4096 0)

pub choose_cell-requires-clause-reached : goal.choose_cell-requires-clause-reached
choose_cell-requires-clause-reached c = record {
  chosen = chosen_none c.loop-weight.weight (omega arith);
  cells = omega arith;
  remains = remains_all (code c.args.a.now.code) c.args.a.now.s (range c.args.a.now);
}

pub choose_cell-requires-clause-room : goal.choose_cell-requires-clause-room
choose_cell-requires-clause-room c =
    let a = c.args.a.now in
    let l = c.loop-weight in
    let before = up_to (code a.code) (l.weight - 1) in
    room_all (code a.code) l.weight l.lighter (omega arith) (omega arith)
    (all_tried (test_for a) before 0 l.lighter l.invariant.1 ∙ zero-add (length before)) a.code.few

pub returns-in-Break : goal.returns-in-Break
returns-in-Break c =
    let p = code c.args.a.now.code in
    let f = test_for c.args.a.now in
    let l = c.loop-weight in
    let few : l.weight ≤ p.t = omega arith in
    let found = sym (ap (sought_as p.n) c.in-Break.is) ∙ c.choose_cell.ensures in
    let done = weight_done p f l.weight l.lighter (omega arith) l.invariant.1 _ found in
    record {
      found = answer-found p f _ l.weight l.weight _ few done;
      counts = answer_counts p f _ l.weight l.weight _ few done (found_weighs p f l.weight l.lighter _ _ found);
    }

pub loop-weight-preserved : goal.loop-weight-preserved
loop-weight-preserved c =
    let p = code c.args.a.now.code in
    let f = test_for c.args.a.now in
    let l = c.loop-weight in
    let e : l.weight + 1 - 1 ≡ l.weight = omega arith in
    let done = weight_done p f l.weight l.lighter (omega arith) l.invariant.1 _ (sym (ap (sought_as p.n) c.in-Continue.is) ∙ c.choose_cell.ensures) in
    (omega arith, rw e done)

pub returns-clause-found : goal.returns-clause-found
returns-clause-found c =
    let p = code c.args.a.now.code in
    let f = test_for c.args.a.now in
    let e : c.loop-weight.weight - 1 ≡ p.t = omega arith in
    answer_none p f c.loop-weight.lighter (subst (λ (w : ℕ). seek f (up_to p w) 0 ≡ (none, c.loop-weight.lighter)) e c.loop-weight.invariant.1)

pub returns-in-Continue-clause-found : goal.returns-in-Continue-clause-found
returns-in-Continue-clause-found c =
    let p = code c.args.a.now.code in
    let f = test_for c.args.a.now in
    let l = c.loop-weight in
    let e : l.weight ≡ p.t = omega arith in
    let done = weight_done p f l.weight l.lighter (omega arith) l.invariant.1 _ (sym (ap (sought_as p.n) c.in-Continue.is) ∙ c.choose_cell.ensures) in
    answer_none p f c.in-Continue.tried (subst (λ (w : ℕ). seek f (up_to p w) 0 ≡ (none, c.in-Continue.tried)) e done)
