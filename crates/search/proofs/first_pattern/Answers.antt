use Rattle.std.proofs.Common.{◌≡◌, Continue, false, ℕ, ◌≤◌, length, sym, ap, ◌∙◌, subst, arith}
use mathlib.Core.Option.{none}
use native.Mathlib.Nat.{zero-add}
use Rattle.candidate_patterns.specs.Candidates.{word_of, unrisen}
use Rattle.candidate_patterns.proofs.Choices.{chosen_none}
use Rattle.candidate_patterns.proofs.Syndromes.{remains_all}
use Rattle.opening.specs.Viewed.{code}
use Rattle.candidate_patterns.specs.declared.asked.Asked.{Asked}
use Rattle.search.specs.Search.{Sought, cells_from, seek, sought_as, NoneWithOne}
use Rattle.candidate_patterns.specs.Candidates.{test_for}
use Rattle.search.proofs.Ruled.{range}
use Rattle.search.proofs.Order.{all_tried}
use Rattle.search.proofs.Whole.{up_to, answer_none, answer-found, answer_counts, found_weighs, unrisen_weighs, none_tried, unrisen-passes}
use Rattle.search.proofs.Whole.{weight_done, room_all}
use Rattle.search.proofs.first_pattern.Goals as goal

-- the empty pattern does not pass
module _ (a : Asked) (empty : test_for a (word_of a.code.n unrisen) ≡ false) where
  none_empty : seek (test_for a) (up_to (code a.code) 0) 0 ≡ (none, 1)
  none_empty = none_tried (code a.code) (test_for a) empty

  -- nor does one with one risen cell
  none_of_one : (s : Sought) (u : ℕ) → s ≡ Continue u → sought_as a.code.n s ≡ seek (test_for a) (cells_from (code a.code) unrisen 1 0) 1 → NoneWithOne a u
  none_of_one s u e q = weight_done (code a.code) (test_for a) 1 1 (omega arith) none_empty _ (sym (ap (sought_as a.code.n) e) ∙ q)

pub passes-requires : goal.passes-requires
passes-requires c = remains_all (code c.args.a.now.code) c.args.a.now.s (range c.args.a.now)

pub returns-then-passes : goal.returns-then-passes
returns-then-passes c =
    let p = code c.args.a.now.code in
    let f = test_for c.args.a.now in
    let passed = sym c.passes.ensures ∙ c.if-passes.true in
    let found = unrisen-passes p f passed in
    record {
      found = answer-found p f unrisen 0 0 1 (omega arith) found;
      counts = answer_counts p f unrisen 0 0 1 (omega arith) found (unrisen_weighs p f passed);
    }

pub returns-then-a-eq0-clause-found : goal.returns-then-a-eq0-clause-found
returns-then-a-eq0-clause-found c =
    let p = code c.args.a.now.code in
    let f = test_for c.args.a.now in
    answer_none p f 1
    (subst (λ (w : ℕ). seek f (up_to p w) 0 ≡ (none, 1)) (sym c.if-a-eq0.true)
    (none_empty c.args.a.now (sym c.passes.ensures ∙ c.if-passes.false)))

pub choose_cell-requires-clause-reached : goal.choose_cell-requires-clause-reached
choose_cell-requires-clause-reached c = record {
  chosen = chosen_none 1 (omega arith);
  cells = omega arith;
  remains = remains_all (code c.args.a.now.code) c.args.a.now.s (range c.args.a.now);
}

pub choose_cell-requires-clause-room : goal.choose_cell-requires-clause-room
choose_cell-requires-clause-room c =
    let a = c.args.a.now in
    let lighter = up_to (code a.code) 0 in
    room_all (code a.code) 1 1 (omega arith) (omega arith)
    (all_tried (test_for a) lighter 0 1 (none_empty a (sym c.passes.ensures ∙ c.if-passes.false)) ∙ zero-add (length lighter)) a.code.few

pub returns-in-Continue-clause-found : goal.returns-in-Continue-clause-found
returns-in-Continue-clause-found c =
    let a = c.args.a.now in
    let one = none_of_one a (sym c.passes.ensures ∙ c.if-passes.false) c.choose_cell.result c.in-Continue.field-0 c.in-Continue.is c.choose_cell.ensures in
    answer_none (code a.code) (test_for a) c.in-Continue.field-0
    (subst (λ (w : ℕ). seek (test_for a) (up_to (code a.code) w) 0 ≡ (none, c.in-Continue.field-0)) (sym c.if-a-eq1.true) one)

pub heavier-requires : goal.heavier-requires
heavier-requires c =
    let empty = sym c.passes.ensures ∙ c.if-passes.false in
    (omega arith, none_of_one c.args.a.now empty c.choose_cell.result c.in-Continue.field-0 c.in-Continue.is c.choose_cell.ensures)

pub returns-in-Break : goal.returns-in-Break
returns-in-Break c =
    let a = c.args.a.now in
    let p = code a.code in
    let f = test_for a in
    let some : 1 ≤ p.t = omega arith in
    let found = sym (ap (sought_as p.n) c.in-Break.is) ∙ c.choose_cell.ensures in
    let done = weight_done p f 1 1 (omega arith) (none_empty a (sym c.passes.ensures ∙ c.if-passes.false)) _ found in
    record {
      found = answer-found p f _ 1 1 _ some done;
      counts = answer_counts p f _ 1 1 _ some done (found_weighs p f 1 1 _ _ found);
    }
