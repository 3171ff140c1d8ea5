-- Decoding by the table is decoding with the code's description, for each even number of levels; so the demands hold of it.
use Rattle.std.proofs.Common.{◌≡◌, ℕ, ◌%◌, ◌≤◌, List, sym, subst, ◌∙◌}
use borrow.Author.Tests.{le-leb, eq-eqb}
use Rattle.definitions.specs.Answers.{Result, given}
use Rattle.definitions.specs.Patterns.{pattern_count}
use Rattle.definitions.specs.CodeOperations.{in_range, open_code, test_code, decode_code}
use Rattle.definitions.specs.Demands.{of_code, DistanceDecides, KeepsMessages}
use Rattle.definitions.specs.Golay.{golay_code, golay_body, golay_matrix, decode_golay}
use Rattle.code_theorems.proofs.Demands.{test_demand, decode_demand, decode_keeps}
use Rattle.golay_table.proofs.Rule.{golay_accepted}
use Rattle.golay.specs.Clauses.{WhereGolay, WhereGolayReads}

module _ (q : ℕ) (low : 2 ≤ q) (high : q ≤ 64) where
  pub opens : open_code (golay_body q) ≡ given (golay_code q)
  unfolding open_code in_range pattern_count golay_matrix
  opens = simp (le-leb 2 q low, le-leb q 64 high)

  -- the code passes its test
  pub passes : test_code (golay_body q) ≡ given tt
  passes = (test_demand (golay_body q) (golay_code q) opens).fit.1 (golay_accepted q)

  same_answer : q % 2 ≡ 0 → (y out : List ℕ) → decode_golay q y out ≡ decode_code (golay_body q) y out
  unfolding decode_golay decode_code
  same_answer even y out = simp (opens, le-leb 2 q low, le-leb q 64 high, eq-eqb (q % 2) 0 even)

-- of what decoding by the table answered and left in the buffer
module _ (q : ℕ) (y lent : List ℕ) (r : Result ℕ) (e : r ≡ decode_golay q y lent) where
  pub as_by_search : WhereGolay q (r ≡ decode_code (golay_body q) y lent)
  as_by_search low high even = e ∙ same_answer q low high even y lent

  pub distance_decides : WhereGolayReads q y lent (DistanceDecides (of_code (golay_code q)) y r.answer r.out)
  distance_decides low high even ly lo levels =
      subst (λ (s : Result ℕ). DistanceDecides (of_code (golay_code q)) y s.answer s.out) (sym (as_by_search low high even))
      (decode_demand (golay_body q) (golay_code q) (opens q low high) y lent ly lo levels (golay_accepted q))

  pub keeps_messages : WhereGolayReads q y lent (KeepsMessages (of_code (golay_code q)) y r.answer r.out)
  keeps_messages low high even ly lo levels =
      subst (λ (s : Result ℕ). KeepsMessages (of_code (golay_code q)) y s.answer s.out) (sym (as_by_search low high even))
      (decode_keeps (golay_body q) (golay_code q) (opens q low high) y lent ly lo levels (golay_accepted q))
