-- The labelings and their kinds' numbers.
use Rattle.std.specs.Prelude.{ℕ}
use Rattle.labeling.specs.declared.Labeling.{Labeling}
use Rattle.labeling.specs.declared.Labeling.TheVariants as labeling

abbrev pub labeling_number : Labeling → ℕ
labeling_number labeling.Straight = 1
labeling_number labeling.Gray = 2
labeling_number labeling.Reversed = 3
