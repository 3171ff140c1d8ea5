-- Decoding a received word of a stack, from plane 0 upward.
use Rattle.std.specs.Prelude.{List, [], ◌∷◌, ℕ, suc, ◌+◌, ◌*◌, ◌-◌, ◌%◌}
use Rattle.std.proofs.Math.Option.{Option, none, some}
use Rattle.definitions.specs.Words.{map2, distance}
use Rattle.definitions.specs.Answers.{Answer, given, refused_at, after}
use Rattle.definitions.specs.Codes.{Code}
use Rattle.definitions.specs.Stacks.{Stack, levels, digits}
use Rattle.definitions.specs.Patterns.{patterns_of}
use Rattle.definitions.specs.Decoding.{first, same_syndrome}

-- "the first pattern with their residues"
unfoldable pub first_with_syndrome : Code → List ℕ → Option (List ℕ)
first_with_syndrome p y = first (same_syndrome p y) (patterns_of p)

-- each level lowered by magnitude times w, modulo q
abbrev pub lowered : ℕ → ℕ → List ℕ → List ℕ → List ℕ
lowered q w x e = map2 (λ a b. (a + (q - b * w)) % q) x e

-- x is the present levels; the next plane is number j, of place value w
unfoldable pub decode_planes : ℕ → ℕ → ℕ → List Code → List ℕ → Answer (List ℕ)
decode_planes q w j [] x = given x
decode_planes q w j (p ∷ ps) x =
    elim (first_with_syndrome p (digits w p.M x)) as (λ o. Answer (List ℕ))
    [ none ↦ refused_at 11 j | some e ↦ decode_planes q (w * p.M) (suc j) ps (lowered q w x e) ]

-- the count, of the cells that differ, and the levels given back
unfoldable pub decode_word : Stack → List ℕ → Answer (ℕ × List ℕ)
decode_word S y = after (decode_planes (levels S) 1 0 S.planes y) λ x. given (distance x y, x)
