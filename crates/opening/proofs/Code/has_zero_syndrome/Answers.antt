use Rattle.std.proofs.Common.{◌≡◌, ◌∙◌, ◌&&◌, rules, tests, ℕ, zero, suc, add-one, eqb, refl, map, ap}
use Rattle.std.specs.List.{list_all, range_with_len}
use Rattle.std.proofs.lemmas.Iterator.{YieldsList-from_range}
use Rattle.std.proofs.lemmas.Iterator.Search.{all_from_yields_List}
use native.Mathlib.Nat.{sub-zero}
use Rattle.definitions.specs.Words.{all_zero, up_from}
use Rattle.definitions.specs.Codewords.{syndrome, syndrome_entry}
use Rattle.opening.specs.Viewed.{code}
use Rattle.opening.proofs.Code.has_zero_syndrome.Goals as goal

zeros : (f : ℕ → ℕ) (a n : ℕ) → list_all (λ i. eqb (f i) 0) (range_with_len a n) ≡ all_zero (map f (up_from a n))
zeros f a zero = refl
zeros f a (suc n) = rw add-one (ap (λ b. eqb (f a) 0 && b) (zeros f (suc a) n))

pub returns : goal.returns
unfolding syndrome
returns c =
    let p = code c.args.self.now in
    let x = c.args.word.now in
    let e = YieldsList-from_range 0 p.r p.r refl (sub-zero p.r) in
    all_from_yields_List (λ i. eqb (syndrome_entry p x i) 0) _ _ c.all.result c.all.ensures.ran e (λ x b q k. search (rules, tests))
    ∙ zeros (syndrome_entry p x) 0 p.r
