-- A number below 100 as std writes it.
use Rattle.std.proofs.Common.{◌≡◌, refl, ap, ◌∙◌, ℕ, ◌+◌, ◌/◌, ◌%◌, ◌<◌, ◌≤◌, List, [], ◌∷◌, ◌++◌, map, length, lt-ltb, le-ltb, arith}
use native.Mathlib.Decide.{dec_lt}
use Rattle.std.specs.Fmt as fmt
use Rattle.std.specs.Int.Digits.{digits_of}
use Rattle.std.proofs.lemmas.Fmt.{decimal_digit, decimal-digits_of}
use Rattle.std.proofs.lemmas.Int.Digits.{digits_of_step}
use Rattle.definitions.specs.CartridgeLists.{decimal}

two_digits : (n : ℕ) → 10 ≤ n → n < 100 → digits_of 10 n ≡ n / 10 ∷ n % 10 ∷ []
two_digits n l h =
    let z : n / 10 / 10 ≡ 0 = omega arith in
    let d : n / 10 % 10 ≡ n / 10 = omega arith in
    let tens : digits_of 10 (n / 10) ≡ n / 10 ∷ [] = digits_of_step 10 (n / 10) (omega arith) (omega arith) ∙ rw (z, d) refl in
    digits_of_step 10 n (omega arith) (omega arith) ∙ ap (λ (ds : List ℕ). ds ++ n % 10 ∷ []) tens

pub decimal_is : (n : ℕ) → n < 100 → fmt.decimal n ≡ decimal n
decimal_is n h = by (dec_lt n 10)
  where
    by : Dec (n < 10) → fmt.decimal n ≡ decimal n
    by (yes l) = rw (lt-ltb n 10 l) (decimal_digit n l)
    by (no m) =
        let l : 10 ≤ n = omega arith in
        rw (le-ltb n 10 l) (decimal-digits_of n (omega arith) (omega arith) ∙ ap (map (λ (d : ℕ). 48 + d)) (two_digits n l h))

pub short : (n : ℕ) → n < 100 → length (decimal n) ≤ 2
short n h = by (dec_lt n 10)
  where
    by : Dec (n < 10) → length (decimal n) ≤ 2
    by (yes l) = rw (lt-ltb n 10 l) (omega arith)
    by (no m) = rw (le-ltb n 10 (let l : 10 ≤ n = omega arith in l)) (omega arith)
