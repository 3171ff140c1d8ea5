-- One plane more.
use Rattle.std.proofs.Common.{◌≡◌, List, [], ◌∷◌, ◌++◌, map, ℕ, ◌+◌, ◌*◌, ◌^◌, ◌-◌, ◌≤◌, arith}
use native.Mathlib.Nat.{one-mul, pow-suc, mul-le-mul, pow-le-pow_right}
use native.Mathlib.Numerals.{add-one}
use mathlib.Core.List.{map-append}
use Rattle.definitions.specs.Codes.{data_cells}
use Rattle.definitions.specs.Codes as codes
use Rattle.definitions.specs.Stacks.{product}
use Rattle.definitions.specs.StackMessages.{message_length}
use Rattle.opening.specs.Viewed.{code}
use Rattle.stack_opening.specs.declared.plane.Plane.{Plane}
use Rattle.stack_opening.specs.Planes.{as_codes, place_values}

pub product_snoc : (ps : List codes.Code) (p : codes.Code) → product (ps ++ p ∷ []) ≡ product ps * p.M
product_snoc [] p = grind arith
product_snoc (x ∷ ps) p = grind (arith, product_snoc ps p)

pub length_snoc : (ps : List codes.Code) (p : codes.Code) → message_length (ps ++ p ∷ []) ≡ message_length ps + data_cells p
length_snoc [] p = omega arith
length_snoc (x ∷ ps) p = omega (arith, length_snoc ps p)

values_snoc : (w : ℕ) (ps : List codes.Code) (p : codes.Code) → place_values w (ps ++ p ∷ []) ≡ place_values w ps ++ w * product ps ∷ []
values_snoc w [] p = grind arith
values_snoc w (x ∷ ps) p = grind (arith, values_snoc (w * x.M) ps p)

module _ (planes more : List Plane) (p : Plane) (pushed : more ≡ planes ++ p ∷ []) where
  pub codes_more : as_codes more ≡ as_codes planes ++ code p.code ∷ []
  codes_more = rw pushed (map-append (λ (x : Plane). code x.code) planes (p ∷ []))

  pub levels_more : (q : ℕ) → q ≡ product (as_codes planes) → q * p.code.m ≡ product (as_codes more)
  levels_more q e = rw (codes_more, product_snoc (as_codes planes) (code p.code), ← e)

  pub message_more : (s n : ℕ) → p.code.n ≡ n → s ≡ message_length (as_codes planes) → s + (n - p.code.r) ≡ message_length (as_codes more)
  message_more s n l e = rw (codes_more, length_snoc (as_codes planes) (code p.code), ← e, ← l)

  pub values_more : p.w ≡ product (as_codes planes) → map (λ p. p.w) planes ≡ place_values 1 (as_codes planes)
      → map (λ p. p.w) more ≡ place_values 1 (as_codes more)
  values_more e f =
      rw (codes_more, values_snoc 1 (as_codes planes) (code p.code), ← f, ← e, one-mul p.w, pushed)
      (map-append (λ (x : Plane). x.w) planes (p ∷ []))

-- the product of j + 1 numbers of at most 64
pub levels_grow : (j q c : ℕ) → q ≤ 64 ^ j → c ≤ 64 → q * c ≤ 64 ^ (j + 1)
levels_grow j q c h k = rw (add-one, pow-suc) (mul-le-mul h k)

pub levels_fit : (j : ℕ) → j ≤ 6 → 64 ^ j ≤ 64 ^ 6
levels_fit j h = pow-le-pow_right (omega arith) h
