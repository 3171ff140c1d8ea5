-- Storing keys, one list of syndromes after another.
use mathlib.Core.Path.{◌≡◌, refl, sym, ap, ◌∙◌}
use mathlib.Core.List.{List, [], ◌++◌, append-nil, append_assoc, map, map-append}
use Prim.Native.Nat.{ℕ, ◌+◌, ◌≤◌}
use native.Mathlib.Omega.{arith}
use lib.ListN.{length, length-append, length-map}
use Rattle.arrayvec.specs.ArrayVec.{ArrayVec}
use Rattle.acceptance.specs.Keys.{key_of, Stored}

pub store_none : (ss : List (List ℕ)) (b : ArrayVec ℕ) → ss ≡ [] → Stored ss b b
store_none ss b e = rw e (sym (append-nil b.items))

pub store_as : (ss zs : List (List ℕ)) (b b' : ArrayVec ℕ) → ss ≡ zs → Stored zs b b' → Stored ss b b'
store_as ss zs b b' e x = rw e x

pub store_both : (ss xs ys : List (List ℕ)) (b b' b'' : ArrayVec ℕ) → ss ≡ xs ++ ys → Stored xs b b' → Stored ys b' b'' → Stored ss b b''
store_both ss xs ys b b' b'' e x y =
    rw e (y ∙ ap (λ (l : List ℕ). l ++ map key_of ys) x ∙ append_assoc b.items (map key_of xs) (map key_of ys)
    ∙ ap (λ (l : List ℕ). b.items ++ l) (sym (map-append key_of xs ys)))

pub length-stored : (ss : List (List ℕ)) (b b' : ArrayVec ℕ) → Stored ss b b' → length b'.items ≡ length b.items + length ss
length-stored ss b b' e = ap length e ∙ length-append b.items (map key_of ss) ∙ ap (λ (k : ℕ). length b.items + k) (length-map ss key_of)

-- all but the rest of a list is stored
pub record Partly (all rest : List (List ℕ)) (b b' : ArrayVec ℕ) : Type 0 where
  pub first : List (List ℕ)
  pub parts : all ≡ first ++ rest
  pub stored : Stored first b b'

pub none_yet : (all : List (List ℕ)) (b : ArrayVec ℕ) → Partly all all b b
none_yet all b = record { first = []; parts = refl; stored = store_none [] b refl }

module _ (all rest : List (List ℕ)) (b b' : ArrayVec ℕ) (so_far : Partly all rest b b') where
  -- room for all is room for the next part
  pub room_for : (xs ys : List (List ℕ)) (n : ℕ) → rest ≡ xs ++ ys → length b.items + length all ≤ n → length b'.items + length xs ≤ n
  room_for xs ys n e h =
      let u : length all ≡ length so_far.first + length rest = ap length so_far.parts ∙ length-append so_far.first rest in
      let v : length rest ≡ length xs + length ys = ap length e ∙ length-append xs ys in
      omega (arith, length-stored so_far.first b b' so_far.stored)

  pub one-part : (xs ys : List (List ℕ)) (b'' : ArrayVec ℕ) → rest ≡ xs ++ ys → Stored xs b' b'' → Partly all ys b b''
  one-part xs ys b'' e x =
      record {
        first = so_far.first ++ xs;
        parts = so_far.parts ∙ ap (λ (l : List (List ℕ)). so_far.first ++ l) e ∙ sym (append_assoc so_far.first xs ys);
        stored = store_both (so_far.first ++ xs) so_far.first xs b b' b'' refl so_far.stored x;
      }

  pub all_parts : rest ≡ [] → Stored all b b'
  all_parts e =
      store_as all so_far.first b b' (so_far.parts ∙ ap (λ (l : List (List ℕ)). so_far.first ++ l) e ∙ append-nil so_far.first) so_far.stored
