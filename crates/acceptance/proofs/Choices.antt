-- The loops over cells and magnitudes: in each turn a part of the list is stored, and the rest is what the later turns list.
use mathlib.Core.Path.{◌≡◌}
use mathlib.Core.List.{List}
use Prim.Native.Nat.{ℕ, ◌+◌, ◌-◌, ◌≤◌, ◌<◌}
use lib.ListN.{length}
use Rattle.definitions.specs.Codes.{Code}
use Rattle.acceptance.specs.Listing.{raised_by, syndromes_from, raised_from}
use Rattle.arrayvec.specs.ArrayVec.{ArrayVec}
use Rattle.acceptance.specs.Keys.{Stored}
use Rattle.acceptance.proofs.Storing.{Partly, room_for, one-part, all_parts}
use Rattle.acceptance.proofs.Steps.{cell_none, cell_more, mag_none, mag_more}

-- at cell c
module _ (p : Code) (left c : ℕ) (s : List ℕ) (one : 1 ≤ left)
    (all : List (List ℕ)) (b b' : ArrayVec ℕ) (so_far : Partly all (syndromes_from p left c s) b b') where
  abbrev here : List (List ℕ)
  here = raised_from p left c s 0

  abbrev beyond : List (List ℕ)
  beyond = syndromes_from p left (c + 1) s

  pub cell_room : c < p.n → (n : ℕ) → length b.items + length all ≤ n → length b'.items + length here ≤ n
  cell_room h n = room_for all (syndromes_from p left c s) b b' so_far here beyond n (cell_more p left c s one h)

  pub cell_part : c < p.n → (b'' : ArrayVec ℕ) → Stored here b' b'' → Partly all beyond b b''
  cell_part h b'' = one-part all (syndromes_from p left c s) b b' so_far here beyond b'' (cell_more p left c s one h)

  pub cells_done : p.n ≤ c → Stored all b b'
  cells_done h = all_parts all (syndromes_from p left c s) b b' so_far (cell_none p left c s one h)

-- at the magnitude after mag
module _ (p : Code) (left cell mag : ℕ) (s : List ℕ)
    (all : List (List ℕ)) (b b' : ArrayVec ℕ) (so_far : Partly all (raised_from p left cell s mag) b b') where
  module _ (h : mag < p.l) (x : List ℕ) (e : x ≡ raised_by p cell (mag + 1) s) where
    abbrev this : List (List ℕ)
    this = syndromes_from p (left - 1) (cell + 1) x

    abbrev greater : List (List ℕ)
    greater = raised_from p left cell s (mag + 1)

    pub mag_room : (n : ℕ) → length b.items + length all ≤ n → length b'.items + length this ≤ n
    mag_room n = room_for all (raised_from p left cell s mag) b b' so_far this greater n (mag_more p left cell s mag h x e)

    pub mag_part : (b'' : ArrayVec ℕ) → Stored this b' b'' → Partly all greater b b''
    mag_part b'' = one-part all (raised_from p left cell s mag) b b' so_far this greater b'' (mag_more p left cell s mag h x e)

  pub mags_done : p.l ≤ mag → Stored all b b'
  mags_done h = all_parts all (raised_from p left cell s mag) b b' so_far (mag_none p left cell s mag h)
