-- What is reached by a pattern is its syndrome, and two keys tell syndromes apart.
use mathlib.Core.Path.{◌≡◌, refl, sym, ap, ◌∙◌}
use mathlib.Core.List.{List, [], ◌∷◌}
use Prim.Native.Nat.{ℕ, zero, suc, ◌+◌, ◌*◌, ◌%◌, ◌≤◌, ◌<◌}
use native.Mathlib.Nat.{zero-mod, mod-lt, mod-add-mod, mod-eq_of_lt, add-zero, zero-add, zero-mul, suc-mul}
use native.Mathlib.Decide.{dec_lt}
use native.Mathlib.Omega.{arith}
use lib.ListN.{length, get_or-replicate}
use lib.Seq.{ext_get_or}
use Rattle.definitions.specs.Words.{at, up_from}
use Rattle.definitions.specs.Codes.{Code}
use Rattle.definitions.specs.Codewords.{syndrome_entry, syndrome}
use Rattle.word_laws.proofs.Cells.{map_same, same_map, up_from_bounds, up_from_mem}
use Rattle.opening.specs.Viewed.{code}
use Rattle.opening.specs.declared.Code.{Code as Opened}
use Rattle.syndrome.specs.Columns.{column}
use Rattle.syndrome.proofs.Columns.{entry_past}
use Rattle.acceptance.specs.Listing.{raised_by, reached, zero_syndrome}
use Rattle.acceptance.specs.Keys.{key_of}
use Rattle.acceptance.proofs.Raising.{length-raised, at-raised}
use Rattle.acceptance.proofs.Sums.{total, total_entry, total_past}

module _ (p : Code) where
  length-raised_by : (cell v : ℕ) (s : List ℕ) → length s ≡ 16 → length (raised_by p cell v s) ≡ 16
  unfolding raised_by
  length-raised_by cell zero s h = h
  length-raised_by cell (suc v) s h = length-raised p cell (raised_by p cell v s)

  length-reached : (cell : ℕ) (s e : List ℕ) → length s ≡ 16 → length (reached p cell s e) ≡ 16
  unfolding reached
  length-reached cell s [] h = h
  length-reached cell s (v ∷ e) h = length-reached (cell + 1) (raised_by p cell v s) e (length-raised_by cell v s h)

  module _ (k : ℕ) (hk : k < 16) where
    at-raised_by : (cell v : ℕ) (s : List ℕ) → at s k < p.M → at (raised_by p cell v s) k ≡ (at s k + v * column p k cell) % p.M
    unfolding raised_by
    at-raised_by cell zero s g = sym (rw (zero-mul (column p k cell), add-zero (at s k)) (mod-eq_of_lt g))
    at-raised_by cell (suc v) s g =
        at-raised p cell (raised_by p cell v s) k hk
        ∙ ap (λ (z : ℕ). (z + column p k cell) % p.M) (at-raised_by cell v s g)
        ∙ mod-add-mod (at s k + v * column p k cell) p.M (column p k cell)
        ∙ ap (λ (z : ℕ). z % p.M) (regroup (at s k) v (column p k cell))
      where
        regroup : (a v c : ℕ) → a + v * c + c ≡ a + suc v * c
        regroup a v c = rw (suc-mul v c) (omega arith)

    at-reached : (cell : ℕ) (s e : List ℕ) → 0 < p.M → at s k < p.M → at (reached p cell s e) k ≡ (at s k + total p k cell e) % p.M
    unfolding reached total
    at-reached cell s [] z g = sym (rw (add-zero (at s k)) (mod-eq_of_lt g))
    at-reached cell s (v ∷ e) z g =
        at-reached (cell + 1) (raised_by p cell v s) e z (rw (at-raised_by cell v s g) (mod-lt (at s k + v * column p k cell) z))
        ∙ ap (λ (x : ℕ). (x + total p k (cell + 1) e) % p.M) (at-raised_by cell v s g)
        ∙ mod-add-mod (at s k + v * column p k cell) p.M (total p k (cell + 1) e)
        ∙ ap (λ (x : ℕ). x % p.M) (regroup (at s k) (v * column p k cell) (total p k (cell + 1) e))
      where
        regroup : (a b c : ℕ) → a + b + c ≡ a + (b + c)
        regroup a b c = omega arith

-- an opened code
module _ (o : Opened) where
  abbrev p : Code
  p = code o

  -- the syndrome that the listing reaches by a pattern
  abbrev pub end : List ℕ → List ℕ
  end e = reached p 0 zero_syndrome e

  positive : 0 < p.M
  positive = omega (arith, o.levels.0)

  at-end : (e : List ℕ) (k : ℕ) → k < 16 → at (end e) k ≡ total p k 0 e % p.M
  at-end e k h =
      let z : at zero_syndrome k ≡ 0 = get_or-replicate 16 k 0 0 h in
      at-reached p k h 0 zero_syndrome e positive (rw z positive)
      ∙ ap (λ (x : ℕ). (x + total p k 0 e) % p.M) z
      ∙ ap (λ (x : ℕ). x % p.M) (zero-add (total p k 0 e))

  pub small : (e : List ℕ) (k : ℕ) → k < 16 → at (end e) k < 256
  small e k h =
      let l : total p k 0 e % p.M < p.M = mod-lt (total p k 0 e) positive in
      rw (at-end e k h) (omega (arith, o.levels.1, o.levels.2))

  -- each entry is the syndrome's, past r too
  entry-end : (e : List ℕ) (k : ℕ) → length e ≡ p.n → k < 16 → at (end e) k ≡ syndrome_entry p e k
  unfolding syndrome_entry
  entry-end e k l h = by (dec_lt k p.r)
    where
      by : Dec (k < p.r) → at (end e) k ≡ syndrome_entry p e k
      by (yes d) = at-end e k h ∙ ap (λ (x : ℕ). x % p.M) (total_entry p k e l d (omega (arith, o.cells.3)))
      by (no d) =
          at-end e k h ∙ ap (λ (x : ℕ). x % p.M) (total_past p k e l o.size (omega arith)) ∙ zero-mod p.M
          ∙ sym (entry_past p e k o.size l (omega (arith, o.cells.3)) positive (omega arith))

  pub same_end : (a b : List ℕ) → length a ≡ p.n → length b ≡ p.n → syndrome p a ≡ syndrome p b → end a ≡ end b
  unfolding syndrome
  same_end a b la lb e =
      ext_get_or 0 (end a) (end b) (long a ∙ sym (long b)) (λ k h. step k (omega (arith, long a)) (dec_lt k p.r))
    where
      long : (e : List ℕ) → length (end e) ≡ 16
      long e = length-reached p 0 zero_syndrome e refl

      step : (k : ℕ) → k < 16 → Dec (k < p.r) → at (end a) k ≡ at (end b) k
      step k h (yes d) =
          entry-end a k la h
          ∙ same_map (syndrome_entry p a) (syndrome_entry p b) (up_from 0 p.r) e k (up_from_mem 0 p.r k (omega arith) (omega arith))
          ∙ sym (entry-end b k lb h)
      step k h (no d) = entry-end a k la h ∙ past a la ∙ sym (past b lb) ∙ sym (entry-end b k lb h)
        where
          past : (x : List ℕ) → length x ≡ p.n → syndrome_entry p x k ≡ 0
          past x lx = entry_past p x k o.size lx (omega (arith, o.cells.3)) positive (omega arith)

  pub same_syndrome_lem : (a b : List ℕ) → length a ≡ p.n → length b ≡ p.n → ((k : ℕ) → k < 12 → at (end a) k ≡ at (end b) k)
      → syndrome p a ≡ syndrome p b
  unfolding syndrome
  same_syndrome_lem a b la lb h =
      map_same (syndrome_entry p a) (syndrome_entry p b) (up_from 0 p.r)
      (λ k i. let (x, d) = up_from_bounds 0 p.r k i in
      let g : k < 12 = omega (arith, o.cells.2) in
      sym (entry-end a k la (omega arith)) ∙ h k g ∙ entry-end b k lb (omega arith))

-- d entries of a syndrome, from the one numbered i on, as one number
unfoldable entries_key : ℕ → ℕ → List ℕ → ℕ
entries_key zero i s = 0
entries_key (suc d) i s = at s i + 256 * entries_key d (suc i) s

key-entries : (s : List ℕ) → key_of s ≡ entries_key 16 0 s
unfolding entries_key
key-entries s = omega arith

-- equal keys have equal entries
same_entries : (s t : List ℕ) (d i : ℕ) → ((k : ℕ) → k < i + d → at s k < 256) → ((k : ℕ) → k < i + d → at t k < 256)
    → entries_key d i s ≡ entries_key d i t → (k : ℕ) → i ≤ k → k < i + d → at s k ≡ at t k
unfolding entries_key
same_entries s t zero i hs ht e k g h = absurd (omega arith)
same_entries s t (suc d) i hs ht e k g h =
    step (dec_lt i k) (λ (l : i < k). same_entries s t d (suc i) (λ j b. hs j (omega arith)) (λ j b. ht j (omega arith)) rest k l (omega arith))
  where
    a : at s i < 256
    a = hs i (omega arith)

    b : at t i < 256
    b = ht i (omega arith)

    rest : entries_key d (suc i) s ≡ entries_key d (suc i) t
    rest = omega (arith, a, b)

    step : Dec (i < k) → (i < k → at s k ≡ at t k) → at s k ≡ at t k
    step (yes l) ih = ih l
    step (no l) ih = let q : k ≡ i = omega arith in rw q (omega (arith, a, b))

pub same_keys : (s t : List ℕ) → ((k : ℕ) → k < 16 → at s k < 256) → ((k : ℕ) → k < 16 → at t k < 256)
    → key_of s ≡ key_of t → (k : ℕ) → k < 16 → at s k ≡ at t k
same_keys s t hs ht e k g = same_entries s t 16 0 hs ht (sym (key-entries s) ∙ e ∙ key-entries t) k (omega arith) g
