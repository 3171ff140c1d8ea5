-- Encoding plane after plane: the digits of a plane's codeword, and the levels that they add up to.
use Rattle.std.proofs.Common.{◌≡◌, sym, ap, ◌∙◌, true, List, [], ◌∷◌, ◌++◌, ℕ, ◌+◌, ◌*◌, ◌-◌, ◌%◌, ◌<◌, ◌≤◌}
use Rattle.std.proofs.Common.{length, take, drop, replicate, arith, get_or}
use mathlib.Core.Path.{ap₂}
use native.Mathlib.Nat.{mul-zero, zero-add}
use lib.ListN.{length-append, length-drop, length-replicate, get_or-append}
use lib.Seq.{length-take-le, get_or-take, get_or-append-add}
use Rattle.definitions.specs.Words.{at}
use Rattle.definitions.specs.Codes.{Code, data_cells}
use Rattle.definitions.specs.Messages.{check_level}
use Rattle.definitions.specs.Stacks.{levels}
use Rattle.definitions.specs.StackMessages.{message_length, digits_fit, StackMessage, encode_plane, encode_from, encode_word}
use Rattle.syndrome.specs.Columns.{filling_of}
use Rattle.std.proofs.lemmas.Grind.{common_steps}
use Rattle.word_laws.proofs.Cells.{at-map2, length-map2, sum_same, each_at}
use Rattle.word_laws.proofs.Filling.{zeros-at}
use Rattle.code_theorems.proofs.Messages.{encode-long, encode_front, encode_check}
use Rattle.stack_theorems.proofs.Opened.{ArePlanes, plane_pos}
use Rattle.stack_theorems.proofs.Codewords.{digits_test}
use Rattle.stack_theorems.proofs.Messages.{stack_messages_codewords}
use Rattle.opening.specs.Viewed.{code}
use Rattle.stack_opening.specs.Planes.{as_codes}
use Rattle.stack_opening.specs.Viewed.{planes_of, stack}
use Rattle.stack_opening.specs.declared.Stack.{Stack}
use Rattle.stack_opening.specs.declared.plane.Plane.{Plane}
use Rattle.stack_operations.specs.Parts.{level_sum}
use Rattle.stack_operations.proofs.Planes.{From, here, value, later, are_planes, from_stack, stack_planes}

-- a plane's codeword from the digits s
module _ (p : Code) (s : List ℕ) (pos : 0 < p.M) (below : p.r ≤ p.n) (long : data_cells p ≤ length s) where
  abbrev symbols : List ℕ
  symbols = take (data_cells p) s ++ replicate p.r 0

  front : length (take (data_cells p) s) ≡ data_cells p
  front = length-take-le (data_cells p) s long

  symbols_long : length symbols ≡ p.n
  symbols_long = length-append (take (data_cells p) s) (replicate p.r 0) ∙ ap₂ ◌+◌ front (length-replicate p.r 0) ∙ omega arith

  symbol_is : (i : ℕ) → i < data_cells p → at symbols i ≡ at s i
  symbol_is i h = get_or-append (take (data_cells p) s) (replicate p.r 0) 0 i (omega (arith, front)) ∙ get_or-take (data_cells p) s i 0 h

  no_symbol : (k : ℕ) → at symbols (data_cells p + k) ≡ 0
  no_symbol k =
      ap (λ (i : ℕ). at symbols (i + k)) (sym front) ∙ get_or-append-add (take (data_cells p) s) (replicate p.r 0) k 0 ∙ zeros-at p.r k

  pub plane_long : length (encode_plane p s) ≡ p.n
  plane_long = encode-long p below pos symbols symbols_long

  pub digit_front : (i : ℕ) → i < data_cells p → at s i ≡ at (encode_plane p s) i
  digit_front i h = sym (encode_front p below pos symbols symbols_long i h ∙ symbol_is i h)

  pub digit_check : (i : ℕ) → data_cells p ≤ i → i < p.n → filling_of p s (i - data_cells p) ≡ at (encode_plane p s) i
  unfolding check_level
  digit_check i a b =
      let k = i - data_cells p in
      let e : data_cells p + k ≡ i = omega arith in
      sym
      (ap (at (encode_plane p s)) (sym e)
      ∙ encode_check p below pos symbols symbols_long k (omega arith)
      ∙ ap₂ (λ (u v : ℕ). p.M * u + (p.M - v % p.M) % p.M) (no_symbol k)
      (sum_same (data_cells p) _ (λ j. at p.A (k * data_cells p + j) * at s j) (λ j h. ap (λ (u : ℕ). at p.A (k * data_cells p + j) * u) (symbol_is j h)))
      ∙ ap (λ (u : ℕ). u + filling_of p s k) (mul-zero p.M) ∙ zero-add _)

from_long : (n w : ℕ) (ps : List Code) (s : List ℕ) → ArePlanes n ps → length s ≡ message_length ps → length (encode_from n w ps s) ≡ n
from_long n w [] s good long = length-replicate n 0
from_long n w (p ∷ ps) s good long =
    let here = good.0 in
    let l = plane_long p s (plane_pos n p here) (omega (arith, here.r-below)) (omega arith) in
    let r = from_long n (w * p.M) ps (drop (data_cells p) s) good.1 (omega (arith, length-drop (data_cells p) s)) in
    length-map2 (λ d v. d * w + v) (encode_plane p s) _ (l ∙ here.long ∙ sym r) ∙ l ∙ here.long

-- the level that encoding gives a cell
pub sum_is : (n i : ℕ) → i < n → (w : ℕ) (ps : List Plane) (s : List ℕ) → From n w ps → length s ≡ message_length (as_codes ps)
    → level_sum i ps s ≡ at (encode_from n w (as_codes ps) s) i
sum_is n i low w [] s h long = sym (zeros-at n i)
sum_is n i low w (p ∷ ps) s h long =
    let e = here n w p ps h in
    let k = p.code.n - p.code.r in
    let rest = drop k s in
    let l : length rest ≡ message_length (as_codes ps) = omega (arith, length-drop k s) in
    let a : length (encode_plane (code p.code) s) ≡ p.code.n = plane_long (code p.code) s (omega arith) (omega arith) (omega arith) in
    let b = from_long n (w * p.code.m) (as_codes ps) rest (are_planes n (w * p.code.m) ps (later n w p ps h)) l in
    rw (value n w p ps h, sum_is n i low (w * p.code.m) ps rest (later n w p ps h) l)
    (sym (at-map2 (λ d v. d * w + v) (encode_plane (code p.code) s) (encode_from n (w * p.code.m) (as_codes ps) rest) i (omega arith) (omega arith)))

-- the level is no less with the digit of plane j, whose symbols stand first in the rest
pub sum_next : (i sum total k j : ℕ) (ps : List Plane) (p : Plane) (rest : List ℕ) → j < length ps → p ≡ get_or ps j p → k ≡ p.code.n - p.code.r
    → total ≡ sum + level_sum i (drop j ps) rest → sum + at (encode_plane (code p.code) (take k rest)) i * p.w ≤ total
sum_next i sum total k j ps p rest h is e d = grind (arith, common_steps)

module _ (x : Stack) (s : List ℕ) where
  pub fits_message : length s ≡ x.symbols → digits_fit (stack x).planes s ≡ true → StackMessage (stack x) s
  fits_message long fits = record { long = long ∙ x.message; below = (digits_test (stack x).planes s).0 (rw fits tt) }

  module _ (m : StackMessage (stack x) s) where
    pub level_is : (i : ℕ) → i < x.n → level_sum i (planes_of x) s ≡ at (encode_word (stack x) s) i
    unfolding encode_word
    level_is i h = sum_is x.n i h 1 (planes_of x) s (from_stack x) m.long

    pub long_word : length (encode_word (stack x) s) ≡ x.n
    unfolding encode_word
    long_word = from_long x.n 1 (stack x).planes s (stack_planes x) m.long

    pub level_small : (i : ℕ) → i < x.n → at (encode_word (stack x) s) i < 64
    level_small i h =
        let c = (stack_messages_codewords (stack x) (stack_planes x)).codeword s m in
        let b : at (encode_word (stack x) s) i < levels (stack x)
        = each_at (λ v. v < levels (stack x)) (encode_word (stack x) s) c.bounded i (omega (arith, long_word)) in
        omega (arith, b, x.levels, x.size)
