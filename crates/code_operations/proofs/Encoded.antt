-- The cells of the codeword of a message.
use Rattle.std.proofs.Common.{◌≡◌, ℕ, ◌+◌, ◌-◌, ◌*◌, ◌<◌, ◌≤◌, List, true, length, subst, arith}
use Rattle.definitions.specs.Words.{at}
use Rattle.definitions.specs.Codes.{Code, data_cells}
use Rattle.definitions.specs.Codewords.{Codeword}
use Rattle.definitions.specs.Messages.{encode, symbols_fit, check_level}
use Rattle.syndrome.specs.Columns.{filling_of}
use Rattle.word_laws.proofs.Cells.{each_at}
use Rattle.code_theorems.proofs.Messages.{fits, encode-long, encode_front, encode_check, messages_codewords}

module _ (p : Code) (s : List ℕ) (i : ℕ) (hr : p.r ≤ p.n) (hM : 0 < p.M) (long : length s ≡ p.n) where
  pub encoded_before : i < p.n - p.r → at (encode p s) i ≡ at s i
  encoded_before h = encode_front p hr hM s long i h

  pub encoded_from : p.n - p.r ≤ i → i < p.n → at (encode p s) i ≡ p.M * at s i + filling_of p s (i - (p.n - p.r))
  unfolding check_level
  encoded_from h g =
      let k = i - (p.n - p.r) in
      let e : data_cells p + k ≡ i = omega arith in
      subst (λ (u : ℕ). at (encode p s) u ≡ p.M * at s u + filling_of p s k) e (encode_check p hr hM s long k (omega arith))

  pub encoded_below : symbols_fit p s ≡ true → i < p.n → at (encode p s) i < p.q
  encoded_below fit h =
      let c : Codeword p (encode p s) = (messages_codewords p hr hM).codeword s (fits p s long fit) in
      each_at (λ v. v < p.q) (encode p s) c.levels i (omega (arith, encode-long p hr hM s long))
