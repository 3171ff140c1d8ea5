-- From the operations' equations to their clauses.
use Rattle.std.proofs.Common.{◌≡◌, List, ℕ, ◌<◌, length, sym, subst, Fits, w8}
use Rattle.definitions.specs.Words.{at}
use Rattle.definitions.specs.Answers.{Answer, given, Result}
use Rattle.definitions.specs.Codes.{Code}
use Rattle.definitions.specs.Messages.{Message}
use Rattle.definitions.specs.Packing.{byte_count}
use Rattle.definitions.specs.PackingOperations.{open_packable, pack_code, unpack_code, Packed, Unpacked}
use Rattle.word_laws.proofs.Cells.{at_each}
use Rattle.code_theorems.proofs.Packing.{pack_demand, unpack_demand}
use Rattle.answers.specs.Answering.{leaves}

module _ (b x lent : List ℕ) {a : Answer (Unit {0})} {out : List ℕ} where
  pub packed_as :
      leaves a out ≡ pack_code b x lent
      → (p : Code)
      → open_packable b ≡ given p
      → Message p x
      → length lent ≡ byte_count p
      → Packed b p x a out
  packed_as e p opens m lo = subst (λ (r : Result (Unit {0})). Packed b p x r.answer r.out) (sym e) (pack_demand b p opens x lent m lo)

  -- x is lent: each of its entries is a byte
  pub unpacked_as :
      ((i : ℕ) → Fits w8 (at x i))
      → leaves a out ≡ unpack_code b x lent
      → (p : Code)
      → open_packable b ≡ given p
      → length x ≡ byte_count p
      → length lent ≡ p.n
      → Unpacked b p x a out
  unpacked_as small e p opens lx lo =
      subst (λ (r : Result (Unit {0})). Unpacked b p x r.answer r.out) (sym e)
      (unpack_demand b p opens x lent (at_each (λ v. v < 256) x (λ i _. (small i).fits)) lx lo)
