use Rattle.std.proofs.Common.{◌≡◌, ℕ, arith, rules, length, take, replicate, length-take-le}
use Rattle.definitions.specs.Codewords.{syndrome_entry}
use Rattle.opening.specs.Viewed.{code}
use Rattle.syndrome.proofs.Columns.{stored_first, entry_past}
use Rattle.opening.proofs.Code.syndrome.Goals as goal

pub returns : goal.returns
returns c =
    let p = code c.args.self.now in
    let x = c.args.word.now in
    let e : length {A = ℕ} (take p.r (replicate 12 0)) ≡ p.r = length-take-le p.r (replicate 12 0) (omega arith) in
    stored_first (syndrome_entry p x) c.loop-i.entry-items p.r 12 (search rules) (λ j h. c.loop-i.invariant j (omega (arith, e)))
    (λ j h. entry_past p x j c.args.self.now.size c.requires (omega arith) (omega arith) h)
