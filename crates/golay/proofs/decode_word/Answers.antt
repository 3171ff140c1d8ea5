use Rattle.std.proofs.Common.{◌≡◌, length, subst, sym, arith}
use lib.Dec.{T}
use Rattle.definitions.proofs.Tests.{below_each}
use Rattle.golay.proofs.Decoding.{refuses, gives}
use Rattle.golay.proofs.decode_word.Goals as goal

pub returns-then-is_above : goal.returns-then-is_above
returns-then-is_above c = λ q even below.
    let long : length c.args.word.now ≡ 23 = omega arith in
    refuses q even _ long (below_each _ _ (subst T (sym below) tt)) _ _ c.pattern_at-pattern.ensures.index
    (c.syndrome_index.ensures.index _) _ c.if-is_above.ensures

pub returns : goal.returns
returns c = λ q even below.
    let long : length c.args.word.now ≡ 23 = omega arith in
    gives q even _ long (below_each _ _ (subst T (sym below) tt)) _ _ c.pattern_at-pattern.ensures.index
    (c.syndrome_index.ensures.index _) _ c.if-is_above.ensures _ _ c.pattern_at-pattern.ensures.weight c.store_decoded.ensures
