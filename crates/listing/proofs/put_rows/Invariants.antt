use Rattle.listing.proofs.AllLines.{Written}
use Rattle.listing.proofs.put_rows.Given as goal

abbrev pub invariant-loop-k : goal.invariant-loop-k
invariant-loop-k l = Written l.image.bytes.now l.initial.lines l.k l.lines
