use Rattle.std.proofs.Common.{◌+◌, arith}
use Rattle.listing.proofs.AllLines.{next_line, all_written}
use Rattle.listing.proofs.put_rows.Goals as goal

pub loop-k-preserved : goal.loop-k-preserved
loop-k-preserved c =
    next_line c.args.image.bytes.now c.args.lines.now c.loop-k.k c.loop-k.lines c.loop-k.invariant c.put_entry.new.lines
    (omega (arith, c.loop-k-test.true, c.entry_count-k-end.ensures.0)) c.put_entry.ensures

pub returns-2 : goal.returns-2
returns-2 c =
    all_written c.args.image.bytes.now c.args.lines.now (c.loop-k.k + 1) c.put_entry.new.lines
    (next_line c.args.image.bytes.now c.args.lines.now c.loop-k.k c.loop-k.lines c.loop-k.invariant c.put_entry.new.lines
    (omega (arith, c.loop-k-test.true, c.entry_count-k-end.ensures.0)) c.put_entry.ensures)
    (omega (arith, c.loop-k-test.true, c.entry_count-k-end.ensures.0))
