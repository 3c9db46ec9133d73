use Rattle.ways.proofs.Lines.{ways_none, ways_more}
use Rattle.ways.proofs.text.write_ways.Goals as goal

pub loop-way-init : goal.loop-way-init
loop-way-init c = ways_none _ c.args.ways.now

pub loop-way-preserved : goal.loop-way-preserved
loop-way-preserved c =
    ways_more _ _ _ _ _ c.args.ways.now c.loop-way.way-index c.way-item.result c.deref.result.now c.loop-way-test.true c.way-item.is
    c.deref.ensures.value c.loop-way.invariant c.in_ok-write.ensures.bytes c.in_ok-write_count.ensures
    c.in_ok-write_marks.ensures
