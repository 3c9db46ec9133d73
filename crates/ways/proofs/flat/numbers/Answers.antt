use Rattle.std.proofs.Common.{◌≡◌, length, vec_items, rules}
use Rattle.ways.proofs.Flattened.{written_none, written_more, written_all, numbers_long}
use Rattle.ways.proofs.flat.numbers.Goals as goal

pub loop-way-init : goal.loop-way-init
loop-way-init c = written_none c.args.ways.now (vec_items c.in_ok-out.out) c.in_ok-out.ensures.items

pub loop-way-preserved : goal.loop-way-preserved
loop-way-preserved c =
    let l : c.len.result ≡ length (vec_items c.way-item.result.marks) = search rules in
    written_more c.args.ways.now c.loop-way.way-index _ _ _ _ c.deref.result.now c.len.result c.way-item.result c.loop-way-test.true
    c.way-item.is c.deref.ensures.value l c.loop-way.invariant c.in_ok-push.ensures.items c.in_ok-push-2.ensures.items
    c.in_ok-extend_from_slice.ensures.items

pub returns-clause-long : goal.returns-clause-long
returns-clause-long c = numbers_long _ _ (written_all c.args.ways.now c.loop-way.way-index _ c.loop-way-test.false c.loop-way.invariant)
