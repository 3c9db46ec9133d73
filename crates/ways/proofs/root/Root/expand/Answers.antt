use Rattle.std.proofs.Common.{length, ap, arith}
use Rattle.std.proofs.lemmas.Result.{err_from_is_err_and}
use Rattle.ways.proofs.Expanding.{making_none, making_more, making_fails, making_all}
use Rattle.ways.proofs.root.Root.expand.Goals as goal

pub loop-init : goal.loop-init
loop-init c = making_none _ _ _ c.new-made.ensures.items

pub expand_next-requires-clause-before : goal.expand_next-requires-clause-before
expand_next-requires-clause-before c =
    let l = ap length c.deref.ensures.value in
    let k = c.loop.invariant.long in
    omega (arith, c.loop.auto.counter-end)

pub returns-in_err-next : goal.returns-in_err-next
returns-in_err-next c =
    let p = err_from_is_err_and c.from_residual.result c.from_residual.ensures.1 in
    rw (p.1, p.2)
    (making_fails _ _ _ _ _ c.loop.invariant c.args.self.store.sound c.requires (omega arith) c.args.self.counted _ c.deref.ensures.value _ _ c.in_err-next.ensures)

pub loop-preserved : goal.loop-preserved
loop-preserved c =
    making_more _ _ _ _ _ c.loop.invariant c.args.self.store.sound c.requires (omega arith) c.args.self.counted _ c.deref.ensures.value c.in_ok-next.next
    c.in_ok-next.ensures.0 _ c.in_ok-push.ensures.items

pub returns : goal.returns
returns c =
    making_all _ _ _ _ _ c.loop.invariant c.args.self.store.sound c.requires c.loop.auto.counter-end c.args.self.counted _ c.deref-2.ensures.value
    (omega (arith, c.loop.auto.counter-end, c.loop-test.false)) _ _ c.expand_next-2.ensures
