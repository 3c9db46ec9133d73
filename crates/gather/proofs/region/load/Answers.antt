use Rattle.std.proofs.Common.{◌≡◌, refl, ◌∙◌, arith}
use Rattle.std.specs.Iterator.Adapters.{enumerate_count}
use Rattle.rows.proofs.Walking.{walked_none, walked_more}
use Rattle.gather.proofs.Loading.{load_none, load_more}
use Rattle.gather.proofs.region.load.Goals as goal

pub loop-i-init : goal.loop-i-init
loop-i-init c =
    let start : enumerate_count c.into_iter-i-iterator.result ≡ 0 = cc in
    (rw start (walked_none c.args.batch.work.now c.args.batch.rows _ (cc)), cc, load_none _ _ _ _ start)

pub loop-i-preserved : goal.loop-i-preserved
loop-i-preserved c =
    let m = c.args.batch.work.now in
    let r = c.args.batch.rows in
    let i = enumerate_count c.loop-i.i-iterator in
    let steps = c.in-Some.ensures.steps in
    let inv = c.loop-i.invariant in
    let nine = steps.0.1.1 ∙ inv.1 in
    let more = walked_more m r i _ c.in-Some.row.now _ inv.0 steps.0.1.0 nine in
    rw (steps.2, steps.1) (
      more,
      steps.0.0 ∙ inv.1,
      load_more m r i _ c.in-Some.row.now _ inv.0 steps.0.1.0 nine c.args.batch.within.0 c.loop-i.entries _ (omega (arith, more.within, c.requires, c.loop-i.auto.entries)) refl refl inv.2,
    )
