use Rattle.std.proofs.lemmas.Result.{err_from_is_err_and}
use Rattle.ways.specs.Asked.{amiss, missing, too_large}
use Rattle.ways.proofs.expansion.ways.Goals as goal

pub returns-in_err-store : goal.returns-in_err-store
returns-in_err-store c =
    let p = err_from_is_err_and c.from_residual.result c.from_residual.ensures.1 in
    rw (p.1, p.2) (amiss c.in_err-store.ensures)

pub returns-then-node-count : goal.returns-then-node-count
returns-then-node-count c =
    let s = c.in_ok-store.ensures in
    missing s.1 (rw s.0 at (rw c.count.ensures at c.if-node-count.true))

pub returns-in-Err-TooLarge : goal.returns-in-Err-TooLarge
returns-in-Err-TooLarge c =
    let s = c.in_ok-store.ensures in
    let t = rw (c.in-Err-TooLarge.field-0-is, s.0) at c.in-Err-TooLarge.ensures in
    too_large s.1 (rw s.0 at (rw c.count.ensures at c.if-node-count.false)) t
