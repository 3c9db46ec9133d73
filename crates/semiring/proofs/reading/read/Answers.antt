use Rattle.std.proofs.Common.{length, ap, arith}
use Rattle.std.proofs.lemmas.Result.{err_from_is_err_and}
use Rattle.semiring.proofs.Worths.{needed_chosen, past_not_read, not_read, picked_reads, reads_worth}
use Rattle.semiring.proofs.reading.read.Goals as goal

pub check_marks-requires : goal.check_marks-requires
check_marks-requires g c = needed_chosen _ _ _ _ c.as_slice-chosen.ensures.value c.in_ok-store.ensures.1 c.in_ok-needed.ensures

pub returns-in_err-check_marks : goal.returns-in_err-check_marks
returns-in_err-check_marks g c =
    let stop = past_not_read _ _ _ _ c.as_slice-chosen.ensures.value c.in_ok-store.ensures.1 c.in_ok-needed.ensures
    (g.S.Semiring.algebra c.args.semiring.now) _ _ c.in_err-check_marks.ensures in
    let p = err_from_is_err_and c.from_residual-in_err-check_marks.result c.from_residual-in_err-check_marks.ensures.1 in
    rw (p.1, p.2) (record { read = rw c.in_ok-store.ensures.0 at stop; worth = tt })

pub evaluate_chosen-requires : goal.evaluate_chosen-requires
evaluate_chosen-requires g c = (
  needed_chosen _ _ _ _ c.as_slice-chosen.ensures.value c.in_ok-store.ensures.1 c.in_ok-needed.ensures,
  c.in_ok-check_marks.ensures,
)

pub returns-in_err-done : goal.returns-in_err-done
returns-in_err-done g c =
    let stop = not_read _ _ _ _ c.as_slice-chosen.ensures.value c.in_ok-store.ensures.1 c.in_ok-needed.ensures
    (g.S.Semiring.algebra c.args.semiring.now) _ c.in_ok-check_marks.ensures _ c.in_err-done.ensures in
    let p = err_from_is_err_and c.from_residual-in_err-done.result c.from_residual-in_err-done.ensures.1 in
    rw (p.1, p.2) (record { read = rw c.in_ok-store.ensures.0 at stop; worth = tt })

pub pick-requires : goal.pick-requires
pick-requires g c j h =
    let there = c.in_ok-store.ensures.1.there j h in
    let long = c.in_ok-done.ensures.long in
    let same = ap length c.as_slice.ensures.value in
    omega arith

pub returns : goal.returns
returns g c =
    let laws = g.met.S.Semiring in
    let reads = picked_reads _ _ _ _ c.as_slice-chosen.ensures.value c.in_ok-store.ensures.1 c.in_ok-needed.ensures
    (g.S.Semiring.algebra c.args.semiring.now) _ c.in_ok-check_marks.ensures _ _ _ c.as_slice.ensures.value
    c.in_ok-done.ensures c.in_ok-picked.ensures in
    let told = rw c.in_ok-store.ensures.0 at reads in
    record { read = told; worth = reads_worth _ (laws.lawful c.args.semiring.now) _ _ _ _ told (laws.admitted c.args.semiring.now) }
