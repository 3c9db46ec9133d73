use Rattle.std.proofs.Common.{rules}
use Rattle.std.proofs.lemmas.Result.{err_from_is_err_and}
use Rattle.semiring.proofs.Evaluating.{names_done, mark_valued, evaluated_more, first_large, large_told}
use Rattle.semiring.proofs.reading.evaluate_chosen.Goals as goal

pub evaluate-requires : goal.evaluate-requires
evaluate-requires g c = (
  names_done _ _ _ _ _ _ c.loop-place.invariant.so_far c.requires.0 c.loop-place-test.true c.if-not-is_chosen.false _ _
      c.as_slice.ensures.value c.node-node.ensures,
  mark_valued _ _ _ _ _ _ c.loop-place.invariant.so_far c.requires.0 c.loop-place-test.true c.if-not-is_chosen.false _ _
      c.as_slice.ensures.value c.node-node.ensures c.requires.1,
)

pub returns-in_err-value : goal.returns-in_err-value
returns-in_err-value g c =
    let p = err_from_is_err_and c.from_residual-in_err-value.result c.from_residual-in_err-value.ensures.1 in
    let none = c.in_err-value.ensures.ok_part in
    let large = first_large _ _ _ _ _ _ c.loop-place.invariant.so_far c.requires.0 c.loop-place-test.true c.if-not-is_chosen.false _ _
    c.as_slice.ensures.value c.node-node.ensures (rw none at c.evaluate.ensures) in
    rw (p.1, p.2) (large_told _ _ _ _ _ _ (rw none at c.in_err-value.ensures.value) large)

pub loop-place-preserved : goal.loop-place-preserved
loop-place-preserved g c = record {
  room = search rules;
  so_far = evaluated_more _ _ _ _ _ _ c.loop-place.invariant.so_far c.requires.0 c.loop-place-test.true c.if-not-is_chosen.false _ _
      c.as_slice.ensures.value c.node-node.ensures _ (rw c.in_ok-value.ensures.ok_part at c.evaluate.ensures) _ (search rules);
}
