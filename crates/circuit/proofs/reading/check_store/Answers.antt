use Rattle.std.proofs.Common.{◌≡◌, None, is_some, ap, arith, rules}
use Rattle.std.proofs.lemmas.Result.{err_from_is_err_and}
use Rattle.circuit.proofs.NodeCells.{held_past}
use Rattle.circuit.proofs.reading.check_store.Goals as goal

pub returns-in_err-count : goal.returns-in_err-count
returns-in_err-count c =
    let none : c.first.result ≡ None = grind arith in
    let told : c.in_err-count.field-0.0 ≡ record { place = 0 } = grind arith in
    let p = err_from_is_err_and c.from_residual.result c.from_residual.ensures.1 in
    rw (p.1, p.2, told) (record {
      before = λ i h. absurd (omega arith);
      here = ap is_some (held_past c.args.nodes.now 0 (search rules));
      counted = λ h. absurd (search rules);
      start = search rules;
    })
