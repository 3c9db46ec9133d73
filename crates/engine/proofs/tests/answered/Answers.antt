use Rattle.std.proofs.Common.{◌-◌, ◌/◌, ◌≤◌, min, length, sym, ap, ◌∙◌, arith}
use native.Mathlib.Nat.{le-min}
use Rattle.circuit.specs.Hints.{half}
use Rattle.circuit.proofs.NodeLists.{length_nodes_in}
use Rattle.engine.proofs.tests.answered.Goals as goal

pub run_weighed-requires-clause-can : goal.run_weighed-requires-clause-can
run_weighed-requires-clause-can c =
    let started = c.if-not-start.ensures.started in
    let circuit = c.start.new.self in
    let none = sym (length_nodes_in circuit.nodes.now) ∙ ap length started.nodes in
    let nodes : c.in_ok-weight.weight ≤ (length circuit.nodes.now - 1) / 3 = omega (arith, c.if-nodes-weight.false, started.long) in
    let hints : c.in_ok-weight.weight ≤ half circuit.hints.now = omega (arith, c.if-hints-weight.false, started.same_length) in
    let both : c.in_ok-weight.weight ≤ min ((length circuit.nodes.now - 1) / 3) (half circuit.hints.now) = le-min nodes hints in
    record {
      ready = record { proper = started.proper; linked = started.linked; distinct = started.distinct };
      room = omega arith;
    }
