use Rattle.std.proofs.Common.{sym, arith}
use Rattle.std.proofs.lemmas.Bool.Decides.{nat_tests}
use Rattle.circuit.specs.Held.{node_read}
use Rattle.circuit.specs.Store.{node_in, readable}
use Rattle.circuit.proofs.NodeCells.{unknown_kind}
use Rattle.circuit.proofs.reading.read_node.Goals as goal

pub returns-in-0 : goal.returns-in-0
unfolding node_read node_in readable
returns-in-0 c = rw c.in-0.is

pub returns-in-1 : goal.returns-in-1
unfolding node_read node_in readable
returns-in-1 c = rw c.in-1.is

pub returns-in-2 : goal.returns-in-2
unfolding node_read node_in readable
returns-in-2 c = rw c.in-2.is

pub returns-after-a-place : goal.returns-after-a-place
unfolding node_read node_in readable
returns-after-a-place c = rw c.in-3.is (grind (arith, nat_tests))

pub returns-after-a-place-2 : goal.returns-after-a-place-2
unfolding node_read node_in readable
returns-after-a-place-2 c = rw c.in-4.is (grind (arith, nat_tests))

pub returns-in_default : goal.returns-in_default
unfolding node_read node_in readable
returns-in_default c = sym (unknown_kind c.args.place c.args.kind c.args.a c.args.b (omega arith))
