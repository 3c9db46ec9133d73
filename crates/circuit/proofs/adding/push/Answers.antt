use Rattle.std.proofs.Common.{rules}
use Rattle.circuit.proofs.Added.{written, push_written}
use Rattle.circuit.proofs.adding.push.Goals as goal

pub returns : goal.returns
returns c = written _ _ _ _ (push_written c.args.nodes.now c.args.node c.in_ok-place.field-0.now (search rules) (search rules) c.write_node.new.cells (search rules))
