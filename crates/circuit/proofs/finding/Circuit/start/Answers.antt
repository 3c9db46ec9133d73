use Rattle.std.proofs.Common.{rules}
use Rattle.circuit.proofs.Linked.{started, length_cleared, head_cleared}
use Rattle.circuit.proofs.finding.Circuit.start.Goals as goal

pub returns-clause-started : goal.returns-clause-started
returns-clause-started c =
    let hints = c.args.self.now.hints.now in
    rw c.clear_heads.ensures (started c.args.self.now.nodes.now hints _ (search rules) (length_cleared hints) (head_cleared hints))
