use Rattle.std.proofs.Common.{rules}
use Rattle.circuit.proofs.Found.{slot_is}
use Rattle.circuit.proofs.hints.slot.Goals as goal

pub returns : goal.returns
returns c = record {
  within = search rules;
  is = slot_is c.args.node c.args.heads c.from.result c.from.ensures;
}
