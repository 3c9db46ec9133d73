use Rattle.std.proofs.Common.{◌≡◌, ◌+◌, ◌≤◌, length, drop}
use Rattle.rewrite.specs.Written.{together}
use Rattle.rewrite.proofs.write.length_within.Given as goal

abbrev pub invariant-loop-part : goal.invariant-loop-part
invariant-loop-part l = (l.left ≤ l.room) × (l.left + length (together l.parts) ≡ l.room + length (together (drop l.part-index l.parts)))
