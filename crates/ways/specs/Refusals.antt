-- The number and the place of a refusal. Assumes nothing: these are definitions.
use Rattle.std.specs.Prelude.{◌+◌, ◌-◌, ◌^◌, min, Some, None, Option}
use Rattle.codec.specs.declared.output.Refused.{Refused}
use Rattle.ways.specs.declared.error.WaysError.{WaysError}
use Rattle.ways.specs.declared.error.WaysError.TheVariants.{Memory, Node, Room}

-- 7 at the node, and 10 at the room and one more, as far as 64 bits go; want of memory is no refusal
abbrev pub refusal_of : WaysError → Option Refused
refusal_of Memory = None
refusal_of (Node p) = Some (record { number = 7; place = p })
refusal_of (Room r) = Some (record { number = 10; place = min (r + 1) (2 ^ 64 - 1) })
