-- A store that grows stays in the memory that it was lent. Assumes nothing: these are definitions.
use Rattle.std.specs.Prelude.{◌≡◌}
use Rattle.circuit.specs.declared.finding.Circuit.{Circuit}

-- the nodes and the hints are in the same memory as before: whoever lent it finds there what was written
pub record SameMemory (c c' : Circuit) : Type 0 where
  pub nodes : c'.nodes.ghost_name ≡ c.nodes.ghost_name
  pub hints : c'.hints.ghost_name ≡ c.hints.ghost_name
