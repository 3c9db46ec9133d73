-- What it is to gather rows. Assumes nothing: these are definitions.
use Rattle.std.specs.Prelude.{ℕ, List}
use Rattle.circuit.specs.declared.finding.Circuit.{Circuit}
use Rattle.circuit.specs.Lent.{SameMemory}
use Rattle.gather.specs.declared.batch.Batch.{Batch}
use Rattle.gather.specs.Gathered.{region_rows, Ready, Written}

-- the nodes of the rows stand in the circuit, and there is room for what is made of them
abbrev pub CanGather : Batch → Circuit → List ℕ → Type 0
CanGather b c out = Ready (region_rows b.work.now b.rows) b.rows.width c.nodes.now out

-- the rows are gathered into n rows, which stand in `after`: c is the circuit before, and c' after, in the same memory
pub record Gathers (b : Batch) (c c' : Circuit) (out after : List ℕ) (n : ℕ) : Type 0 where
  pub written : Written (region_rows b.work.now b.rows) b.rows.width c.nodes.now c'.nodes.now c.hints.now c'.hints.now out after n
  pub memory : SameMemory c c'
