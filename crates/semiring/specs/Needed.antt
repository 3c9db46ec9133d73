-- Which nodes of a store are needed to read some of them. Assumes nothing: these are definitions.
use Rattle.std.specs.Prelude.{◌≡◌, ℕ, ◌<◌, Bool, true, false, ◌⊎◌, List, length, slice_index, slice_index_or}
use Rattle.circuit.specs.declared.Node.{Node}
use Rattle.circuit.specs.declared.Node.TheVariants.{Never, Always, Mark, Or, Both}

-- a node names another
abbrev pub Names : Node → ℕ → Type 0
Names Never k = ⊥
Names Always k = ⊥
Names (Mark m) k = ⊥
Names (Or a b) k = (k ≡ a) ⊎ (k ≡ b)
Names (Both a b) k = (k ≡ a) ⊎ (k ≡ b)

-- the nodes asked for are needed, and each node that a needed one names
pub data Needed (ns : List Node) (asked : List ℕ) : ℕ → Type 0 where
  asked_for : (j k : ℕ) → j < length asked → slice_index asked j ≡ k → Needed ns asked k
  named : (i k : ℕ) → Needed ns asked i → Names (slice_index_or ns i Never) k → Needed ns asked k

-- bs says of each of n nodes whether it is needed
pub record MarksNeeded (n : ℕ) (ns : List Node) (asked : List ℕ) (bs : List Bool) : Type 0 where
  pub long : length bs ≡ n
  pub only : (k : ℕ) → slice_index_or bs k false ≡ true → Needed ns asked k
  pub all : (k : ℕ) → Needed ns asked k → slice_index_or bs k false ≡ true
