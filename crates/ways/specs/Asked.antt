-- What is told of the ways of a node. Assumes nothing: these are definitions.
use Rattle.std.specs.Prelude.{◌≡◌, ℕ, ◌+◌, ◌<◌, ◌≤◌, List, Some, None, Ok, Err, vec_items, Option, Result, Vec, MatchOption}
use Rattle.std.specs.declared.alloc.Global.{Global}
use Rattle.circuit.specs.Held.{count_in, Sound, Amiss}
use Rattle.polynomial.specs.declared.Way.{Way}
use Rattle.polynomial.specs.Rise.{FitsIn}
use Rattle.polynomial.specs.Ways.{monomials}
use Rattle.ways.specs.declared.error.WaysError.{WaysError}
use Rattle.ways.specs.declared.error.WaysError.TheVariants.{Memory, Node, Room}
use Rattle.ways.specs.Passes.{normal_at}

-- a refusal is told by a number and a place
pub record Refusal : Type 0 where
  pub number : ℕ
  pub place : ℕ

-- want of memory has no number
abbrev pub refusal : WaysError → Option Refusal
refusal Memory = None
refusal (Node i) = Some (record { number = 7; place = i })
refusal (Room room) = Some (record { number = 10; place = room + 1 })

-- why the ways of node i of the store m are refused: a node of the store is amiss; or the store does not have node i; or its normal
-- form takes more numbers than the room or has a count past 2^64 - 1
pub data Refused (m : List ℕ) (i room : ℕ) : Refusal → Type 0 where
  amiss : {e : ℕ} → Amiss m e → Refused m i room (record { number = 7; place = e })
  missing : Sound m → count_in m ≤ i → Refused m i room (record { number = 7; place = i })
  too_large : Sound m → i < count_in m → (FitsIn room (normal_at m i) → ⊥) → Refused m i room (record { number = 10; place = room + 1 })

-- the ways are those of the normal form of node i, which fits the room
pub record Given (m : List ℕ) (i room : ℕ) (ws : List Way) : Type 0 where
  pub sound : Sound m
  pub counted : i < count_in m
  pub ways : monomials ws ≡ normal_at m i
  pub fits : FitsIn room (normal_at m i)

-- the ways, or why they are refused; want of memory is told only of a node that the store has
abbrev pub Asked : List ℕ → ℕ → ℕ → Result (Vec Way Global) WaysError → Type 0
Asked m i room (Ok ws) = Given m i room (vec_items ws)
Asked m i room (Err e) = MatchOption (refusal e) (Sound m × (i < count_in m)) (Refused m i room)
