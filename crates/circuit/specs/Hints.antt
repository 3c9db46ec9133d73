-- Finding a node by a table of hints. The first half of the table are heads, one for each hash, and the second half links, one for
-- each place: each is 0, or one more than a place. From the head for a node's hash the links lead down from place to place.
-- A place is looked at before it is taken, so that a table of any numbers will do. Assumes nothing: these are definitions.
use Rattle.std.specs.Prelude.{◌≡◌, ℕ, suc, ◌+◌, ◌*◌, ◌/◌, ◌%◌, ◌^◌, ◌<◌, ◌≤◌, List, [], length, drop, Some, Option, MatchOption, nat_le, nat_lt, slice_index, slice_index_or, slice_set}
use Rattle.tables.specs.Bool.{pick}
use Rattle.circuit.specs.declared.Node.{Node}
use Rattle.circuit.specs.declared.Node.TheVariants.{Never}
use Rattle.circuit.specs.Store.{nodes_in}
use Rattle.circuit.specs.Held.{kind_of, first_of, second_of, node_held, count_in, Sound, Proper, Full, Pushed, Put}

abbrev pub half : List ℕ → ℕ
half hints = length hints / 2

-- the three numbers of a node mixed into 32 bits, and which of so many heads is the node's
abbrev pub hash_of : Node → ℕ
hash_of n = (kind_of n * 0x165667b19e3779f9 + first_of n * 0x9e3779b97f4a7c15 + second_of n * 0xc2b2ae3d27d4eb4f) % 2 ^ 64 / 2 ^ 32

unfoldable pub slot_of : Node → ℕ → ℕ
slot_of n heads = hash_of n % heads

abbrev pub head_of : List ℕ → Node → ℕ
head_of hints n = slice_index hints (slot_of n (half hints))

-- the link behind place p: 0 where the table has no room for one, or where it does not lead to an earlier place
unfoldable pub link_of : List ℕ → ℕ → ℕ
link_of hints p = pick (nat_lt p (half hints)) (pick (nat_le (slice_index hints (half hints + p)) p) (slice_index hints (half hints + p)) 0) 0

-- from the head or link v on, the links come to the place p
pub data Visits (hints : List ℕ) : ℕ → ℕ → Type 0 where
  here : {v p : ℕ} → v ≡ suc p → Visits hints v p
  later : {v p : ℕ} (q : ℕ) → v ≡ suc q → Visits hints (link_of hints q) p → Visits hints v p

-- n is node p of the store in m
pub record StandsAt (m : List ℕ) (n : Node) (p : ℕ) : Type 0 where
  pub counted : p < count_in m
  pub held : node_held m p ≡ Some n

-- n stands at the place p, to which its head leads
pub record Hinted (m hints : List ℕ) (n : Node) (p : ℕ) : Type 0 where
  pub some : 0 < half hints
  pub visited : Visits hints (head_of hints n) p
  pub stands : StandsAt m n p

-- the hints with n added at the place p, in front of the places to which its head led; as they were where there is no room for a link
unfoldable pub hints_with : List ℕ → Node → ℕ → List ℕ
hints_with hints n p = pick (nat_lt p (half hints)) (slice_set (slice_set hints (half hints + p) (head_of hints n)) (slot_of n (half hints)) (suc p)) hints

-- each node of the store in m is hinted, and no later place
pub record Linked (m hints : List ℕ) : Type 0 where
  pub room : count_in m ≤ half hints
  pub heads : (s : ℕ) → s < half hints → slice_index hints s ≤ count_in m
  pub each : (p : ℕ) → p < count_in m → Visits hints (head_of hints (slice_index_or (nodes_in m) p Never)) p

-- no two nodes of the store in m are equal
abbrev pub Distinct : List ℕ → Type 0
Distinct m = (p q : ℕ) → p < count_in m → q < count_in m → slice_index_or (nodes_in m) p Never ≡ slice_index_or (nodes_in m) q Never → p ≡ q

-- a store whose nodes are all hinted and distinct stays so, while there is room for their links in the hints
pub record Shares (m after hints hints_after : List ℕ) : Type 0 where
  pub linked : Linked m hints → count_in after ≤ half hints → Linked after hints_after
  pub distinct : Sound m → Linked m hints → Distinct m → Distinct after
  pub same_length : length hints_after ≡ length hints

-- what finding n by its hints, and else adding it, leaves of the memory m and the hints: where all nodes are hinted, n is added
-- only if it does not stand yet
pub record FoundOrAdded (m after hints hints_after : List ℕ) (n : Node) (r : Option ℕ) : Type 0 where
  pub found : (p : ℕ) → Hinted m hints n p → (after ≡ m) × (hints_after ≡ hints) × MatchOption r ⊥ (Hinted m hints n)
  pub added : ((p : ℕ) → Hinted m hints n p → ⊥) → MatchOption r (Full m × (after ≡ m) × (hints_after ≡ hints))
      (λ p. Pushed m after n p × (hints_after ≡ hints_with hints n p))
  pub put : MatchOption r (Full m × (after ≡ m)) (Put m after n)
  pub once : Sound m → Linked m hints → (p : ℕ) → p < count_in m → slice_index_or (nodes_in m) p Never ≡ n → after ≡ m
  pub shares : Shares m after hints hints_after

-- an empty store, and hints that are its own
pub record Started (m after hints hints_after : List ℕ) : Type 0 where
  pub nodes : nodes_in after ≡ []
  pub behind : drop 1 after ≡ drop 1 m
  pub long : length after ≡ length m
  pub proper : Proper after
  pub linked : Linked after hints_after
  pub distinct : Distinct after
  pub same_length : length hints_after ≡ length hints
