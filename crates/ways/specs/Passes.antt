-- What the passes over the nodes of a store find, place by place. Assumes nothing: these are definitions.
use Rattle.std.specs.Prelude.{◌≡◌, ℕ, ◌+◌, ◌<◌, ◌≤◌, Bool, true, false, not, ◌&&◌, ◌||◌, List, [], length, Decides, slice_index_or, slice_set}
use Rattle.tables.specs.Bool.{pick}
use Rattle.circuit.specs.declared.Node.{Node}
use Rattle.circuit.specs.declared.Node.TheVariants.{Never, Always, Mark, Or, Both}
use Rattle.circuit.specs.Store.{nodes_in, expr_of}
use Rattle.provenance.specs.Polynomial.{Monomial, Polynomials, only, sum, multiplied, normal}
use Rattle.polynomial.specs.Rise.{FitsIn}

-- the normal form of the node at place i of the store m
abbrev pub normal_at : List ℕ → ℕ → List Monomial
normal_at m i = normal (expr_of (nodes_in m) i)

abbrev pub node_at : List ℕ → ℕ → Node
node_at m i = slice_index_or (nodes_in m) i Never

-- whether a node comes to nothing, by whether earlier nodes do
abbrev pub empty_node : List Bool → Node → Bool
empty_node es Never = true
empty_node es Always = false
empty_node es (Mark k) = false
empty_node es (Or a b) = slice_index_or es a false && slice_index_or es b false
empty_node es (Both a b) = slice_index_or es a false || slice_index_or es b false

-- es says of each of the first n nodes whether it comes to nothing
pub record Empties (m : List ℕ) (n : ℕ) (es : List Bool) : Type 0 where
  pub long : length es ≡ n
  pub each : (j : ℕ) → j < n → Decides (slice_index_or es j false) (normal_at m j ≡ [])

-- P of both nodes that a node names
abbrev pub OfNamed : (ℕ → Type 0) → Node → Type 0
OfNamed P Never = Unit {0}
OfNamed P Always = Unit {0}
OfNamed P (Mark k) = Unit {0}
OfNamed P (Or a b) = P a × P b
OfNamed P (Both a b) = P a × P b

-- the nodes that a node names are wanted, unless they come to nothing
abbrev pub wanted_with : List Bool → Node → List Bool → List Bool
wanted_with es Never ws = ws
wanted_with es Always ws = ws
wanted_with es (Mark k) ws = ws
wanted_with es (Or a b) ws = slice_set (slice_set ws a (not (slice_index_or es a false))) b (not (slice_index_or es b false))
wanted_with es (Both a b) ws = slice_set (slice_set ws a (not (slice_index_or es a false))) b (not (slice_index_or es b false))

-- node j is wanted, or else comes to nothing
abbrev pub Covered : List ℕ → List Bool → ℕ → Type 0
Covered m ws j = slice_index_or ws j false ≡ false → normal_at m j ≡ []

-- ws says which nodes have to be expanded for node i: i itself, and what a wanted node names, unless it comes to nothing.
-- A wanted node is no larger than node i.
pub record Wanted (m : List ℕ) (i : ℕ) (ws : List Bool) : Type 0 where
  pub long : length ws ≡ i + 1
  pub last : Covered m ws i
  pub named : (j : ℕ) → j ≤ i → slice_index_or ws j false ≡ true → OfNamed (Covered m ws) (node_at m j)
  pub part : (j : ℕ) → j ≤ i → slice_index_or ws j false ≡ true → (room : ℕ) → FitsIn room (normal_at m i) → FitsIn room (normal_at m j)

-- the normal form of a node, by those of earlier nodes
abbrev pub node_normal : List (List Monomial) → Node → List Monomial
node_normal ps Never = []
node_normal ps Always = Polynomials.one
node_normal ps (Mark k) = only k
node_normal ps (Or a b) = sum (slice_index_or ps a []) (slice_index_or ps b [])
node_normal ps (Both a b) = multiplied (slice_index_or ps a []) (slice_index_or ps b [])

-- the normal form of the node behind those of ps, if it is wanted
abbrev pub next_normal : List ℕ → List Bool → List (List Monomial) → List Monomial
next_normal m ws ps = pick (slice_index_or ws (length ps) false) (node_normal ps (node_at m (length ps))) []
