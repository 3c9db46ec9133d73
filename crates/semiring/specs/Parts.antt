-- What the parts of a reading owe one another. Assumes nothing: these are definitions.
use Rattle.std.specs.Prelude.{◌≡◌, ℕ, ◌<◌, ◌≤◌, Bool, true, false, List, length, get_or, vec_items, Option, Result, Vec, MatchResult, slice_index, slice_index_or}
use Rattle.std.specs.declared.alloc.Global.{Global}
use Rattle.circuit.specs.declared.Node.{Node}
use Rattle.circuit.specs.declared.Node.TheVariants.{Never, Always, Mark, Or, Both}
use Rattle.circuit.specs.declared.store.Store.{Store}
use Rattle.circuit.specs.Store.{nodes_in}
use Rattle.circuit.specs.Held.{Sound, count_in}
use Rattle.semiring.specs.declared.errors.ReadError.{ReadError}
use Rattle.semiring.specs.declared.errors.ReadError.TheVariants.{NoMemory, BadNode, NoValue, Overflow}
use Rattle.semiring.specs.Algebra.{Algebra, Tries}
use Rattle.semiring.specs.Needed.{Names}
use Rattle.semiring.specs.Refusals.{Good, Bad, given, value_at}

-- e tells the node at fault
abbrev pub ToldBad : List ℕ → List ℕ → ReadError → Type 0
ToldBad m asked NoMemory = ⊥
ToldBad m asked (BadNode p) = Bad m asked p
ToldBad m asked (NoValue k) = ⊥
ToldBad m asked (Overflow p) = ⊥

-- the store is the memory, and it and the nodes asked for are good; or a node at fault is told
abbrev pub ChecksNodes : List ℕ → List ℕ → Result Store ReadError → Type 0
ChecksNodes m asked r = MatchResult r (λ s. (s.nodes.now ≡ m) × Good s.nodes.now asked) (ToldBad m asked)

-- bs says of each node of a sound store whether it is to be read, and with a node those that it names
pub record Chosen (m : List ℕ) (bs : List Bool) : Type 0 where
  pub sound : Sound m
  pub long : length bs ≡ count_in m
  pub closed : (i k : ℕ) → slice_index_or bs i false ≡ true → Names (slice_index_or (nodes_in m) i Never) k → slice_index_or bs k false ≡ true

-- node i is chosen, and is the mark k
pub record ChosenMark (m : List ℕ) (bs : List Bool) (i k : ℕ) : Type 0 where
  pub chosen : get_or bs i false ≡ true
  pub mark : get_or (nodes_in m) i Never ≡ Mark k

-- each chosen mark is one of n values
abbrev pub MarksValued : ℕ → List ℕ → List Bool → Type 0
MarksValued n m bs = (i k : ℕ) → ChosenMark m bs i k → k < n

-- k is the first chosen mark, by place, that is past n values
pub record FirstPast (n : ℕ) (m : List ℕ) (bs : List Bool) (k : ℕ) : Type 0 where
  pub node : ℕ
  pub here : ChosenMark m bs node k
  pub past : n ≤ k
  pub before : (i l : ℕ) → i < node → ChosenMark m bs i l → l < n

-- e tells that mark
abbrev pub ToldPast : ℕ → List ℕ → List Bool → ReadError → Type 0
ToldPast n m bs NoMemory = ⊥
ToldPast n m bs (BadNode p) = ⊥
ToldPast n m bs (NoValue k) = FirstPast n m bs k
ToldPast n m bs (Overflow p) = ⊥

abbrev pub ChecksMarks : ℕ → List ℕ → List Bool → Result (Unit {0}) ReadError → Type 0
ChecksMarks n m bs r = MatchResult r (λ _. MarksValued n m bs) (ToldPast n m bs)

-- a mark is one of n values
abbrev pub Valued : ℕ → Node → Type 0
Valued n Never = Unit {0}
Valued n Always = Unit {0}
Valued n (Mark k) = k < n
Valued n (Or a b) = Unit {0}
Valued n (Both a b) = Unit {0}

-- the value of a node, with v of the marks and w of the nodes that it names
abbrev pub node_value : {V : Type 0} → Algebra V → (ℕ → V) → (ℕ → V) → Node → V
node_value a v w Never = a.zero
node_value a v w Always = a.one
node_value a v w (Mark k) = v k
node_value a v w (Or i j) = a.plus (w i) (w j)
node_value a v w (Both i j) = a.times (w i) (w j)

-- the values ds by place
abbrev pub by_place : {V : Type 0} → Algebra V → List V → ℕ → V
by_place a ds i = slice_index_or ds i a.zero

module _ {V : Type 0} (a : Algebra V) (vs : List V) where
  -- r is the value of a node, from the values ds of the nodes before it, if the machine can hold it
  abbrev pub TriesNode : List V → Node → Option V → Type 0
  TriesNode ds n r = Tries a (node_value a (given a vs) (by_place a ds) n) r

  -- the chosen nodes below p have values that the machine can hold
  abbrev pub FitBelow : List ℕ → List Bool → ℕ → Type 0
  FitBelow m bs p = (i : ℕ) → i < p → slice_index_or bs i false ≡ true → a.fits (value_at a vs m i)

  -- ds has the value of each chosen node, and the machine can hold it
  pub record Evaluated (m : List ℕ) (bs : List Bool) (p : ℕ) (ds : List V) : Type 0 where
    pub long : length ds ≡ p
    pub each : (i : ℕ) → i < p → slice_index_or bs i false ≡ true → slice_index_or ds i a.zero ≡ value_at a vs m i
    pub fit : FitBelow m bs p

  -- p is the first chosen node whose value the machine cannot hold
  pub record FirstLarge (m : List ℕ) (bs : List Bool) (p : ℕ) : Type 0 where
    pub chosen : get_or bs p false ≡ true
    pub large : a.fits (value_at a vs m p) → ⊥
    pub before : FitBelow m bs p

  -- why the chosen nodes are not evaluated
  abbrev pub NotEvaluated : List ℕ → List Bool → ReadError → Type 0
  NotEvaluated m bs NoMemory = Unit {0}
  NotEvaluated m bs (BadNode p) = ⊥
  NotEvaluated m bs (NoValue k) = ⊥
  NotEvaluated m bs (Overflow p) = FirstLarge m bs p

  abbrev pub Evaluates : List ℕ → List Bool → Result (Vec V Global) ReadError → Type 0
  Evaluates m bs r = MatchResult r (λ ds. Evaluated m bs (count_in m) (vec_items ds)) (NotEvaluated m bs)

-- each place asked for is one of n
abbrev pub Within : ℕ → List ℕ → Type 0
Within n asked = (j : ℕ) → j < length asked → slice_index asked j < n

-- xs are the values ds at the places asked for
pub record Picked {V : Type 0} (ds : List V) (asked : List ℕ) (xs : List V) : Type 0 where
  pub long : length xs ≡ length asked
  pub each : (j : ℕ) (d : V) → j < length asked → slice_index_or xs j d ≡ slice_index_or ds (slice_index asked j) d
