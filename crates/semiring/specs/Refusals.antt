-- Why nothing is read. A reading is refused for the first of these reasons that applies, in this order. Assumes nothing: these are definitions.
use Rattle.std.specs.Prelude.{◌≡◌, ℕ, ◌<◌, ◌≤◌, ◌⊎◌, List, length, get_or, Some, None, Option, slice_index, slice_index_or}
use Rattle.codec.specs.declared.output.Refused.{Refused}
use Rattle.circuit.specs.declared.Node.TheVariants.{Never, Mark}
use Rattle.circuit.specs.Expr.{value}
use Rattle.circuit.specs.Store.{nodes_in, expr_of}
use Rattle.circuit.specs.Held.{Sound, Amiss, count_in}
use Rattle.semiring.specs.declared.errors.ReadError.{ReadError}
use Rattle.semiring.specs.declared.errors.ReadError.TheVariants.{NoMemory, BadNode, NoValue, Overflow}
use Rattle.semiring.specs.Algebra.{Algebra, semiring}
use Rattle.semiring.specs.Needed.{Needed}

-- the number of each refusal and the place that is told with it; want of memory has neither
abbrev pub refusal_of : ReadError → Option Refused
refusal_of NoMemory = None
refusal_of (BadNode node) = Some (record { number = 7; place = node })
refusal_of (NoValue mark) = Some (record { number = 8; place = mark })
refusal_of (Overflow node) = Some (record { number = 9; place = node })

-- the store m can be read, and the nodes asked for are in it
pub record Good (m asked : List ℕ) : Type 0 where
  pub sound : Sound m
  pub there : (j : ℕ) → j < length asked → slice_index asked j < count_in m

-- the store can be read, and p is the first of the nodes asked for that is not in it
pub record Absent (m asked : List ℕ) (p : ℕ) : Type 0 where
  pub sound : Sound m
  pub at : ℕ
  pub within : at < length asked
  pub is : get_or asked at 0 ≡ p
  pub past : count_in m ≤ p
  pub before : (j : ℕ) → j < at → slice_index asked j < count_in m

-- p is the first node of the store that is amiss, or else the first of those asked for that is not in it
abbrev pub Bad : List ℕ → List ℕ → ℕ → Type 0
Bad m asked p = Amiss m p ⊎ Absent m asked p

-- node i is needed and is the mark k, which is past n values
pub record Lacks (n : ℕ) (m asked : List ℕ) (i k : ℕ) : Type 0 where
  pub needed : Needed (nodes_in m) asked i
  pub mark : get_or (nodes_in m) i Never ≡ Mark k
  pub past : n ≤ k

-- k is past n values, and is the mark of the first node that is needed and whose mark is
pub record HasNoValue (n : ℕ) (m asked : List ℕ) (k : ℕ) : Type 0 where
  pub good : Good m asked
  pub node : ℕ
  pub lacks : Lacks n m asked node k
  pub before : (i l : ℕ) → i < node → Lacks n m asked i l → ⊥

-- the store and the nodes asked for are good, and each mark that is needed is one of n values
pub record Complete (n : ℕ) (m asked : List ℕ) : Type 0 where
  pub good : Good m asked
  pub valued : (i k : ℕ) → Lacks n m asked i k → ⊥

module _ {V : Type 0} (a : Algebra V) (vs : List V) where
  -- the value of each mark, as it is read; those past the values do not count
  abbrev pub given : ℕ → V
  given k = a.taken (slice_index_or vs k a.zero)

  -- what node i of the store m is worth, in whole numbers of any size
  abbrev pub value_at : List ℕ → ℕ → V
  value_at m i = value (semiring a) given (expr_of (nodes_in m) i)

  -- p is the first node that is needed and whose value the machine cannot hold
  pub record Overflows (m asked : List ℕ) (p : ℕ) : Type 0 where
    pub complete : Complete (length vs) m asked
    pub needed : Needed (nodes_in m) asked p
    pub large : a.fits (value_at m p) → ⊥
    pub before : (i : ℕ) → i < p → Needed (nodes_in m) asked i → a.fits (value_at m i)

  -- why nothing is read
  abbrev pub NotRead : List ℕ → List ℕ → ReadError → Type 0
  NotRead m asked NoMemory = Unit {0}
  NotRead m asked (BadNode p) = Bad m asked p
  NotRead m asked (NoValue k) = HasNoValue (length vs) m asked k
  NotRead m asked (Overflow p) = Overflows m asked p
