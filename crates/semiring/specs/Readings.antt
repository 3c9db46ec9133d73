-- What is read. Assumes nothing: these are definitions.
use Rattle.std.specs.Prelude.{◌≡◌, ℕ, ◌<◌, List, length, IfOk, vec_items, Result, Vec, MatchResult, slice_index, slice_index_or}
use Rattle.std.specs.declared.alloc.Global.{Global}
use Rattle.tables.specs.Tables.{Row}
use Rattle.query.specs.Query.{Query, worth}
use Rattle.circuit.specs.declared.Node.TheVariants.{Never, Mark}
use Rattle.circuit.specs.Store.{nodes_in}
use Rattle.provenance.specs.Answer.{Answer, Answered, Listed}
use Rattle.semiring.specs.declared.errors.ReadError.{ReadError}
use Rattle.semiring.specs.Algebra.{Algebra, semiring}
use Rattle.semiring.specs.Needed.{Needed}
use Rattle.semiring.specs.Refusals.{Complete, given, value_at, NotRead}

module _ {V : Type 0} (a : Algebra V) (vs : List V) (m asked : List ℕ) where
  -- no reason to refuse applies, and xs are the values of the nodes asked for
  pub record Reads (xs : List V) : Type 0 where
    pub complete : Complete (length vs) m asked
    pub fit : (i : ℕ) → Needed (nodes_in m) asked i → a.fits (value_at a vs m i)
    pub long : length xs ≡ length asked
    pub each : (j : ℕ) → j < length asked → slice_index_or xs j a.zero ≡ value_at a vs m (slice_index asked j)

  -- what is told: the values, or why there are none
  abbrev pub ReadTold : Result (Vec V Global) ReadError → Type 0
  ReadTold r = MatchResult r (λ xs. Reads (vec_items xs)) (NotRead a vs m asked)

  -- v has the values that are given at the marks that are needed, and any lawful values elsewhere
  pub record Agrees (v : ℕ → V) : Type 0 where
    pub lawful : (k : ℕ) → a.lawful (v k)
    pub same : (i k : ℕ) → Needed (nodes_in m) asked i → slice_index_or (nodes_in m) i Never ≡ Mark k → v k ≡ given a vs k

  -- P says something of each value that is read at the node of a row, in any answer to any query that the store holds
  abbrev pub AtRows : (List (List Row) → Query → Row → V → Type 0) → List V → Type 0
  AtRows P xs =
      (ts : List (List Row)) (q : Query) (out : List Answer) → Answered ts q (nodes_in m) out →
      (r : Row) (j : ℕ) → j < length asked → Listed r (slice_index asked j) out → P ts q r (slice_index_or xs j a.zero)

  -- THE MAIN PROMISE: the value that is read is what the query gives for the row when it is run in the semiring over tables whose rows
  -- carry the values given. Rows whose marks are not needed may carry any lawful values
  pub record Worth (xs : List V) : Type 0 where
    pub as_given : AtRows (λ ts q r x. x ≡ worth (semiring a) (given a vs) ts q r) xs
    pub agreeing : AtRows (λ ts q r x. (v : ℕ → V) → Agrees v → x ≡ worth (semiring a) v ts q r) xs

  abbrev pub WorthTold : Result (Vec V Global) ReadError → Type 0
  WorthTold r = IfOk r (λ xs. Worth (vec_items xs))
