-- What is promised of an answer, whatever semiring it is read in. Assumes nothing: each is a statement, a type whose proof is owed.
use Rattle.std.specs.Prelude.{◌≡◌, ℕ, ◌^◌, ◌<◌, ◌≤◌, List, map}
use Rattle.tables.specs.Tables.{Row}
use Rattle.query.specs.Semiring.{Semiring, Lawful, Count, Level, Price, Sets}
use Rattle.query.specs.Query.{Query, worth}
use Rattle.circuit.specs.Expr.{value, provenance}
use Rattle.circuit.specs.declared.Node.{Node}
use Rattle.circuit.specs.Store.{expr_of}
use Rattle.provenance.specs.Answer.{Answer, Answered, Listed}
use Rattle.provenance.specs.NormalForm.{NotApart}

-- the semirings with a name of their own are lawful: counts and prices on all values, levels up to the top, sets on 64 bits
pub record NamedLawful : Type 0 where
  pub count : Lawful Count (λ _. Unit {0})
  pub level : (top : ℕ) → Lawful (Level top) (λ a. a ≤ top)
  pub price : Lawful Price (λ _. Unit {0})
  pub sets : Lawful Sets (λ a. a < 2 ^ 64)

-- to read a row's provenance in a semiring, lawful or not, is to run the query there
abbrev pub ReadOrRun : Type 1
ReadOrRun =
    (S : Semiring) (v : ℕ → S.Value) (ts : List (List Row)) (q : Query) (r : Row) → value S v (provenance ts q r) ≡ worth S v ts q r

-- THE MAIN PROMISE. Take an answer with its provenance, any semiring lawful on some values, and such a value for each mark.
-- What is read at the node of a row is what the query gives for that row when it is run in the semiring; and a row that is
-- not in the answer is worth zero.
abbrev pub AnySemiring : Type 1
AnySemiring =
    (ts : List (List Row)) (q : Query) (ns : List Node) (out : List Answer) → Answered ts q ns out →
    (S : Semiring) (In : S.Value → Type 0) → Lawful S In → (v : ℕ → S.Value) → ((k : ℕ) → In (v k)) → (r : Row) →
    ((i : ℕ) → Listed r i out → value S v (expr_of ns i) ≡ worth S v ts q r)
    × (((i : ℕ) → Listed r i out → ⊥) → worth S v ts q r ≡ S.zero)

-- so what is read of a row's provenance is read at its node: no lawful semiring tells the two apart
abbrev pub AtNode : Type 1
AtNode =
    (ts : List (List Row)) (q : Query) (ns : List Node) (out : List Answer) → Answered ts q ns out →
    (r : Row) (i : ℕ) → Listed r i out → NotApart (expr_of ns i) (provenance ts q r)

-- every query has an answer, if nodes are not counted
abbrev pub SomeAnswer : Type 0
SomeAnswer = (ts : List (List Row)) (q : Query) → (ns : List Node) × (out : List Answer) × Answered ts q ns out

-- two answers to one query have the same rows, and provenance that no lawful semiring tells apart
abbrev pub OneAnswer : Type 1
OneAnswer =
    (ts : List (List Row)) (q : Query) (ns ms : List Node) (out put : List Answer) → Answered ts q ns out → Answered ts q ms put →
    (map (λ (a : Answer). a.row) out ≡ map (λ (a : Answer). a.row) put)
    × ((r : Row) (i j : ℕ) → Listed r i out → Listed r j put → NotApart (expr_of ns i) (expr_of ms j))
