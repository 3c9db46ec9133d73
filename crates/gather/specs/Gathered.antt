-- The rows that a query gives, gathered into its answer: in order, and equal rows together. Assumes nothing: these are definitions.
use Rattle.std.specs.Prelude.{◌≡◌, ℕ, zero, suc, ◌+◌, ◌-◌, ◌*◌, ◌<◌, ◌≤◌, false, List, [], ◌∷◌, map, length, get_or, take, drop, slice_index, slice_index_or}
use Rattle.std.specs.List.{AllByRecursion}
use Rattle.tables.specs.Tables.{Row, before}
use Rattle.query.specs.Semiring.{Count}
use Rattle.query.specs.Query.{Query, Annotated, run, total}
use Rattle.circuit.specs.declared.Node.{Node}
use Rattle.circuit.specs.declared.Node.TheVariants.{Never}
use Rattle.circuit.specs.Expr.{Expr, mark, Plain, value}
use Rattle.circuit.specs.Store.{nodes_in, expr_of}
use Rattle.circuit.specs.Held.{count_in, Proper}
use Rattle.circuit.specs.Hints.{half, Linked, Distinct}
use Rattle.provenance.specs.Answer.{Answer, RowsRise, Listed, Answered}
use Rattle.rows.specs.declared.memory.Region.{Region}
use Rattle.gather.specs.declared.region.Entry.{Entry}

-- n rows of w cells in memory, one in every `span` numbers, each behind its node
unfoldable pub rows_apart : ℕ → ℕ → ℕ → List ℕ → List Answer
rows_apart span w zero xs = []
rows_apart span w (suc n) xs = record { row = take w (drop 1 xs); node = slice_index xs 0 } ∷ rows_apart span w n (drop span xs)

-- the rows of a region of the work row m
abbrev pub region_rows : List ℕ → Region → List Answer
region_rows m x = rows_apart 9 x.width x.count (drop (9 * x.first) m)

-- the n rows of an answer, w cells each
abbrev pub answers_in : ℕ → ℕ → List ℕ → List Answer
answers_in w n xs = rows_apart (1 + w) w n xs

abbrev pub answer_of : Entry → Answer
answer_of e = record { row = e.cells.now; node = e.node }

abbrev pub rows_of : List Answer → List Row
rows_of xs = map (λ (a : Answer). a.row) xs

abbrev pub Occurs : Row → List Answer → Type 0
Occurs r xs = (i : ℕ) × Listed r i xs

-- the rows, each annotated with what its node's expression counts
abbrev pub counted : (ℕ → ℕ) → List Node → List Answer → List (Annotated ℕ)
counted v ns xs = map (λ (a : Answer). record { row = a.row; note = value Count v (expr_of ns a.node) }) xs

-- the rows `out`, with nodes of `after`, are the rows `rows`, with nodes of `before`, in order and each once: the node of
-- a row counts, whatever each mark counts, what the rows equal to it count together
pub record Gathered (before after : List Node) (rows out : List Answer) : Type 0 where
  pub rise : RowsRise out
  pub all : (r : Row) → Occurs r rows → Occurs r out
  pub only : (r : Row) → Occurs r out → Occurs r rows
  pub node : (r : Row) (i : ℕ) → Listed r i out → i < length after
  pub counts : (r : Row) (i : ℕ) → Listed r i out → (v : ℕ → ℕ) → value Count v (expr_of after i) ≡ total Count r (counted v before rows)

-- `after` is the store m with at most k nodes more: the nodes of m are as they were and stand for what they stood for, and what is
-- behind the last is as it was; where the hints lead to every node and no two are equal, that stays so while the hints have room
pub record Extended (m after hints hints_after : List ℕ) (k : ℕ) : Type 0 where
  pub proper : Proper after
  pub long : length after ≡ length m
  pub more : count_in m ≤ count_in after
  pub few : count_in after ≤ count_in m + k
  pub before : (i : ℕ) → i < count_in m → slice_index_or (nodes_in after) i Never ≡ slice_index_or (nodes_in m) i Never
  pub same : (i : ℕ) → i < count_in m → expr_of (nodes_in after) i ≡ expr_of (nodes_in m) i
  pub behind : drop (1 + 3 * count_in after) after ≡ drop (1 + 3 * count_in after) m
  pub as_many : length hints_after ≡ length hints
  pub linked : Linked m hints → count_in after ≤ half hints → Linked after hints_after
  pub distinct : Linked m hints → count_in after ≤ half hints → Distinct m → Distinct after

-- the nodes of the rows stand in the store m, and there is room for a node and for a row of the answer for each
pub record Ready (rows : List Answer) (w : ℕ) (m out : List ℕ) : Type 0 where
  pub proper : Proper m
  pub known : AllByRecursion (λ (a : Answer). a.node < count_in m) rows
  pub nodes : 1 + 3 * (count_in m + length rows) ≤ length m
  pub space : 1 + (1 + w) * length rows ≤ length out

-- behind its first number `after` holds the rows, w cells each, gathered into n rows; what is behind these is as it was
pub record Merged (rows : List Answer) (w : ℕ) (m m_after hints hints_after out after : List ℕ) (n : ℕ) : Type 0 where
  pub few : n ≤ length rows
  pub answer : Gathered (nodes_in m) (nodes_in m_after) rows (answers_in w n (drop 1 after))
  pub store : Extended m m_after hints hints_after (length rows - n)
  pub behind : drop (1 + (1 + w) * n) after ≡ drop (1 + (1 + w) * n) out

-- each row has w cells
abbrev pub Wide : ℕ → List Answer → Type 0
Wide w xs = AllByRecursion (λ (a : Answer). length a.row ≡ w) xs

-- no row stands before the one in front of it
abbrev pub InOrder : List Answer → Type 0
InOrder xs = (k : ℕ) → k + 1 < length xs → before (slice_index_or (rows_of xs) (k + 1) []) (slice_index_or (rows_of xs) k []) ≡ false

-- the rows, with nodes of ns, are those that a query gives: they count, whatever each mark counts, what the query's rows count
abbrev pub Gives : List (List Row) → Query → List Node → List Answer → Type 0
Gives ts q ns rows = (v : ℕ → ℕ) → counted v ns rows ≡ run Count v ts q

-- `out`, with nodes of `after`, is an answer to every query that gives the rows `rows`, with nodes of `before`
abbrev pub Answers : List Node → List Node → List Answer → List Answer → Type 0
Answers before after rows out = (ts : List (List Row)) (q : Query) → Gives ts q before rows → Answered ts q after out

-- `after` is the number n of rows and then the rows, which are an answer to every query that gives the rows `rows`
pub record Written (rows : List Answer) (w : ℕ) (m m_after hints hints_after out after : List ℕ) (n : ℕ) : Type 0 where
  pub count : get_or after 0 0 ≡ n
  pub merged : Merged rows w m m_after hints hints_after out after n
  pub answers : Answers (nodes_in m) (nodes_in m_after) rows (answers_in w n (drop 1 after))

-- rows that are gathered are an answer to every query that gives them
abbrev pub GatheringAnswers : Type 0
GatheringAnswers = (before after : List Node) (rows out : List Answer) → Gathered before after rows out → Answers before after rows out

-- the rows, each annotated with its node's expression
abbrev pub noted : List Node → List Answer → List (Annotated Expr)
noted ns xs = map (λ (a : Answer). record { row = a.row; note = expr_of ns a.node }) xs

-- a query gives the rows whose nodes stand for the expressions with which it gives them
abbrev pub NotedGives : Type 0
NotedGives = (ts : List (List Row)) (q : Query) (ns : List Node) (rows : List Answer) → noted ns rows ≡ run Plain mark ts q → Gives ts q ns rows
