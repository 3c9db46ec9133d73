-- Where rows come from, way by way, straight from the query and without a semiring. Assumes nothing: these are definitions and a statement.
use Rattle.std.specs.Prelude.{◌≡◌, ℕ, ◌+◌, ◌<◌, ◌&&◌, List, [], ◌∷◌, ◌++◌, slice_index_or}
use Rattle.tables.specs.Bool.{pick}
use Rattle.tables.specs.Tables.{Row, same_row}
use Rattle.query.specs.Query.{Query, scan, select, project, product, union, Annotated, mark_of, annotated, selected, projected}
use Rattle.circuit.specs.Expr.{provenance}
use Rattle.circuit.specs.declared.Node.{Node}
use Rattle.provenance.specs.Polynomial.{Monomial, merged, normal, WellFormed, count_of}
use Rattle.provenance.specs.Answer.{Answer, Listed, Answered}

-- rows of tables with at most 1024 rows have marks of their own
abbrev pub MarksApart : Type 0
MarksApart = (t u i j : ℕ) → i < 1024 → j < 1024 → mark_of t i ≡ mark_of u j → (t ≡ u) × (i ≡ j)

-- one time that a row comes about, noted with the way: the marks of the table rows that were used, in order, a mark as often as it was used
abbrev pub Time : Type 0
Time = Annotated (List ℕ)

-- one row beside each of others uses what both used
unfoldable pub time_beside : Time → List Time → List Time
time_beside x [] = []
time_beside x (y ∷ ys) = record { row = x.row ++ y.row; note = merged x.note y.note } ∷ time_beside x ys

unfoldable pub times_paired : List Time → List Time → List Time
times_paired [] ys = []
times_paired (x ∷ xs) ys = time_beside x ys ++ times_paired xs ys

-- every time that a row comes about: a scanned row uses its own mark, a selected or projected row what it used before, a pair what
-- both sides used; and a union has the times of both
unfoldable pub times : List (List Row) → Query → List Time
times ts (scan t) = annotated (λ k. k ∷ []) t 0 (slice_index_or ts t [])
times ts (select c q) = selected c (times ts q)
times ts (project cs q) = projected cs (times ts q)
times ts (product p q) = times_paired (times ts p) (times ts q)
times ts (union p q) = times ts p ++ times ts q

-- how often a row comes about
unfoldable pub often : Row → List Time → ℕ
often r [] = 0
often r (x ∷ xs) = pick (same_row r x.row) (1 + often r xs) (often r xs)

-- how often a row comes about by the way w
unfoldable pub often_by : Row → List ℕ → List Time → ℕ
often_by r w [] = 0
often_by r w (x ∷ xs) = pick (same_row r x.row && same_row w x.note) (1 + often_by r w xs) (often_by r w xs)

abbrev pub ComesAbout : List (List Row) → Query → Row → Type 0
ComesAbout ts q r = 0 < often r (times ts q)

-- ms are the ways of the row r: each once and in order, with the number of times that r comes about by it
pub record WaysOf (xs : List Time) (r : Row) (ms : List Monomial) : Type 0 where
  pub well_formed : WellFormed ms
  pub counted : (w : List ℕ) → count_of w ms ≡ often_by r w xs

-- the normal form of a row's provenance is its ways, and nothing else is
pub record WayByWay : Type 0 where
  pub ways : (ts : List (List Row)) (q : Query) (r : Row) → WaysOf (times ts q) r (normal (provenance ts q r))
  pub no_other : (ts : List (List Row)) (q : Query) (r : Row) (ms : List Monomial) → WaysOf (times ts q) r ms → ms ≡ normal (provenance ts q r)
  pub in_answer : (ts : List (List Row)) (q : Query) (ns : List Node) (out : List Answer) → Answered ts q ns out →
      (r : Row) (i : ℕ) → Listed r i out → ComesAbout ts q r
  pub answered : (ts : List (List Row)) (q : Query) (ns : List Node) (out : List Answer) → Answered ts q ns out →
      (r : Row) → ComesAbout ts q r → (i : ℕ) × Listed r i out
