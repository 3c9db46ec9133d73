-- Readings that look right and are wrong: each is shown to give another number than the query on the tables of the example.
-- Assumes nothing: these are definitions and a statement.
use Rattle.std.specs.Prelude.{◌≡◌, ℕ, Bool, true, false, not, ◌&&◌, ◌||◌, List, [], ◌∷◌, ◌==◌}
use Rattle.tables.specs.Bool.{pick}
use Rattle.tables.specs.Tables.{Row, same_row}
use Rattle.query.specs.Semiring.{Count}
use Rattle.query.specs.Query.{Query, scan, select, project, product, union, same, Annotated, selected, projected, paired, run, total, worth}
use Rattle.provenance.specs.Polynomial.{Monomial, merged, normal_value}
use Rattle.provenance.specs.Ships.{◌&◌, ◌of◌, given, tables, held, shared, ways}

-- only the first way is kept
unfoldable pub first_way : List Monomial → List Monomial
first_way [] = []
first_way (m ∷ ms) = m ∷ []

-- all rows that any way uses, as if they were used together
unfoldable pub rows_used : List Monomial → List ℕ
rows_used [] = []
rows_used (m ∷ ms) = merged m.marks (rows_used ms)

abbrev pub in_one : List Monomial → List Monomial
in_one ms = 1 of rows_used ms ∷ []

-- a way as a set of rows: a mark that is used more than once stands once
unfoldable pub once_each : List ℕ → List ℕ
once_each [] = []
once_each (k ∷ []) = k ∷ []
once_each (k ∷ l ∷ ks) = pick (k == l) (once_each (l ∷ ks)) (k ∷ once_each (l ∷ ks))

unfoldable pub as_sets : List Monomial → List Monomial
as_sets [] = []
as_sets (m ∷ ms) = m.count of once_each m.marks ∷ as_sets ms

-- the marks xs all stand among the marks ys, both in order
unfoldable pub contained : List ℕ → List ℕ → Bool
contained [] ys = true
contained (x ∷ xs) [] = false
contained (x ∷ xs) (y ∷ ys) = pick (x == y) (contained xs ys) (contained (x ∷ xs) ys)

-- one of the ways is another than w and contained in it
unfoldable pub contains_one : List ℕ → List Monomial → Bool
contains_one w [] = false
contains_one w (m ∷ ms) = (not (same_row m.marks w) && contained m.marks w) || contains_one w ms

-- a way that contains another is dropped
unfoldable pub without_larger : List Monomial → List Monomial → List Monomial
without_larger all [] = []
without_larger all (m ∷ ms) = pick (contains_one m.marks all) (without_larger all ms) (m ∷ without_larger all ms)

abbrev pub smallest : List Monomial → List Monomial
smallest ms = without_larger ms ms

-- equal rows are put together, and their number is forgotten
unfoldable pub stands_in : {V : Type 0} → Row → List (Annotated V) → Bool
stands_in r [] = false
stands_in r (x ∷ xs) = same_row r x.row || stands_in r xs

unfoldable pub distinct : {V : Type 0} → List (Annotated V) → List (Annotated V)
distinct [] = []
distinct (x ∷ xs) = pick (stands_in x.row xs) (distinct xs) (x ∷ distinct xs)

-- `held`, with the rows of both tables put together so before the product
abbrev pub held_distinct : Row → ℕ
held_distinct r =
    let rows = λ (t : ℕ). distinct (run Count (λ k. 1) tables (scan t)) in
    total Count r (projected (0 & 3) (selected (same 1 2) (paired Count (rows 0) (rows 1))))

-- a ship that sails, and again for each holder of its licence
abbrev pub known : Query
known = union (project (0 ∷ []) (scan 0)) (project (0 ∷ []) (select (same 1 2) (product (scan 0) (scan 1))))

-- the wrong reading of the ways of a row counts n, and the query counts m
abbrev pub Misread : (List Monomial → List Monomial) → Query → Row → (ℕ → ℕ) → ℕ → ℕ → Type 0
Misread wrong q r v n m = (normal_value Count v (wrong (ways q r)) ≡ n) × (worth Count v tables q r ≡ m)

pub record Traps : Type 0 where
  -- with row 0 taken out, row 7 40 still comes about once: by rows 1 and 1025, the second way
  pub one_way_kept : Misread first_way held (7 & 40) (given ((0, 0) ∷ []) 1) 0 1
  -- and rows 0 and 1024 are not needed beside them
  pub ways_in_one : Misread in_one held (7 & 40) (given ((0, 0) ∷ []) 1) 0 1
  -- with row 2 there three times, row 8 8 comes about 3 × 3 times by row 2 beside itself
  pub ways_as_sets : Misread as_sets shared (8 & 8) (given ((2, 3) ∷ []) 1) 10 16
  -- ship 7 sails under two licences, and these have three holders in all
  pub larger_dropped : Misread smallest known (7 ∷ []) (given [] 1) 2 5
  -- rows 2 and 3 are equal, and each gives row 8 40 once
  pub number_forgotten : (held_distinct (8 & 40) ≡ 1) × (worth Count (λ k. 1) tables held (8 & 40) ≡ 2)
