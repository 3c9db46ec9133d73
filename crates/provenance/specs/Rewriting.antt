-- What is promised of rewriting a query. Assumes nothing: these are definitions and statements.
use Rattle.std.specs.Prelude.{◌≡◌, ℕ, ◌+◌, ◌<◌, List, length, slice_index}
use Rattle.std.specs.List.{AllByRecursion}
use Rattle.tables.specs.Tables.{Row}
use Rattle.query.specs.Semiring.{Count}
use Rattle.query.specs.Query.{Test, same, is, below, Query, select, project, product, union, cells, run}
use Rattle.circuit.specs.Expr.{provenance}
use Rattle.provenance.specs.Polynomial.{normal}

-- a query may be rewritten as another if the provenance of every row stays equal
abbrev pub SameProvenance : List (List Row) → Query → Query → Type 0
SameProvenance ts p q = (r : Row) → normal (provenance ts p r) ≡ normal (provenance ts q r)

-- every row that q gives has w cells
abbrev pub Wide : List (List Row) → Query → ℕ → Type 0
Wide ts q w = AllByRecursion (λ x. length x.row ≡ w) (run Count (λ k. 1) ts q)

-- a test reads only the first w columns
abbrev pub Within : ℕ → Test → Type 0
Within w (same a b) = (a < w) × (b < w)
Within w (is a n) = a < w
Within w (below a n) = a < w

-- the same test, w columns further on
abbrev pub later : ℕ → Test → Test
later w (same a b) = same (w + a) (w + b)
later w (is a n) = is (w + a) n
later w (below a n) = below (w + a) n

-- what a test says of the columns cs of a row, as a test of the row
abbrev pub through : List ℕ → Test → Test
through cs (same a b) = same (slice_index cs a) (slice_index cs b)
through cs (is a n) = is (slice_index cs a) n
through cs (below a n) = below (slice_index cs a) n

-- tests change places and go into both sides of a union; unions come out of products and are swapped; both are regrouped
pub record Rewrites (ts : List (List Row)) (p q s : Query) (c d : Test) : Type 0 where
  pub tests_swapped : SameProvenance ts (select c (select d q)) (select d (select c q))
  pub test_in_union : SameProvenance ts (select c (union p q)) (union (select c p) (select c q))
  pub union_on_left : SameProvenance ts (product (union p q) s) (union (product p s) (product q s))
  pub union_on_right : SameProvenance ts (product p (union q s)) (union (product p q) (product p s))
  pub products_regrouped : SameProvenance ts (product p (product q s)) (product (product p q) s)
  pub unions_regrouped : SameProvenance ts (union p (union q s)) (union (union p q) s)
  pub unions_swapped : SameProvenance ts (union p q) (union q p)

-- a test that reads one side of a product is made on that side, where p gives rows of w cells
pub record PushIn (ts : List (List Row)) (p q : Query) (c : Test) (w : ℕ) : Type 0 where
  pub on_left : Within w c → SameProvenance ts (select c (product p q)) (product (select c p) q)
  pub on_right : SameProvenance ts (select (later w c) (product p q)) (product p (select c q))

-- a test goes below a projection that has its columns; a projection goes into both sides of a union and takes in another one
pub record ProjectRewrites (ts : List (List Row)) (p q : Query) (cs ds : List ℕ) (c : Test) : Type 0 where
  pub test_below : Within (length cs) c → SameProvenance ts (select c (project cs q)) (project cs (select (through cs c) q))
  pub in_union : SameProvenance ts (project cs (union p q)) (union (project cs p) (project cs q))
  pub composed : AllByRecursion (λ a. a < length cs) ds → SameProvenance ts (project ds (project cs q)) (project (cells ds cs) q)

-- q' is q, with p' in place of p at some of the places where p stands in it
pub data Replaced (p p' : Query) : Query → Query → Type 0 where
  here : Replaced p p' p p'
  unchanged : {q : Query} → Replaced p p' q q
  in_select : {q q' : Query} (c : Test) → Replaced p p' q q' → Replaced p p' (select c q) (select c q')
  in_project : {q q' : Query} (cs : List ℕ) → Replaced p p' q q' → Replaced p p' (project cs q) (project cs q')
  in_product : {q q' s s' : Query} → Replaced p p' q q' → Replaced p p' s s' → Replaced p p' (product q s) (product q' s')
  in_union : {q q' s s' : Query} → Replaced p p' q q' → Replaced p p' s s' → Replaced p p' (union q s) (union q' s')

-- all these rewritings leave the provenance of every row equal, and they may be made anywhere inside a query
pub record Rewriting : Type 0 where
  pub moved : (ts : List (List Row)) (p q s : Query) (c d : Test) → Rewrites ts p q s c d
  pub pushed_in : (ts : List (List Row)) (p q : Query) (c : Test) (w : ℕ) → Wide ts p w → PushIn ts p q c w
  pub projected : (ts : List (List Row)) (p q : Query) (cs ds : List ℕ) (c : Test) → ProjectRewrites ts p q cs ds c
  pub inside : (ts : List (List Row)) (p p' q q' : Query) → SameProvenance ts p p' → Replaced p p' q q' → SameProvenance ts q q'
