-- What is promised of one step on a query in memory. Assumes nothing: these are definitions.
use Rattle.std.specs.Prelude.{◌≡◌, ℕ, ◌*◌, ◌<◌, List, [], length, take, drop, Some, None, Option, slice_index, slice_index_or}
use Rattle.std.specs.List.{AllByRecursion}
use Rattle.tables.specs.Tables.{Row, fit, fits, tables_in, widths_in}
use Rattle.query.specs.Query.{Query}
use Rattle.query.specs.Parse.{parsed, parse}
use Rattle.provenance.specs.Rewriting.{SameProvenance}
use Rattle.rewrite.specs.declared.Step.{Step}
use Rattle.rewrite.specs.Rewritten.{size, rewritten}
use Rattle.rewrite.specs.Written.{Fits}

-- the rows of each table have the table's width
abbrev pub OfWidths : List ℕ → List (List Row) → Type 0
OfWidths ws ts = (t : ℕ) → t < length ws → AllByRecursion (λ r. length r ≡ slice_index ws t) (slice_index_or ts t [])

-- n numbers are written: they are the query that the step makes, as wide and of the same provenance, over these tables and over all of their widths
pub record Stepped (tables signs : List ℕ) (s : Step) (place : ℕ) (was now : List ℕ) (n : ℕ) : Type 0 where
  pub fit : fit tables ≡ fits
  pub old : Query
  pub width : ℕ
  pub read : parse (widths_in tables) signs ≡ parsed old width []
  pub new : Query
  pub made : rewritten (widths_in tables) s place old ≡ Some new
  pub many : n ≡ 6 * size new
  pub short : Fits n (length was)
  pub reads : parse (widths_in tables) (take n now) ≡ parsed new width []
  pub behind : drop n now ≡ drop n was
  pub same : SameProvenance (tables_in tables) old new
  pub everywhere : (ts : List (List Row)) → OfWidths (widths_in tables) ts → SameProvenance ts old new

-- the step makes nothing of the query, or what does not fit; or there is no query, or a table does not fit
pub record NotStepped (tables signs : List ℕ) (s : Step) (place : ℕ) (was now : List ℕ) : Type 0 where
  pub kept : now ≡ was
  pub none : fit tables ≡ fits → (old : Query) (w : ℕ) → parse (widths_in tables) signs ≡ parsed old w [] →
      (new : Query) → rewritten (widths_in tables) s place old ≡ Some new → Fits (6 * size new) (length was) → ⊥

abbrev pub Steps : List ℕ → List ℕ → Step → ℕ → List ℕ → List ℕ → Option ℕ → Type 0
Steps tables signs s place was now (Some n) = Stepped tables signs s place was now n
Steps tables signs s place was now None = NotStepped tables signs s place was now
