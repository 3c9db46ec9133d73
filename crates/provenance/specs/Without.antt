-- Tables with rows taken out, and what is promised of the readings that answer for them. Assumes nothing: these are definitions and statements.
use Rattle.std.specs.Prelude.{◌≡◌, ℕ, suc, ◌-◌, ◌^◌, ◌<◌, ◌≤◌, Bool, true, false, not, ◌&&◌, List, [], ◌∷◌, length, ◌==◌, nat_eq, nat_lt, slice_index}
use Rattle.std.specs.List.{AllByRecursion}
use Rattle.tables.specs.Bool.{pick}
use Rattle.tables.specs.Tables.{Row}
use Rattle.query.specs.Semiring.{Count, Level, Sets, bit}
use Rattle.query.specs.Query.{Query, mark_of}
use Rattle.circuit.specs.Expr.{value, provenance}
use Rattle.provenance.specs.Polynomial.{Monomial, normal, Among}
use Rattle.provenance.specs.Ways.{times, often, ComesAbout}

-- the rows of table t, from row i on, without those whose marks are gone
unfoldable pub without_from : (ℕ → Bool) → ℕ → ℕ → List Row → List Row
without_from gone t i [] = []
without_from gone t i (r ∷ rs) = pick (gone (mark_of t i)) (without_from gone t (suc i) rs) (r ∷ without_from gone t (suc i) rs)

-- the same for each of some tables; t is the number of the first
unfoldable pub without : (ℕ → Bool) → ℕ → List (List Row) → List (List Row)
without gone t [] = []
without gone t (rs ∷ ts) = without_from gone t 0 rs ∷ without gone (suc t) ts

-- to take rows out of the tables and ask again is to count the provenance with those rows at 0 and the others at 1
abbrev pub TakenOut : Type 0
TakenOut =
    (ts : List (List Row)) (q : Query) (gone : ℕ → Bool) (r : Row) →
    often r (times (without gone 0 ts) q) ≡ value Count (λ k. pick (gone k) 0 1) (provenance ts q r)

-- what comes about from some of the rows comes about from all, at least as often
abbrev pub MoreRows : Type 0
MoreRows =
    (ts : List (List Row)) (q : Query) (gone : ℕ → Bool) (r : Row) → often r (times (without gone 0 ts) q) ≤ often r (times ts q)

-- a condition holds exactly if the row comes about without the rows that are gone
abbrev pub ExactlyWithout : Type 0 → (ℕ → Bool) → List (List Row) → Query → Row → Type 0
ExactlyWithout holds gone ts q r = (holds → ComesAbout (without gone 0 ts) q r) × (ComesAbout (without gone 0 ts) q r → holds)

-- a row still comes about without some rows exactly if one of its ways uses none of them
abbrev pub WayLeft : Type 0
WayLeft =
    (ts : List (List Row)) (q : Query) (gone : ℕ → Bool) (r : Row) →
    ExactlyWithout ((m : Monomial) × Among m (normal (provenance ts q r)) × AllByRecursion (λ k. gone k ≡ false) m.marks) gone ts q r

-- a row is to be had at class l exactly if it comes about from the rows of class l and above alone
abbrev pub AtLevel : Type 0
AtLevel =
    (ts : List (List Row)) (q : Query) (top l : ℕ) (v : ℕ → ℕ) (r : Row) → 0 < l →
    ExactlyWithout (l ≤ value (Level top) v (provenance ts q r)) (λ k. nat_lt (v k) l) ts q r

-- bit j of what is read in sets is set exactly if the row comes about from the rows whose value has bit j
abbrev pub InEachCase : Type 0
InEachCase =
    (ts : List (List Row)) (q : Query) (v : ℕ → ℕ) (r : Row) (j : ℕ) →
    ExactlyWithout (bit (value Sets v (provenance ts q r)) j ≡ 1) (λ k. nat_eq (bit (v k) j) 0) ts q r

-- a named row has the bit of its place alone, and every other row has all bits; j is the place of the first name
unfoldable pub own_bit : ℕ → List ℕ → ℕ → ℕ
own_bit j [] k = 2 ^ 64 - 1
own_bit j (x ∷ xs) k = pick (k == x) (2 ^ j) (own_bit (suc j) xs k)

unfoldable pub named : List ℕ → ℕ → Bool
named [] k = false
named (x ∷ xs) k = pick (k == x) true (named xs k)

-- the named rows other than the one at place j
abbrev pub others : List ℕ → ℕ → ℕ → Bool
others names j k = named names k && not (k == slice_index names j)

-- no name stands at two places
abbrev pub Apart : List ℕ → Type 0
Apart names = (i j : ℕ) → i < length names → j < length names → slice_index names i ≡ slice_index names j → i ≡ j

-- for up to 64 named rows, bit j is set exactly if of them row j alone suffices: the row comes about without the others
abbrev pub OneSuffices : Type 0
OneSuffices =
    (ts : List (List Row)) (q : Query) (names : List ℕ) (r : Row) (j : ℕ) → length names ≤ 64 → Apart names → j < length names →
    ExactlyWithout (bit (value Sets (own_bit 0 names) (provenance ts q r)) j ≡ 1) (others names j) ts q r
