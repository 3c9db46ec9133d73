-- What is promised of prices. Assumes nothing: these are definitions and a statement.
use Rattle.std.specs.Prelude.{◌≡◌, ℕ, ◌≤◌, List, [], ◌∷◌, Some, None}
use Rattle.tables.specs.Tables.{Row}
use Rattle.query.specs.Semiring.{Cost, Price, together}
use Rattle.query.specs.Query.{Query}
use Rattle.circuit.specs.Expr.{value, provenance}
use Rattle.provenance.specs.Polynomial.{Monomial, normal, Among}

-- the price of a way is that of all marks that it uses together: none where one of them has none
unfoldable pub price_of : (ℕ → Cost) → List ℕ → Cost
price_of v [] = Some 0
price_of v (k ∷ ks) = together (v k) (price_of v ks)

-- c is the price of one of the ways, and no way that has a price is cheaper
pub record Least (v : ℕ → Cost) (ms : List Monomial) (c : ℕ) : Type 0 where
  pub reached : (m : Monomial) × Among m ms × (price_of v m.marks ≡ Some c)
  pub least : (m : Monomial) (d : ℕ) → Among m ms → price_of v m.marks ≡ Some d → c ≤ d

-- no way has a price
abbrev pub Unpriced : (ℕ → Cost) → List Monomial → Type 0
Unpriced v ms = (m : Monomial) → Among m ms → price_of v m.marks ≡ None

-- what is read in prices is the least price of the ways, and there is none exactly if no way has a price
abbrev pub LeastPrice : Type 0
LeastPrice =
    (ts : List (List Row)) (q : Query) (v : ℕ → Cost) (r : Row) →
    ((c : ℕ) → value Price v (provenance ts q r) ≡ Some c → Least v (normal (provenance ts q r)) c)
    × (value Price v (provenance ts q r) ≡ None → Unpriced v (normal (provenance ts q r)))
    × (Unpriced v (normal (provenance ts q r)) → value Price v (provenance ts q r) ≡ None)
