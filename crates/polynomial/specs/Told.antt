-- What a function that makes a polynomial promises. Assumes nothing: these are definitions.
use Rattle.std.specs.Prelude.{◌≡◌, ℕ, List, Ok, Err, vec_items, Result}
use Rattle.provenance.specs.Polynomial.{Monomial}
use Rattle.polynomial.specs.declared.error.PolynomialError.{PolynomialError}
use Rattle.polynomial.specs.declared.error.PolynomialError.TheVariants.{Memory, TooLarge}
use Rattle.polynomial.specs.declared.Polynomial.{Polynomial}
use Rattle.polynomial.specs.Rise.{FitsIn}
use Rattle.polynomial.specs.Ways.{monomials}

-- the polynomial of the theory that the code holds
abbrev pub poly : Polynomial → List Monomial
poly p = monomials (vec_items p.ways)

-- the polynomial ms, if it fits; that it does not is told exactly if so, unless there is no memory
abbrev pub Told : ℕ → List Monomial → Result Polynomial PolynomialError → Type 0
Told room ms (Ok p) = (poly p ≡ ms) × FitsIn room ms
Told room ms (Err Memory) = Unit {0}
Told room ms (Err TooLarge) = FitsIn room ms → ⊥
