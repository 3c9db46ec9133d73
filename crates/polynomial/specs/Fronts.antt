-- Two polynomials that are taken apart way by way. Assumes nothing: these are definitions.
use Rattle.std.specs.Prelude.{◌≡◌, ◌+◌, ◌<◌, true, List, [], ◌∷◌, length, Some, None, Ok, Err, Option, Result}
use Rattle.std.specs.List.{AllByRecursion}
use Rattle.provenance.specs.Polynomial.{sum}
use Rattle.polynomial.specs.declared.error.PolynomialError.{PolynomialError}
use Rattle.polynomial.specs.declared.error.PolynomialError.TheVariants.{Memory, TooLarge}
use Rattle.polynomial.specs.declared.Way.{Way}
use Rattle.polynomial.specs.Rise.{proper, Small}
use Rattle.polynomial.specs.Ways.{monomial, monomials}

-- w was the first way of the sum of a and b, and c and d are left
pub record Taken (a b c d : List Way) (w : Way) : Type 0 where
  pub left : proper (monomials c) ≡ true
  pub right : proper (monomials d) ≡ true
  pub fewer : length c + length d < length a + length b
  pub whole : sum (monomials a) (monomials b) ≡ monomial w ∷ sum (monomials c) (monomials d)

abbrev pub Front : List Way → List Way → List Way → List Way → Result (Option Way) PolynomialError → Type 0
Front a b c d (Ok None) = sum (monomials a) (monomials b) ≡ []
Front a b c d (Ok (Some w)) = Taken a b c d w
Front a b c d (Err Memory) = Unit {0}
Front a b c d (Err TooLarge) = AllByRecursion Small (sum (monomials a) (monomials b)) → ⊥
