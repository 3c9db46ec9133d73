-- Ways whose copies are equal to them one by one are equal together. Assumes nothing.
use Rattle.std.proofs.Common.{◌≡◌, List, [], ◌∷◌, refl, ap₂}
use Rattle.std.specs.List.{AllZip}
use Rattle.provenance.specs.Polynomial.{Monomial}
use Rattle.polynomial.specs.declared.Way.{Way}
use Rattle.polynomial.specs.Ways.{monomial, monomials}

pub copied_ways : (xs ys : List Way) → AllZip (λ (x y : Way). monomial y ≡ monomial x) xs ys → monomials ys ≡ monomials xs
copied_ways [] [] h = refl
copied_ways [] (y ∷ ys) h = absurd h
copied_ways (x ∷ xs) [] h = absurd h
copied_ways (x ∷ xs) (y ∷ ys) h = ap₂ (λ (a : Monomial) (b : List Monomial). a ∷ b) h.0 (copied_ways xs ys h.1)
