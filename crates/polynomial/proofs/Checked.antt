-- A sum or a product that is checked, and refused as too large. Assumes nothing.
use Rattle.std.proofs.Common.{◌≡◌, ℕ, Some, None, Err, Option, Result, subst}
use Rattle.std.specs.Option.{SomeIff, ok_or}
use Rattle.polynomial.specs.declared.error.PolynomialError.{PolynomialError}
use Rattle.polynomial.specs.declared.error.PolynomialError.TheVariants.{TooLarge}

pub taken : (r : Option ℕ) (n v : ℕ) (P : Type 0) → r ≡ Some n → SomeIff r P v → P × (n ≡ v)
taken r n v P e s = subst (λ (z : Option ℕ). SomeIff z P v) e s

pub refused : (r : Option ℕ) (v : ℕ) (P : Type 0) → r ≡ None → SomeIff r P v → P → ⊥
refused r v P e s = subst (λ (z : Option ℕ). SomeIff z P v) e s

pub too_large : (r : Option ℕ) (e : PolynomialError) → ◌≡◌ {A = Result ℕ PolynomialError} (Err e) (ok_or r TooLarge) → e ≡ TooLarge
too_large None e h = cc
too_large (Some n) e h = cc
