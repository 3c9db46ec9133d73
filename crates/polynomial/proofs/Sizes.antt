-- How large polynomials are. Assumes nothing.
use Rattle.std.proofs.Common.{◌≡◌, ◌+◌, ◌≤◌, List, [], ◌∷◌, ◌++◌, length, refl, arith}
use Rattle.std.specs.List.{AllByRecursion}
use Rattle.provenance.specs.Polynomial.{Monomial}
use Rattle.polynomial.specs.Rise.{size_of}

pub size_push : (ms : List Monomial) (m : Monomial) → size_of (ms ++ m ∷ []) ≡ 2 + length m.marks + size_of ms
size_push [] m = refl
size_push (x ∷ ms) m = omega (arith, size_push ms m)

pub size_some : (ms : List Monomial) → 1 ≤ size_of ms
size_some [] = omega arith
size_some (m ∷ ms) = omega (arith, size_some ms)

pub size_append : (xs ys : List Monomial) → size_of (xs ++ ys) + 1 ≡ size_of xs + size_of ys
size_append [] ys = omega arith
size_append (x ∷ xs) ys = omega (arith, size_append xs ys)

pub all_right : (P : Monomial → Type 0) (xs ys : List Monomial) → AllByRecursion P (xs ++ ys) → AllByRecursion P ys
all_right P [] ys a = a
all_right P (x ∷ xs) ys a = all_right P xs ys a.1
