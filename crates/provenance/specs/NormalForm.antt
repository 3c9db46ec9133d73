-- What is promised of normal forms. Assumes nothing: each is a statement, a type whose proof is owed.
use Rattle.std.specs.Prelude.{◌≡◌, ℕ, List}
use Rattle.query.specs.Semiring.{Semiring, Lawful, Count}
use Rattle.circuit.specs.Expr.{Expr, value}
use Rattle.provenance.specs.Polynomial.{Monomial, normal, normal_value, WellFormed, Polynomials, only}

-- the normal form says what the expression says, in every lawful semiring
abbrev pub NormalSays : Type 1
NormalSays =
    (S : Semiring) (In : S.Value → Type 0) → Lawful S In → (v : ℕ → S.Value) → ((k : ℕ) → In (v k)) → (e : Expr) →
    normal_value S v (normal e) ≡ value S v e

-- two expressions that count alike, whatever each mark counts, have one normal form
abbrev pub NormalOne : Type 0
NormalOne = (a b : Expr) → ((v : ℕ → ℕ) → value Count v a ≡ value Count v b) → normal a ≡ normal b

-- no lawful semiring tells a and b apart
abbrev pub NotApart : Expr → Expr → Type 1
NotApart a b = (S : Semiring) (In : S.Value → Type 0) → Lawful S In → (v : ℕ → S.Value) → ((k : ℕ) → In (v k)) → value S v a ≡ value S v b

-- so two expressions have one normal form exactly if no lawful semiring tells them apart
abbrev pub NormalExact : Type 1
NormalExact = (a b : Expr) → (normal a ≡ normal b → NotApart a b) × (NotApart a b → normal a ≡ normal b)

-- a reading of polynomials in a semiring: marks have their values, and sums and products of well-formed ones stay such
pub record Reads (S : Semiring) (v : ℕ → S.Value) (h : List Monomial → S.Value) : Type 0 where
  pub at_zero : h Polynomials.zero ≡ S.zero
  pub at_one : h Polynomials.one ≡ S.one
  pub at_mark : (k : ℕ) → h (only k) ≡ v k
  pub at_plus : (a b : List Monomial) → WellFormed a → WellFormed b → h (Polynomials.plus a b) ≡ S.plus (h a) (h b)
  pub at_times : (a b : List Monomial) → WellFormed a → WellFormed b → h (Polynomials.times a b) ≡ S.times (h a) (h b)

-- normal forms are the free lawful semiring: they are lawful, they are all that is well formed, a normal form is what its expression
-- is worth among them, and each choice of values in a lawful semiring is read in exactly one way
pub record NormalFree : Type 1 where
  pub lawful : Lawful Polynomials WellFormed
  pub well_formed : (e : Expr) → WellFormed (normal e)
  pub all : (p : List Monomial) → WellFormed p → (e : Expr) × (normal e ≡ p)
  pub worked_out : (e : Expr) → value Polynomials only e ≡ normal e
  pub reads : (S : Semiring) (In : S.Value → Type 0) → Lawful S In → (v : ℕ → S.Value) → ((k : ℕ) → In (v k)) → Reads S v (normal_value S v)
  pub one_reading : (S : Semiring) (v : ℕ → S.Value) (h : List Monomial → S.Value) → Reads S v h →
      (p : List Monomial) → WellFormed p → h p ≡ normal_value S v p
