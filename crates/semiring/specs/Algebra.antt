-- A semiring as code has it. Assumes nothing: these are definitions.
use Rattle.std.specs.Prelude.{◌≡◌, ℕ, ◌%◌, ◌^◌, ◌<◌, ◌≤◌, Some, None, Option}
use Rattle.std.specs.Option.{SomeIff}
use Rattle.query.specs.Semiring.{Semiring, Cost, Count, Level, Price, Sets, smaller}

-- the operations on values V; the values on which the laws hold; those that the machine can hold; and what the value given for a mark is read as
pub record Algebra (V : Type 0) : Type 1 where
  pub zero : V
  pub one : V
  pub plus : V → V → V
  pub times : V → V → V
  pub lawful : V → Type 0
  pub fits : V → Type 0
  pub taken : V → V

-- the semiring of the theory that an algebra is
abbrev pub semiring : {V : Type 0} → Algebra V → Semiring
semiring {V} a = record { Value = V; zero = a.zero; one = a.one; plus = a.plus; times = a.times }

-- a semiring of the theory as an algebra
abbrev pub algebra_of : (S : Semiring) → (S.Value → Type 0) → (S.Value → Type 0) → (S.Value → S.Value) → Algebra S.Value
algebra_of S lawful fits taken =
    record { zero = S.zero; one = S.one; plus = S.plus; times = S.times; lawful = lawful; fits = fits; taken = taken }

-- r is x, which the machine can hold
pub record Gives {V : Type 0} (a : Algebra V) (x r : V) : Type 0 where
  pub is : r ≡ x
  pub fits : a.fits x

-- r is x if the machine can hold x, and else none
abbrev pub Tries : {V : Type 0} → Algebra V → V → Option V → Type 0
Tries a x r = SomeIff r (a.fits x) x

-- counts: lawful on all numbers, and the machine holds those below 2^64
abbrev pub count_algebra : Algebra ℕ
count_algebra = algebra_of Count (λ _. Unit {0}) (λ n. n < 2 ^ 64) (λ n. n)

-- levels: lawful up to the top, and a level above the top is read as the top
abbrev pub level_algebra : ℕ → Algebra ℕ
level_algebra top = algebra_of (Level top) (λ n. n ≤ top) (λ _. Unit {0}) (λ n. smaller n top)

-- a price below 2^64, or none
abbrev pub PriceFits : Cost → Type 0
PriceFits None = Unit {0}
PriceFits (Some n) = n < 2 ^ 64

-- prices: all of them lawful
abbrev pub price_algebra : Algebra Cost
price_algebra = algebra_of Price (λ _. Unit {0}) PriceFits (λ p. p)

-- sets of 64 cases: lawful below 2^64, and all that the machine holds are; so each is read as it is
abbrev pub set_algebra : Algebra ℕ
set_algebra = algebra_of Sets (λ n. n < 2 ^ 64) (λ _. Unit {0}) (λ n. n % 2 ^ 64)
