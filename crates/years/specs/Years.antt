-- In which of 32 years a row holds. Assumes nothing: these are definitions.
use Rattle.std.specs.Prelude.{ℕ, ◌-◌, ◌%◌, ◌^◌, ◌<◌}
use Rattle.std.specs.Int.Bits.{bit_and, bit_or}
use Rattle.semiring.specs.Algebra.{Algebra}

-- a bit for each year: either row's years, the years of both, no year and every year; lawful on 32 bits
abbrev pub year_algebra : Algebra ℕ
year_algebra = record {
  zero = 0;
  one = 2 ^ 32 - 1;
  plus = bit_or;
  times = bit_and;
  lawful = λ n. n < 2 ^ 32;
  fits = λ _. Unit {0};
  taken = λ n. n % 2 ^ 32;
}
