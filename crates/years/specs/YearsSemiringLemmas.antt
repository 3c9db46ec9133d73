use Rattle.std.specs.Prelude.{ℕ, ◌^◌, ◌<◌}
use Rattle.std.proofs.Common.{arith}

-- what is below 32 bits is below 64
pub wide : (a : ℕ) → a < 2 ^ 32 → a < 2 ^ 64
wide a h = omega arith
