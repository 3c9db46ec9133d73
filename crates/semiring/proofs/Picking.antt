-- Picking values at some places, one by one. Assumes nothing.
use Rattle.std.proofs.Common.{◌≡◌, ℕ, ◌<◌, List, length, get_or}

-- xs are the values ds at the first p places asked for
pub record Picking {V : Type 0} (ds : List V) (asked : List ℕ) (p : ℕ) (xs : List V) : Type 0 where
  pub long : length xs ≡ p
  pub each : (j : ℕ) (d : V) → j < p → get_or xs j d ≡ get_or ds (get_or asked j 0) d
