-- Whether the marks that are chosen have values. Assumes nothing.
use Rattle.std.proofs.Common.{◌≡◌, ℕ, ◌<◌, ◌≤◌, Bool, true, false, List, length, get_or, ⊎_elim, arith}
use Rattle.std.proofs.lemmas.Bool.{cases_lt}
use Rattle.std.proofs.lemmas.List.{get_or_past}
use Rattle.semiring.specs.Parts.{ChosenMark, MarksValued}

-- a flag that is set is within the flags
pub set_within : (bs : List Bool) (i : ℕ) → get_or bs i false ≡ true → i < length bs
set_within bs i e = ⊎_elim (λ h. h) (λ h. absurd (let past = get_or_past bs i false h in grind arith)) (cases_lt i (length bs))

module _ (n : ℕ) (m : List ℕ) (bs : List Bool) where
  -- the chosen marks below place p are among n values
  abbrev pub ValuedBelow : ℕ → Type 0
  ValuedBelow p = (i k : ℕ) → i < p → ChosenMark m bs i k → k < n

  pub valued_all : (p : ℕ) → ValuedBelow p → length bs ≤ p → MarksValued n m bs
  valued_all p below h i k w = let l = set_within bs i w.chosen in below i k (omega arith) w
