-- What the values that are read mean, in each of the semirings with a name of their own: xs are what is read at the nodes asked for, with
-- the values vs of the marks. Assumes nothing: these are definitions.
use Rattle.std.specs.Prelude.{◌≡◌, ℕ, ◌<◌, ◌≤◌, Bool, List, length, Some, None, nat_eq, nat_lt, slice_index, slice_index_or}
use Rattle.tables.specs.Bool.{pick}
use Rattle.query.specs.Semiring.{Cost, Count, Level, Price, Sets, bit, smaller}
use Rattle.query.specs.Query.{worth}
use Rattle.circuit.specs.Expr.{provenance}
use Rattle.provenance.specs.Polynomial.{Monomial, normal}
use Rattle.provenance.specs.Ways.{times, often}
use Rattle.provenance.specs.Without.{without, ExactlyWithout, own_bit, others, Apart}
use Rattle.provenance.specs.Prices.{Least, Unpriced}
use Rattle.semiring.specs.Algebra.{count_algebra, level_algebra, price_algebra, set_algebra}
use Rattle.semiring.specs.Readings.{Agrees, AtRows}

-- counts are those of the query; and where rows are 0 or 1, what is counted is how often the row comes about when the rows at 0 are
-- taken out of the tables and the query is asked again
pub record CountsMean (vs m asked xs : List ℕ) : Type 0 where
  pub given_agree : Agrees count_algebra vs m asked (λ k. slice_index vs k)
  pub worth_read : AtRows count_algebra vs m asked (λ ts q r x. (v : ℕ → ℕ) → Agrees count_algebra vs m asked v → x ≡ worth Count v ts q r) xs
  pub taken_out : AtRows count_algebra vs m asked (λ ts q r x. (gone : ℕ → Bool) → Agrees count_algebra vs m asked (λ k. pick (gone k) 0 1) →
      x ≡ often r (times (without gone 0 ts) q)) xs

-- levels are those of the query; and a row is at class l or above exactly if it comes about from the rows of class l and above alone
pub record LevelsMean (top : ℕ) (vs m asked xs : List ℕ) : Type 0 where
  pub given_agree : Agrees (level_algebra top) vs m asked (λ k. smaller (slice_index vs k) top)
  pub worth_read : AtRows (level_algebra top) vs m asked (λ ts q r x. (v : ℕ → ℕ) → Agrees (level_algebra top) vs m asked v →
      x ≡ worth (Level top) v ts q r) xs
  pub exactly_if : AtRows (level_algebra top) vs m asked (λ ts q r x. (v : ℕ → ℕ) → Agrees (level_algebra top) vs m asked v →
      (l : ℕ) → 0 < l → ExactlyWithout (l ≤ x) (λ k. nat_lt (v k) l) ts q r) xs

-- c is the least price of some ways: none where no way has one
abbrev pub LeastOf : (ℕ → Cost) → List Monomial → Cost → Type 0
LeastOf v ms None = Unpriced v ms
LeastOf v ms (Some c) = Least v ms c

-- prices are those of the query; and what is read is the least price of the row's ways
pub record PricesMean (vs : List Cost) (m asked : List ℕ) (xs : List Cost) : Type 0 where
  pub given_agree : Agrees price_algebra vs m asked (λ k. slice_index_or vs k None)
  pub worth_read : AtRows price_algebra vs m asked (λ ts q r x. (v : ℕ → Cost) → Agrees price_algebra vs m asked v → x ≡ worth Price v ts q r) xs
  pub least : AtRows price_algebra vs m asked (λ ts q r x. (v : ℕ → Cost) → Agrees price_algebra vs m asked v →
      LeastOf v (normal (provenance ts q r)) x) xs

-- sets are those of the query; bit j is set exactly if the row comes about from the rows whose value has bit j; and with a bit for each
-- of up to 64 named rows, exactly if of the named rows row j alone suffices
pub record SetsMean (vs m asked xs : List ℕ) : Type 0 where
  pub given_agree : Agrees set_algebra vs m asked (λ k. slice_index vs k)
  pub worth_read : AtRows set_algebra vs m asked (λ ts q r x. (v : ℕ → ℕ) → Agrees set_algebra vs m asked v → x ≡ worth Sets v ts q r) xs
  pub exactly_if : AtRows set_algebra vs m asked (λ ts q r x. (v : ℕ → ℕ) → Agrees set_algebra vs m asked v →
      (j : ℕ) → ExactlyWithout (bit x j ≡ 1) (λ k. nat_eq (bit (v k) j) 0) ts q r) xs
  pub one_suffices : AtRows set_algebra vs m asked (λ ts q r x. (names : List ℕ) → length names ≤ 64 → Apart names →
      Agrees set_algebra vs m asked (own_bit 0 names) → (j : ℕ) → j < length names → ExactlyWithout (bit x j ≡ 1) (others names j) ts q r) xs
