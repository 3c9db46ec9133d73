-- The rows that come about, each once and in order. Assumes nothing.
use Rattle.std.proofs.Common.{◌≡◌, ◌<◌, Bool, List, [], ◌∷◌, sym, refl, subst, arith}
use Rattle.std.specs.List.{AllByRecursion}
use Rattle.std.proofs.ByRecursion.{All-weaker}
use Rattle.tables.specs.Bool.{pick}
use Rattle.tables.specs.Tables.{Row, before, same_row}
use Rattle.tables.proofs.RowOrder.{Before, before_trans, same_decides, Rank, equal, first, last, rank}
use Rattle.provenance.specs.Ways.{Time, often}

-- rows that rise
abbrev pub Rise : List Row → Type 0
Rise [] = Unit {0}
Rise (r ∷ rs) = AllByRecursion (Before r) rs × Rise rs

-- a row put in order among others, unless it is there
put_row : Row → List Row → List Row
put_row r [] = r ∷ []
put_row r (x ∷ xs) = pick (same_row r x) (x ∷ xs) (pick (before r x) (r ∷ x ∷ xs) (x ∷ put_row r xs))

put_row_cases : (P : List Row → Type 0) (r x : Row) (xs : List Row) →
    (r ≡ x → P (x ∷ xs)) → (Before r x → P (r ∷ x ∷ xs)) → (Before x r → P (x ∷ put_row r xs)) → P (put_row r (x ∷ xs))
unfolding put_row
put_row_cases P r x xs into ahead past = go (rank r x)
  where
    go : {s t : Bool} → Rank r x s t → P (pick s (x ∷ xs) (pick t (r ∷ x ∷ xs) (x ∷ put_row r xs)))
    go (equal e) = into e
    go (first p) = ahead p
    go (last p) = past p

module _ (P : Row → Type 0) where
  -- what holds of all rows then, and what held of them before
  put_row_all : (r : Row) (xs : List Row) → P r → AllByRecursion P xs → AllByRecursion P (put_row r xs)
  unfolding put_row
  put_row_all r [] h a = (h, tt)
  put_row_all r (x ∷ xs) h a = put_row_cases (AllByRecursion P) r x xs (λ _. a) (λ _. (h, a)) (λ _. (a.0, put_row_all r xs h a.1))

  put_row_back : (r : Row) (xs : List Row) → AllByRecursion P (put_row r xs) → P r × AllByRecursion P xs
  unfolding put_row
  put_row_back r [] = λ a. a
  put_row_back r (x ∷ xs) =
      put_row_cases (λ zs. AllByRecursion P zs → P r × AllByRecursion P (x ∷ xs)) r x xs
      (λ e a. (subst P (sym e) a.0, a)) (λ _ a. a) (λ _ a. let back = put_row_back r xs a.1 in (back.0, (a.0, back.1)))

put_row_rises : (r : Row) (xs : List Row) → Rise xs → Rise (put_row r xs)
unfolding put_row
put_row_rises r [] h = (tt, tt)
put_row_rises r (x ∷ xs) h =
    put_row_cases Rise r x xs (λ _. h)
    (λ p. ((p, All-weaker (Before x) (Before r) (λ y q. before_trans p q) xs h.0), h))
    (λ p. (put_row_all (Before x) r xs p h.0, put_row_rises r xs h.1))

-- the rows of some times, each once and in order
pub in_order : List Time → List Row
in_order [] = []
in_order (x ∷ xs) = put_row x.row (in_order xs)

pub in_order_rises : (xs : List Time) → Rise (in_order xs)
unfolding in_order
in_order_rises [] = tt
in_order_rises (x ∷ xs) = put_row_rises x.row (in_order xs) (in_order_rises xs)

pub in_order_back : (P : Row → Type 0) (xs : List Time) → AllByRecursion P (in_order xs) → AllByRecursion (λ x. P x.row) xs
unfolding in_order
in_order_back P [] a = tt
in_order_back P (x ∷ xs) a = let back = put_row_back P x.row (in_order xs) a in (back.0, in_order_back P xs back.1)

-- each of them comes about
comes_later : (x : Time) (xs : List Time) (r : Row) → 0 < often r xs → 0 < often r (x ∷ xs)
unfolding often
comes_later x xs r h = grind arith

comes_first : (x : Time) (xs : List Time) → 0 < often x.row (x ∷ xs)
unfolding often
comes_first x xs = rw ((same_decides x.row x.row).1 refl) (omega arith)

pub in_order_comes : (xs : List Time) → AllByRecursion (λ r. 0 < often r xs) (in_order xs)
unfolding in_order
in_order_comes [] = tt
in_order_comes (x ∷ xs) =
    put_row_all (λ r. 0 < often r (x ∷ xs)) x.row (in_order xs) (comes_first x xs)
    (All-weaker (λ r. 0 < often r xs) (λ r. 0 < often r (x ∷ xs)) (comes_later x xs) (in_order xs) (in_order_comes xs))
