-- Tables that fit have 1 to 4 columns, and rows that are as wide. Assumes nothing.
use Rattle.std.proofs.Common.{◌≡◌, ℕ, zero, suc, ◌*◌, ◌≤◌, Bool, true, false, leb, List, length, get_or, drop, refl, suc-mul, arith}
use Rattle.std.specs.List.{AllByRecursion}
use Rattle.std.proofs.lemmas.List.{length-drop, length-take-le}
use Rattle.tables.specs.Bool.{pick}
use Rattle.tables.specs.Tables.{Fit, fits, faulty, fit, fit_from, table_fits, table_size, rows_in, tables_from, widths_from, tables_in, widths_in}
use Rattle.tables.proofs.Fits.{size_within}
use Rattle.tables.proofs.Places.{few_columns}
use Rattle.query.proofs.Steps.{differ}
use Rattle.query.proofs.Shown.{Narrow, RowsWide}

pick_fits : (b : Bool) (f : Fit) (t : ℕ) → pick b f (faulty t) ≡ fits → (b ≡ true) × (f ≡ fits)
pick_fits true f t e = (refl, e)
pick_fits false f t e = absurd (differ cc)

fit_start : (m : List ℕ) → fit m ≡ fits → fit_from 0 (get_or m 0 0) (drop 1 m) ≡ fits
unfolding fit
fit_start m e =
    let a = pick_fits (leb 1 (get_or m 0 0)) _ 0 e in
    (pick_fits (leb (get_or m 0 0) 8) _ 8 a.1).1

rows_in_wide : (n w : ℕ) (xs : List ℕ) → n * w ≤ length xs → AllByRecursion (λ r. length r ≡ w) (rows_in n w xs)
unfolding rows_in
rows_in_wide zero w xs h = tt
rows_in_wide (suc n) w xs h =
    let e = suc-mul n w in
    (length-take-le w xs (omega arith), rows_in_wide n w (drop w xs) (omega (arith, length-drop w xs)))

narrow_from : (t n : ℕ) (xs : List ℕ) → fit_from t n xs ≡ fits → Narrow (widths_from n xs)
unfolding fit_from widths_from
narrow_from t zero xs e i h = absurd (omega arith)
narrow_from t (suc n) xs e zero h = omega (arith, few_columns xs (pick_fits (table_fits xs) _ t e).0)
narrow_from t (suc n) xs e (suc i) h = narrow_from (suc t) n (drop (table_size xs) xs) (pick_fits (table_fits xs) _ t e).1 i (omega arith)

wide_from : (t n : ℕ) (xs : List ℕ) → fit_from t n xs ≡ fits → RowsWide (widths_from n xs) (tables_from n xs)
unfolding fit_from widths_from tables_from
wide_from t zero xs e i h = absurd (omega arith)
wide_from t (suc n) xs e zero h =
    rows_in_wide (get_or xs 0 0) (get_or xs 1 0) (drop 2 xs) (omega (arith, length-drop 2 xs, size_within xs (pick_fits (table_fits xs) _ t e).0))
wide_from t (suc n) xs e (suc i) h = wide_from (suc t) n (drop (table_size xs) xs) (pick_fits (table_fits xs) _ t e).1 i (omega arith)

pub fit_narrow : (m : List ℕ) → fit m ≡ fits → Narrow (widths_in m)
fit_narrow m e = narrow_from 0 (get_or m 0 0) (drop 1 m) (fit_start m e)

pub fit_wide : (m : List ℕ) → fit m ≡ fits → RowsWide (widths_in m) (tables_in m)
fit_wide m e = wide_from 0 (get_or m 0 0) (drop 1 m) (fit_start m e)
