-- Each row that a query gives comes about: it counts more than 0 where every mark counts 1. Assumes nothing.
use Rattle.std.proofs.Common.{ℕ, suc, ◌<◌, List, [], ◌∷◌, get_or, mul-pos, arith}
use Rattle.std.specs.List.{AllByRecursion}
use Rattle.std.proofs.ByRecursion.{All-append}
use Rattle.tables.specs.Tables.{Row}
use Rattle.tables.proofs.Choice.{picked}
use Rattle.query.specs.Semiring.{Count}
use Rattle.query.specs.Query.{Test, Query, scan, select, project, product, union, Annotated, passes, annotated, selected, projected, beside, paired, run}

abbrev pub Comes : Annotated ℕ → Type 0
Comes x = 0 < x.note

annotated_come : (t i : ℕ) (rs : List Row) → AllByRecursion Comes (annotated (λ k. 1) t i rs)
unfolding annotated
annotated_come t i [] = tt
annotated_come t i (r ∷ rs) = (omega arith, annotated_come t (suc i) rs)

selected_come : (c : Test) (xs : List (Annotated ℕ)) → AllByRecursion Comes xs → AllByRecursion Comes (selected c xs)
unfolding selected
selected_come c [] h = tt
selected_come c (x ∷ xs) h = picked (AllByRecursion Comes) (passes c x.row) (λ _. (h.0, selected_come c xs h.1)) (λ _. selected_come c xs h.1)

projected_come : (cs : List ℕ) (xs : List (Annotated ℕ)) → AllByRecursion Comes xs → AllByRecursion Comes (projected cs xs)
unfolding projected
projected_come cs [] h = tt
projected_come cs (x ∷ xs) h = (h.0, projected_come cs xs h.1)

beside_come : (x : Annotated ℕ) (ys : List (Annotated ℕ)) → Comes x → AllByRecursion Comes ys → AllByRecursion Comes (beside Count x ys)
unfolding beside
beside_come x [] k h = tt
beside_come x (y ∷ ys) k h = (mul-pos k h.0, beside_come x ys k h.1)

paired_come : (xs ys : List (Annotated ℕ)) → AllByRecursion Comes xs → AllByRecursion Comes ys → AllByRecursion Comes (paired Count xs ys)
unfolding paired
paired_come [] ys h k = tt
paired_come (x ∷ xs) ys h k = All-append Comes (beside Count x ys) (paired Count xs ys) (beside_come x ys h.0 k) (paired_come xs ys h.1 k)

pub run_comes : (ts : List (List Row)) (q : Query) → AllByRecursion Comes (run Count (λ k. 1) ts q)
unfolding run
run_comes ts (scan t) = annotated_come t 0 (get_or ts t [])
run_comes ts (select c q) = selected_come c (run Count (λ k. 1) ts q) (run_comes ts q)
run_comes ts (project cs q) = projected_come cs (run Count (λ k. 1) ts q) (run_comes ts q)
run_comes ts (product p q) = paired_come (run Count (λ k. 1) ts p) (run Count (λ k. 1) ts q) (run_comes ts p) (run_comes ts q)
run_comes ts (union p q) = All-append Comes (run Count (λ k. 1) ts p) (run Count (λ k. 1) ts q) (run_comes ts p) (run_comes ts q)
