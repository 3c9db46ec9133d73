-- The rows of a region, as those that run a query and those that gather its rows see them. Assumes nothing.
use Rattle.std.proofs.Common.{◌≡◌, ℕ, zero, suc, ◌+◌, ◌*◌, ◌<◌, ◌≤◌, List, ◌∷◌, map, length, get_or, take, drop, sym, refl, ap, ◌∙◌, ap₂, add-zero, arith}
use Rattle.std.specs.List.{AllByRecursion}
use Rattle.std.proofs.lemmas.List.{drop-drop, get_or-drop, take-take}
use Rattle.query.specs.Query.{Annotated}
use Rattle.circuit.specs.Expr.{Expr}
use Rattle.circuit.specs.Store.{nodes_in}
use Rattle.circuit.specs.Held.{count_in}
use Rattle.provenance.specs.Answer.{Answer}
use Rattle.rows.specs.Memory.{row_in, rows_from}
use Rattle.rows.specs.Notes.{Names}
use Rattle.rows.specs.Appended.{Alike, none, more}
use Rattle.gather.specs.Gathered.{rows_apart, noted}

-- a row with its note as a row with its node
abbrev pub answer_from : Annotated ℕ → Answer
answer_from x = record { row = x.row; node = x.note }

pub rows_both : (w n i : ℕ) (m : List ℕ) → w ≤ 8 → rows_apart 9 w n (drop (9 * i) m) ≡ map answer_from (rows_from w m i n)
unfolding rows_apart rows_from row_in
rows_both w zero i m h = refl
rows_both w (suc n) i m h =
    let next : 9 * i + 9 ≡ 9 * suc i = omega arith in
    let row : take w (drop 1 (drop (9 * i) m)) ≡ take w (take 8 (drop (9 * i + 1) m)) =
    ap (take w) (drop-drop 1 (9 * i) m) ∙ sym (take-take w 8 (drop (9 * i + 1) m) h) in
    let node : get_or (drop (9 * i) m) 0 0 ≡ get_or m (9 * i) 0 = get_or-drop (9 * i) m 0 0 ∙ ap (λ k. get_or m k 0) (add-zero (9 * i)) in
    ap₂ ◌∷◌ (λ k. record { row = row k; node = node k })
    (ap (rows_apart 9 w n) (drop-drop 9 (9 * i) m ∙ ap (λ k. drop k m) next) ∙ rows_both w n (suc i) m h)

pub length_apart : (span w n : ℕ) (xs : List ℕ) → length (rows_apart span w n xs) ≡ n
unfolding rows_apart
length_apart span w zero xs = refl
length_apart span w (suc n) xs = ap suc (length_apart span w n (drop span xs))

-- rows whose notes name nodes have these nodes' expressions
pub names_noted : (m : List ℕ) {ys : List (Annotated ℕ)} {xs : List (Annotated Expr)} → Alike (Names m) ys xs → noted (nodes_in m) (map answer_from ys) ≡ xs
names_noted m none = refl
names_noted m (more e h a) = ap₂ ◌∷◌ (λ k. record { row = e k; note = h.says k }) (names_noted m a)

pub names_known : (m : List ℕ) {ys : List (Annotated ℕ)} {xs : List (Annotated Expr)} → Alike (Names m) ys xs →
    AllByRecursion (λ (a : Answer). a.node < count_in m) (map answer_from ys)
names_known m none = tt
names_known m (more e h a) = (h.counted, names_known m a)
