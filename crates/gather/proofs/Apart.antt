-- Rows in memory, one in every so many numbers. Assumes nothing.
use Rattle.std.proofs.Common.{◌≡◌, ℕ, zero, suc, ◌+◌, ◌-◌, ◌*◌, ◌≤◌, List, [], ◌∷◌, ◌++◌, get_or, take, drop, sym, refl, ap, ◌∙◌, ap₂, mul-zero, mul-suc, add_comm, add-one, arith}
use Rattle.std.proofs.lemmas.List.{take-take, drop-take, drop-drop, get_or-take}
use Rattle.provenance.specs.Answer.{Answer}
use Rattle.gather.specs.Gathered.{rows_apart}

-- the row at the front of the memory xs
abbrev pub front_row : ℕ → List ℕ → Answer
front_row w xs = record { row = take w (drop 1 xs); node = get_or xs 0 0 }

after_suc : (span w n : ℕ) (xs : List ℕ) → rows_apart span w (suc n) xs ≡ rows_apart span w n xs ++ front_row w (drop (span * n) xs) ∷ []
unfolding rows_apart
after_suc span w zero xs = rw mul-zero
after_suc span w (suc n) xs =
    let later : drop (span * n) (drop span xs) ≡ drop (span * suc n) xs = drop-drop (span * n) span xs ∙ ap (λ k. drop k xs) (sym (mul-suc span n ∙ add_comm (span * n) span)) in
    ap (λ ys. front_row w xs ∷ ys) (after_suc span w n (drop span xs) ∙ ap (λ ys. rows_apart span w n (drop span xs) ++ front_row w ys ∷ []) later)

-- one row more
pub apart_more : (span w n : ℕ) (xs : List ℕ) → rows_apart span w (n + 1) xs ≡ rows_apart span w n xs ++ front_row w (drop (span * n) xs) ∷ []
apart_more span w n xs = ap (λ k. rows_apart span w k xs) (add-one n) ∙ after_suc span w n xs

pub front_take : (span w k : ℕ) (xs : List ℕ) → 1 + w ≤ span → front_row w (take (span + k) xs) ≡ front_row w xs
front_take span w k xs h =
    let m : ℕ = span + k - 1 in
    let split : take (span + k) xs ≡ take (1 + m) xs = ap (λ j. take j xs) (omega arith) in
    let row : take w (drop 1 (take (span + k) xs)) ≡ take w (drop 1 xs) =
    ap (λ ys. take w (drop 1 ys)) split ∙ ap (take w) (drop-take 1 m xs) ∙ take-take w m (drop 1 xs) (omega arith) in
    let node : get_or (take (span + k) xs) 0 0 ≡ get_or xs 0 0 = get_or-take (span + k) xs 0 0 (omega arith) in
    λ j. record { row = row j; node = node j }

-- the numbers that n rows take say what they are
apart_take : (span w n : ℕ) (xs : List ℕ) → 1 + w ≤ span → rows_apart span w n (take (span * n) xs) ≡ rows_apart span w n xs
unfolding rows_apart
apart_take span w zero xs h = refl
apart_take span w (suc n) xs h =
    ap (λ k. rows_apart span w (suc n) (take k xs)) (mul-suc span n ∙ add_comm (span * n) span)
    ∙ ap₂ ◌∷◌ (front_take span w (span * n) xs h) (ap (rows_apart span w n) (drop-take span (span * n) xs) ∙ apart_take span w n (drop span xs) h)

pub apart_same : (span w n : ℕ) (xs ys : List ℕ) → 1 + w ≤ span → take (span * n) xs ≡ take (span * n) ys → rows_apart span w n xs ≡ rows_apart span w n ys
apart_same span w n xs ys h e = sym (apart_take span w n xs h) ∙ ap (rows_apart span w n) e ∙ apart_take span w n ys h
