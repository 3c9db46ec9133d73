-- The rows of a region as entries. Assumes nothing.
use Rattle.std.proofs.Common.{◌≡◌, ℕ, ◌+◌, ◌-◌, ◌*◌, ◌<◌, ◌≤◌, List, [], ◌∷◌, ◌++◌, map, length, get_or, take, drop, set, sym, refl, ap, ◌∙◌, ap₂, arith}
use Rattle.std.proofs.lemmas.List.{take_more_set, map_push, drop-drop}
use Rattle.rows.specs.declared.memory.Region.{Region}
use Rattle.rows.proofs.Walking.{Walked, walked_numbers}
use Rattle.gather.specs.declared.region.Entry.{Entry}
use Rattle.gather.specs.Gathered.{rows_apart, answer_of}
use Rattle.gather.proofs.Apart.{front_row, front_take, apart_more}

-- the numbers of row i of the region are xs
module _ (work : List ℕ) (r : Region) (i : ℕ) (rest xs rest' : List ℕ) (t : Walked work r i rest) (split : rest ≡ xs ++ rest') (nine : length xs ≡ 9) (narrow : r.width ≤ 8) where
  -- the entry that is made of them
  entry_row : (e : Entry) → e.cells.now ≡ take (1 + r.width - 1) (drop 1 xs) → e.node ≡ get_or xs 0 0 → answer_of e ≡ front_row r.width (drop (9 * i) (drop (9 * r.first) work))
  entry_row e cells node =
      let width : 1 + r.width - 1 ≡ r.width = omega arith in
      let place : 9 * (r.first + i) ≡ 9 * r.first + 9 * i = omega arith in
      (λ j. record { row = (cells ∙ ap (λ w. take w (drop 1 xs)) width) j; node = node j })
      ∙ ap (front_row r.width) (walked_numbers work r i rest xs rest' t split nine)
      ∙ front_take 9 r.width 0 (drop (9 * (r.first + i)) work) (omega arith)
      ∙ ap (front_row r.width) (ap (λ k. drop k work) place ∙ sym (drop-drop (9 * i) (9 * r.first) work))

  pub load_more : (es : List Entry) (e : Entry) → i < length es → e.cells.now ≡ take (1 + r.width - 1) (drop 1 xs) → e.node ≡ get_or xs 0 0 →
      map answer_of (take i es) ≡ rows_apart 9 r.width i (drop (9 * r.first) work) → map answer_of (take (i + 1) (set es i e)) ≡ rows_apart 9 r.width (i + 1) (drop (9 * r.first) work)
  load_more es e h cells node before =
      ap (map answer_of) (take_more_set es i e h) ∙ map_push answer_of (take i es) e
      ∙ ap₂ (λ xs x. xs ++ x ∷ []) before (entry_row e cells node) ∙ sym (apart_more 9 r.width i (drop (9 * r.first) work))

pub load_none : (w i : ℕ) (es : List Entry) (xs : List ℕ) → i ≡ 0 → map answer_of (take i es) ≡ rows_apart 9 w i xs
unfolding rows_apart
load_none w i es xs e = rw e refl
