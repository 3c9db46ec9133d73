-- One row written behind the rows of an answer. Assumes nothing.
use Rattle.std.proofs.Common.{◌≡◌, ℕ, ◌+◌, ◌*◌, ◌≤◌, List, [], ◌∷◌, ◌++◌, length, take, drop, set, sym, ap, ◌∙◌, ap₂, arith}
use borrow.Rule.Slice.PartMut.{put_mid}
use Rattle.std.proofs.lemmas.List.{append_assoc, take_all, take_at, take-take, take_more_set, length-set, length-take-le, drop_at, drop-drop, drop-take, drop-set-lt}
use Rattle.std.proofs.lemmas.Slice.{take-put_mid, drop-put_mid}
use Rattle.gather.specs.Gathered.{answers_in}
use Rattle.gather.proofs.Apart.{front_row, front_take, apart_more, apart_same}

module _ (w n node : ℕ) (cells out : List ℕ) (wide : length cells ≡ w) (s : ℕ) (is : s ≡ 1 + (1 + w) * n) (space : s + 1 + w ≤ length out) where
  abbrev pub RowWritten : List ℕ → Type 0
  RowWritten after = take (s + 1 + w) after ≡ take s out ++ node ∷ cells

  long : length (take s out) ≡ s
  long = length-take-le s out (omega arith)

  row_is : (after : List ℕ) → RowWritten after → front_row w (drop ((1 + w) * n) (drop 1 after)) ≡ record { row = cells; node = node }
  row_is after e =
      let at : drop ((1 + w) * n) (drop 1 after) ≡ drop s after = drop-drop ((1 + w) * n) 1 after ∙ ap (λ k. drop k after) (sym is) in
      let here : take (1 + w + 0) (drop s after) ≡ node ∷ cells =
      sym (drop-take s (1 + w + 0) after) ∙ ap (λ k. drop s (take k after)) (omega arith) ∙ ap (drop s) e ∙ drop_at (take s out) (node ∷ cells) s long in
      ap (front_row w) at ∙ sym (front_take (1 + w) w 0 (drop s after) (omega arith)) ∙ ap (front_row w) here
      ∙ ap (λ (r : List ℕ). record { row = r; node = node }) (take_all w cells (omega arith))

  rows_before : (after : List ℕ) → RowWritten after → answers_in w n (drop 1 after) ≡ answers_in w n (drop 1 out)
  rows_before after e =
      let front : take s after ≡ take s out =
      sym (take-take s (s + 1 + w) after (omega arith)) ∙ ap (take s) e ∙ take_at (take s out) (node ∷ cells) s long in
      let behind : (xs : List ℕ) → take ((1 + w) * n) (drop 1 xs) ≡ drop 1 (take s xs) = λ xs. sym (drop-take 1 ((1 + w) * n) xs) ∙ ap (λ k. drop 1 (take k xs)) (sym is) in
      apart_same (1 + w) w n (drop 1 after) (drop 1 out) (omega arith) (behind after ∙ ap (drop 1) front ∙ sym (behind out))

  pub row_added : (after : List ℕ) → RowWritten after → answers_in w (n + 1) (drop 1 after) ≡ answers_in w n (drop 1 out) ++ record { row = cells; node = node } ∷ []
  row_added after e = apart_more (1 + w) w n (drop 1 after) ∙ ap₂ (λ xs x. xs ++ x ∷ []) (rows_before after e) (row_is after e)

  -- as the code writes it: the node, and then the cells
  module _ (k : ℕ) (ys : List ℕ) (part : k ≡ w) (copied : ys ≡ cells) where
    pub as_written : RowWritten (put_mid (s + 1) k (set out s node) ys)
    as_written =
        let l = length-set out s node in
        ap (λ zs. take (s + 1 + w) (put_mid (s + 1) k (set out s node) zs)) copied
        ∙ take-put_mid (s + 1) k (set out s node) cells (s + 1 + w) (omega arith) (omega arith)
        ∙ ap (λ xs. xs ++ cells) (take_more_set out s node (omega arith)) ∙ append_assoc (take s out) (node ∷ []) cells

    pub behind_row : (e : ℕ) → e ≡ s + 1 + w → drop e (put_mid (s + 1) k (set out s node) ys) ≡ drop e out
    behind_row e h =
        let l = length-set out s node in
        let same = ap length copied in
        drop-put_mid (s + 1) k (set out s node) ys e (omega arith) (omega arith) (omega arith) ∙ drop-set-lt e out s node (omega arith)
