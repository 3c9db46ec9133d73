-- Reading one query. Assumes nothing.
use Rattle.std.proofs.Common.{◌≡◌, ℕ, ◌-◌, ◌*◌, ◌/◌, ◌<◌, ◌≤◌, leb, List, [], ◌∷◌, length, get_or, take, drop, refl, ◌∙◌, arith, le-leb}
use borrow.Author.Tests.{lt-leb}
use Rattle.std.specs.List.{IsSplitAt}
use Rattle.std.proofs.lemmas.List.{take_rest}
use Rattle.tables.specs.Bool.{pick}
use Rattle.codec.specs.Input.{read, faulty, read_query}

pub none_cut : (bs : List ℕ) → length bs < 1 → read_query bs ≡ faulty 0
unfolding read_query
none_cut [] h = refl
none_cut (k ∷ bs) h = absurd (omega arith)

-- the bytes behind the first, as the code cuts them out
abbrev rest : List ℕ → List ℕ
rest bs = take (length bs - 1) (drop 1 bs)

read_step : (bs : List ℕ) → 1 ≤ length bs →
    read_query bs ≡ pick (leb (6 * get_or bs 0 0) (length (drop 1 bs))) (read (take (6 * get_or bs 0 0) (drop 1 bs)) (drop (6 * get_or bs 0 0) (drop 1 bs)))
    (faulty (pick (leb (get_or bs 0 0) 16) (length (drop 1 bs) / 6) 16))
unfolding read_query
read_step [] h = absurd (omega arith)
read_step (k ∷ bs) h = refl

module _ (bs : List ℕ) (some : 1 ≤ length bs) where
  pub all_there : (numbers front back : List ℕ) → IsSplitAt (rest bs) (6 * get_or bs 0 0) front back → numbers ≡ front → read_query bs ≡ read numbers back
  all_there numbers front back p e =
      let l : 6 * get_or bs 0 0 ≤ length (drop 1 bs) = rw (take_rest bs 1) at p.0 in
      rw (e, p.1, p.2, take_rest bs 1) (read_step bs some ∙ rw (le-leb (6 * get_or bs 0 0) (length (drop 1 bs)) l))

  pub cut_many : length (rest bs) < 6 * get_or bs 0 0 → 16 < get_or bs 0 0 → read_query bs ≡ faulty 16
  cut_many h m =
      let l : length (drop 1 bs) < 6 * get_or bs 0 0 = rw (take_rest bs 1) at h in
      read_step bs some ∙ rw (lt-leb (6 * get_or bs 0 0) (length (drop 1 bs)) l, lt-leb (get_or bs 0 0) 16 m)

  pub cut_few : length (rest bs) < 6 * get_or bs 0 0 → get_or bs 0 0 ≤ 16 → read_query bs ≡ faulty (length (rest bs) / 6)
  cut_few h m =
      let l : length (drop 1 bs) < 6 * get_or bs 0 0 = rw (take_rest bs 1) at h in
      rw (take_rest bs 1) (read_step bs some ∙ rw (lt-leb (6 * get_or bs 0 0) (length (drop 1 bs)) l, le-leb (get_or bs 0 0) 16 m))
