-- The parts of the answer at the front of numbers. Assumes nothing.
use Rattle.std.proofs.Common.{◌≡◌, ℕ, ◌+◌, ◌-◌, ◌<◌, ◌≤◌, Bool, true, false, ◌&&◌, leb, List, [], ◌∷◌, length, get_or, take, drop, None, Ok, Err, sym, refl, ◌∙◌, arith, le-leb}
use borrow.Author.Tests.{lt-leb}
use Rattle.std.specs.Option.{ok_or}
use Rattle.std.proofs.lemmas.List.{take_rest, length-drop, drop-drop}
use Rattle.std.proofs.lemmas.Bool.Decides.{nat_tests}
use Rattle.tables.specs.Bool.{pick}
use Rattle.stored.specs.declared.error.FileError.{FileError}
use Rattle.stored.specs.declared.error.FileError.TheVariants.{CutOff, Width}
use Rattle.stored.specs.declared.parts.Parts.{Parts}
use Rattle.stored.specs.Reads.{Sizes, part_size, parts_at, all_of, whole, sizes_of, CutOut}

pub no_answer : (k : ℕ) (xs : List ℕ) → length xs < 1 → Err (CutOff k) ≡ sizes_of k xs
unfolding sizes_of
no_answer k [] h = refl
no_answer k (w ∷ xs) h = absurd (omega arith)

pub bad_width : (k : ℕ) (xs : List ℕ) → 1 ≤ length xs → (1 ≤ get_or xs 0 0 → get_or xs 0 0 ≤ 8 → ⊥) → Err (Width k) ≡ sizes_of k xs
unfolding sizes_of
bad_width k [] h e = absurd (omega arith)
bad_width k (w ∷ xs) h e = grind (arith, nat_tests)

-- the numbers behind the first, as the code cuts them out
abbrev rest : List ℕ → List ℕ
rest xs = take (length xs - 1) (drop 1 xs)

pub wide_enough : (k : ℕ) (xs : List ℕ) → 1 ≤ length xs → 1 ≤ get_or xs 0 0 → get_or xs 0 0 ≤ 8 →
    sizes_of k xs ≡ pick (whole xs) (Ok (parts_at xs)) (Err (CutOff k))
unfolding sizes_of
wide_enough k [] some l h = absurd (omega arith)
wide_enough k (w ∷ xs) some l h = rw (le-leb 1 w l, le-leb w 8 h)

module _ (k : ℕ) (xs : List ℕ) (some : 1 ≤ length xs) (l : 1 ≤ get_or xs 0 0) (h : get_or xs 0 0 ≤ 8) where
  pub nodes_cut : length (rest xs) < part_size 3 (rest xs) → Err (CutOff k) ≡ sizes_of k xs
  nodes_cut e =
      let p : length (drop 1 xs) < part_size 3 (drop 1 xs) = rw (take_rest xs 1) at e in
      sym (wide_enough k xs some l h ∙ rw (lt-leb (part_size 3 (drop 1 xs)) (length (drop 1 xs)) p))

  module _ (ys : List ℕ) (e : part_size 3 (rest xs) ≤ length (rest xs)) (f : ys ≡ drop (part_size 3 (rest xs)) (rest xs)) where
    pub rows_cut : length ys < part_size (1 + get_or xs 0 0) ys → Err (CutOff k) ≡ sizes_of k xs
    rows_cut g =
        let m : ℕ = part_size 3 (drop 1 xs) in
        let p : m ≤ length (drop 1 xs) = rw (take_rest xs 1) at e in
        let i : ys ≡ drop m (drop 1 xs) = rw (take_rest xs 1) at f in
        let q : length (drop m (drop 1 xs)) < part_size (1 + get_or xs 0 0) (drop m (drop 1 xs)) = rw i at g in
        let z : length xs < all_of (parts_at xs) = omega (arith, q, length-drop m (drop 1 xs), length-drop 1 xs, p) in
        sym (wide_enough k xs some l h ∙ rw (le-leb m (length (drop 1 xs)) p, lt-leb (all_of (parts_at xs)) (length xs) z))

    pub all_cut : (p : Parts) → p.width ≡ get_or xs 0 0 → p.nodes.now ≡ take (part_size 3 (rest xs)) (rest xs) →
        part_size (1 + get_or xs 0 0) ys ≤ length ys → p.rows.now ≡ take (part_size (1 + get_or xs 0 0) ys) ys →
        p.rest.now ≡ drop (part_size (1 + get_or xs 0 0) ys) ys → CutOut k xs p
    all_cut parts w n g r b =
        let m : ℕ = part_size 3 (drop 1 xs) in
        let p : m ≤ length (drop 1 xs) = rw (take_rest xs 1) at e in
        let i : ys ≡ drop m (drop 1 xs) = rw (take_rest xs 1) at f in
        let q : part_size (1 + get_or xs 0 0) (drop m (drop 1 xs)) ≤ length (drop m (drop 1 xs)) = rw i at g in
        let z : all_of (parts_at xs) ≤ length xs = omega (arith, q, length-drop m (drop 1 xs), length-drop 1 xs, p) in
        record {
          sizes = parts_at xs;
          fit = sym (wide_enough k xs some l h ∙ rw (le-leb m (length (drop 1 xs)) p, le-leb (all_of (parts_at xs)) (length xs) z));
          held = rw (w, n, r, i, take_rest xs 1, drop-drop m 1 xs);
          rest = b ∙ rw (i, drop-drop m 1 xs, drop-drop (part_size (1 + get_or xs 0 0) (drop (1 + m) xs)) (1 + m) xs);
        }

-- the error that the code gives is the one that is meant
pub cut_told : {T : Type 0} (k : ℕ) (xs : List ℕ) (d e : FileError) → Err d ≡ ok_or {T = T} None e → Err e ≡ sizes_of k xs → Err d ≡ sizes_of k xs
cut_told k xs d e f h =
    let g : d ≡ e = cc in
    rw g h

-- what is known of the answer at the front of xs, if it is measured
pub record Measured (xs : List ℕ) (s : Sizes) : Type 0 where
  pub some : 1 ≤ length xs
  pub low : 1 ≤ get_or xs 0 0
  pub high : get_or xs 0 0 ≤ 8
  pub nodes_there : part_size 3 (drop 1 xs) ≤ length (drop 1 xs)
  pub all_there : all_of (parts_at xs) ≤ length xs
  pub is : s ≡ parts_at xs

both_taken : (b d : Bool) (s t : Sizes) (e f : FileError) → Ok s ≡ pick b (pick d (Ok t) (Err e)) (Err f) → (b ≡ true) × (d ≡ true) × (s ≡ t)
both_taken true true s t e f h = (refl, refl, cc)
both_taken true false s t e f h = absurd (let z : ◌≡◌ {A = ℕ} 0 1 = cc in omega arith)
both_taken false d s t e f h = absurd (let z : ◌≡◌ {A = ℕ} 0 1 = cc in omega arith)

pub measured : (k : ℕ) (xs : List ℕ) (s : Sizes) → Ok s ≡ sizes_of k xs → Measured xs s
unfolding sizes_of
measured k [] s e = absurd (let z : ◌≡◌ {A = ℕ} 0 1 = cc in omega arith)
measured k (w ∷ xs) s e =
    let p = both_taken (leb 1 w && leb w 8) (whole (w ∷ xs)) s (parts_at (w ∷ xs)) (CutOff k) (Width k) e in
    record {
      some = omega arith;
      low = let q = p.0 in grind (arith, nat_tests);
      high = let q = p.0 in grind (arith, nat_tests);
      nodes_there = let q = p.1 in grind (arith, nat_tests);
      all_there = let q = p.1 in grind (arith, nat_tests);
      is = p.2;
    }
