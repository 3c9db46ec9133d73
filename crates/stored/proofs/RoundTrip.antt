-- Answers that are stored are read back, and nothing else is read as them. Assumes nothing.
use Rattle.std.proofs.Common.{◌≡◌, ℕ, zero, suc, ◌+◌, ◌*◌, ◌/◌, ◌%◌, ◌^◌, ◌<◌, ◌≤◌, Bool, true, false, ◌&&◌, eqb, leb, List, [], ◌∷◌, ◌++◌, map, length, get_or, take, drop, IfOk, Ok, Err, vec_items, Result, Vec, sym, refl, ap, ◌∙◌, subst, arith, le-leb}
use Rattle.std.specs.List.{flat_map, AllByRecursion}
use Rattle.std.proofs.ByRecursion.{All-append, All-from_get_or}
use Rattle.std.proofs.lemmas.List.{append_assoc, length-append, length-drop, length-take-le, take-append-drop, take_at, drop_at, get_or_append_left, get_or-take, drop-drop, nil_from_length}
use Rattle.std.proofs.lemmas.Bool.{eq-eqb}
use Rattle.std.proofs.lemmas.Bool.Decides.{nat_tests}
use Rattle.std.specs.declared.alloc.Global.{Global}
use Rattle.tables.specs.Bool.{pick}
use Rattle.codec.specs.Bytes.{numbers}
use Rattle.stored.specs.declared.Answer.{Answer}
use Rattle.stored.specs.declared.error.FileError.{FileError}
use Rattle.stored.specs.declared.error.FileError.TheVariants.{Uneven, NotStored, Version, LeftOver}
use Rattle.stored.specs.Form.{Held, written, numbers_of, magic, file_numbers, file}
use Rattle.stored.specs.Reads.{Sizes, held, FileRead, Outcome, holds, damaged, part_size, parts_at, all_of, whole, sizes_of, answer_in, behind, then_read, answers_from, read_numbers, read_file}
use Rattle.stored.specs.RoundTrip.{Shaped, Storable, RoundTrip}
use Rattle.stored.proofs.Backward.{length_written, numbers_written, written_numbers}
use Rattle.stored.proofs.Measured.{Measured, measured, wide_enough}

-- an answer in front of other numbers
module _ (w : ℕ) (ns rs js : List ℕ) (n : length ns ≡ 1 + 3 * get_or ns 0 0) (r : length rs ≡ 1 + (1 + w) * get_or rs 0 0) where
  nodes_size : part_size 3 (ns ++ (rs ++ js)) ≡ length ns
  nodes_size = ap (λ (g : ℕ). 1 + 3 * g) (get_or_append_left ns (rs ++ js) 0 0 (omega arith)) ∙ sym n

  rows_size : part_size (1 + w) (rs ++ js) ≡ length rs
  rows_size = ap (λ (g : ℕ). 1 + (1 + w) * g) (get_or_append_left rs js 0 0 (omega arith)) ∙ sym r

  front_parts : parts_at (w ∷ (ns ++ (rs ++ js))) ≡ record { width = w; nodes = length ns; rows = length rs }
  front_parts = rw (nodes_size, drop_at ns (rs ++ js) (length ns) refl, rows_size)

  front_whole : whole (w ∷ (ns ++ (rs ++ js))) ≡ true
  front_whole =
      let l : length (ns ++ (rs ++ js)) ≡ length ns + (length rs + length js) = length-append ns (rs ++ js) ∙ ap (λ (z : ℕ). length ns + z) (length-append rs js) in
      let p : part_size 3 (ns ++ (rs ++ js)) ≤ length (ns ++ (rs ++ js)) = omega (arith, nodes_size) in
      let q : all_of (parts_at (w ∷ (ns ++ (rs ++ js)))) ≡ 1 + length ns + length rs = ap all_of front_parts in
      let s : all_of (parts_at (w ∷ (ns ++ (rs ++ js)))) ≤ length (w ∷ (ns ++ (rs ++ js))) = omega arith in
      rw (le-leb _ _ p, le-leb _ _ s)

  front_behind : drop (1 + length ns) (w ∷ (ns ++ (rs ++ js))) ≡ rs ++ js
  front_behind = sym (drop-drop (length ns) 1 (w ∷ (ns ++ (rs ++ js)))) ∙ drop_at ns (rs ++ js) (length ns) refl

  front_rest : drop (1 + length ns + length rs) (w ∷ (ns ++ (rs ++ js))) ≡ js
  front_rest = sym (drop-drop (length rs) (1 + length ns) (w ∷ (ns ++ (rs ++ js)))) ∙ ap (drop (length rs)) front_behind ∙ drop_at rs js (length rs) refl

  front_sizes : (k : ℕ) → 1 ≤ w → w ≤ 8 → sizes_of k (w ∷ (ns ++ (rs ++ js))) ≡ Ok (record { width = w; nodes = length ns; rows = length rs })
  front_sizes k l h = wide_enough k (w ∷ (ns ++ (rs ++ js))) (omega arith) l h ∙ rw (front_whole, front_parts)

  front_answer : answer_in (record { width = w; nodes = length ns; rows = length rs }) (w ∷ (ns ++ (rs ++ js))) ≡ record { width = w; nodes = ns; rows = rs }
  front_answer = rw (front_behind, take_at ns (rs ++ js) (length ns) refl, take_at rs js (length rs) refl)

read_back : (k : ℕ) (hs : List Held) → AllByRecursion Shaped hs → answers_from k (length hs) (flat_map numbers_of hs) ≡ holds hs
unfolding answers_from
read_back k [] a = refl
read_back k (h ∷ hs) a =
    let js : List ℕ = flat_map numbers_of hs in
    let n = a.0.nodes_long in
    let r = a.0.rows_long in
    let e : (h.nodes ++ h.rows) ++ js ≡ h.nodes ++ (h.rows ++ js) = append_assoc h.nodes h.rows js in
    rw (
      e,
      front_sizes h.width h.nodes h.rows js n r k a.0.some a.0.few,
      front_answer h.width h.nodes h.rows js n r,
      front_rest h.width h.nodes h.rows js n r,
      read_back (suc k) hs a.1,
    )

-- numbers that are read as n answers are those answers
record Only (xs : List ℕ) (n : ℕ) (hs : List Held) : Type 0 where
  is : xs ≡ flat_map numbers_of hs
  count : length hs ≡ n
  shaped : AllByRecursion Shaped hs

cut_again : (w n r : ℕ) (ys : List ℕ) → w ∷ ((take n ys ++ take r (drop (1 + n) (w ∷ ys))) ++ drop (1 + n + r) (w ∷ ys)) ≡ w ∷ ys
cut_again w n r ys =
    let e : drop (1 + n) (w ∷ ys) ≡ drop n ys = sym (drop-drop n 1 (w ∷ ys)) in
    let f : drop (1 + n + r) (w ∷ ys) ≡ drop r (drop n ys) = sym (drop-drop r (1 + n) (w ∷ ys)) ∙ ap (drop r) e in
    rw (e, f) (ap (λ (z : List ℕ). w ∷ z)
    (append_assoc (take n ys) (take r (drop n ys)) (drop r (drop n ys)) ∙ ap (λ (z : List ℕ). take n ys ++ z) (take-append-drop r (drop n ys)) ∙ take-append-drop n ys))

shaped_at : (w : ℕ) (ys : List ℕ) → 1 ≤ w → w ≤ 8 → part_size 3 ys ≤ length ys → all_of (parts_at (w ∷ ys)) ≤ length (w ∷ ys) →
    Shaped (answer_in (parts_at (w ∷ ys)) (w ∷ ys))
shaped_at w ys l h p q =
    let m : ℕ = part_size 3 ys in
    let zs : List ℕ = drop (part_size 3 ys) ys in
    let e : drop (1 + part_size 3 ys) (w ∷ ys) ≡ drop (part_size 3 ys) ys = sym (drop-drop (part_size 3 ys) 1 (w ∷ ys)) in
    let z : part_size (1 + w) (drop (part_size 3 ys) ys) ≤ length (drop (part_size 3 ys) ys) = omega (arith, length-drop (part_size 3 ys) ys) in
    record {
      some = l;
      few = h;
      nodes_long = length-take-le m ys p ∙ ap (λ (g : ℕ). 1 + 3 * g) (sym (get_or-take m ys 0 0 (omega arith)));
      rows_long = rw e (length-take-le (part_size (1 + w) zs) zs z ∙ ap (λ (g : ℕ). 1 + (1 + w) * g) (sym (get_or-take (part_size (1 + w) zs) zs 0 0 (omega arith))));
    }

answer_shaped : (xs : List ℕ) (s : Sizes) → Measured xs s → Shaped (answer_in s xs)
answer_shaped [] s m = absurd (omega (arith, m.some))
answer_shaped (w ∷ ys) s m =
    subst (λ (t : Sizes). Shaped (answer_in t (w ∷ ys))) (sym m.is) (shaped_at w ys m.low m.high m.nodes_there m.all_there)

again : (xs : List ℕ) (s : Sizes) (gs : List Held) → Measured xs s → drop (all_of s) xs ≡ flat_map numbers_of gs →
    xs ≡ numbers_of (answer_in s xs) ++ flat_map numbers_of gs
again [] s gs m e = absurd (omega (arith, m.some))
again (w ∷ ys) s gs m e =
    let f : s.width ≡ w = ap (λ (t : Sizes). t.width) m.is in
    rw (← e, f) (sym (cut_again w s.nodes s.rows ys))

only_more : (n : ℕ) (xs : List ℕ) (hs : List Held) (s : Sizes) (o : Outcome) → Measured xs s →
    ((gs : List Held) → o ≡ holds gs → Only (drop (all_of s) xs) n gs) → behind (answer_in s xs ∷ []) o ≡ holds hs → Only xs (suc n) hs
only_more n xs hs s (holds gs) m rest e =
    let o = rest gs refl in
    let f : answer_in s xs ∷ gs ≡ hs = cc in
    subst (λ (z : List Held). Only xs (suc n) z) f
    (record { is = again xs s gs m o.is; count = ap suc o.count; shaped = (answer_shaped xs s m, o.shaped) })
only_more n xs hs s (damaged d) m rest e = absurd (let z : ◌≡◌ {A = ℕ} 0 1 = cc in omega arith)

step_only : (n k : ℕ) (xs : List ℕ) (hs : List Held) (r : Result Sizes FileError) → r ≡ sizes_of k xs →
    ((ys : List ℕ) (gs : List Held) → answers_from (suc k) n ys ≡ holds gs → Only ys n gs) →
    then_read r (λ s. behind (answer_in s xs ∷ []) (answers_from (suc k) n (drop (all_of s) xs))) ≡ holds hs → Only xs (suc n) hs
step_only n k xs hs (Ok s) f rest e =
    only_more n xs hs s (answers_from (suc k) n (drop (all_of s) xs)) (measured k xs s f) (λ gs g. rest (drop (all_of s) xs) gs g) e
step_only n k xs hs (Err d) f rest e = absurd (let z : ◌≡◌ {A = ℕ} 0 1 = cc in omega arith)

-- what is read holds answers only if each test passes
tested : (b : Bool) (o : Outcome) (d : FileError) (hs : List Held) → pick b o (damaged d) ≡ holds hs → (b ≡ true) × (o ≡ holds hs)
tested true o d hs e = (refl, e)
tested false o d hs e = absurd (let z : ◌≡◌ {A = ℕ} 0 1 = cc in omega arith)

read_only : (n k : ℕ) (xs : List ℕ) (hs : List Held) → answers_from k n xs ≡ holds hs → Only xs n hs
unfolding answers_from
read_only zero k xs hs e =
    let p = tested (eqb (length xs) 0) (holds []) LeftOver hs e in
    let z : length xs ≡ 0 = let q = p.0 in grind (arith, nat_tests) in
    let f : holds [] ≡ holds hs = p.1 in
    let g : [] ≡ hs = cc in
    subst (λ (y : List Held). Only xs 0 y) g (record { is = nil_from_length xs z; count = refl; shaped = tt })
read_only (suc n) k xs hs e = step_only n k xs hs (sizes_of k xs) refl (λ ys gs f. read_only n (suc k) ys gs f) e

front_three : (xs : List ℕ) → 3 ≤ length xs → get_or xs 0 0 ∷ get_or xs 1 0 ∷ get_or xs 2 0 ∷ drop 3 xs ≡ xs
front_three [] h = absurd (omega arith)
front_three (a ∷ []) h = absurd (omega arith)
front_three (a ∷ b ∷ []) h = absurd (omega arith)
front_three (a ∷ b ∷ c ∷ xs) h = refl

numbers_back : (hs : List Held) → AllByRecursion Shaped hs → read_numbers (file_numbers hs) ≡ holds hs
unfolding read_numbers
numbers_back hs a = rw (le-leb 3 (length (file_numbers hs)) (omega arith)) (read_back 0 hs a)

numbers_only : (xs : List ℕ) (hs : List Held) → read_numbers xs ≡ holds hs → (xs ≡ file_numbers hs) × AllByRecursion Shaped hs
unfolding read_numbers
numbers_only xs hs e =
    let p = tested (leb 3 (length xs) && eqb (get_or xs 0 0) magic) _ NotStored hs e in
    let q = tested (eqb (get_or xs 1 0) 1) (answers_from 0 (get_or xs 2 0) (drop 3 xs)) (Version (get_or xs 1 0)) hs p.1 in
    let o = read_only (get_or xs 2 0) 0 (drop 3 xs) hs q.1 in
    let h : 3 ≤ length xs = let t = p.0 in grind (arith, nat_tests) in
    let m : get_or xs 0 0 ≡ magic = let t = p.0 in grind (arith, nat_tests) in
    let v : get_or xs 1 0 ≡ 1 = let t = q.0 in grind (arith, nat_tests) in
    let n : length hs ≡ get_or xs 2 0 = o.count in
    let j : drop 3 xs ≡ flat_map numbers_of hs = o.is in
    let t : get_or xs 0 0 ∷ get_or xs 1 0 ∷ get_or xs 2 0 ∷ drop 3 xs ≡ file_numbers hs = rw (m, v, n, j) in
    (sym (front_three xs h) ∙ t, o.shaped)

all_small : (hs : List Held) → AllByRecursion (λ a. AllByRecursion (λ x. x < 2 ^ 64) (numbers_of a)) hs → AllByRecursion (λ x. x < 2 ^ 64) (flat_map numbers_of hs)
all_small [] a = tt
all_small (h ∷ hs) a = All-append (λ x. x < 2 ^ 64) (numbers_of h) (flat_map numbers_of hs) a.0 (all_small hs a.1)

file_back : (hs : List Held) → Storable hs → read_file (file hs) ≡ holds hs
unfolding read_file
file_back hs s =
    let l = length_written (file_numbers hs) in
    let m : length (file hs) % 8 ≡ 0 = omega arith in
    let d : length (file hs) / 8 ≡ length (file_numbers hs) = omega arith in
    let w : numbers (length (file_numbers hs)) (file hs) ≡ file_numbers hs =
    numbers_written (file_numbers hs) (omega arith, (omega arith, (s.few, all_small hs s.small))) in
    rw (eq-eqb (length (file hs) % 8) 0 m, d, w) (numbers_back hs s.shaped)

file_only : (bs : List ℕ) (hs : List Held) → AllByRecursion (λ b. b < 256) bs → read_file bs ≡ holds hs → (bs ≡ file hs) × AllByRecursion Shaped hs
unfolding read_file
file_only bs hs a e =
    let p = tested (eqb (length bs % 8) 0) (read_numbers (numbers (length bs / 8) bs)) Uneven hs e in
    let z : length bs % 8 ≡ 0 = let t = p.0 in grind (arith, nat_tests) in
    let l : length bs ≡ 8 * (length bs / 8) = omega arith in
    let q = numbers_only (numbers (length bs / 8) bs) hs p.1 in
    (sym (written_numbers (length bs / 8) bs l a) ∙ ap written q.0, q.1)

file_apart : (hs gs : List Held) → Storable hs → Storable gs → file hs ≡ file gs → hs ≡ gs
file_apart hs gs s t e =
    let z : holds hs ≡ holds gs = sym (file_back hs s) ∙ ap read_file e ∙ file_back gs t in
    cc

-- the code reads only files
pub only_files : (bs : List ℕ) (r : Result (Vec Answer Global) FileError) → ((i : ℕ) → get_or bs i 0 < 256) → FileRead (read_file bs) r →
    IfOk r (λ v. bs ≡ file (map held (vec_items v)))
only_files bs (Ok v) h e = (file_only bs (map held (vec_items v)) (All-from_get_or (λ b. b < 256) bs 0 (λ i _. h i)) e).0
only_files bs (Err d) h e = tt

pub round_trip : RoundTrip
round_trip = record { back = file_back; only = file_only; apart = file_apart }
