-- One step of reading answers. Assumes nothing.
use Rattle.std.proofs.Common.{◌≡◌, ℕ, suc, ◌+◌, ◌-◌, ◌<◌, ◌≤◌, List, [], ◌∷◌, ◌++◌, map, length, get_or, take, drop, Ok, Err, vec_items, Vec, sym, refl, ap, ◌∙◌, append_assoc, append-nil, add-one, arith, le-leb}
use native.Mathlib.Nat.{sub-zero}
use borrow.Author.Tests.{lt-leb}
use Rattle.std.proofs.lemmas.List.{take_rest, map_push}
use Rattle.std.proofs.lemmas.Bool.{eq-eqb, ne_eqb}
use Rattle.std.specs.declared.alloc.Global.{Global}
use Rattle.stored.specs.declared.Answer.{Answer}
use Rattle.stored.specs.declared.error.FileError.{FileError}
use Rattle.stored.specs.declared.error.FileError.TheVariants.{NoMemory, Uneven, NotStored, Version, Width, CutOff, LeftOver}
use Rattle.stored.specs.declared.parts.Parts.{Parts}
use Rattle.stored.specs.Form.{Held, magic}
use Rattle.stored.specs.Reads.{Sizes, held, held_in, CutOut, Outcome, holds, damaged, all_of, sizes_of, answer_in, behind, then_read, answers_from, read_numbers, read_file, NumbersRead, FileRead}

behind_none : (o : Outcome) → behind [] o ≡ o
behind_none (holds hs) = refl
behind_none (damaged e) = refl

behind_behind : (hs more : List Held) (o : Outcome) → behind hs (behind more o) ≡ behind (hs ++ more) o
behind_behind hs more (holds rest) = ap holds (sym (append_assoc hs more rest))
behind_behind hs more (damaged e) = refl

pub short_file : (xs : List ℕ) → length xs < 3 → read_numbers xs ≡ damaged NotStored
unfolding read_numbers
short_file xs h = rw (lt-leb 3 (length xs) h)

pub other_file : (xs : List ℕ) → 3 ≤ length xs → (get_or xs 0 0 ≡ magic → ⊥) → read_numbers xs ≡ damaged NotStored
unfolding read_numbers
other_file xs h n = rw (le-leb 3 (length xs) h, ne_eqb (get_or xs 0 0) magic n)

pub other_version : (xs : List ℕ) → 3 ≤ length xs → get_or xs 0 0 ≡ magic → (get_or xs 1 0 ≡ 1 → ⊥) → read_numbers xs ≡ damaged (Version (get_or xs 1 0))
unfolding read_numbers
other_version xs h m n = rw (le-leb 3 (length xs) h, eq-eqb (get_or xs 0 0) magic m, ne_eqb (get_or xs 1 0) 1 n)

pub start_read : (xs : List ℕ) (out : List Answer) → 3 ≤ length xs → get_or xs 0 0 ≡ magic → get_or xs 1 0 ≡ 1 → out ≡ [] →
    read_numbers xs ≡ behind (map held out) (answers_from 0 (get_or xs 2 0 - 0) (take (length xs - 3) (drop 3 xs)))
unfolding read_numbers
start_read xs out h m n e =
    rw (le-leb 3 (length xs) h, eq-eqb (get_or xs 0 0) magic m, eq-eqb (get_or xs 1 0) 1 n, e, take_rest xs 3, sub-zero (get_or xs 2 0))
    (sym (behind_none (answers_from 0 (get_or xs 2 0) (drop 3 xs))))

-- n answers are left to read, the first of them answer k
from_more : (k n : ℕ) (xs : List ℕ) → k < n →
    answers_from k (n - k) xs ≡ then_read (sizes_of k xs) (λ s. behind (answer_in s xs ∷ []) (answers_from (k + 1) (n - (k + 1)) (drop (all_of s) xs)))
unfolding answers_from
from_more k n xs h =
    let e : n - k ≡ suc (n - (k + 1)) = omega arith in
    rw (e, add-one)

from_on : (k n : ℕ) (xs : List ℕ) (s : Sizes) → k < n → Ok s ≡ sizes_of k xs →
    answers_from k (n - k) xs ≡ behind (answer_in s xs ∷ []) (answers_from (k + 1) (n - (k + 1)) (drop (all_of s) xs))
from_on k n xs s h e = from_more k n xs h ∙ rw (← e)

-- the code's step past an answer
pub read_on : (o : Outcome) (k n : ℕ) (out more : List Answer) (xs : List ℕ) (p : Parts) (a : Answer) → k < n →
    o ≡ behind (map held out) (answers_from k (n - k) xs) → CutOut k xs p → held a ≡ held_in p → more ≡ out ++ a ∷ [] →
    o ≡ behind (map held more) (answers_from (k + 1) (n - (k + 1)) p.rest.now)
read_on o k n out more xs p a h i c f g =
    let s : Sizes = c.sizes in
    rw (c.rest, g, map_push held out a, f, c.held)
    (i ∙ ap (behind (map held out)) (from_on k n xs s h c.fit) ∙ behind_behind (map held out) (answer_in s xs ∷ []) _)

pub read_off : (o : Outcome) (k n : ℕ) (out : List Answer) (xs : List ℕ) (e : FileError) → k < n →
    o ≡ behind (map held out) (answers_from k (n - k) xs) → Err e ≡ sizes_of k xs → o ≡ damaged e
read_off o k n out xs e h i f =
    let g : answers_from k (n - k) xs ≡ damaged e = from_more k n xs h ∙ rw (← f) in
    i ∙ ap (behind (map held out)) g

pub read_end : (o : Outcome) (k n : ℕ) (out : List Answer) (xs : List ℕ) → n ≤ k → length xs ≡ 0 →
    o ≡ behind (map held out) (answers_from k (n - k) xs) → o ≡ holds (map held out)
unfolding answers_from
read_end o k n out xs h z i =
    let e : n - k ≡ 0 = omega arith in
    i ∙ rw (e, eq-eqb (length xs) 0 z) (ap holds (append-nil (map held out)))

pub read_left : (o : Outcome) (k n : ℕ) (out : List Answer) (xs : List ℕ) → n ≤ k → (length xs ≡ 0 → ⊥) →
    o ≡ behind (map held out) (answers_from k (n - k) xs) → o ≡ damaged LeftOver
unfolding answers_from
read_left o k n out xs h z i =
    let e : n - k ≡ 0 = omega arith in
    i ∙ rw (e, ne_eqb (length xs) 0 z)

-- the code's error is the one that is read
pub error_read : (o : Outcome) (e : FileError) → o ≡ damaged e → FileRead o (Err e)
error_read o NoMemory h = tt
error_read o Uneven h = h
error_read o NotStored h = h
error_read o (Version v) h = h
error_read o (Width k) h = h
error_read o (CutOff k) h = h
error_read o LeftOver h = h

pub error_numbers : (bs : List ℕ) (e : FileError) → NumbersRead bs (Err e) → FileRead (read_file bs) (Err e)
unfolding read_file
error_numbers bs NoMemory h = tt
error_numbers bs Uneven h = rw (ne_eqb _ 0 h)
error_numbers bs NotStored h = absurd h
error_numbers bs (Version v) h = absurd h
error_numbers bs (Width k) h = absurd h
error_numbers bs (CutOff k) h = absurd h
error_numbers bs LeftOver h = absurd h

pub file_read : (bs xs : List ℕ) (v : Vec ℕ Global) → NumbersRead bs (Ok v) → xs ≡ vec_items v → read_file bs ≡ read_numbers xs
unfolding read_file
file_read bs xs v h e = rw (eq-eqb _ 0 h.0) (ap read_numbers (sym (e ∙ h.1)))
