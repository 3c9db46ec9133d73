-- What bytes are read as. Assumes nothing: these are definitions.
use Rattle.std.specs.Prelude.{◌≡◌, ℕ, zero, suc, ◌+◌, ◌*◌, ◌/◌, ◌%◌, ◌<◌, ◌≤◌, Bool, ◌&&◌, List, [], ◌∷◌, ◌++◌, map, length, take, drop, Ok, Err, vec_items, Option, Result, MatchOption, MatchResult, Vec, ◌==◌, nat_le, slice_index}
use Rattle.std.specs.Borrow.{Bor}
use Rattle.std.specs.declared.alloc.Global.{Global}
use Rattle.tables.specs.Bool.{pick}
use Rattle.codec.specs.Bytes.{numbers}
use Rattle.stored.specs.declared.Answer.{Answer}
use Rattle.stored.specs.declared.error.FileError.{FileError}
use Rattle.stored.specs.declared.error.FileError.TheVariants.{NoMemory, Uneven, NotStored, Version, Width, CutOff, LeftOver}
use Rattle.stored.specs.declared.parts.Parts.{Parts}
use Rattle.stored.specs.Form.{Held, magic}

-- an answer of the code
abbrev pub held : Answer → Held
held a = record { width = a.width; nodes = vec_items a.nodes; rows = vec_items a.rows }

pub data Outcome : Type 0 where
  holds : List Held → Outcome  -- these answers, and nothing else
  damaged : FileError → Outcome

-- what a count at the front of xs takes, with so many numbers for every item counted
abbrev pub part_size : ℕ → List ℕ → ℕ
part_size each xs = 1 + each * slice_index xs 0

-- how many cells the rows of an answer have, and how many numbers its nodes and its rows take, with their counts
pub record Sizes : Type 0 where
  pub width : ℕ
  pub nodes : ℕ
  pub rows : ℕ

-- the parts of the answer that xs begin with: its width, what its nodes take, and what its rows take
abbrev pub parts_at : List ℕ → Sizes
parts_at xs =
    record {
      width = slice_index xs 0;
      nodes = part_size 3 (drop 1 xs);
      rows = part_size (1 + slice_index xs 0) (drop (part_size 3 (drop 1 xs)) (drop 1 xs));
    }

-- how many numbers they take together
abbrev pub all_of : Sizes → ℕ
all_of s = 1 + s.nodes + s.rows

-- all of them are there
abbrev pub whole : List ℕ → Bool
whole xs = nat_le (part_size 3 (drop 1 xs)) (length (drop 1 xs)) && nat_le (all_of (parts_at xs)) (length xs)

-- the parts of answer k, at the front of xs: it has to be there, to have a width of 1 to 8, and to be whole
unfoldable pub sizes_of : ℕ → List ℕ → Result Sizes FileError
sizes_of k [] = Err (CutOff k)
sizes_of k (w ∷ xs) = pick (nat_le 1 w && nat_le w 8) (pick (whole (w ∷ xs)) (Ok (parts_at (w ∷ xs))) (Err (CutOff k))) (Err (Width k))

-- the answer that xs begin with, by its parts
abbrev pub answer_in : Sizes → List ℕ → Held
answer_in s xs = record { width = s.width; nodes = take s.nodes (drop 1 xs); rows = take s.rows (drop (1 + s.nodes) xs) }

-- answers before others
abbrev pub behind : List Held → Outcome → Outcome
behind hs (holds more) = holds (hs ++ more)
behind hs (damaged e) = damaged e

abbrev pub then_read : Result Sizes FileError → (Sizes → Outcome) → Outcome
then_read (Ok s) f = f s
then_read (Err e) f = damaged e

-- n answers, the first of them answer k, and nothing after them
unfoldable pub answers_from : ℕ → ℕ → List ℕ → Outcome
answers_from k zero xs = pick (length xs == 0) (holds []) (damaged LeftOver)
answers_from k (suc n) xs =
    then_read (sizes_of k xs) (λ s. behind (answer_in s xs ∷ []) (answers_from (suc k) n (drop (all_of s) xs)))

-- the word that names the form, its version, the number of answers, and the answers
unfoldable pub read_numbers : List ℕ → Outcome
read_numbers xs =
    pick (nat_le 3 (length xs) && slice_index xs 0 == magic)
    (pick (slice_index xs 1 == 1) (answers_from 0 (slice_index xs 2) (drop 3 xs)) (damaged (Version (slice_index xs 1))))
    (damaged NotStored)

-- bytes are numbers of eight bytes each
unfoldable pub read_file : List ℕ → Outcome
read_file bs = pick (length bs % 8 == 0) (read_numbers (numbers (length bs / 8) bs)) (damaged Uneven)

-- the code cuts a count and what it counts from the front of xs, if all of it is there
abbrev pub PartCut : ℕ → List ℕ → Option (Bor (List ℕ) × Bor (List ℕ)) → Type 0
PartCut each xs r =
    MatchOption r (length xs < part_size each xs)
    (λ p. (part_size each xs ≤ length xs) × (p.0.now ≡ take (part_size each xs) xs) × (p.1.now ≡ drop (part_size each xs) xs))

-- the answer that the code has cut out
abbrev pub held_in : Parts → Held
held_in p = record { width = p.width; nodes = p.nodes.now; rows = p.rows.now }

-- it is answer k, at the front of xs, and these are the numbers behind it
pub record CutOut (k : ℕ) (xs : List ℕ) (p : Parts) : Type 0 where
  pub sizes : Sizes
  pub fit : Ok sizes ≡ sizes_of k xs
  pub held : held_in p ≡ answer_in sizes xs
  pub rest : p.rest.now ≡ drop (all_of sizes) xs

abbrev pub PartsCut : ℕ → List ℕ → Result Parts FileError → Type 0
PartsCut k xs r = MatchResult r (CutOut k xs) (λ e. Err e ≡ sizes_of k xs)

-- the code gives the numbers of whole words
abbrev pub NumbersRead : List ℕ → Result (Vec ℕ Global) FileError → Type 0
NumbersRead bs (Ok v) = (length bs % 8 ≡ 0) × (vec_items v ≡ numbers (length bs / 8) bs)
NumbersRead bs (Err NoMemory) = Unit {0}
NumbersRead bs (Err Uneven) = length bs % 8 ≡ 0 → ⊥
NumbersRead bs (Err NotStored) = ⊥
NumbersRead bs (Err (Version v)) = ⊥
NumbersRead bs (Err (Width k)) = ⊥
NumbersRead bs (Err (CutOff k)) = ⊥
NumbersRead bs (Err LeftOver) = ⊥

-- the code gives what is read, unless memory is wanting
abbrev pub FileRead : Outcome → Result (Vec Answer Global) FileError → Type 0
FileRead o (Ok v) = o ≡ holds (map held (vec_items v))
FileRead o (Err NoMemory) = Unit {0}
FileRead o (Err Uneven) = o ≡ damaged Uneven
FileRead o (Err NotStored) = o ≡ damaged NotStored
FileRead o (Err (Version v)) = o ≡ damaged (Version v)
FileRead o (Err (Width k)) = o ≡ damaged (Width k)
FileRead o (Err (CutOff k)) = o ≡ damaged (CutOff k)
FileRead o (Err LeftOver) = o ≡ damaged LeftOver
