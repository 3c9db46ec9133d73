-- Answers that are stored and read back. Assumes nothing: these are statements.
use Rattle.std.specs.Prelude.{◌≡◌, ℕ, ◌+◌, ◌*◌, ◌^◌, ◌<◌, ◌≤◌, List, length, slice_index}
use Rattle.std.specs.List.{AllByRecursion}
use Rattle.stored.specs.Form.{Held, numbers_of, file}
use Rattle.stored.specs.Reads.{holds, read_file}

-- an answer has rows of 1 to 8 cells, and just the nodes and the rows that it counts
pub record Shaped (a : Held) : Type 0 where
  pub some : 1 ≤ a.width
  pub few : a.width ≤ 8
  pub nodes_long : length a.nodes ≡ 1 + 3 * slice_index a.nodes 0
  pub rows_long : length a.rows ≡ 1 + (1 + a.width) * slice_index a.rows 0

-- such answers, of numbers that a machine holds
pub record Storable (hs : List Held) : Type 0 where
  pub shaped : AllByRecursion Shaped hs
  pub small : AllByRecursion (λ a. AllByRecursion (λ x. x < 2 ^ 64) (numbers_of a)) hs
  pub few : length hs < 2 ^ 64

pub record RoundTrip : Type 0 where
  -- what is written is read back
  pub back : (hs : List Held) → Storable hs → read_file (file hs) ≡ holds hs
  -- nothing else is read as the same answers
  pub only : (bs : List ℕ) (hs : List Held) → AllByRecursion (λ b. b < 256) bs → read_file bs ≡ holds hs → (bs ≡ file hs) × AllByRecursion Shaped hs
  -- so different answers have different files
  pub apart : (hs gs : List Held) → Storable hs → Storable gs → file hs ≡ file gs → hs ≡ gs
