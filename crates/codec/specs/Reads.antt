-- What the code answers about the binary form, by the definitions of Input. Assumes nothing: these are definitions.
use Rattle.std.specs.Prelude.{◌≡◌, ℕ, ◌/◌, true, false, List, ◌∷◌, length, drop, Some, None, Ok, Err, vec_items, Option, Result, MatchOption}
use Rattle.codec.specs.Bytes.{numbers}
use Rattle.codec.specs.Input.{Read, read, faulty, table_bytes, table_whole, table_numbers}
use Rattle.codec.specs.declared.input.Decoded.{Decoded}
use Rattle.codec.specs.declared.input.InputError.{InputError}
use Rattle.codec.specs.declared.input.InputError.TheVariants.{NoMemory, Table, Operator}
use Rattle.codec.specs.declared.output.Refused.{Refused}
use Rattle.codec.specs.declared.tables_form.FrontTable.{FrontTable}

-- a table at the front as memory holds it
abbrev pub front_numbers : FrontTable → List ℕ
front_numbers t = t.rows ∷ t.columns ∷ numbers (length t.cells.now / 8) t.cells.now

-- it is the one that the bytes begin with, which fits, and these are the bytes after it
pub record AtFront (bs : List ℕ) (t : FrontTable) : Type 0 where
  pub whole : table_whole bs ≡ true
  pub held : front_numbers t ≡ table_numbers bs
  pub rest : t.rest.now ≡ drop (table_bytes bs) bs

-- the table at the front is found if it fits
abbrev pub TableFound : List ℕ → Option FrontTable → Type 0
TableFound bs r = MatchOption r (table_whole bs ≡ false) (AtFront bs)

-- tables are read as the definition says, unless memory is wanting
abbrev pub TablesRead : Read → Result Decoded InputError → Type 0
TablesRead r (Ok x) = r ≡ read (vec_items x.numbers) x.rest.now
TablesRead r (Err NoMemory) = Unit {0}
TablesRead r (Err (Table t)) = r ≡ faulty t
TablesRead r (Err (Operator p)) = ⊥

-- and so is a query
abbrev pub QueryRead : Read → Result Decoded InputError → Type 0
QueryRead r (Ok x) = r ≡ read (vec_items x.numbers) x.rest.now
QueryRead r (Err NoMemory) = Unit {0}
QueryRead r (Err (Table t)) = ⊥
QueryRead r (Err (Operator p)) = r ≡ faulty p

-- a faulty table is refusal 1, an operator that is cut off refusal 2; want of memory is no refusal
abbrev pub refusal_of : InputError → Option Refused
refusal_of NoMemory = None
refusal_of (Table t) = Some (record { number = 1; place = t })
refusal_of (Operator p) = Some (record { number = 2; place = p })
