-- When a query is turned away: the first refusal that applies, its number and its place. Assumes nothing: these are definitions.
use Rattle.std.specs.Prelude.{ℕ, ◌+◌, ◌*◌, List, Some, None, Option, nat_le}
use Rattle.tables.specs.Bool.{pick}
use Rattle.tables.specs.Tables.{Row, Fit, fits, faulty, fit, tables_in, widths_in}
use Rattle.query.specs.Parse.{Parsed, parsed, fault, parse}
use Rattle.query.specs.Weight.{weight}
use Rattle.eval.specs.declared.reply.Refusal.{Refusal}
use Rattle.eval.specs.declared.reply.Refusal.TheVariants.{Tables, Query, Weight, Work, Nodes, Out}

-- the number of a refusal
abbrev pub number_of : Refusal → ℕ
number_of (Tables t) = 1
number_of (Query p) = 2
number_of Weight = 3
number_of (Work n) = 4
number_of (Nodes n) = 5
number_of (Out n) = 6

-- its place: the table, the operator, the first weight that is too much, or the length of the lent row that is too short
abbrev pub place_of : Refusal → ℕ
place_of (Tables t) = t
place_of (Query p) = p
place_of Weight = 8193
place_of (Work n) = n
place_of (Nodes n) = n
place_of (Out n) = n

-- of a query of weight n, over lent rows of so many numbers
abbrev pub by_weight : ℕ → ℕ → ℕ → ℕ → Option Refusal
by_weight n work nodes out =
    pick (nat_le n 8192)
    (pick (nat_le (9 * n) work) (pick (nat_le (7 + 6 * n) nodes) (pick (nat_le (1 + 9 * n) out) None (Some (Out out))) (Some (Nodes nodes))) (Some (Work work)))
    (Some Weight)

-- of a query that was read
abbrev pub by_query : List (List Row) → Parsed → ℕ → ℕ → ℕ → Option Refusal
by_query ts (parsed q w ys) work nodes out = by_weight (weight ts q) work nodes out
by_query ts (fault p) work nodes out = Some (Query p)

abbrev pub by_fit : Fit → Option Refusal → Option Refusal
by_fit fits r = r
by_fit (faulty t) r = Some (Tables t)

-- of tables in the memory m and a query written as xs, with so many numbers in the work row, the nodes and the answer
abbrev pub refusal : List ℕ → List ℕ → ℕ → ℕ → ℕ → Option Refusal
refusal m xs work nodes out = by_fit (fit m) (by_query (tables_in m) (parse (widths_in m) xs) work nodes out)
