-- Or and both of two nodes, without a new node where one of the two says all. Assumes nothing: these are definitions.
use Rattle.std.specs.Prelude.{◌≡◌, ℕ, ◌<◌, Bool, true, false, List, Some, None, Option, MatchOption}
use Rattle.tables.specs.Bool.{pick}
use Rattle.query.specs.Semiring.{Count}
use Rattle.circuit.specs.declared.Node.{Node}
use Rattle.circuit.specs.declared.Node.TheVariants.{Never, Always, Mark, Or, Both}
use Rattle.circuit.specs.Expr.{Expr, value}
use Rattle.circuit.specs.Store.{nodes_in, expr_of}
use Rattle.circuit.specs.Held.{node_held, count_in, Sound, Proper, NamesEarlier, stands, Full, Grown}
use Rattle.circuit.specs.Hints.{Shares, FoundOrAdded}

-- whatever each mark counts, the two expressions count the same
abbrev pub CountsAlike : Expr → Expr → Type 0
CountsAlike e f = (v : ℕ → ℕ) → value Count v e ≡ value Count v f

abbrev pub is_never : Option Node → Bool
is_never None = false
is_never (Some Never) = true
is_never (Some Always) = false
is_never (Some (Mark k)) = false
is_never (Some (Or a b)) = false
is_never (Some (Both a b)) = false

abbrev pub is_always : Option Node → Bool
is_always None = false
is_always (Some Never) = false
is_always (Some Always) = true
is_always (Some (Mark k)) = false
is_always (Some (Or a b)) = false
is_always (Some (Both a b)) = false

-- the one of nodes a and b that "a or b" comes to: the other one where one is never
abbrev pub or_is : List ℕ → ℕ → ℕ → Option ℕ
or_is m a b = pick (is_never (node_held m a)) (Some b) (pick (is_never (node_held m b)) (Some a) None)

-- the one of nodes a and b that "both a and b" comes to: the one that is never, and the other one where one is always
abbrev pub both_is : List ℕ → ℕ → ℕ → Option ℕ
both_is m a b =
    pick (is_never (node_held m a)) (Some a)
    (pick (is_never (node_held m b)) (Some b) (pick (is_always (node_held m a)) (Some b) (pick (is_always (node_held m b)) (Some a) None)))

-- node p of `after` counts as n does behind the nodes of m
pub record CountsAs (m after : List ℕ) (n : Node) (p : ℕ) : Type 0 where
  pub counted : p < count_in after
  pub alike : CountsAlike (expr_of (nodes_in after) p) (stands (nodes_in m) n)

-- what joining two nodes leaves: where one of them says all, nothing is changed and it is the result; else their node n is found or added
pub record Joined (m after hints hints_after : List ℕ) (simple : Option ℕ) (n : Node) (r : Option ℕ) : Type 0 where
  pub unchanged : (p : ℕ) → simple ≡ Some p → (r ≡ Some p) × (after ≡ m) × (hints_after ≡ hints)
  pub put : simple ≡ None → FoundOrAdded m after hints hints_after n r
  pub counts : NamesEarlier (count_in m) n → MatchOption r (Full m × (after ≡ m)) (CountsAs m after n)
  pub grown : Grown m after
  pub sound : Sound m → NamesEarlier (count_in m) n → Sound after
  pub proper : Proper m → NamesEarlier (count_in m) n → Proper after
  pub shares : Shares m after hints hints_after
