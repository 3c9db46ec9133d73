-- Queries as the numbers in which they are written, and what is written for a step. Assumes nothing: these are definitions.
use Rattle.std.specs.Prelude.{◌≡◌, ℕ, ◌+◌, ◌*◌, ◌<◌, ◌≤◌, List, ◌++◌, length, drop, Some, None, Option, slice_index}
use Rattle.std.specs.Borrow.{Bor}
use Rattle.std.specs.List.{flat_map}
use Rattle.tables.specs.Tables.{widths_in}
use Rattle.query.specs.Query.{Query, scan}
use Rattle.query.specs.Operators.{Sign, operator_at, change_width, pair_width, changed, paired}
use Rattle.query.specs.declared.operator.Operator.{Operator}
use Rattle.query.specs.declared.operator.Operator.TheVariants.{Scan, One, Two}
use Rattle.query.specs.declared.operator.Change.{Change}
use Rattle.query.specs.declared.operator.Change.TheVariants.{Select, Project}
use Rattle.query.specs.declared.operator.Pairing.{Pairing}
use Rattle.query.specs.declared.operator.Test.{Test}
use Rattle.query.specs.declared.operator.Test.TheVariants.{Same, Is, Below}
use Rattle.rewrite.specs.declared.Step.{Step}
use Rattle.rewrite.specs.declared.signs.Selected.{Selected}
use Rattle.rewrite.specs.declared.signs.Projected.{Projected}
use Rattle.rewrite.specs.declared.signs.Paired.{Paired}
use Rattle.rewrite.specs.declared.signs.Inner.{Inner}
use Rattle.rewrite.specs.declared.site.Site.{Site}
use Rattle.rewrite.specs.Rewritten.{size, turned}

-- the numbers of a query of width w, over tables of the widths ws
pub data Written (ws : List ℕ) : List ℕ → Query → ℕ → Type 0 where
  scanned : {six : List ℕ} (t : ℕ) → Sign six (Scan t) → t < length ws → Written ws six (scan t) (slice_index ws t)
  changing : {six xs : List ℕ} {q : Query} {v w : ℕ} (c : Change) → Sign six (One c) → Some w ≡ change_width c v →
      Written ws xs q v → Written ws (six ++ xs) (changed c q) w
  pairing : {six xs ys : List ℕ} {l r : Query} {u v w : ℕ} (j : Pairing) → Sign six (Two j) → Some w ≡ pair_width j u v →
      Written ws xs l u → Written ws ys r v → Written ws (six ++ (xs ++ ys)) (paired j l r) w

-- the numbers xs begin with the operator o, in six numbers, and then comes rest
pub record Begun (xs : List ℕ) (o : Operator) (six rest : List ℕ) : Type 0 where
  pub parts : xs ≡ six ++ rest
  pub sign : Sign six o

-- the selection, the projection, and the product or the union that stands at the front of xs, if one does
abbrev pub Selects : List ℕ → Option Selected → Type 0
Selects xs (Some x) = Begun xs (One (Select x.test)) x.sign.now x.rest.now
Selects xs None = (c : Test) → operator_at xs ≡ Some (One (Select c)) → ⊥

abbrev pub Projects : List ℕ → Option Projected → Type 0
Projects xs (Some x) = Begun xs (One (Project x.kept x.columns)) x.sign.now x.rest.now
Projects xs None = (n : ℕ) (cs : List ℕ) → operator_at xs ≡ Some (One (Project n cs)) → ⊥

abbrev pub Pairs : List ℕ → Pairing → Option Paired → Type 0
Pairs xs j (Some x) = Begun xs (Two j) x.sign.now x.rest.now
Pairs xs j None = operator_at xs ≡ Some (Two j) → ⊥

-- what is known of the signs of whatever query stands at the front of xs, over tables of the widths ws: nothing can be, or its width and what comes after it
abbrev pub Fronts : List ℕ → List ℕ → (List ℕ → ℕ → List ℕ → Type 0) → Type 0
Fronts ws xs P = (ys : List ℕ) (q : Query) (w : ℕ) (after : List ℕ) → Written ws ys q w → xs ≡ ys ++ after → P ys w after

-- its own signs, its width, and what comes after it
pub record Taken (ys : List ℕ) (w : ℕ) (after : List ℕ) (x : Inner) : Type 0 where
  pub signs : x.signs.now ≡ ys
  pub width : x.width ≡ w
  pub rest : x.rest.now ≡ after

abbrev pub Takes : List ℕ → List ℕ → Option Inner → Type 0
Takes ws xs (Some x) = Fronts ws xs (λ ys w after. Taken ys w after x)
Takes ws xs None = Fronts ws xs (λ ys w after. ⊥)

-- the same test of other columns, each one of those to which R takes its own
abbrev pub Mapped : (ℕ → ℕ → Type 0) → Test → Test → Type 0
Mapped R (Same a b) t = (x : ℕ) × (y : ℕ) × R a x × R b y × (t ≡ Same x y)
Mapped R (Is a n) t = (x : ℕ) × R a x × (t ≡ Is x n)
Mapped R (Below a n) t = (x : ℕ) × R a x × (t ≡ Below x n)

-- the numbers of some parts, one behind another
abbrev pub together : List (Bor (List ℕ)) → List ℕ
together xs = flat_map (λ x. x.now) xs

-- there are n numbers, if that is at most the room
abbrev pub Counts : ℕ → ℕ → Option ℕ → Type 0
Counts n room (Some k) = (k ≡ n) × (k ≤ room)
Counts n room None = room < n

-- n numbers are few enough for a query, and for the memory
abbrev pub Fits : ℕ → ℕ → Type 0
Fits n room = (n ≤ 96) × (n ≤ room)

-- xs is written to the front of the memory where it fits, and else the memory is as it was
abbrev pub Puts : List ℕ → List ℕ → List ℕ → Option ℕ → Type 0
Puts xs was now (Some n) = (n ≡ length xs) × Fits n (length was) × (now ≡ xs ++ drop n was)
Puts xs was now None = (Fits (length xs) (length was) → ⊥) × (now ≡ was)

-- a step at a query that stands between before and after: what it makes of it is written in its place, or does not fit, or is not there
pub record Made (ws : List ℕ) (s : Step) (before : List ℕ) (q : Query) (w : ℕ) (after was now : List ℕ) (n : ℕ) : Type 0 where
  pub new : Query
  pub made : turned ws s q ≡ Some new
  pub signs : List ℕ
  pub written : Written ws signs new w
  pub put : Puts (before ++ (signs ++ after)) was now (Some n)

pub record Left (ws : List ℕ) (s : Step) (before : List ℕ) (q : Query) (after was now : List ℕ) : Type 0 where
  pub kept : now ≡ was
  pub none : (new : Query) → turned ws s q ≡ Some new → Fits (length before + (6 * size new + length after)) (length was) → ⊥

abbrev pub Turned : List ℕ → Step → List ℕ → Query → ℕ → List ℕ → List ℕ → List ℕ → Option ℕ → Type 0
Turned ws s before q w after was now (Some n) = Made ws s before q w after was now n
Turned ws s before q w after was now None = Left ws s before q after was now

-- so it is of whatever query stands at the front of at
abbrev pub Turns : List ℕ → Step → List ℕ → List ℕ → List ℕ → List ℕ → Option ℕ → Type 0
Turns ws s before at was now r =
    (xs : List ℕ) (q : Query) (w : ℕ) (after : List ℕ) → Written ws xs q w → at ≡ xs ++ after → Turned ws s before q w after was now r

-- so it is at a place in a query
abbrev pub Makes : Step → Site → List ℕ → List ℕ → Option ℕ → Type 0
Makes s x was now r = Turns (widths_in x.tables.memory.now) s x.before.now x.at.now was now r
