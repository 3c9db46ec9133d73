-- Rows brought together: what the rows equal to a row come to stays the same. Assumes nothing.
use Rattle.std.proofs.Common.{◌≡◌, ℕ, ◌+◌, ◌<◌, List, [], ◌∷◌, ◌++◌, sum_by, sym, refl, ap, ◌∙◌, ap₂, ⊎_elim, arith}
use Rattle.std.specs.List.{AllByRecursion}
use Rattle.std.proofs.ByRecursion.{All-weaker}
use Rattle.std.proofs.lemmas.List.Sums.{sum_by-cons, sum_by-append}
use Rattle.std.proofs.lemmas.Bool.{cases_Bool}
use Rattle.tables.specs.Bool.{pick}
use Rattle.tables.specs.Tables.{Row, same_row}
use Rattle.query.specs.Semiring.{Count}
use Rattle.circuit.specs.declared.Node.{Node}
use Rattle.circuit.specs.Expr.{value}
use Rattle.circuit.specs.Store.{expr_of}
use Rattle.provenance.specs.Answer.{Answer}

-- what the rows equal to r come to, where f gives a number for each node
abbrev pub part : Row → (ℕ → ℕ) → Answer → ℕ
part r f a = pick (same_row r a.row) (f a.node) 0

abbrev pub sum_at : Row → (ℕ → ℕ) → List Answer → ℕ
sum_at r f xs = sum_by (part r f) xs

abbrev pub counting : (ℕ → ℕ) → List Node → ℕ → ℕ
counting v ns i = value Count v (expr_of ns i)

-- the rows ys are the rows xs, in another order and some equal ones together
pub record Together (before after : List Node) (xs ys : List Answer) : Type 0 where
  pub sums : (r : Row) (v : ℕ → ℕ) → sum_at r (counting v before) xs ≡ sum_at r (counting v after) ys
  pub all : (r : Row) → 0 < sum_at r (λ _. 1) xs → 0 < sum_at r (λ _. 1) ys
  pub only : (r : Row) → 0 < sum_at r (λ _. 1) ys → 0 < sum_at r (λ _. 1) xs

-- whatever number each row has, the rows ys come to what the rows xs do
abbrev pub SameSums : List Answer → List Answer → Type 0
SameSums xs ys = (f : Answer → ℕ) → sum_by f ys ≡ sum_by f xs

pub together_same : (ns : List Node) (xs ys : List Answer) → SameSums xs ys → Together ns ns xs ys
together_same ns xs ys same = record {
  sums = λ r v. sym (same (part r (counting v ns)));
  all = λ r h. let e = same (part r (λ _. 1)) in omega arith;
  only = λ r h. let e = same (part r (λ _. 1)) in omega arith;
}

pub together_then : {before between after : List Node} {xs ys zs : List Answer} → Together before between xs ys → Together between after ys zs → Together before after xs zs
together_then t u = record { sums = λ r v. t.sums r v ∙ u.sums r v; all = λ r h. u.all r (t.all r h); only = λ r h. t.only r (u.only r h) }

sum_same : (r : Row) (f g : ℕ → ℕ) (xs : List Answer) → AllByRecursion (λ (a : Answer). f a.node ≡ g a.node) xs → sum_at r f xs ≡ sum_at r g xs
sum_same r f g [] same = refl
sum_same r f g (x ∷ xs) same =
    sum_by-cons (part r f) x xs ∙ ap₂ ◌+◌ (ap (λ n. pick (same_row r x.row) n 0) same.0) (sum_same r f g xs same.1) ∙ sym (sum_by-cons (part r g) x xs)

sum_around : (r : Row) (f : ℕ → ℕ) (done : List Answer) (a : Answer) (left : List Answer) → sum_at r f (done ++ a ∷ left) ≡ sum_at r f done + (part r f a + sum_at r f left)
sum_around r f done a left = sum_by-append (part r f) done (a ∷ left) ∙ ap (λ n. sum_at r f done + n) (sum_by-cons (part r f) a left)

-- two equal neighbours a and b become one row with a node for both
module _ (ns ms : List Node) (done left : List Answer) (a b : Answer) (q : ℕ) (same : a.row ≡ b.row)
    (joins : (v : ℕ → ℕ) → counting v ms q ≡ counting v ns a.node + counting v ns b.node)
    (done-stays : AllByRecursion (λ (x : Answer). expr_of ms x.node ≡ expr_of ns x.node) done) (left-stays : AllByRecursion (λ (x : Answer). expr_of ms x.node ≡ expr_of ns x.node) left) where
  joined_part : (r : Row) (f g : ℕ → ℕ) → g q ≡ f a.node + f b.node → part r g (record { row = a.row; node = q }) ≡ part r f a + part r f b
  joined_part r f g e = rw (← same) (⊎_elim (λ t. rw t e) (λ t. rw t) (cases_Bool (same_row r a.row)))

  stays : (v : ℕ → ℕ) (xs : List Answer) → AllByRecursion (λ (x : Answer). expr_of ms x.node ≡ expr_of ns x.node) xs → AllByRecursion (λ (x : Answer). counting v ns x.node ≡ counting v ms x.node) xs
  stays v xs h = All-weaker (λ (x : Answer). expr_of ms x.node ≡ expr_of ns x.node) (λ (x : Answer). counting v ns x.node ≡ counting v ms x.node) (λ x e. ap (value Count v) (sym e)) xs h

  sums_joined : (r : Row) (v : ℕ → ℕ) → sum_at r (counting v ns) (done ++ a ∷ b ∷ left) ≡ sum_at r (counting v ms) (done ++ record { row = a.row; node = q } ∷ left)
  sums_joined r v =
      let c : Answer = record { row = a.row; node = q } in
      let f : ℕ → ℕ = counting v ns in
      let g : ℕ → ℕ = counting v ms in
      let here = joined_part r f g (joins v) in
      let front = sum_same r f g done (stays v done done-stays) in
      let back = sum_same r f g left (stays v left left-stays) in
      let was = sum_around r f done a (b ∷ left) in
      let next = sum_by-cons (part r f) b left in
      let is = sum_around r g done c left in
      omega arith

  count_joined : (r : Row) → sum_at r (λ _. 1) (done ++ a ∷ b ∷ left) ≡ sum_at r (λ _. 1) (done ++ record { row = a.row; node = q } ∷ left) + part r (λ _. 1) a
  count_joined r =
      let c : Answer = record { row = a.row; node = q } in
      let one_each : part r (λ _. 1) b ≡ part r (λ _. 1) a = rw same in
      let was = sum_around r (λ _. 1) done a (b ∷ left) in
      let next = sum_by-cons (part r (λ _. 1)) b left in
      let is = sum_around r (λ _. 1) done c left in
      omega arith

  pub together_joined : Together ns ms (done ++ a ∷ b ∷ left) (done ++ record { row = a.row; node = q } ∷ left)
  together_joined = record {
    sums = sums_joined;
    all = λ r h. let e = count_joined r in let is = sum_around r (λ _. 1) done (record { row = a.row; node = q }) left in omega arith;
    only = λ r h. let e = count_joined r in omega arith;
  }
