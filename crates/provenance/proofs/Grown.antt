-- Nodes that write out any expression, behind any that stand. Assumes nothing.
use Rattle.std.proofs.Common.{◌≡◌, ℕ, ◌<◌, ◌≤◌, List, [], ◌∷◌, ◌++◌, length, refl, ◌∙◌, ap₂, arith}
use Rattle.std.proofs.lemmas.List.{length_push, get_or_push}
use Rattle.circuit.specs.Expr.{Expr, never, always, mark, or, both}
use Rattle.circuit.specs.declared.Node.{Node}
use Rattle.circuit.specs.declared.Node.TheVariants.{Never, Always, Mark, Or, Both}
use Rattle.circuit.specs.Store.{expr_of}
use Rattle.circuit.specs.Held.{NamesEarlier, stands}
use Rattle.circuit.proofs.NodeExprs.{expr_node, expr_before}

-- the nodes ms go on from ns: what stood still stands for the same
pub record GoesOn (ns ms : List Node) : Type 0 where
  pub longer : length ns ≤ length ms
  pub same : (k : ℕ) → k < length ns → expr_of ms k ≡ expr_of ns k

-- nodes that go on from ns and hold e at a place
pub record Grown (ns : List Node) (e : Expr) : Type 0 where
  pub nodes : List Node
  pub goes_on : GoesOn ns nodes
  pub place : ℕ
  pub there : place < length nodes
  pub stands_for : expr_of nodes place ≡ e

pub goes_on_on : {ns ms ks : List Node} → GoesOn ns ms → GoesOn ms ks → GoesOn ns ks
goes_on_on a b = record { longer = omega arith; same = λ k h. b.same k (omega arith) ∙ a.same k h }

stands_same : (ns ms : List Node) (n : Node) → NamesEarlier (length ns) n → stands (ns ++ ms) n ≡ stands ns n
stands_same ns ms Never h = refl
stands_same ns ms Always h = refl
stands_same ns ms (Mark k) h = refl
stands_same ns ms (Or a b) h = ap₂ or (expr_before ns ms a h.0) (expr_before ns ms b h.1)
stands_same ns ms (Both a b) h = ap₂ both (expr_before ns ms a h.0) (expr_before ns ms b h.1)

-- one more node
grow_one : (ns : List Node) (n : Node) → NamesEarlier (length ns) n → Grown ns (stands ns n)
grow_one ns n h = record {
  nodes = ns ++ n ∷ [];
  goes_on = record { longer = omega (arith, length_push ns n); same = λ k l. expr_before ns (n ∷ []) k l };
  place = length ns;
  there = omega (arith, length_push ns n);
  stands_for = expr_node (ns ++ n ∷ []) (length ns) n (get_or_push ns n Never (length ns) refl) h ∙ stands_same ns (n ∷ []) n h;
}

-- a node that joins two others
module _ (node : ℕ → ℕ → Node) (join : Expr → Expr → Expr)
    (names : (n i j : ℕ) → i < n → j < n → NamesEarlier n (node i j))
    (joins : (ms : List Node) (i j : ℕ) → stands ms (node i j) ≡ join (expr_of ms i) (expr_of ms j)) where
  grow_two : (ns : List Node) (a b : Expr) → Grown ns a → ((ms : List Node) → Grown ms b) → Grown ns (join a b)
  grow_two ns a b left grow =
      let right = grow left.nodes in
      let i = left.place in
      let j = right.place in
      let i-earlier : i < length right.nodes = omega (arith, left.there, right.goes_on.longer) in
      let both-joined = grow_one right.nodes (node i j) (names (length right.nodes) i j i-earlier right.there) in
      let left_stands = right.goes_on.same i left.there ∙ left.stands_for in
      record {
        nodes = both-joined.nodes;
        goes_on = goes_on_on left.goes_on (goes_on_on right.goes_on both-joined.goes_on);
        place = both-joined.place;
        there = both-joined.there;
        stands_for = both-joined.stands_for ∙ joins right.nodes i j ∙ ap₂ join left_stands right.stands_for;
      }

pub grown : (ns : List Node) (e : Expr) → Grown ns e
grown ns never = grow_one ns Never (omega arith)
grown ns always = grow_one ns Always (omega arith)
grown ns (mark k) = grow_one ns (Mark k) (omega arith)
grown ns (or a b) = grow_two Or or (λ n i j h l. (h, l)) (λ ms i j. refl) ns a b (grown ns a) (λ ms. grown ms b)
grown ns (both a b) = grow_two Both both (λ n i j h l. (h, l)) (λ ms i j. refl) ns a b (grown ns a) (λ ms. grown ms b)
