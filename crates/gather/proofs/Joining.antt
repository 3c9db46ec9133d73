-- A store with the node for two nodes. Assumes nothing.
use Rattle.std.proofs.Common.{◌≡◌, ℕ, ◌+◌, ◌*◌, List, length, drop, Some, None, Option, sym, refl, ap, ◌∙◌, subst, ⊎_elim, arith}
use Rattle.std.proofs.lemmas.List.{length_push}
use Rattle.circuit.specs.declared.Node.{Node}
use Rattle.circuit.specs.declared.Node.TheVariants.{Or}
use Rattle.circuit.specs.Store.{nodes_in}
use Rattle.circuit.specs.Held.{count_in, Proper, NamesEarlier, Pushed}
use Rattle.circuit.specs.Joins.{or_is, Joined}
use Rattle.circuit.proofs.NodeLists.{length_nodes_in}
use Rattle.gather.specs.Gathered.{Extended}

abbrev Behind : List ℕ → List ℕ → Type 0
Behind m after = drop (1 + 3 * count_in after) after ≡ drop (1 + 3 * count_in after) m

behind_same : (m after : List ℕ) → after ≡ m → Behind m after
behind_same m after e = ap (drop (1 + 3 * count_in after)) e

behind_pushed : (m after : List ℕ) (n : Node) (p : ℕ) → Pushed m after n p → Behind m after
behind_pushed m after n p pushed =
    let place = pushed.place in
    let one_more : count_in after ≡ count_in m + 1 =
    sym (length_nodes_in after) ∙ ap length pushed.nodes ∙ length_push (nodes_in m) n ∙ ap (λ k. k + 1) (length_nodes_in m) in
    let at : 4 + 3 * p ≡ 1 + 3 * count_in after = omega arith in
    subst (λ k. drop k after ≡ drop k m) at pushed.behind

module _ (m after hints hints_after : List ℕ) (a b p : ℕ) (joined : Joined m after hints hints_after (or_is m a b) (Or a b) (Some p)) where
  behind : (simple : Option ℕ) → or_is m a b ≡ simple → Behind m after
  behind (Some i) e = behind_same m after (joined.unchanged i e).1
  behind None e = ⊎_elim (behind_same m after) (behind_pushed m after (Or a b) p) (joined.put e).put.added

  pub joined_extends : Proper m → NamesEarlier (count_in m) (Or a b) → Extended m after hints hints_after 1
  joined_extends proper named = record {
    proper = joined.proper proper named;
    long = joined.grown.long;
    more = joined.grown.more;
    few = let h = joined.grown.at_most in omega arith;
    before = joined.grown.before;
    same = joined.grown.same;
    behind = behind (or_is m a b) refl;
    as_many = joined.shares.same_length;
    linked = joined.shares.linked;
    distinct = λ l room d. joined.shares.distinct proper.sound l d;
  }
