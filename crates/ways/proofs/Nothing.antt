-- Which nodes come to nothing. Assumes nothing.
use Rattle.std.proofs.Common.{◌≡◌, ℕ, ◌+◌, ◌<◌, ◌≤◌, Bool, true, false, ◌&&◌, ◌||◌, ◌⊎◌, List, [], ◌∷◌, ◌++◌, length, get_or, Decides, sym, refl, ap, ◌∙◌, subst, inl, inr, arith}
use Rattle.std.proofs.lemmas.Bool.{false≢true, cases_eq}
use Rattle.std.proofs.lemmas.List.{length_push, get_or_push, get_or_append_left}
use Rattle.circuit.specs.declared.Node.{Node}
use Rattle.circuit.specs.declared.Node.TheVariants.{Never, Always, Mark, Or, Both}
use Rattle.circuit.specs.Store.{nodes_in, expr_of}
use Rattle.circuit.specs.Held.{count_in, Sound, NamesEarlier, stands}
use Rattle.circuit.proofs.NodeExprs.{expr_node}
use Rattle.circuit.proofs.NodeLists.{sound_names}
use Rattle.provenance.specs.Polynomial.{Monomial, normal, sum, multiplied}
use Rattle.provenance.proofs.Rising.{Rising, normal_rising}
use Rattle.polynomial.proofs.ProductSplit.{none_times, times_none}
use Rattle.polynomial.proofs.Factors.{sum_some_first, sum_some_second, product_some}
use Rattle.ways.specs.Passes.{normal_at, node_at, empty_node, Empties}

-- the normal form of a node that can be read
pub normal_of : (m : List ℕ) → Sound m → (i : ℕ) → i < count_in m → (n : Node) → node_at m i ≡ n → normal_at m i ≡ normal (stands (nodes_in m) n)
normal_of m s i h n e =
    ap normal (expr_node (nodes_in m) i (node_at m i) refl (sound_names m s i h)) ∙ ap (λ (x : Node). normal (stands (nodes_in m) x)) e

names_more : (k l : ℕ) (n : Node) → k ≤ l → NamesEarlier k n → NamesEarlier l n
names_more k l Never h e = e
names_more k l Always h e = e
names_more k l (Mark x) h e = e
names_more k l (Or a b) h e = (omega (arith, e.0), omega (arith, e.1))
names_more k l (Both a b) h e = (omega (arith, e.0), omega (arith, e.1))

-- what node k names stands before any place from k on
pub names_within : (m : List ℕ) → Sound m → (k l : ℕ) → k < count_in m → k ≤ l → (n : Node) → n ≡ node_at m k → NamesEarlier l n
names_within m s k l h j n e = subst (NamesEarlier l) (sym e) (names_more k l (node_at m k) j (sound_names m s k h))

or_nothing : (b c : Bool) (p q : List Monomial) → Rising p → Rising q → Decides b (p ≡ []) → Decides c (q ≡ []) → Decides (b && c) (sum p q ≡ [])
unfolding sum
or_nothing true true p q r s d e = ((λ _. rw (d.0 refl, e.0 refl)), λ _. refl)
or_nothing true false p q r s d e = ((λ h. absurd (false≢true h)), λ f. absurd (sum_some_second p q (λ z. false≢true (e.1 z)) f))
or_nothing false c p q r s d e = ((λ h. absurd (false≢true h)), λ f. absurd (sum_some_first p q r s (λ z. false≢true (d.1 z)) f))

both_nothing : (b c : Bool) (p q : List Monomial) → Rising p → Rising q → Decides b (p ≡ []) → Decides c (q ≡ []) → Decides (b || c) (multiplied p q ≡ [])
both_nothing true c p q r s d e = ((λ _. rw (d.0 refl) (none_times q)), λ _. refl)
both_nothing false true p q r s d e = ((λ _. rw (e.0 refl) (times_none p)), λ _. refl)
both_nothing false false p q r s d e =
    ((λ h. absurd (false≢true h)), λ f. absurd (product_some p q r s (λ z. false≢true (d.1 z)) (λ z. false≢true (e.1 z)) f))

node_nothing : (m : List ℕ) (k : ℕ) (es : List Bool) → Empties m k es → (n : Node) → NamesEarlier k n →
    Decides (empty_node es n) (normal (stands (nodes_in m) n) ≡ [])
unfolding normal
node_nothing m k es E Never h = ((λ _. refl), λ _. refl)
node_nothing m k es E Always h = ((λ h. absurd (false≢true h)), λ e. absurd (let l = ap length e in omega arith))
node_nothing m k es E (Mark x) h = ((λ h. absurd (false≢true h)), λ e. absurd (let l = ap length e in omega arith))
node_nothing m k es E (Or a b) h =
    or_nothing _ _ (normal_at m a) (normal_at m b) (normal_rising (expr_of (nodes_in m) a)) (normal_rising (expr_of (nodes_in m) b))
    (E.each a h.0) (E.each b h.1)
node_nothing m k es E (Both a b) h =
    both_nothing _ _ (normal_at m a) (normal_at m b) (normal_rising (expr_of (nodes_in m) a)) (normal_rising (expr_of (nodes_in m) b))
    (E.each a h.0) (E.each b h.1)

here_nothing : (m : List ℕ) → Sound m → (k : ℕ) → k < count_in m → (es : List Bool) → Empties m k es →
    Decides (empty_node es (node_at m k)) (normal_at m k ≡ [])
here_nothing m s k h es E =
    subst (λ (z : List Monomial). Decides (empty_node es (node_at m k)) (z ≡ [])) (sym (normal_of m s k h (node_at m k) refl))
    (node_nothing m k es E (node_at m k) (sound_names m s k h))

pub empties_more : (m : List ℕ) → Sound m → (k : ℕ) → k < count_in m → (es fs : List Bool) (b : Bool) (n : Node) → Empties m k es →
    fs ≡ es ++ b ∷ [] → n ≡ node_at m k → b ≡ empty_node es n → Empties m (k + 1) fs
empties_more m s k h es fs b n E f d e =
    subst (Empties m (k + 1)) (sym f) (record { long = length_push es b ∙ ap (λ (z : ℕ). z + 1) E.long; each = each })
  where
    each : (j : ℕ) → j < k + 1 → Decides (get_or (es ++ b ∷ []) j false) (normal_at m j ≡ [])
    each j l = go (cases_eq j k)
      where
        go : (j ≡ k) ⊎ (j ≡ k → ⊥) → Decides (get_or (es ++ b ∷ []) j false) (normal_at m j ≡ [])
        go (inl g) =
            subst (λ (z : ℕ). Decides (get_or (es ++ b ∷ []) z false) (normal_at m z ≡ [])) (sym g)
            (rw (get_or_push es b false k E.long) (subst (λ (z : Bool). Decides z (normal_at m k ≡ [])) (sym (e ∙ ap (empty_node es) d)) (here_nothing m s k h es E)))
        go (inr g) = rw (get_or_append_left es (b ∷ []) false j (omega (arith, E.long))) (E.each j (omega arith))
