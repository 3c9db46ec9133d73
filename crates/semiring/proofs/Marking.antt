-- Marking the nodes that are needed: those asked for, and then what they name, from the last node back to the first. Assumes nothing.
use Rattle.std.proofs.Common.{◌≡◌, ℕ, ◌+◌, ◌-◌, ◌<◌, ◌≤◌, Bool, true, false, ◌⊎◌, List, length, get_or, set, sym, refl, ap, ◌∙◌, subst, inl, inr, ⊎_elim, arith}
use Rattle.std.proofs.lemmas.Bool.{cases_eq}
use Rattle.std.proofs.lemmas.List.{get_or-set_same, get_or-set_other, length-set}
use Rattle.circuit.specs.declared.Node.{Node}
use Rattle.circuit.specs.declared.Node.TheVariants.{Never, Or, Both}
use Rattle.circuit.specs.Store.{nodes_in}
use Rattle.circuit.specs.Held.{Sound, count_in, NamesEarlier}
use Rattle.circuit.proofs.NodeLists.{sound_names}
use Rattle.semiring.specs.Needed.{Names, Needed, asked_for, named, MarksNeeded}

-- a flag that is set
set_true : (bs : List Bool) (i k : ℕ) → get_or (set bs i true) k false ≡ true → (k ≡ i) ⊎ (get_or bs k false ≡ true)
set_true bs i k e = ⊎_elim (λ p. inl p) (λ np. inr (sym (get_or-set_other bs i k true false np) ∙ e)) (cases_eq k i)

set_keeps : (bs : List Bool) (i k : ℕ) → i < length bs → get_or bs k false ≡ true → get_or (set bs i true) k false ≡ true
set_keeps bs i k h e = ⊎_elim (λ p. rw p (get_or-set_same bs i true false h)) (λ np. get_or-set_other bs i k true false np ∙ e) (cases_eq k i)

-- the nodes asked for are marked, the first j of them
pub record Asked (n : ℕ) (ns : List Node) (asked : List ℕ) (j : ℕ) (bs : List Bool) : Type 0 where
  pub long : length bs ≡ n
  pub only : (k : ℕ) → get_or bs k false ≡ true → Needed ns asked k
  pub up_to : (t : ℕ) → t < j → get_or bs (get_or asked t 0) false ≡ true

-- all nodes asked for are marked, and what the nodes from place i on name
pub record Marking (n : ℕ) (ns : List Node) (asked : List ℕ) (i : ℕ) (bs : List Bool) : Type 0 where
  pub long : length bs ≡ n
  pub only : (k : ℕ) → get_or bs k false ≡ true → Needed ns asked k
  pub roots : (t : ℕ) → t < length asked → get_or bs (get_or asked t 0) false ≡ true
  pub closed : (j k : ℕ) → i ≤ j → get_or bs j false ≡ true → Names (get_or ns j Never) k → get_or bs k false ≡ true

module _ (n : ℕ) (ns : List Node) (asked : List ℕ) where
  pub asked_more : (j k : ℕ) (bs : List Bool) → j < length asked → k < n → get_or asked j 0 ≡ k →
      Asked n ns asked j bs → Asked n ns asked (j + 1) (set bs k true)
  asked_more j k bs within below e a =
      let long = a.long in
      record {
        long = length-set bs k true ∙ long;
        only = λ i t. ⊎_elim (λ p. rw p (asked_for j k within e)) (λ u. a.only i u) (set_true bs k i t);
        up_to = λ t h. ⊎_elim
            (λ p. subst (λ (x : ℕ). get_or (set bs k true) x false ≡ true) (sym e ∙ ap (λ (x : ℕ). get_or asked x 0) (sym p))
            (get_or-set_same bs k true false (omega arith)))
            (λ p. set_keeps bs k (get_or asked t 0) (omega arith) (a.up_to t (omega arith)))
            (cases_eq t j);
      }

  needed_marked : (bs : List Bool) (i : ℕ) → i ≤ 0 → Marking n ns asked i bs → (k : ℕ) → Needed ns asked k → get_or bs k false ≡ true
  needed_marked bs i z m _ (asked_for j k h e) = subst (λ (x : ℕ). get_or bs x false ≡ true) e (m.roots j h)
  needed_marked bs i z m _ (named j k h t) = m.closed j k (omega arith) (needed_marked bs i z m j h) t

  pub marking_all : (bs : List Bool) (i : ℕ) → i ≤ 0 → Marking n ns asked i bs → MarksNeeded n ns asked bs
  marking_all bs i z m = record { long = m.long; only = m.only; all = needed_marked bs i z m }

  module _ (i : ℕ) (bs : List Bool) (m : Marking n ns asked (i + 1) bs) where
    -- node i names two
    pub marking_pair : (a b : ℕ) → i < n → get_or bs i false ≡ true → a < i → b < i →
        ((k : ℕ) → Names (get_or ns i Never) k → (k ≡ a) ⊎ (k ≡ b)) → Names (get_or ns i Never) a → Names (get_or ns i Never) b →
        Marking n ns asked i (set (set bs a true) b true)
    marking_pair a b l e p q names na nb =
        let long = m.long in
        let longer : length (set bs a true) ≡ n = length-set bs a true ∙ long in
        let keeps : (k : ℕ) → get_or bs k false ≡ true → get_or (set (set bs a true) b true) k false ≡ true =
        λ k t. set_keeps (set bs a true) b k (omega arith) (set_keeps bs a k (omega arith) t) in
        let has-a : get_or (set (set bs a true) b true) a false ≡ true =
        set_keeps (set bs a true) b a (omega arith) (get_or-set_same bs a true false (omega arith)) in
        let has-b : get_or (set (set bs a true) b true) b false ≡ true = get_or-set_same (set bs a true) b true false (omega arith) in
        record {
          long = length-set (set bs a true) b true ∙ longer;
          only = λ k t. ⊎_elim
              (λ u. rw u (named i b (m.only i e) nb))
              (λ s. ⊎_elim (λ u. rw u (named i a (m.only i e) na)) (λ u. m.only k u) (set_true bs a k s))
              (set_true (set bs a true) b k t);
          roots = λ t h. keeps (get_or asked t 0) (m.roots t h);
          closed = λ j k h t u. ⊎_elim
              (λ s. ⊎_elim (λ v. rw v has-a) (λ v. rw v has-b) (names k (subst (λ (x : ℕ). Names (get_or ns x Never) k) s u)))
              (λ s. keeps k (m.closed j k (omega arith)
              (sym (get_or-set_other bs a j true false (omega arith)) ∙ sym (get_or-set_other (set bs a true) b j true false (omega arith)) ∙ t) u))
              (cases_eq j i);
        }

-- n names a and b
abbrev pub Pair : Node → ℕ → ℕ → Type 0
Pair n a b = (n ≡ Or a b) ⊎ (n ≡ Both a b)

pair_below : (n : Node) (i a b : ℕ) → Pair n a b → NamesEarlier i n → (a < i) × (b < i)
pair_below n i a b p h = ⊎_elim (λ e. subst (NamesEarlier i) e h) (λ e. subst (NamesEarlier i) e h) p

pair_names : (n : Node) (a b : ℕ) → Pair n a b → (k : ℕ) → Names n k → (k ≡ a) ⊎ (k ≡ b)
pair_names n a b p k h = ⊎_elim (λ e. subst (λ (x : Node). Names x k) e h) (λ e. subst (λ (x : Node). Names x k) e h) p

pair_named : (n : Node) (a b : ℕ) → Pair n a b → (k : ℕ) → (k ≡ a) ⊎ (k ≡ b) → Names n k
pair_named n a b p k h = ⊎_elim (λ e. subst (λ (x : Node). Names x k) (sym e) h) (λ e. subst (λ (x : Node). Names x k) (sym e) h) p

-- what a turn of the loop learns of the node below `place`, which names a and b
module _ (m : List ℕ) (s : Sound m) (place a b : ℕ) (l : 0 < place) (h : place ≤ count_in m)
    (n : Node) (e : n ≡ get_or (nodes_in m) (place - 1) Never) (p : Pair n a b) where
  pub turn_below : (a < place - 1) × (b < place - 1)
  turn_below = pair_below n (place - 1) a b p (subst (NamesEarlier (place - 1)) (sym e) (sound_names m s (place - 1) (omega arith)))

  pub marking_more : (asked : List ℕ) (bs : List Bool) → Marking (count_in m) (nodes_in m) asked place bs → get_or bs (place - 1) false ≡ true →
      Marking (count_in m) (nodes_in m) asked (place - 1) (set (set bs a true) b true)
  marking_more asked bs t here =
      let below = turn_below in
      let q : place ≡ (place - 1) + 1 = omega arith in
      let named_here : (k : ℕ) → (k ≡ a) ⊎ (k ≡ b) → Names (get_or (nodes_in m) (place - 1) Never) k =
      λ k u. subst (λ (x : Node). Names x k) e (pair_named n a b p k u) in
      marking_pair (count_in m) (nodes_in m) asked (place - 1) bs (subst (λ (x : ℕ). Marking (count_in m) (nodes_in m) asked x bs) q t)
      a b (omega arith) here below.0 below.1
      (λ k u. pair_names n a b p k (subst (λ (x : Node). Names x k) (sym e) u)) (named_here a (inl refl)) (named_here b (inr refl))
