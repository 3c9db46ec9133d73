-- The value of a node, from those of the nodes that it names. Assumes nothing.
use Rattle.std.proofs.Common.{◌≡◌, ℕ, zero, suc, ◌<◌, List, get_or, sym, refl, ap, ◌∙◌, subst, inl, inr, ⊎_elim, arith}
use Rattle.circuit.specs.declared.Node.{Node}
use Rattle.circuit.specs.declared.Node.TheVariants.{Never, Always, Mark, Or, Both}
use Rattle.circuit.specs.Expr.{value}
use Rattle.circuit.specs.Store.{nodes_in, expr_of}
use Rattle.circuit.specs.Held.{Sound, count_in, NamesEarlier, stands}
use Rattle.circuit.proofs.NodeLists.{sound_names}
use Rattle.circuit.proofs.NodeExprs.{expr_node}
use Rattle.semiring.specs.Algebra.{Algebra, semiring}
use Rattle.semiring.specs.Needed.{Names, Needed, named}
use Rattle.semiring.specs.Parts.{node_value}

pub names_below : (i : ℕ) (n : Node) → NamesEarlier i n → (j : ℕ) → Names n j → j < i
names_below i Never h j t = absurd t
names_below i Always h j t = absurd t
names_below i (Mark k) h j t = absurd t
names_below i (Or a b) h j t = ⊎_elim (λ e. subst (λ (x : ℕ). x < i) (sym e) h.0) (λ e. subst (λ (x : ℕ). x < i) (sym e) h.1) t
names_below i (Both a b) h j t = ⊎_elim (λ e. subst (λ (x : ℕ). x < i) (sym e) h.0) (λ e. subst (λ (x : ℕ). x < i) (sym e) h.1) t

module _ {V : Type 0} (a : Algebra V) where
  -- the value of what node i of memory stands for
  abbrev pub worth_at : (ℕ → V) → List ℕ → ℕ → V
  worth_at v m i = value (semiring a) v (expr_of (nodes_in m) i)

  value_stands : (v : ℕ → V) (ns : List Node) (n : Node) →
      value (semiring a) v (stands ns n) ≡ node_value a v (λ j. value (semiring a) v (expr_of ns j)) n
  unfolding value
  value_stands v ns Never = refl
  value_stands v ns Always = refl
  value_stands v ns (Mark k) = refl
  value_stands v ns (Or i j) = refl
  value_stands v ns (Both i j) = refl

  -- it is that of the node, from the values of the nodes that it names
  pub worth_node : (m : List ℕ) → Sound m → (v : ℕ → V) (i : ℕ) → i < count_in m →
      worth_at v m i ≡ node_value a v (worth_at v m) (get_or (nodes_in m) i Never)
  worth_node m sound v i h =
      let n : Node = get_or (nodes_in m) i Never in
      ap (value (semiring a) v) (expr_node (nodes_in m) i n refl (sound_names m sound i h)) ∙ value_stands v (nodes_in m) n

  pub node_value_same : (v w f g : ℕ → V) (n : Node) → ((k : ℕ) → n ≡ Mark k → v k ≡ w k) → ((j : ℕ) → Names n j → f j ≡ g j) →
      node_value a v f n ≡ node_value a w g n
  node_value_same v w f g Never marks h = refl
  node_value_same v w f g Always marks h = refl
  node_value_same v w f g (Mark k) marks h = marks k refl
  node_value_same v w f g (Or i j) marks h = ap (λ x. a.plus x (f j)) (h i (inl refl)) ∙ ap (a.plus (g i)) (h j (inr refl))
  node_value_same v w f g (Both i j) marks h = ap (λ x. a.times x (f j)) (h i (inl refl)) ∙ ap (a.times (g i)) (h j (inr refl))

  -- what is needed has one value by two valuations that agree at the marks that are needed
  module _ (m asked : List ℕ) (sound : Sound m) (v w : ℕ → V)
      (same : (i k : ℕ) → Needed (nodes_in m) asked i → get_or (nodes_in m) i Never ≡ Mark k → v k ≡ w k) where
    worth_deep : (n i : ℕ) → i < n → i < count_in m → Needed (nodes_in m) asked i → worth_at v m i ≡ worth_at w m i
    worth_deep zero i l h needed = absurd (omega arith)
    worth_deep (suc n) i l h needed =
        let below : (j : ℕ) → Names (get_or (nodes_in m) i Never) j → j < i = names_below i (get_or (nodes_in m) i Never) (sound_names m sound i h) in
        worth_node m sound v i h
        ∙ node_value_same v w (worth_at v m) (worth_at w m) (get_or (nodes_in m) i Never) (λ k e. same i k needed e)
        (λ j t. let b = below j t in worth_deep n j (omega arith) (omega arith) (named i j needed t))
        ∙ sym (worth_node m sound w i h)

    pub worth_same : (i : ℕ) → i < count_in m → Needed (nodes_in m) asked i → worth_at v m i ≡ worth_at w m i
    worth_same i h needed = worth_deep (suc i) i (omega arith) h needed
