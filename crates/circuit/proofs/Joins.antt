-- Or and both of two nodes, where one of the two says all. Assumes nothing.
use Rattle.std.proofs.Common.{◌≡◌, ℕ, ◌<◌, Bool, true, false, ◌⊎◌, List, Some, None, Option, sym, refl, ◌∙◌, subst, inl, inr, ⊎_elim, add-zero, one-mul, mul-zero, zero-add, zero-mul, mul-one, arith}
use Rattle.std.proofs.lemmas.Option.{none-some}
use Rattle.tables.specs.Bool.{pick}
use Rattle.circuit.specs.declared.Node.{Node}
use Rattle.circuit.specs.declared.Node.TheVariants.{Never, Always, Mark, Or, Both}
use Rattle.circuit.specs.Expr.{Expr, never, always, or, both, value}
use Rattle.circuit.specs.Store.{nodes_in, expr_of}
use Rattle.circuit.specs.Held.{node_held, count_in, NamesEarlier, stands}
use Rattle.circuit.specs.Joins.{CountsAlike, is_never, is_always, or_is, both_is, CountsAs, Joined}
use Rattle.circuit.proofs.NodeLists.{held_is, held_names}
use Rattle.circuit.proofs.NodeExprs.{expr_node}
use Rattle.circuit.proofs.Added.{grown_none}
use Rattle.circuit.proofs.Linked.{shares_none}

never_held : (o : Option Node) → is_never o ≡ true → o ≡ Some Never
never_held None e = grind arith
never_held (Some Never) e = refl
never_held (Some Always) e = grind arith
never_held (Some (Mark k)) e = grind arith
never_held (Some (Or a b)) e = grind arith
never_held (Some (Both a b)) e = grind arith

always_held : (o : Option Node) → is_always o ≡ true → o ≡ Some Always
always_held None e = grind arith
always_held (Some Never) e = grind arith
always_held (Some Always) e = refl
always_held (Some (Mark k)) e = grind arith
always_held (Some (Or a b)) e = grind arith
always_held (Some (Both a b)) e = grind arith

module _ (m : List ℕ) (i : ℕ) (counted : i < count_in m) where
  stands_held : (n : Node) → node_held m i ≡ Some n → expr_of (nodes_in m) i ≡ stands (nodes_in m) n
  stands_held n e = expr_node (nodes_in m) i n (held_is m i n counted e) (held_names m i n e)

  never_is : is_never (node_held m i) ≡ true → expr_of (nodes_in m) i ≡ never
  never_is e = stands_held Never (never_held (node_held m i) e)

  always_is : is_always (node_held m i) ≡ true → expr_of (nodes_in m) i ≡ always
  always_is e = stands_held Always (always_held (node_held m i) e)

-- what counts like "or" and "both" with never and always
or_never_left : (d e : Expr) → d ≡ never → CountsAlike e (or d e)
unfolding value
or_never_left d e is v = rw is (sym (zero-add _))

or_never_right : (d e : Expr) → e ≡ never → CountsAlike d (or d e)
unfolding value
or_never_right d e is v = rw is (sym (add-zero _))

both_never_left : (d e : Expr) → d ≡ never → CountsAlike d (both d e)
unfolding value
both_never_left d e is v = rw is (sym (zero-mul _))

both_never_right : (d e : Expr) → e ≡ never → CountsAlike e (both d e)
unfolding value
both_never_right d e is v = rw is (sym (mul-zero _))

both_always_left : (d e : Expr) → d ≡ always → CountsAlike e (both d e)
unfolding value
both_always_left d e is v = rw is (sym (one-mul _))

both_always_right : (d e : Expr) → e ≡ always → CountsAlike d (both d e)
unfolding value
both_always_right d e is v = rw is (sym (mul-one _))

-- nothing is changed
module _ (m hints : List ℕ) (simple : Option ℕ) (n : Node) (p : ℕ) (is : simple ≡ Some p) where
  simply : (NamesEarlier (count_in m) n → CountsAs m m n p) → Joined m m hints hints simple n (Some p)
  simply as-n = record {
    unchanged = λ q e. (sym is ∙ e, refl, refl);
    put = λ e. let z : ◌≡◌ {A = ℕ} 0 1 = cc in absurd (omega arith);
    counts = as-n;
    grown = grown_none m;
    sound = λ s _. s;
    proper = λ s _. s;
    shares = shares_none m hints;
  }

-- which of the tests led to the node that comes back
or_test : (x y : Bool) (a b p : ℕ) → pick x (Some b) (pick y (Some a) None) ≡ Some p → ((x ≡ true) × (b ≡ p)) ⊎ ((y ≡ true) × (a ≡ p))
or_test true y a b p e = inl (refl, cc)
or_test false true a b p e = inr (refl, cc)
or_test false false a b p e = absurd (none-some p e)

both_test : (x y z t : Bool) (a b p : ℕ) → pick x (Some a) (pick y (Some b) (pick z (Some b) (pick t (Some a) None))) ≡ Some p →
    (((x ≡ true) × (a ≡ p)) ⊎ ((y ≡ true) × (b ≡ p))) ⊎ (((z ≡ true) × (b ≡ p)) ⊎ ((t ≡ true) × (a ≡ p)))
both_test true y z t a b p e = inl (inl (refl, cc))
both_test false true z t a b p e = inl (inr (refl, cc))
both_test false false true t a b p e = inr (inl (refl, cc))
both_test false false false true a b p e = inr (inr (refl, cc))
both_test false false false false a b p e = absurd (none-some p e)

module _ (m : List ℕ) (a b : ℕ) where
  counts_at : (n : Node) (i p : ℕ) → i ≡ p → i < count_in m → CountsAlike (expr_of (nodes_in m) i) (stands (nodes_in m) n) → CountsAs m m n p
  counts_at n i p is h e = subst (CountsAs m m n) is (record { counted = h; alike = e })

  or_counts : (p : ℕ) → or_is m a b ≡ Some p → NamesEarlier (count_in m) (Or a b) → CountsAs m m (Or a b) p
  or_counts p e h =
      ⊎_elim
      (λ t. counts_at (Or a b) b p t.1 h.1 (or_never_left _ _ (never_is m a h.0 t.0)))
      (λ t. counts_at (Or a b) a p t.1 h.0 (or_never_right _ _ (never_is m b h.1 t.0)))
      (or_test _ _ a b p e)

  pub or_simple : (hints : List ℕ) (p : ℕ) → or_is m a b ≡ Some p → Joined m m hints hints (or_is m a b) (Or a b) (Some p)
  or_simple hints p e = simply m hints _ (Or a b) p e (or_counts p e)

  both_counts : (p : ℕ) → both_is m a b ≡ Some p → NamesEarlier (count_in m) (Both a b) → CountsAs m m (Both a b) p
  both_counts p e h =
      ⊎_elim
      (⊎_elim
      (λ t. counts_at (Both a b) a p t.1 h.0 (both_never_left _ _ (never_is m a h.0 t.0)))
      (λ t. counts_at (Both a b) b p t.1 h.1 (both_never_right _ _ (never_is m b h.1 t.0))))
      (⊎_elim
      (λ t. counts_at (Both a b) b p t.1 h.1 (both_always_left _ _ (always_is m a h.0 t.0)))
      (λ t. counts_at (Both a b) a p t.1 h.0 (both_always_right _ _ (always_is m b h.1 t.0))))
      (both_test _ _ _ _ a b p e)

  pub both_simple : (hints : List ℕ) (p : ℕ) → both_is m a b ≡ Some p → Joined m m hints hints (both_is m a b) (Both a b) (Some p)
  both_simple hints p e = simply m hints _ (Both a b) p e (both_counts p e)
