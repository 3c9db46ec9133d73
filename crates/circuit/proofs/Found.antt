-- A node found by its hints, or else added. Assumes nothing.
use Rattle.std.proofs.Common.{◌≡◌, ℕ, suc, ◌+◌, ◌*◌, ◌/◌, ◌%◌, ◌^◌, ◌<◌, List, get_or, Some, sym, refl, ap, ◌∙◌, subst, arith}
use native.Mathlib.Nat.{add-mod, mod-add-mod, add-mod-mod}
use Rattle.circuit.specs.declared.Node.{Node}
use Rattle.circuit.specs.Held.{cells_of, Pushed}
use Rattle.circuit.specs.Hints.{half, slot_of, head_of, link_of, Visits, here, later, StandsAt, Hinted, hints_with, FoundOrAdded}
use Rattle.circuit.proofs.Added.{put_found, put_pushed}
use Rattle.circuit.proofs.Linked.{hinted_node, shares_none, shares_pushed}

-- a sum that is kept below a bound at each step is the sum kept below it at the end
mixed : (a b c bound : ℕ) → ((a % bound + b % bound) % bound + c % bound) % bound ≡ (a + b + c) % bound
mixed a b c bound = add-mod-mod _ c bound ∙ ap (λ (x : ℕ). (x + c) % bound) (sym (add-mod a b bound)) ∙ mod-add-mod (a + b) bound c

pub slot_is : (n : Node) (heads : ℕ) (xs : List ℕ) → xs ≡ cells_of n →
    ((get_or xs 0 0 * 0x165667b19e3779f9 % 2 ^ 64 + get_or xs 1 0 * 0x9e3779b97f4a7c15 % 2 ^ 64) % 2 ^ 64 + get_or xs 2 0 * 0xc2b2ae3d27d4eb4f % 2 ^ 64) % 2 ^ 64 / 2 ^ 32 % heads ≡ slot_of n heads
unfolding slot_of
slot_is n heads xs e = rw (e, mixed)

visits_end : (hints : List ℕ) (p : ℕ) → Visits hints 0 p → ⊥
visits_end hints p (here e) = omega arith
visits_end hints p (later q e w) = omega arith

visits_next : (hints : List ℕ) (v q p : ℕ) → v ≡ suc q → (p ≡ q → ⊥) → Visits hints v p → Visits hints (link_of hints q) p
visits_next hints v q p e no_hit (here f) = absurd (no_hit (omega arith))
visits_next hints v q p e no_hit (later t f w) = let is : t ≡ q = omega arith in subst (λ (x : ℕ). Visits hints (link_of hints x) p) is w

-- the places from v on are all that are left to look at
pub record Seeking (m hints : List ℕ) (n : Node) (v : ℕ) : Type 0 where
  pub from : (p : ℕ) → Visits hints v p → Visits hints (head_of hints n) p
  pub left : (p : ℕ) → Visits hints (head_of hints n) p → StandsAt m n p → Visits hints v p

module _ (m hints : List ℕ) (n : Node) where
  pub seeking_none : (v : ℕ) → v ≡ head_of hints n → Seeking m hints n v
  seeking_none v e = rw e (record { from = λ p w. w; left = λ p w s. w })

  pub seeking_more : (v q : ℕ) → v ≡ suc q → (StandsAt m n q → ⊥) → Seeking m hints n v → Seeking m hints n (link_of hints q)
  seeking_more v q e no_hit s = record {
    from = λ p w. s.from p (later q e w);
    left = λ p w t. visits_next hints v q p e (λ is. no_hit (subst (StandsAt m n) is t)) (s.left p w t);
  }

  pub seeking_found : (v q : ℕ) → v ≡ suc q → 0 < half hints → StandsAt m n q → Seeking m hints n v → Hinted m hints n q
  seeking_found v q e long t s = record { some = long; visited = s.from q (here e); stands = t }

  pub seeking_all : (v : ℕ) → v ≡ 0 → Seeking m hints n v → (p : ℕ) → Hinted m hints n p → ⊥
  seeking_all v e s p h = visits_end hints p (subst (λ (x : ℕ). Visits hints x p) e (s.left p h.visited h.stands))

  pub found_hinted : (p : ℕ) → Hinted m hints n p → FoundOrAdded m m hints hints n (Some p)
  found_hinted p h = record {
    found = λ _ _. (refl, refl, h);
    added = λ none_hinted. absurd (none_hinted p h);
    put = put_found m n p h.stands.counted h.stands.held;
    once = λ _ _ _ _ _. refl;
    shares = shares_none m hints;
  }

  pub added_hinted : (after : List ℕ) (p : ℕ) → ((q : ℕ) → Hinted m hints n q → ⊥) → Pushed m after n p →
      FoundOrAdded m after hints (hints_with hints n p) n (Some p)
  added_hinted after p none_hinted w = record {
    found = λ q h. absurd (none_hinted q h);
    added = λ _. (w, refl);
    put = put_pushed m after n p w;
    once = λ s l q h e. absurd (none_hinted q (hinted_node m hints n s l q h e));
    shares = shares_pushed m after hints n p none_hinted w;
  }
