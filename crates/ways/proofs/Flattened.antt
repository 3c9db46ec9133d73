-- Ways that are written one by one as numbers. Assumes nothing.
use Rattle.std.proofs.Common.{◌≡◌, ℕ, ◌+◌, ◌<◌, ◌≤◌, List, [], ◌∷◌, ◌++◌, length, get_or, take, vec_items, sym, ap, ◌∙◌, ap₂, append_assoc, arith, length-append}
use lib.ListN.{length-map}
use Rattle.std.proofs.lemmas.List.{append-nil, map_push, take_more, take_all}
use Rattle.provenance.specs.Polynomial.{Monomial}
use Rattle.polynomial.specs.declared.Way.{Way}
use Rattle.polynomial.specs.Rise.{size_of}
use Rattle.polynomial.specs.Ways.{monomial, monomials}
use Rattle.ways.specs.Numbers.{way_numbers, ways_numbers, numbers_of}

numbers_push : (ms : List Monomial) (m : Monomial) → ways_numbers (ms ++ m ∷ []) ≡ ways_numbers ms ++ way_numbers m
unfolding ways_numbers
numbers_push [] m = append-nil (way_numbers m)
numbers_push (x ∷ ms) m = ap (λ (z : List ℕ). way_numbers x ++ z) (numbers_push ms m) ∙ sym (append_assoc (way_numbers x) (ways_numbers ms) (way_numbers m))

-- the polynomial of one way more
pub monomials_more : (ws : List Way) (i : ℕ) (w : Way) → i < length ws → w ≡ get_or ws i w →
    monomials (take i ws) ++ monomial w ∷ [] ≡ monomials (take (i + 1) ws)
monomials_more ws i w h x =
    ap (λ (z : Way). monomials (take i ws) ++ monomial z ∷ []) x
    ∙ sym (map_push monomial (take i ws) (get_or ws i w))
    ∙ ap monomials (sym (take_more ws i w h))

-- the ways of ws before place i are written behind how many there are
abbrev pub Written : List Way → ℕ → List ℕ → Type 0
Written ws i out = out ≡ length ws ∷ ways_numbers (monomials (take i ws))

pub written_none : (ws : List Way) (out : List ℕ) → out ≡ length ws ∷ [] → Written ws 0 out
unfolding ways_numbers
written_none ws out e = e

-- the count, the number of marks and the marks of the next way
pub written_more : (ws : List Way) (i : ℕ) (out a b c ks : List ℕ) (n : ℕ) (w : Way) → i < length ws → w ≡ get_or ws i w → ks ≡ vec_items w.marks →
    n ≡ length (vec_items w.marks) → Written ws i out → a ≡ out ++ w.count ∷ [] → b ≡ a ++ n ∷ [] → c ≡ b ++ ks → Written ws (i + 1) c
written_more ws i out a b c ks n w h x k l e f g p =
    p ∙ ap₂ ◌++◌ (g ∙ ap₂ (λ (y : List ℕ) (z : ℕ). y ++ z ∷ []) f l) k
    ∙ append_assoc (out ++ w.count ∷ []) (length (vec_items w.marks) ∷ []) (vec_items w.marks)
    ∙ append_assoc out (w.count ∷ []) (length (vec_items w.marks) ∷ vec_items w.marks)
    ∙ ap (λ (z : List ℕ). z ++ way_numbers (monomial w)) e
    ∙ ap (λ (z : List ℕ). length ws ∷ z) (sym (numbers_push (monomials (take i ws)) (monomial w)) ∙ ap ways_numbers (monomials_more ws i w h x))

pub written_all : (ws : List Way) (i : ℕ) (out : List ℕ) → length ws ≤ i → Written ws i out → out ≡ numbers_of (monomials ws)
written_all ws i out h e =
    e ∙ ap₂ (λ (n : ℕ) (z : List ℕ). n ∷ z) (sym (length-map ws monomial)) (ap (λ (z : List Way). ways_numbers (monomials z)) (take_all i ws h))

ways_long : (ms : List Monomial) → length (ways_numbers ms) + 1 ≡ size_of ms
unfolding ways_numbers
ways_long [] = omega arith
ways_long (m ∷ ms) = omega (arith, length-append (way_numbers m) (ways_numbers ms), ways_long ms)

pub numbers_long : (ms : List Monomial) (out : List ℕ) → out ≡ numbers_of ms → length out ≡ size_of ms
numbers_long ms out e = ap length e ∙ omega (arith, ways_long ms)
