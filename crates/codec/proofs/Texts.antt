-- Text that is written piece by piece. Assumes nothing.
use Rattle.std.proofs.Common.{◌≡◌, ℕ, ◌+◌, ◌-◌, ◌<◌, ◌≤◌, List, [], ◌∷◌, ◌++◌, length, get_or, take, drop, decimal, sym, ap, ◌∙◌, append_assoc, arith}
use Rattle.std.proofs.lemmas.List.{append-nil, take_more, take_rest}
use Rattle.codec.specs.Output.{led, parted}

led_push : (b ns : List ℕ) (n : ℕ) → led b (ns ++ n ∷ []) ≡ led b ns ++ (b ++ decimal n)
unfolding led
led_push b [] n = append-nil (b ++ decimal n)
led_push b (x ∷ ns) n = ap (λ (z : List ℕ). b ++ decimal x ++ z) (led_push b ns n) ∙ sym (append_assoc (b ++ decimal x) (led b ns) (b ++ decimal n))

pub led_none : (b t ns : List ℕ) → t ≡ t ++ led b (take 0 ns)
unfolding led
led_none b t ns = sym (append-nil t)

pub led_more : (t u v b ns : List ℕ) (i : ℕ) → i < length ns → u ≡ t ++ led b (take i ns) → v ≡ u ++ (b ++ decimal (get_or ns i 0)) →
    v ≡ t ++ led b (take (i + 1) ns)
led_more t u v b ns i h e f =
    f ∙ ap (λ (z : List ℕ). z ++ (b ++ decimal (get_or ns i 0))) e ∙ append_assoc t (led b (take i ns)) (b ++ decimal (get_or ns i 0))
    ∙ ap (λ (z : List ℕ). t ++ z) (sym (led_push b (take i ns) (get_or ns i 0)) ∙ ap (led b) (sym (take_more ns i 0 h)))

pub parted_none : (t b ns : List ℕ) → length ns < 1 → t ≡ t ++ parted b ns
unfolding parted
parted_none t b [] h = sym (append-nil t)
parted_none t b (n ∷ ns) h = absurd (omega arith)

pub parted_some : (t u v b ns : List ℕ) → 1 ≤ length ns → u ≡ t ++ decimal (get_or ns 0 0) → v ≡ u ++ led b (take (length ns - 1) (drop 1 ns)) →
    v ≡ t ++ parted b ns
unfolding parted
parted_some t u v b [] h e f = absurd (omega arith)
parted_some t u v b (n ∷ ns) h e f =
    f ∙ ap (λ (z : List ℕ). u ++ led b z) (take_rest (n ∷ ns) 1) ∙ ap (λ (z : List ℕ). z ++ led b ns) e ∙ append_assoc t (decimal n) (led b ns)
