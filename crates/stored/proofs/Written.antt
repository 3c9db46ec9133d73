-- Numbers written as bytes. Assumes nothing.
use Rattle.std.proofs.Common.{◌≡◌, ℕ, ◌/◌, ◌%◌, cond, List, [], ◌∷◌, is_ok, IfOk, Ok, Err, Result, ◌∙◌, arith}
use Rattle.stored.specs.Form.{bytes_of}

-- the eight bytes of a number, as the machine gives them
pub eight_bytes : (x : ℕ) →
    x % 256 ∷ x / 256 % 256 ∷ x / 65536 % 256 ∷ x / 16777216 % 256 ∷ x / 4294967296 % 256 ∷ x / 1099511627776 % 256 ∷ x / 281474976710656 % 256
    ∷ x / 72057594037927936 % 256 ∷ [] ≡ bytes_of 8 x
unfolding bytes_of
eight_bytes x =
    let b : x / 65536 ≡ x / 256 / 256 = omega arith in
    let d : x / 16777216 ≡ x / 256 / 256 / 256 = omega arith in
    let e : x / 4294967296 ≡ x / 256 / 256 / 256 / 256 = omega arith in
    let f : x / 1099511627776 ≡ x / 256 / 256 / 256 / 256 / 256 = omega arith in
    let g : x / 281474976710656 ≡ x / 256 / 256 / 256 / 256 / 256 / 256 = omega arith in
    let h : x / 72057594037927936 ≡ x / 256 / 256 / 256 / 256 / 256 / 256 / 256 = omega arith in
    rw (b, d, e, f, g, h)

-- bytes that are appended, unless there is no memory
pub extended : {X Y : Type 0} (r : Result X Y) (u v w z : List ℕ) → u ≡ cond (is_ok r) v w → v ≡ z → IfOk r (λ _. u ≡ z)
extended (Ok x) u v w z e f = e ∙ f
extended (Err y) u v w z e f = tt
