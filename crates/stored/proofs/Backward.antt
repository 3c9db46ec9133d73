-- Numbers that are written are read back, and nothing else is read as them. Assumes nothing.
use Rattle.std.proofs.Common.{◌≡◌, ℕ, zero, suc, ◌+◌, ◌*◌, ◌/◌, ◌%◌, ◌^◌, ◌<◌, ◌≤◌, List, [], ◌∷◌, ◌++◌, length, drop, sym, refl, ap, ◌∙◌, ap₂, pow-suc, arith}
use Rattle.std.specs.List.{AllByRecursion}
use Rattle.std.proofs.ByRecursion.{All-drop}
use Rattle.std.proofs.lemmas.List.{length-append, length-drop, drop_at, nil_from_length}
use Rattle.codec.specs.Bytes.{number, numbers}
use Rattle.stored.specs.Form.{bytes_of, written}

length_bytes : (n x : ℕ) → length (bytes_of n x) ≡ n
unfolding bytes_of
length_bytes zero x = refl
length_bytes (suc n) x = ap suc (length_bytes n (x / 256))

-- a number from its bytes
number_bytes : (n x : ℕ) (ys : List ℕ) → x < 256 ^ n → number n (bytes_of n x ++ ys) ≡ x
unfolding bytes_of number
number_bytes zero x ys h = omega arith
number_bytes (suc n) x ys h =
    let p : 256 ^ suc n ≡ 256 ^ n * 256 = pow-suc 256 n in
    let l : x / 256 < 256 ^ n = omega arith in
    let e : number n (bytes_of n (x / 256) ++ ys) ≡ x / 256 = number_bytes n (x / 256) ys l in
    rw e (omega arith)

-- bytes from their number
bytes_number : (n : ℕ) (bs : List ℕ) → n ≤ length bs → AllByRecursion (λ b. b < 256) bs → bytes_of n (number n bs) ++ drop n bs ≡ bs
unfolding bytes_of number
bytes_number zero bs h a = refl
bytes_number (suc n) [] h a = absurd (omega arith)
bytes_number (suc n) (b ∷ bs) h a =
    let z : b < 256 = a.0 in
    let l : (b + 256 * number n bs) % 256 ≡ b = omega arith in
    let q : (b + 256 * number n bs) / 256 ≡ number n bs = omega arith in
    let m : n ≤ length bs = omega arith in
    let e : bytes_of n (number n bs) ++ drop n bs ≡ bs = bytes_number n bs m a.1 in
    rw (l, q) (ap (λ (ys : List ℕ). b ∷ ys) e)

pub length_written : (xs : List ℕ) → length (written xs) ≡ 8 * length xs
length_written [] = refl
length_written (x ∷ xs) = omega (arith, length-append (bytes_of 8 x) (written xs), length_bytes 8 x, length_written xs)

pub numbers_written : (xs : List ℕ) → AllByRecursion (λ x. x < 2 ^ 64) xs → numbers (length xs) (written xs) ≡ xs
unfolding numbers
numbers_written [] a = refl
numbers_written (x ∷ xs) a =
    ap₂ ◌∷◌ (number_bytes 8 x (written xs) a.0)
    (ap (numbers (length xs)) (drop_at (bytes_of 8 x) (written xs) 8 (length_bytes 8 x)) ∙ numbers_written xs a.1)

pub written_numbers : (n : ℕ) (bs : List ℕ) → length bs ≡ 8 * n → AllByRecursion (λ b. b < 256) bs → written (numbers n bs) ≡ bs
unfolding numbers
written_numbers zero bs e a = sym (nil_from_length bs (omega arith))
written_numbers (suc n) bs e a =
    let l : length (drop 8 bs) ≡ 8 * n = omega (arith, length-drop 8 bs) in
    rw (written_numbers n (drop 8 bs) l (All-drop (λ b. b < 256) 8 bs a)) (bytes_number 8 bs (omega arith) a)
