use Rattle.std.proofs.Common.{◌≡◌, ℕ, zero, suc, ◌+◌, ◌*◌, ◌/◌, ◌%◌, ◌^◌, ◌<◌, ◌≤◌, List, [], ◌∷◌, ◌++◌, length, get_or, take, drop, sym, refl, ap, ◌∙◌, mul-le-mul_right, mod-eq_of_lt, mul_assoc, arith}
use native.Mathlib.Nat.{pow-succ', mul-add-div_right, div-eq_of_lt}
use lib.Arith.{mod-mul}
use Rattle.runfile.specs.Format.{in_bytes, Each, Byte}
use Rattle.runfile.specs.Reading.{number_at}
use Rattle.runfile.proofs.Numbers.{number_at_drop}

pub length_in_bytes : (k v : ℕ) → length (in_bytes k v) ≡ k
unfolding in_bytes
length_in_bytes zero v = refl
length_in_bytes (suc k) v = ap suc (length_in_bytes k v)

pos : (k : ℕ) → 0 < 256 ^ k
pos zero = omega arith
pos (suc k) = omega (arith, pow-succ' 256 k, pos k)

-- the number in a list that begins with a byte
number_cons : (b k : ℕ) (bs : List ℕ) → number_at 0 (suc k) (b ∷ bs) ≡ b * 256 ^ k + number_at 0 k bs
unfolding number_at
number_cons b k bs = ap (λ (n : ℕ). b * 256 ^ k + n) (sym (number_at_drop 1 0 k (b ∷ bs)))

-- a number that is written in k bytes is read back, as far as k bytes hold it
number_in_bytes_mod : (k v : ℕ) (rest : List ℕ) → number_at 0 k (in_bytes k v ++ rest) ≡ v % 256 ^ k
unfolding in_bytes number_at
number_in_bytes_mod zero v rest = omega arith
number_in_bytes_mod (suc k) v rest =
    number_cons (v / 256 ^ k % 256) k (in_bytes k v ++ rest)
    ∙ ap (λ (n : ℕ). v / 256 ^ k % 256 * 256 ^ k + n) (number_in_bytes_mod k v rest)
    ∙ sym (mod-mul v {m = 256} {c = 256 ^ k} (omega arith) (pos k))
    ∙ ap (λ (n : ℕ). v % n) (sym (pow-succ' 256 k))

pub number_in_bytes : (k v : ℕ) (rest : List ℕ) → v < 256 ^ k → number_at 0 k (in_bytes k v ++ rest) ≡ v
number_in_bytes k v rest h = number_in_bytes_mod k v rest ∙ mod-eq_of_lt h

-- the fact holds of each element of a part
pub each_drop : {X : Type 0} (P : X → Type 0) (n : ℕ) (xs : List X) → Each P xs → Each P (drop n xs)
unfolding Each
each_drop P zero xs e = e
each_drop P (suc n) [] e = e
each_drop P (suc n) (x ∷ xs) e = each_drop P n xs e.1

pub each_take : {X : Type 0} (P : X → Type 0) (n : ℕ) (xs : List X) → Each P xs → Each P (take n xs)
unfolding Each
each_take P zero xs e = tt
each_take P (suc n) [] e = tt
each_take P (suc n) (x ∷ xs) e = (e.0, each_take P n xs e.1)

-- bytes spell a number that fits into them
pub number_fits : (k : ℕ) (bs : List ℕ) → k ≤ length bs → Each Byte bs → number_at 0 k bs < 256 ^ k
unfolding Each number_at
number_fits zero bs h e = omega arith
number_fits (suc k) [] h e = absurd (omega arith)
number_fits (suc k) (b ∷ bs) h e =
    let n = number_fits k bs (omega arith) e.1 in
    let b' : b ≤ 255 = omega (arith, e.0) in
    let m = mul-le-mul_right (256 ^ k) b' in
    omega (arith, number_cons b k bs, pow-succ' 256 k, n, m)

-- what the bytes do not hold makes no difference to them
in_bytes_add : (k m v : ℕ) → in_bytes k (m * 256 ^ k + v) ≡ in_bytes k v
unfolding in_bytes
in_bytes_add zero m v = refl
in_bytes_add (suc k) m v =
    let c = 256 ^ k in
    let p : m * 256 ^ suc k ≡ (m * 256) * 256 ^ k = ap (λ (n : ℕ). m * n) (pow-succ' 256 k) ∙ sym (mul_assoc m 256 (256 ^ k)) in
    let d : ((m * 256) * 256 ^ k + v) / 256 ^ k % 256 ≡ v / 256 ^ k % 256 = ap (λ (n : ℕ). n % 256) (mul-add-div_right (pos k) (m * 256) v) ∙ omega arith in
    rw p (ap (λ (n : ℕ). n ∷ in_bytes k ((m * 256) * 256 ^ k + v)) d ∙ ap (λ (bs : List ℕ). v / 256 ^ k % 256 ∷ bs) (in_bytes_add k (m * 256) v))

-- bytes are those of the number that they spell
pub in_bytes_number : (k : ℕ) (bs : List ℕ) → k ≤ length bs → Each Byte bs → in_bytes k (number_at 0 k bs) ≡ take k bs
unfolding Each in_bytes number_at
in_bytes_number zero bs h e = refl
in_bytes_number (suc k) [] h e = absurd (omega arith)
in_bytes_number (suc k) (b ∷ bs) h e =
    let n = number_fits k bs (omega arith) e.1 in
    let d : (b * 256 ^ k + number_at 0 k bs) / 256 ^ k % 256 ≡ b = ap (λ (n : ℕ). n % 256) (mul-add-div_right (pos k) b (number_at 0 k bs) ∙ ap (λ (n : ℕ). b + n) (div-eq_of_lt n)) ∙ omega (arith, e.0) in
    ap (in_bytes (suc k)) (number_cons b k bs)
    ∙ ap (λ (x : ℕ). x ∷ in_bytes k (b * 256 ^ k + number_at 0 k bs)) d
    ∙ ap (λ (xs : List ℕ). b ∷ xs) (in_bytes_add k b (number_at 0 k bs) ∙ in_bytes_number k bs (omega arith) e.1)

-- the elements of a list of bytes are bytes
pub each_byte : (bs : List ℕ) → ((i : ℕ) → get_or bs i 0 < 256) → Each Byte bs
unfolding Each
each_byte [] h = tt
each_byte (b ∷ bs) h = (h 0, each_byte bs (λ i. h (suc i)))
