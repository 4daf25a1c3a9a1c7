-- Clocks of the register: data joins it by a sum, and what n clocks do to a sum is the sum of what they do.
-- Assumes nothing.
use mathlib.Core.Path.{◌≡◌, refl, sym, ap, ap₂, ◌∙◌}
use mathlib.Core.Bool.{Bool, true, false, cond}
use Prim.Native.Nat.{ℕ, zero, suc, ◌+◌, ◌*◌, ◌/◌, ◌%◌, ◌^◌, ◌<◌}
use native.Mathlib.Nat.{pow-succ', zero-add, suc-add, mul_assoc, div-div-eq-div-mul}
use native.Mathlib.Omega.{arith}
use lib.Arith.{bin_ind}
use lib.Dec.{eqb}
use lib.Bits.{bit_xor, differ, xor_step, xor_zero_r, xor_comm, xor_lt, xor_self, xor_shr}
use Rattle.crc.specs.Crc.{polynomial, clock, clocks}

-- ---- sums of binary digits

differ-lt : (x y : ℕ) → x < 2 → y < 2 → differ x y < 2
differ-lt zero y h k = k
differ-lt (suc zero) zero h k = h
differ-lt (suc zero) (suc zero) h k = omega arith
differ-lt (suc zero) (suc (suc y)) h k = absurd (omega arith)
differ-lt (suc (suc x)) y h k = absurd (omega arith)

differ_assoc : (x y z : ℕ) → x < 2 → y < 2 → z < 2 → differ (differ x y) z ≡ differ x (differ y z)
differ_assoc zero y z h k l = refl
differ_assoc (suc zero) zero z h k l = refl
differ_assoc (suc zero) (suc zero) zero h k l = refl
differ_assoc (suc zero) (suc zero) (suc zero) h k l = refl
differ_assoc (suc zero) (suc zero) (suc (suc z)) h k l = absurd (omega arith)
differ_assoc (suc zero) (suc (suc y)) z h k l = absurd (omega arith)
differ_assoc (suc (suc x)) y z h k l = absurd (omega arith)

half : (a b : ℕ) → bit_xor a b / 2 ≡ bit_xor (a / 2) (b / 2)
half a b = xor_shr a b 1

odd : (a b : ℕ) → bit_xor a b % 2 ≡ differ (a % 2) (b % 2)
odd a b = omega (arith, xor_step a b, differ-lt (a % 2) (b % 2) (omega arith) (omega arith))

pub assoc : (a b c : ℕ) → bit_xor (bit_xor a b) c ≡ bit_xor a (bit_xor b c)
assoc =
    bin_ind (λ (n : ℕ). (b c : ℕ) → bit_xor (bit_xor n b) c ≡ bit_xor n (bit_xor b c)) (λ b c. refl)
    (λ n ih b c.
    xor_step (bit_xor n b) c
    ∙ ap₂ (λ (x y : ℕ). x * 2 + y)
    (ap (λ (x : ℕ). bit_xor x (c / 2)) (half n b) ∙ ih (b / 2) (c / 2) ∙ ap (bit_xor (n / 2)) (sym (half b c)))
    (ap (λ (x : ℕ). differ x (c % 2)) (odd n b) ∙ differ_assoc (n % 2) (b % 2) (c % 2) (omega arith) (omega arith) (omega arith) ∙ ap (differ (n % 2)) (sym (odd b c)))
    ∙ sym (xor_step n (bit_xor b c)))

swap : (a b c : ℕ) → bit_xor (bit_xor a b) c ≡ bit_xor (bit_xor a c) b
swap a b c = assoc a b c ∙ ap (bit_xor a) (xor_comm b c) ∙ sym (assoc a c b)

-- ---- one clock

-- the polynomial is added where the digit is 1
abbrev sel : ℕ → ℕ → ℕ
sel zero h = h
sel (suc x) h = bit_xor h polynomial

clock_sel : (r d : ℕ) → d < 2 → clock r d ≡ sel (differ (r % 2) d) (r / 2)
unfolding clock
clock_sel r d h = go (r % 2) d (omega arith) h
  where
    go : (x y : ℕ) → x < 2 → y < 2 → cond (eqb x y) (r / 2) (bit_xor (r / 2) polynomial) ≡ sel (differ x y) (r / 2)
    go zero zero h k = refl
    go zero (suc zero) h k = refl
    go zero (suc (suc y)) h k = absurd (omega arith)
    go (suc zero) zero h k = refl
    go (suc zero) (suc zero) h k = refl
    go (suc zero) (suc (suc y)) h k = absurd (omega arith)
    go (suc (suc x)) y h k = absurd (omega arith)

sel_in : (x p q : ℕ) → bit_xor (sel x p) q ≡ sel x (bit_xor p q)
sel_in zero p q = refl
sel_in (suc x) p q = swap p polynomial q

differ-zero : (x : ℕ) → differ x 0 ≡ x
differ-zero zero = refl
differ-zero (suc x) = refl

clock-zero : (r : ℕ) → clock r 0 ≡ sel (r % 2) (r / 2)
clock-zero r = clock_sel r 0 (omega arith) ∙ ap (λ (x : ℕ). sel x (r / 2)) (differ-zero (r % 2))

-- a digit of data is a digit of the register
clock_in : (r b : ℕ) → bit_xor (clock r (b % 2)) (b / 2) ≡ clock (bit_xor r b) 0
clock_in r b =
    ap (λ (x : ℕ). bit_xor x (b / 2)) (clock_sel r (b % 2) (omega arith))
    ∙ sel_in (differ (r % 2) (b % 2)) (r / 2) (b / 2)
    ∙ ap₂ sel (sym (odd r b)) (sym (half r b))
    ∙ sym (clock-zero (bit_xor r b))

sel-sum : (x y p q : ℕ) → x < 2 → y < 2 → sel (differ x y) (bit_xor p q) ≡ bit_xor (sel x p) (sel y q)
sel-sum zero zero p q h k = refl
sel-sum zero (suc zero) p q h k = assoc p q polynomial
sel-sum zero (suc (suc y)) p q h k = absurd (omega arith)
sel-sum (suc zero) zero p q h k = swap p q polynomial
sel-sum (suc zero) (suc zero) p q h k =
    sym (xor_zero_r (bit_xor p q)) ∙ ap (bit_xor (bit_xor p q)) (sym (xor_self polynomial)) ∙ sym (assoc (bit_xor p q) polynomial polynomial)
    ∙ ap (λ (x : ℕ). bit_xor x polynomial) (swap p q polynomial) ∙ assoc (bit_xor p polynomial) q polynomial
sel-sum (suc zero) (suc (suc y)) p q h k = absurd (omega arith)
sel-sum (suc (suc x)) y p q h k = absurd (omega arith)

clock-sum : (a c : ℕ) → clock (bit_xor a c) 0 ≡ bit_xor (clock a 0) (clock c 0)
clock-sum a c =
    clock-zero (bit_xor a c) ∙ ap₂ sel (odd a c) (half a c)
    ∙ sel-sum (a % 2) (c % 2) (a / 2) (c / 2) (omega arith) (omega arith)
    ∙ sym (ap₂ bit_xor (clock-zero a) (clock-zero c))

-- ---- n clocks

pub clocks_in : (n b r : ℕ) → b < 2 ^ n → clocks n b r ≡ clocks n 0 (bit_xor r b)
unfolding clocks
clocks_in zero b r h = let e : b ≡ 0 = omega arith in sym (ap (bit_xor r) e ∙ xor_zero_r r)
clocks_in (suc n) b r h =
    clocks_in n (b / 2) (clock r (b % 2)) (omega (arith, pow-succ' 2 n)) ∙ ap (clocks n 0) (clock_in r b)

pub clocks-sum : (n a c : ℕ) → clocks n 0 (bit_xor a c) ≡ bit_xor (clocks n 0 a) (clocks n 0 c)
unfolding clocks
clocks-sum zero a c = refl
clocks-sum (suc n) a c = ap (clocks n 0) (clock-sum a c) ∙ clocks-sum n (clock a 0) (clock c 0)

-- the register has sixteen bits
clock-lt : (r d : ℕ) → r < 2 ^ 16 → clock r d < 2 ^ 16
unfolding clock
clock-lt r d h = go (eqb (r % 2) d)
  where
    go : (b : Bool) → cond b (r / 2) (bit_xor (r / 2) polynomial) < 2 ^ 16
    go true = omega arith
    go false = xor_lt 16 (r / 2) polynomial (omega arith) (omega arith)

pub clocks-lt : (n b r : ℕ) → r < 2 ^ 16 → clocks n b r < 2 ^ 16
unfolding clocks
clocks-lt zero b r h = h
clocks-lt (suc n) b r h = clocks-lt n (b / 2) (clock r (b % 2)) (clock-lt r (b % 2) h)

-- m clocks and then n more
pub clocks-add : (m n b r : ℕ) → clocks (m + n) b r ≡ clocks n (b / 2 ^ m) (clocks m b r)
unfolding clocks
clocks-add zero n b r = let e : b / 2 ^ 0 ≡ b = omega arith in rw (e, zero-add n)
clocks-add (suc m) n b r =
    let e : b / 2 / 2 ^ m ≡ b / 2 ^ suc m = div-div-eq-div-mul b 2 (2 ^ m) ∙ ap (λ (k : ℕ). b / k) (sym (pow-succ' 2 m)) in
    rw (suc-add m n) (clocks-add m n (b / 2) (clock r (b % 2)) ∙ ap (λ (k : ℕ). clocks n k (clocks m (b / 2) (clock r (b % 2)))) e)

-- n clocks look at n digits
pub clocks-more : (n b l r : ℕ) → clocks n (b + 2 ^ n * l) r ≡ clocks n b r
unfolding clocks
clocks-more zero b l r = refl
clocks-more (suc n) b l r =
    let e : 2 ^ suc n * l ≡ 2 * (2 ^ n * l) = rw (pow-succ' 2 n) (mul_assoc 2 (2 ^ n) l) in
    let p : (b + 2 ^ suc n * l) % 2 ≡ b % 2 = omega arith in
    let q : (b + 2 ^ suc n * l) / 2 ≡ b / 2 + 2 ^ n * l = omega arith in
    rw (p, q) (clocks-more n (b / 2) l (clock r (b % 2)))
