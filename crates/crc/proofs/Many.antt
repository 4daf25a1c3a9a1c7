-- The shifts of the code, and that they are 64 clocks; and fewer clocks by these. Assumes nothing.
use mathlib.Core.Path.{◌≡◌, sym, ap, ap₂, ◌∙◌}
use Prim.Native.Nat.{ℕ, zero, suc, ◌+◌, ◌*◌, ◌/◌, ◌%◌, ◌^◌, ◌<◌}
use native.Mathlib.Nat.{pow-succ', add-zero, zero-add, suc-add, mul-mod_left, mod-lt}
use native.Mathlib.Omega.{arith}
use lib.Dec.{T}
use lib.Bits.{bit_xor, xor_lt, xor_zero_l, xor_shifted}
use lib.Pow.{pow_pos, split, shl-shr, mod-pow-add}
use Rattle.crc.specs.Crc.{clock, clocks}
use Rattle.crc.specs.Carry.{left, right, once, twice, spread, carried}
use Rattle.crc.proofs.Step.{clocks_in, clocks-lt, clocks-sum}
use Rattle.crc.proofs.Linear.{Linear, plus, then, same, lefts, rights, agrees, agree, clocked}

-- x with its shifts by a, b and c
abbrev pub thrice : ℕ → ℕ → ℕ → ℕ → ℕ
thrice a b c x = bit_xor (twice a b x) (left c x)

-- what is taken from the top of 64 bits
abbrev pub top : ℕ → ℕ
top q = bit_xor (bit_xor (right 48 q) (right 53 q)) (right 60 q)

once_linear : (a : ℕ) → Linear (once a)
once_linear a = plus (λ x. x) (left a) same (lefts a)

twice_linear : (a b : ℕ) → Linear (twice a b)
twice_linear a b = plus (once a) (left b) (once_linear a) (lefts b)

thrice_linear : (a b c : ℕ) → Linear (thrice a b c)
thrice_linear a b c = plus (twice a b) (left c) (twice_linear a b) (lefts c)

top_linear : Linear top
top_linear = plus (λ q. bit_xor (right 48 q) (right 53 q)) (right 60) (plus (right 48) (right 53) (rights 48) (rights 53)) (rights 60)

-- ---- 64 clocks

abbrev pub shape : ℕ → ℕ
shape x = top (thrice 4 11 16 (thrice 8 22 32 (twice 16 44 (once 32 x))))

linear : Linear shape
linear =
    then (λ x. thrice 4 11 16 (thrice 8 22 32 (twice 16 44 (once 32 x)))) top
    (then (λ x. thrice 8 22 32 (twice 16 44 (once 32 x))) (thrice 4 11 16)
    (then (λ x. twice 16 44 (once 32 x)) (thrice 8 22 32)
    (then (once 32) (twice 16 44) (once_linear 32) (twice_linear 16 44)) (thrice_linear 8 22 32)) (thrice_linear 4 11 16)) top_linear

-- the test at each power of two
test : T (agrees 64 shape (clocks 64 0))
unfolding clocks clock
test = tt

-- data that comes to the register 0 is the register
from_zero : (n b : ℕ) → b < 2 ^ n → clocks n b 0 ≡ clocks n 0 b
from_zero n b h = clocks_in n b 0 h ∙ ap (clocks n 0) (xor_zero_l b)

pub clocked_law : (x : ℕ) → x < 2 ^ 64 → (shape x ≡ clocks 64 x 0) × (shape x < 2 ^ 16)
clocked_law x h =
    let e : shape x ≡ clocks 64 x 0 = agree 64 shape (clocks 64 0) linear (clocked 64) test x h ∙ sym (from_zero 64 x h) in
    (e, rw e (clocks-lt 64 x 0 (omega arith)))

-- ---- fewer

even : (y : ℕ) → clock (y * 2) 0 ≡ y
unfolding clock
even y =
    let p : y * 2 % 2 ≡ 0 = omega arith in
    let q : y * 2 / 2 ≡ y = omega arith in
    rw (p, q)

-- zeros are shifted out first
zeros : (k m x : ℕ) → clocks (k + m) 0 (x * 2 ^ k) ≡ clocks m 0 x
unfolding clocks
zeros zero m x = let e : x * 2 ^ 0 ≡ x = omega arith in rw (zero-add m, e)
zeros (suc k) m x =
    let e : x * 2 ^ suc k ≡ x * 2 ^ k * 2 = rw (pow-succ' 2 k) (omega arith) in
    ap (λ (n : ℕ). clocks n 0 (x * 2 ^ suc k)) (suc-add k m) ∙ ap (clocks (k + m) 0) (ap (λ (z : ℕ). clock z 0) e ∙ even (x * 2 ^ k)) ∙ zeros k m x

-- what is shifted out comes beside, and n clocks of zeros of what is not are 64 of it moved up by the others
beside : (k n x : ℕ) → n + k ≡ 64 → bit_xor (right n x) (clocks 64 0 (left k x)) ≡ clocks n 0 x
unfolding clocks
beside k n x e =
    let h : ℕ = right n x in
    let l : ℕ = x % 2 ^ n in
    let p : x ≡ bit_xor (h * 2 ^ n) l = sym (xor_shifted h n l (mod-lt x (pow_pos n)) ∙ split x n) in
    let q : left k x ≡ l * 2 ^ k =
    ap (λ (m : ℕ). x * 2 ^ k % 2 ^ m) (sym e) ∙ mod-pow-add (x * 2 ^ k) n k
    ∙ ap₂ (λ (a b : ℕ). a % 2 ^ n * 2 ^ k + b) (shl-shr x k) (mul-mod_left x (2 ^ k)) ∙ add-zero (l * 2 ^ k) in
    let f : k + n ≡ 64 = omega arith in
    ap₂ bit_xor (sym (rw add-zero at (zeros n 0 h))) (ap (clocks 64 0) q ∙ ap (λ (m : ℕ). clocks m 0 (l * 2 ^ k)) (sym f) ∙ zeros k n l)
    ∙ sym (ap (clocks n 0) p ∙ clocks-sum n (h * 2 ^ n) l)

-- the register and n bits of data
pub after_law : (k n r w y : ℕ) → n + k ≡ 64 → w < 2 ^ n → y ≡ clocks 64 (left k (bit_xor r w)) 0
    → bit_xor (right n (bit_xor r w)) y ≡ clocks n w r
after_law k n r w y e h q =
    ap (bit_xor (right n (bit_xor r w))) (q ∙ from_zero 64 (left k (bit_xor r w)) (omega arith)) ∙ beside k n (bit_xor r w) e ∙ sym (clocks_in n w r h)

-- and 64 bits of it
pub whole_law : (r w y : ℕ) → r < 2 ^ 64 → w < 2 ^ 64 → y ≡ clocks 64 (bit_xor r w) 0 → y ≡ clocks 64 w r
whole_law r w y h l q = q ∙ from_zero 64 (bit_xor r w) (xor_lt 64 r w h l) ∙ sym (clocks_in 64 w r l)

-- ---- 64 clocks that leave 64 bits

carried_linear : Linear carried
carried_linear =
    then (λ x. twice 16 44 (once 32 x)) spread (then (once 32) (twice 16 44) (once_linear 32) (twice_linear 16 44))
    (plus (λ z. bit_xor z (right 20 z)) (right 48) (plus (λ z. z) (right 20) same (rights 20)) (rights 48))

pub carried-lt : (x : ℕ) → x < 2 ^ 64 → carried x < 2 ^ 64
carried-lt x h = down (twice 16 44 (once 32 x)) (up 44 (once 16 (once 32 x)) (once 32 x) (up 16 (once 32 x) (once 32 x) (up 32 x x h)))
  where
    up : (k y x : ℕ) → y < 2 ^ 64 → bit_xor y (left k x) < 2 ^ 64
    up k y x l = xor_lt 64 y (left k x) l (omega arith)

    down : (z : ℕ) → z < 2 ^ 64 → spread z < 2 ^ 64
    down z l = xor_lt 64 (bit_xor z (right 20 z)) (right 48 z) (xor_lt 64 z (right 20 z) l (omega arith)) (omega arith)

-- 48 clocks later they are the register
carried_test : T (agrees 64 (λ x. clocks 48 0 (carried x)) (λ x. clocks 48 0 (clocks 64 0 x)))
unfolding clocks clock
carried_test = tt

-- with 48 bits of data
carried-after : (x v : ℕ) → x < 2 ^ 64 → v < 2 ^ 48 → clocks 48 v (carried x) ≡ clocks 48 v (clocks 64 0 x)
carried-after x v h l =
    clocks_in 48 v (carried x) l ∙ clocks-sum 48 (carried x) v
    ∙ ap (λ (z : ℕ). bit_xor z (clocks 48 0 v))
    (agree 64 (λ x. clocks 48 0 (carried x)) (λ x. clocks 48 0 (clocks 64 0 x)) (then carried (clocks 48 0) carried_linear (clocked 48)) (then (clocks 64 0) (clocks 48 0) (clocked 64) (clocked 48)) carried_test x h)
    ∙ sym (clocks_in 48 v (clocks 64 0 x) l ∙ clocks-sum 48 (clocks 64 0 x) v)

pub carried_law : (r w v : ℕ) → r < 2 ^ 64 → w < 2 ^ 64 → v < 2 ^ 48 → clocks 48 v (carried (bit_xor r w)) ≡ clocks 48 v (clocks 64 w r)
carried_law r w v h l i = carried-after (bit_xor r w) v (xor_lt 64 r w h l) i ∙ ap (clocks 48 v) (sym (clocks_in 64 w r l))
