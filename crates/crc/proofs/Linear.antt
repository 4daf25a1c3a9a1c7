-- A function of sums is told by what it does to the powers of two. So a handful of shifts is many clocks, if it is at each power of two:
-- one computed test. Assumes nothing.
use mathlib.Core.Path.{◌≡◌, refl, sym, ap, ap₂, ◌∙◌}
use mathlib.Core.Bool.{Bool, true, false, ◌&&◌}
use Prim.Native.Nat.{ℕ, zero, suc, ◌+◌, ◌-◌, ◌*◌, ◌%◌, ◌^◌, ◌<◌}
use native.Mathlib.Nat.{pow-succ'}
use native.Mathlib.Omega.{arith}
use native.Mathlib.Decide.{dec_lt}
use lib.Dec.{eqb, T, eqb→eq}
use lib.Pow.{pow_pos}
use lib.Bits.{bit_xor, xor_comm, xor_self, xor_block, xor_mod, xor_shr, xor_shifted}
use Rattle.crc.specs.Crc.{clocks}
use Rattle.crc.specs.Carry.{left, right}
use Rattle.crc.proofs.Step.{assoc, clocks-sum}

-- f of a sum is the sum of f's
abbrev pub Linear : (ℕ → ℕ) → Type 0
Linear f = (a b : ℕ) → f (bit_xor a b) ≡ bit_xor (f a) (f b)

zero-there : (f : ℕ → ℕ) → Linear f → f 0 ≡ 0
zero-there f l = l 0 0 ∙ xor_self (f 0)

-- ---- which functions are

-- (a + b) + (c + d) is (a + c) + (b + d)
cross : (a b c d : ℕ) → bit_xor (bit_xor a b) (bit_xor c d) ≡ bit_xor (bit_xor a c) (bit_xor b d)
cross a b c d =
    assoc a b (bit_xor c d) ∙ ap (bit_xor a) (sym (assoc b c d) ∙ ap (λ (x : ℕ). bit_xor x d) (xor_comm b c) ∙ assoc c b d) ∙ sym (assoc a c (bit_xor b d))

pub plus : (f g : ℕ → ℕ) → Linear f → Linear g → Linear (λ x. bit_xor (f x) (g x))
plus f g l m a b = ap₂ bit_xor (l a b) (m a b) ∙ cross (f a) (f b) (g a) (g b)

pub then : (f g : ℕ → ℕ) → Linear f → Linear g → Linear (λ x. g (f x))
then f g l m a b = ap g (l a b) ∙ m (f a) (f b)

pub same : Linear (λ x. x)
same a b = refl

times : (k a b : ℕ) → bit_xor a b * 2 ^ k ≡ bit_xor (a * 2 ^ k) (b * 2 ^ k)
times k a b =
    let z : bit_xor (a * 2 ^ k + 0) (b * 2 ^ k + 0) ≡ bit_xor a b * 2 ^ k + bit_xor 0 0 = xor_block k a b 0 0 (pow_pos k) (pow_pos k) in
    let p : a * 2 ^ k + 0 ≡ a * 2 ^ k = omega arith in
    let q : b * 2 ^ k + 0 ≡ b * 2 ^ k = omega arith in
    let r : bit_xor a b * 2 ^ k + bit_xor 0 0 ≡ bit_xor a b * 2 ^ k = ap (λ (x : ℕ). bit_xor a b * 2 ^ k + x) (xor_self 0) ∙ omega arith in
    sym (sym (ap₂ bit_xor p q) ∙ z ∙ r)

pub lefts : (k : ℕ) → Linear (left k)
lefts k a b = ap (λ (x : ℕ). x % 2 ^ 64) (times k a b) ∙ xor_mod (a * 2 ^ k) (b * 2 ^ k) 64

pub rights : (k : ℕ) → Linear (right k)
rights k a b = xor_shr a b k

-- ---- told by the powers of two

abbrev pub agrees : ℕ → (ℕ → ℕ) → (ℕ → ℕ) → Bool
agrees zero f g = true
agrees (suc n) f g = eqb (f (2 ^ n)) (g (2 ^ n)) && agrees n f g

now-at : (a b : Bool) → T (a && b) → T a
now-at true b t = tt
now-at false b t = t

rest_of : (a b : Bool) → T (a && b) → T b
rest_of true b t = t
rest_of false b t = absurd t

pub agree : (n : ℕ) (f g : ℕ → ℕ) → Linear f → Linear g → T (agrees n f g) → (x : ℕ) → x < 2 ^ n → f x ≡ g x
agree zero f g l m t x h = let e : x ≡ 0 = omega arith in rw e (zero-there f l ∙ sym (zero-there g m))
agree (suc n) f g l m t x h = elim (dec_lt x (2 ^ n)) [
  | yes k ↦ agree n f g l m (rest_of (eqb (f (2 ^ n)) (g (2 ^ n))) (agrees n f g) t) x k
  | no k ↦
      let y : ℕ = x - 2 ^ n in
      let b : y < 2 ^ n = omega (arith, pow-succ' 2 n) in
      let e : bit_xor (1 * 2 ^ n) y ≡ 1 * 2 ^ n + y = xor_shifted 1 n y b in
      let o : 1 * 2 ^ n ≡ 2 ^ n = omega arith in
      let s : x ≡ bit_xor (2 ^ n) y = sym (sym (ap (λ (z : ℕ). bit_xor z y) o) ∙ e ∙ omega arith) in
      let p : f (2 ^ n) ≡ g (2 ^ n) = eqb→eq (f (2 ^ n)) (g (2 ^ n)) (now-at (eqb (f (2 ^ n)) (g (2 ^ n))) (agrees n f g) t) in
      let q : f y ≡ g y = agree n f g l m (rest_of (eqb (f (2 ^ n)) (g (2 ^ n))) (agrees n f g) t) y b in
      ap f s ∙ l (2 ^ n) y ∙ ap₂ bit_xor p q ∙ sym (ap g s ∙ m (2 ^ n) y)
]

-- ---- many clocks

pub clocked : (n : ℕ) → Linear (clocks n 0)
clocked n a b = clocks-sum n a b
