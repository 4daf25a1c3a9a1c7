-- As many digits as `places` counts hold the number: each division by ten takes one. Assumes nothing.
use Prim.Native.Nat.{ℕ, zero, suc, ◌*◌, ◌/◌, ◌^◌, ◌≤◌, ◌<◌}
use native.Mathlib.Omega.{arith}
use native.Mathlib.Decide.{dec_lt}
use native.Mathlib.Nat.{pow-suc, div-lt_iff_lt-mul}
use lib.Dec.{lit<, lit≤}
use borrow.Author.Tests.{lt-ltb, le-ltb}
use Rattle.text.specs.Numbers.{places}

more : (f n : ℕ) → 10 ≤ n → n < 10 ^ suc (suc f) → (n / 10 < 10 ^ suc f → n / 10 < 10 ^ places f (n / 10)) → n < 10 ^ places (suc f) n
more f n g h rest =
    let u : n < 10 ^ suc f * 10 = rw (pow-suc 10 (suc f)) at h in
    let w : n / 10 < 10 ^ suc f = (div-lt_iff_lt-mul (lit< tt)).1 u in
    rw (le-ltb n 10 g, pow-suc) ((div-lt_iff_lt-mul (lit< tt)).0 (rest w))

-- as many digits as are counted hold the number
pub held : (f n : ℕ) → n < 10 ^ suc f → n < 10 ^ places f n
held zero n h = h
held (suc f) n h = elim (dec_lt n 10) [ yes g ↦ rw (lt-ltb n 10 g) g | no g ↦ more f n (omega arith) h (held f (n / 10)) ]

pub one-counted : (f n : ℕ) → 1 ≤ places f n
one-counted zero n = lit≤ tt
one-counted (suc f) n = elim (dec_lt n 10) [ yes g ↦ rw (lt-ltb n 10 g) (lit≤ tt) | no g ↦ rw (le-ltb n 10 (omega arith)) (omega arith) ]
