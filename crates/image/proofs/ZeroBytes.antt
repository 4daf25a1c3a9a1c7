-- Bytes carry 0 exactly where each of them is 0: a byte more is eight bits more. Assumes nothing.
use mathlib.Core.Path.{◌≡◌, refl, sym}
use mathlib.Core.Logic.{◌≢◌}
use mathlib.Core.Bool.{Bool, true, false, ◌&&◌, not}
use mathlib.Core.List.{List}
use Prim.Native.Nat.{ℕ, ◌+◌, ◌-◌, ◌*◌, ◌≤◌, ◌<◌}
use native.Mathlib.Omega.{arith}
use native.Mathlib.Nat.{zero-mul, mul-le-mul_left}
use lib.Pow.{pow_pos}
use lib.ListN.{get_or}
use lib.Dec.{eqb}
use borrow.Author.Tests.{eq-eqb, ne_eqb, eqb-true, eqb-false}
use Rattle.bits.specs.Bits.{field}
use Rattle.bits.proofs.Laws.{field-add, field_next, field-zero}

-- a number is 0 where both its parts are
parts : (a b : ℕ) → (eqb a 0 && eqb b 0) ≡ eqb (a * 256 + b) 0
parts a b = go (eqb a 0) refl (eqb b 0) refl
  where
    go : (x : Bool) → eqb a 0 ≡ x → (y : Bool) → eqb b 0 ≡ y → (x && y) ≡ eqb (a * 256 + b) 0
    go true p true q = sym (eq-eqb (a * 256 + b) 0 (omega (arith, eqb-true a 0 p, eqb-true b 0 q)))
    go true p false q = let n = eqb-false b 0 q in sym (ne_eqb (a * 256 + b) 0 (λ e. n (omega arith)))
    go false p y q = let n = eqb-false a 0 p in sym (ne_eqb (a * 256 + b) 0 (λ e. n (omega arith)))

turn : (l : List ℕ) (from k : ℕ) (ok : Bool) → get_or l (from + k) 0 < 256 → ok ≡ eqb (field l (8 * from) (8 * k)) 0
    → (ok && eqb (get_or l (from + k) 0) 0) ≡ eqb (field l (8 * from) (8 * (k + 1))) 0
turn l from k ok h e = rw (e, field_next l from k h) (parts (field l (8 * from) (8 * k)) (get_or l (from + k) 0))

-- with n bytes more the bytes carry 0 where those do; and they don't where some of them don't
module _ (l : List ℕ) (from k n : ℕ) where
  behind : 8 * (from + k) ≡ 8 * from + 8 * k
  behind = omega arith

  pub zero_more : field l (8 * from) (8 * k) ≡ 0 → field l (8 * (from + k)) (8 * n) ≡ 0 → field l (8 * from) (8 * (k + n)) ≡ 0
  zero_more x y =
      let e : 8 * (k + n) ≡ 8 * k + 8 * n = omega arith in
      let w = rw behind at y in
      rw (e, field-add l (8 * from) (8 * k) (8 * n), x, w, zero-mul)

  pub zero-not : (m : ℕ) → k + n ≤ m → field l (8 * (from + k)) (8 * n) ≢ 0 → field l (8 * from) (8 * m) ≢ 0
  zero-not m h q z =
      let e : 8 * k + 8 * n + 8 * (m - (k + n)) ≡ 8 * m = omega arith in
      let s = rw (← e, field-add l (8 * from) (8 * k + 8 * n) (8 * (m - (k + n)))) at z in
      let t = mul-le-mul_left (field l (8 * from) (8 * k + 8 * n)) (pow_pos (8 * (m - (k + n)))) in
      q (rw behind (omega (arith, field-add l (8 * from) (8 * k) (8 * n))))

module _ (l : List ℕ) (k : ℕ) (bytes : (i : ℕ) → get_or l (k + i) 0 < 256) where
  -- two bytes
  pub two_bytes : field l (8 * k) 16 ≡ get_or l k 0 * 256 + get_or l (k + 1) 0
  two_bytes =
      let a : field l (8 * k) 8 ≡ field l (8 * k) 0 * 256 + get_or l (k + 0) 0 = field_next l k 0 (bytes 0) in
      let b : field l (8 * k) 16 ≡ field l (8 * k) 8 * 256 + get_or l (k + 1) 0 = field_next l k 1 (bytes 1) in
      let e : k + 0 ≡ k = omega arith in
      let d = rw e at a in
      omega (arith, field-zero l (8 * k))

  -- the five bytes of an entry
  pub five-bytes : ((((eqb (get_or l (k + 0) 0) 0 && eqb (get_or l (k + 1) 0) 0) && eqb (get_or l (k + 2) 0) 0) && eqb (get_or l (k + 3) 0) 0) && eqb (get_or l (k + 4) 0) 0) ≡ eqb (field l (8 * k) 40) 0
  five-bytes =
      let z : true ≡ eqb (field l (8 * k) (8 * 0)) 0 = rw (field-zero l (8 * k)) in
      turn l k 4 _ (bytes 4) (turn l k 3 _ (bytes 3) (turn l k 2 _ (bytes 2) (turn l k 1 _ (bytes 1) (turn l k 0 true (bytes 0) z))))

  and-false : (x : Bool) → (x && false) ≡ false
  and-false true = refl
  and-false false = refl

  and-true : (x : Bool) → (x && true) ≡ x
  and-true true = refl
  and-true false = refl

  here : k + 0 ≡ k
  here = omega arith

  -- by the third byte alone, and by the others where it is 0
  pub third-filled : get_or l (k + 2) 0 ≢ 0 → true ≡ not (eqb (field l (8 * k) 40) 0)
  third-filled h = rw (← five-bytes, ne_eqb (get_or l (k + 2) 0) 0 h, and-false)

  pub third-empty : get_or l (k + 2) 0 ≡ 0
      → not (((eqb (get_or l k 0) 0 && eqb (get_or l (k + 1) 0) 0) && eqb (get_or l (k + 3) 0) 0) && eqb (get_or l (k + 4) 0) 0) ≡ not (eqb (field l (8 * k) 40) 0)
  third-empty h = rw (← five-bytes, eq-eqb (get_or l (k + 2) 0) 0 h, and-true, here)
