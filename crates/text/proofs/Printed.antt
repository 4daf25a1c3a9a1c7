-- What a formatter writes of a number or a byte is what `spelled` and `spelled_byte` say; and what is printed of a list's front, with one more. Assumes nothing.
use mathlib.Core.Path.{◌≡◌, refl, ap}
use mathlib.Core.List.{List, [], ◌∷◌, ◌++◌, append-nil, append_assoc}
use Prim.Native.Nat.{ℕ, zero, suc, ◌+◌, ◌*◌, ◌/◌, ◌%◌, ◌^◌, ◌≤◌, ◌<◌}
use native.Mathlib.Omega.{arith}
use native.Mathlib.Decide.{dec_lt}
use native.Mathlib.Numerals.{add-one}
use native.Mathlib.Nat.{pow-suc, div-lt_iff_lt-mul, mod-lt, lt_of_lt_of_le}
use lib.ListN.{length, get_or, take, set, length-set}
use lib.Dec.{lit<, lit≤}
use borrow.Author.Tests.{lt-ltb, le-ltb}
use Rattle.std.specs.Fmt.{decimal}
use Rattle.std.specs.Str.{IsAscii}
use Rattle.std.proofs.lemmas.Fmt.{decimal_by_steps}
use Rattle.std.proofs.lemmas.List.{take_more_set}
use Rattle.std.proofs.lemmas.Str.Ascii.{IsAscii-nil, IsAscii-cons}
use Rattle.io.specs.Digits.{hex_digit_ascii, last_digits}
use Rattle.text.specs.Numbers.{places, spelled}
use Rattle.text.specs.Hex.{spelled_byte}
use Rattle.text.specs.Printed.{each_spelled, pairs_spelled}

-- ---- a number

enough : (f m : ℕ) → m < 10 ^ suc f → places f m ≡ places (suc f) m
enough zero m h = rw (lt-ltb m 10 h)
enough (suc f) m h =
    elim (dec_lt m 10) [
      | yes g ↦ rw (lt-ltb m 10 g)
      | no g ↦
          let u : m < 10 ^ suc f * 10 = rw (pow-suc 10 (suc f)) at h in
          rw (le-ltb m 10 (omega arith)) (ap suc (enough f (m / 10) ((div-lt_iff_lt-mul (lit< tt)).1 u)))
    ]

one : (f n : ℕ) → n < 10 → last_digits 10 (places (suc f) n) n ≡ (48 + n) ∷ []
one f n h = let e : n % 10 ≡ n = omega arith in rw (lt-ltb n 10 h, e, lt-ltb n 10 h)

step : (f n : ℕ) → 10 ≤ n → n / 10 < 10 ^ suc f → last_digits 10 (places (suc f) n) n ≡ last_digits 10 (places (suc f) (n / 10)) (n / 10) ++ ((48 + n % 10) ∷ [])
step f n h g =
    let e = ap (λ (k : ℕ). last_digits 10 k (n / 10) ++ ((48 + n % 10) ∷ [])) (enough f (n / 10) g) in
    rw (le-ltb n 10 h, lt-ltb (n % 10) 10 (mod-lt n (lit< tt))) e

next : (n : ℕ) (ds : List ℕ) → 10 ≤ n → (n / 10 < 2 ^ 64 → spelled (n / 10) ≡ ds) → n < 2 ^ 64 → spelled n ≡ ds ++ ((48 + n % 10) ∷ [])
unfolding spelled
next n ds h e g =
    let u : n < 10 ^ 19 * 10 = lt_of_lt_of_le g (lit≤ tt) in
    let k : n / 10 < 10 ^ 19 = (div-lt_iff_lt-mul (lit< tt)).1 u in
    rw (← e (omega arith)) (step 18 n h k)

pub spelled_decimal : (n : ℕ) → n < 2 ^ 64 → spelled n ≡ decimal n
unfolding spelled
spelled_decimal n h = decimal_by_steps (λ m ds. m < 2 ^ 64 → spelled m ≡ ds) (λ m g _. one 18 m g) (λ m ds g e. next m ds g e) n h h

-- ---- a list's front, with one more

pub each_more : (l : List ℕ) (i : ℕ) → i < length l → each_spelled (take i l) ++ (32 ∷ spelled (get_or l i 0)) ≡ each_spelled (take (suc i) l)
each_more [] i h = absurd (omega arith)
each_more (n ∷ l) zero h = rw append-nil
each_more (n ∷ l) (suc i) h = rw (← each_more l i (omega arith)) (simp append_assoc)

pub pairs_more : (l : List ℕ) (i : ℕ) → i < length l → pairs_spelled (take i l) ++ spelled_byte (get_or l i 0) ≡ pairs_spelled (take (suc i) l)
pairs_more [] i h = absurd (omega arith)
pairs_more (b ∷ l) zero h = refl
pairs_more (b ∷ l) (suc i) h = rw (← pairs_more l i (omega arith)) refl

-- ---- bytes in a space of digits

-- the two digits x and y of the byte at i are put after those of the bytes before it
pub pairs_put : (l out : List ℕ) (i x y : ℕ) → i < length l → 2 * i + 1 < length out
    → x ≡ hex_digit_ascii (get_or l i 0 / 16) → y ≡ hex_digit_ascii (get_or l i 0 % 16)
    → take (2 * i) out ≡ pairs_spelled (take i l) → take (2 * (i + 1)) (set (set out (2 * i) x) (2 * i + 1) y) ≡ pairs_spelled (take (i + 1) l)
pairs_put l out i x y h fits ex ey e =
    let two : 2 * (i + 1) ≡ 2 * i + 1 + 1 = omega arith in
    let long : length (set out (2 * i) x) ≡ length out = length-set out (2 * i) x in
    let second = take_more_set (set out (2 * i) x) (2 * i + 1) y (omega (arith, long)) in
    let first = take_more_set out (2 * i) x (omega arith) in
    rw (two, second, first, e, ex, ey, append_assoc, add-one) (pairs_more l i h)

-- ---- a list in two parts

pub pairs_append : (l m : List ℕ) → pairs_spelled (l ++ m) ≡ pairs_spelled l ++ pairs_spelled m
pairs_append [] m = refl
pairs_append (b ∷ l) m = rw (pairs_append l m) refl

-- ---- the digits are ASCII

digit_ascii : (d : ℕ) → d < 16 → hex_digit_ascii d < 128
digit_ascii d h = elim (dec_lt d 10) [ yes g ↦ rw (lt-ltb d 10 g) (omega arith) | no g ↦ rw (le-ltb d 10 (omega arith)) (omega arith) ]

pub pairs_ascii : (l : List ℕ) → ((i : ℕ) → get_or l i 0 < 256) → IsAscii (pairs_spelled l)
pairs_ascii [] h = IsAscii-nil
pairs_ascii (b ∷ l) h =
    let f : b < 256 = h 0 in
    let x = hex_digit_ascii (b / 16) in
    let y = hex_digit_ascii (b % 16) in
    IsAscii-cons x (y ∷ pairs_spelled l) (digit_ascii (b / 16) (omega arith)) (IsAscii-cons y (pairs_spelled l) (digit_ascii (b % 16) (omega arith)) (pairs_ascii l (λ i. h (suc i))))
