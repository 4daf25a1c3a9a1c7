-- Reading what was written gives it back: the last digit is the remainder by the base, and those before it the quotient. Assumes nothing.
use mathlib.Core.Path.{◌≡◌, refl, ◌∙◌}
use mathlib.Core.Bool.{Bool, true, false, ◌&&◌}
use mathlib.Core.List.{List, [], ◌∷◌, ◌++◌}
use Prim.Native.Nat.{ℕ, zero, suc, ◌+◌, ◌-◌, ◌*◌, ◌/◌, ◌%◌, ◌^◌, ◌≤◌, ◌<◌}
use native.Mathlib.Omega.{arith}
use native.Mathlib.Decide.{dec_lt}
use native.Mathlib.Nat.{pow-suc, div-lt_iff_lt-mul, div-add-mod, div-add-mod', mod-lt, lt_of_lt_of_le}
use lib.ListN.{length, length-append}
use lib.Dec.{lit<, lit≤}
use borrow.Author.Tests.{lt-ltb, le-ltb, le-leb, lt-leb}
use Rattle.io.specs.Digits.{hex_digit_ascii, last_digits}
use Rattle.std.specs.Prelude.{Some}
use Rattle.text.specs.Numbers.{is_digit, all_digits, after, number_after, number_of, places, spelled}
use Rattle.text.specs.Hex.{meant, pair_with, pair_of}
use Rattle.text.proofs.Digits.{begun}
use Rattle.text.proofs.Spelled.{held, one-counted}

after_last : (w : List ℕ) (n b : ℕ) → after n (w ++ (b ∷ [])) ≡ after n w * 10 + (b - 48)
after_last [] n b = refl
after_last (d ∷ w) n b = after_last w (n * 10 + (d - 48)) b

and_last : (x a b : Bool) → (x && a) ≡ true → (a ≡ true → b ≡ true) → (x && b) ≡ true
and_last true a b e h = h e
and_last false a b e h = e

all-last : (w : List ℕ) (b : ℕ) → all_digits w ≡ true → is_digit b ≡ true → all_digits (w ++ (b ∷ [])) ≡ true
all-last [] b p q = rw q
all-last (d ∷ w) b p q = and_last (is_digit d) (all_digits w) (all_digits (w ++ (b ∷ []))) p (λ e. all-last w b e q)

spelled-digit : (d : ℕ) → d < 10 → (is_digit (hex_digit_ascii d) ≡ true) × (hex_digit_ascii d - 48 ≡ d)
spelled-digit d h = rw (lt-ltb d 10 h) (rw (le-leb 48 (48 + d) (omega arith), le-leb (48 + d) 57 (omega arith)), omega arith)

digits_back : (k n : ℕ) → n < 10 ^ k → (all_digits (last_digits 10 k n) ≡ true) × (after 0 (last_digits 10 k n) ≡ n)
digits_back zero n h = (refl, omega arith)
digits_back (suc k) n h =
    let u : n < 10 ^ k * 10 = rw (pow-suc 10 k) at h in
    let w : n / 10 < 10 ^ k = (div-lt_iff_lt-mul (lit< tt)).1 u in
    let r = digits_back k (n / 10) w in
    let s = spelled-digit (n % 10) (mod-lt n (lit< tt)) in
    let front = last_digits 10 k (n / 10) in
    (all-last front (hex_digit_ascii (n % 10)) r.0 s.0, after_last front 0 (hex_digit_ascii (n % 10)) ∙ (rw (r.1, s.1) (div-add-mod' n 10)))

read_digits : (k n : ℕ) → n < 10 ^ k → n < 2 ^ 64 → number_after 0 (last_digits 10 k n) ≡ Some n
read_digits k n h g = let r = digits_back k n h in rw (r.0, r.1, lt-ltb n (2 ^ 64) g)

some : (k n : ℕ) → 1 ≤ k → length (last_digits 10 k n) ≡ 0 → ⊥
some zero n h e = omega arith
some (suc k) n h e = let z = length-append (last_digits 10 k (n / 10)) (hex_digit_ascii (n % 10) ∷ []) in omega arith

-- a number that is written and read again is the number
pub number_back : (n : ℕ) → n < 2 ^ 64 → number_of (spelled n) ≡ Some n
unfolding spelled
number_back n h = begun (last_digits 10 (places 19 n) n) (some (places 19 n) n (one-counted 19 n)) ∙ read_digits (places 19 n) n (held 19 n (lt_of_lt_of_le h (lit≤ tt))) h

meant_back : (d : ℕ) → d < 16 → meant (hex_digit_ascii d) ≡ d
meant_back d h =
    elim (dec_lt d 10) [
      | yes g ↦ rw (lt-ltb d 10 g, le-leb 48 (48 + d) (omega arith), le-leb (48 + d) 57 (omega arith)) (omega arith)
      | no g ↦ rw (le-ltb d 10 (omega arith), le-leb 48 (87 + d) (omega arith), lt-leb (87 + d) 57 (omega arith), le-leb 97 (87 + d) (omega arith), le-leb (87 + d) 102 (omega arith)) (omega arith)
    ]

joined : (x y h l b : ℕ) → x ≡ h → y ≡ l → h < 16 → l < 16 → 16 * h + l ≡ b → pair_with x y ≡ Some b
joined x y h l b p q f g e = rw (p, q, lt-ltb h 16 f, lt-ltb l 16 g, e)

-- a byte that is written and read again is the byte
pub byte_back : (b : ℕ) → b < 256 → pair_of (hex_digit_ascii (b / 16)) (hex_digit_ascii (b % 16)) ≡ Some b
byte_back b h =
    let f : b / 16 < 16 = (div-lt_iff_lt-mul (lit< tt)).1 h in
    let g = mod-lt b (lit< tt) in
    joined (meant (hex_digit_ascii (b / 16))) (meant (hex_digit_ascii (b % 16))) (b / 16) (b % 16) b (meant_back (b / 16) f) (meant_back (b % 16) g) f g (div-add-mod b 16)
