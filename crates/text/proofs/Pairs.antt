-- A word of hexadecimal digits, two at a time: so many bytes as it has pairs. Assumes nothing.
use mathlib.Core.Path.{◌≡◌, refl, sym}
use mathlib.Core.Bool.{true, false, and-false}
use mathlib.Core.List.{List, [], ◌∷◌}
use Prim.Native.Nat.{ℕ, zero, suc, ◌+◌, ◌*◌, ◌/◌, ◌%◌, ◌<◌, min}
use native.Mathlib.Omega.{arith}
use native.Mathlib.Numerals.{add-one}
use native.Mathlib.Decide.{dec_lt}
use lib.ListN.{length, get_or, take, drop, set}
use lib.Seq.{drop-cons, drop-length, get_or-take, get_or-drop, take_all, take-suc, set_at, append_snoc, length-take-le}
use Rattle.std.specs.Prelude.{Option, Some, None}
use Rattle.std.specs.Simd.{first_chunks}
use Rattle.text.specs.Words.{same, bytes_of, fronted, none}
use Rattle.text.specs.Hex.{pair_of, is_byte, in_pairs, some, is_hex, byte_or0, bytes_in, hex_count}

-- ---- how many

pub halved : (w : List ℕ) → length (bytes_in w) ≡ length w / 2
halved [] = refl
halved (a ∷ []) = refl
halved (a ∷ b ∷ w) = let h = halved w in omega arith

odd : (w : List ℕ) → (length w % 2 ≡ 0 → ⊥) → in_pairs w ≡ false
odd [] h = absurd (h refl)
odd (a ∷ []) h = refl
odd (a ∷ b ∷ w) h = rw (odd w (λ e. h (omega arith))) (and-false (is_byte (pair_of a b)))

there : (w : List ℕ) → (length w / 2 ≡ 0 → ⊥) → some w ≡ true
there [] h = absurd (h refl)
there (a ∷ w) h = refl

counted : (w : List ℕ) → is_hex w ≡ true → length w / 2 ≡ hex_count w
counted w e = rw e (sym (halved w))

uncounted : (w : List ℕ) → is_hex w ≡ false → none ≡ hex_count w
uncounted w e = rw e

module _ (w : List ℕ) where
  pub uneven : same w (bytes_of "-") ≡ false → (length w / 2 ≡ 0 → ⊥) → (length w % 2 ≡ 0 → ⊥) → none ≡ hex_count w
  uneven e h o = uncounted w (rw (e, there w h, odd w o))

  pub mixed : same w (bytes_of "-") ≡ false → (length w / 2 ≡ 0 → ⊥) → in_pairs w ≡ false → none ≡ hex_count w
  mixed e h o = uncounted w (rw (e, there w h, o))

  pub all : same w (bytes_of "-") ≡ false → (length w / 2 ≡ 0 → ⊥) → in_pairs w ≡ true → length w / 2 ≡ hex_count w
  all e h o = counted w (rw (e, there w h, o))

-- the two bytes of a chunk
chunk : (w : List ℕ) (k i : ℕ) → i < k → (get_or (get_or (first_chunks 2 k w) i []) 0 0 ≡ get_or w (2 * i) 0) × (get_or (get_or (first_chunks 2 k w) i []) 1 0 ≡ get_or w (2 * i + 1) 0)
chunk w zero i h = absurd (omega arith)
chunk w (suc k) zero h = (get_or-take 2 w 0 0 (omega arith), get_or-take 2 w 1 0 (omega arith))
chunk w (suc k) (suc i) h =
    let e : 2 * suc i ≡ 2 + 2 * i = omega arith in
    let f : 2 + 2 * i + 1 ≡ 2 + (2 * i + 1) = omega arith in
    let t = chunk (drop 2 w) k i (omega arith) in
    rw (e, f, ← get_or-drop 2 w (2 * i) 0, ← get_or-drop 2 w (2 * i + 1) 0) t

-- the digits d of a chunk stand there in the word
pub looked : (w d : List ℕ) (i : ℕ) (o : Option ℕ) → i < length w / 2 → d ≡ get_or (first_chunks 2 (length w / 2) w) i [] → o ≡ pair_of (get_or d 0 0) (get_or d 1 0) → pair_of (get_or w (2 * i) 0) (get_or w (2 * i + 1) 0) ≡ o
looked w d i o h e q = let t = chunk w (length w / 2) i h in sym (rw (e, t.0, t.1) at q)

-- the two digits from byte p on
two : (w : List ℕ) (p : ℕ) → p + 1 < length w → drop p w ≡ get_or w p 0 ∷ get_or w (p + 1) 0 ∷ drop (p + 2) w
two w p h =
    let e : suc p ≡ p + 1 = omega arith in
    let f : suc (p + 1) ≡ p + 2 = omega arith in
    rw (drop-cons w p 0 (omega arith), e, drop-cons w (p + 1) 0 h, f)

pub no_pair : (w : List ℕ) (p : ℕ) → p + 1 < length w → pair_of (get_or w p 0) (get_or w (p + 1) 0) ≡ None → in_pairs (drop p w) ≡ false
no_pair w p h e = rw (two w p h, e)

pub a_pair : (w : List ℕ) (p x : ℕ) → p + 1 < length w → pair_of (get_or w p 0) (get_or w (p + 1) 0) ≡ Some x → in_pairs (drop p w) ≡ in_pairs (drop (p + 2) w)
a_pair w p x h e = rw (two w p h, e)

pub at-end : (w : List ℕ) (p : ℕ) → p ≡ length w → in_pairs (drop p w) ≡ true
at-end w p q = rw (q, drop-length w)

-- ---- which

pub byte_at : (w : List ℕ) (i : ℕ) → i < length w / 2 → get_or (bytes_in w) i 0 ≡ byte_or0 (pair_of (get_or w (2 * i) 0) (get_or w (2 * i + 1) 0))
byte_at [] i h = absurd (omega arith)
byte_at (a ∷ []) i h = absurd (omega arith)
byte_at (a ∷ b ∷ w) zero h = refl
byte_at (a ∷ b ∷ w) (suc i) h =
    let e : 2 * suc i ≡ suc (suc (2 * i)) = omega arith in
    let f : suc (suc (2 * i)) + 1 ≡ suc (suc (2 * i + 1)) = omega arith in
    rw (e, f) (byte_at w i (omega arith))

-- one more of the bytes bs at the front of a buffer
pub one_more : (bs d d₀ : List ℕ) (i x : ℕ) → d ≡ fronted (take i bs) d₀ → i < length bs → i < length d₀ → x ≡ get_or bs i 0 → set d i x ≡ fronted (take (i + 1) bs) d₀
one_more bs d d₀ i x e h g q =
    let s = length-take-le i bs (omega arith) in
    let u = length-take-le (suc i) bs h in
    rw (e, s, drop-cons d₀ i 0 g, set_at (take i bs) (get_or d₀ i 0) (drop (suc i) d₀) x i s, q, add-one i, u, take-suc bs i 0 h) (sym (append_snoc (take i bs) (get_or bs i 0) (drop (suc i) d₀)))

-- all of them that there is room for
pub whole : (bs d d₀ : List ℕ) (i : ℕ) → d ≡ fronted (take i bs) d₀ → i ≡ min (length bs) (length d₀) → d ≡ fronted (take (length d₀) bs) d₀
whole bs d d₀ i e q =
    elim (dec_lt (length d₀) (length bs)) [
      | yes h ↦ let m : i ≡ length d₀ = omega arith in rw e (rw m)
      | no h ↦ let m : i ≡ length bs = omega arith in rw e (rw (m, take_all (length bs) bs (omega arith), take_all (length d₀) bs (omega arith)))
    ]
