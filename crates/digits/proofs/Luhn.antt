-- A digit counts in the sum by its place alone, as itself or doubled, and by either it is told modulo ten from every other digit: so one digit that
-- changes is seen. Two neighbours that change places are seen by what they count more where they are doubled: it tells every digit too, but 0 from 9.
-- Assumes nothing.
use mathlib.Core.Path.{◌≡◌, refl, sym, ap, ◌∙◌}
use mathlib.Core.Logic.{◌↔◌, ◌≢◌, ◌⊎◌, inl, inr, ⊎_elim}
use mathlib.Core.List.{List, [], ◌∷◌, ◌++◌, append-nil}
use Prim.Native.Nat.{ℕ, zero, suc, ◌+◌, ◌-◌, ◌*◌, ◌/◌, ◌%◌, ◌^◌, ◌≤◌, ◌<◌}
use native.Mathlib.Decide.{dec_lt}
use native.Mathlib.Numerals.{one-add}
use native.Mathlib.Omega.{arith}
use lib.ListN.{length, get_or, set, length-set, get_or-append}
use lib.Seq.{get_or-set_other, get_or-append-add}
use Rattle.rules.specs.Claim.{◌≡?◌, every, Means}
use Rattle.rules.specs.First.{all}
use Rattle.rules.proofs.ClaimLaws.{holds_means}
use Rattle.digits.specs.Digits.{decimal, digits_of, doubled, luhn}
use Rattle.digits.proofs.Joined.{length_digits, get_or_digits}

abbrev pub Decimals : List ℕ → Type 0  -- no digit is above 9
Decimals ds = (k : ℕ) → get_or ds k 0 ≤ 9

-- what a digit counts at place i
part : ℕ → ℕ → ℕ
part zero d = d
part (suc zero) d = doubled d
part (suc (suc i)) d = part i d

-- the sum with the digit d at place i
weighed : (ds : List ℕ) (i d : ℕ) → i < length ds → luhn (set ds i d) + part i (get_or ds i 0) ≡ luhn ds + part i d
unfolding luhn part
weighed [] i d h = omega arith
weighed (a ∷ []) zero d h = omega arith
weighed (a ∷ []) (suc i) d h = omega arith
weighed (a ∷ b ∷ ds) zero d h = omega arith
weighed (a ∷ b ∷ ds) (suc zero) d h = omega arith
weighed (a ∷ b ∷ ds) (suc (suc i)) d h = omega (arith, weighed ds i d (omega arith))

-- ---- one digit is another

-- a digit by what it counts doubled
abbrev half : ℕ → ℕ
half x = x / 2 + 5 * (x % 2)

half-doubled : (d : ℕ) → d < 10 → half (doubled d % 10) ≡ d
unfolding all
half-doubled = holds_means (every 10 λ d. half (doubled d % 10) ≡? d) refl

part_told : (i a b : ℕ) → a ≤ 9 → b ≤ 9 → part i a % 10 ≡ part i b % 10 → a ≡ b
unfolding part
part_told zero a b h k e = omega arith
part_told (suc zero) a b h k e = sym (half-doubled a (omega arith)) ∙ ap half e ∙ half-doubled b (omega arith)
part_told (suc (suc i)) a b h k e = part_told i a b h k e

pub changed : (ds : List ℕ) (i d : ℕ) → i < length ds → Decimals ds → d ≤ 9 → d ≢ get_or ds i 0
    → luhn ds % 10 ≡ 0 → luhn (set ds i d) % 10 ≢ 0
changed ds i d h ten k n right e = n (part_told i d (get_or ds i 0) k (ten i) (omega (arith, weighed ds i d h)))

-- whatever the other digits are, one digit and no other is their check digit
pub once : (ds : List ℕ) → (d : ℕ) × (d ≤ 9) × (luhn (d ∷ ds) % 10 ≡ 0) × ((e : ℕ) → e ≤ 9 → luhn (e ∷ ds) % 10 ≡ 0 → e ≡ d)
unfolding part
once ds = let d : ℕ = (10 - luhn (0 ∷ ds) % 10) % 10 in (d, omega arith, omega (arith, first d), λ e h z. omega (arith, first e))
  where
    first : (d : ℕ) → luhn (d ∷ ds) + 0 ≡ luhn (0 ∷ ds) + d
    first d = weighed (0 ∷ ds) 0 d (omega arith)

-- ---- two neighbours change places

abbrev swap : List ℕ → ℕ → List ℕ
swap ds i = set (set ds i (get_or ds (1 + i) 0)) (1 + i) (get_or ds i 0)

swapped : (ds : List ℕ) (i : ℕ) → 1 + i < length ds
    → luhn (swap ds i) + (part i (get_or ds i 0) + part (suc i) (get_or ds (1 + i) 0))
    ≡ luhn ds + (part (suc i) (get_or ds i 0) + part i (get_or ds (1 + i) 0))
swapped ds i h =
    let b = get_or ds (suc i) 0 in
    let second = weighed (set ds i b) (suc i) (get_or ds i 0) (omega (arith, length-set ds i b)) in
    rw (one-add i) (omega (arith, weighed ds i b (omega arith), rw (get_or-set_other ds i (suc i) b 0 (λ e. omega arith)) at second))

-- what a digit counts more where it is doubled, modulo ten
abbrev more : ℕ → ℕ
more d = (doubled d + 9 * d) % 10

-- a digit by that, 0 and 9 taken for one
abbrev by-more : ℕ → ℕ
by-more x = x - x / 5

told_more : (d : ℕ) → d < 10 → by-more (more d) ≡ d % 9
unfolding all
told_more = holds_means (every 10 λ d. by-more (more d) ≡? d % 9) refl

across : (a b x y : ℕ) → (a + y) % 10 ≡ (x + b) % 10 → (x + 9 * a) % 10 ≡ (y + 9 * b) % 10
across a b x y e = omega arith

parts_told : (i a b : ℕ) → (part i a + part (suc i) b) % 10 ≡ (part (suc i) a + part i b) % 10 → more a ≡ more b
unfolding part
parts_told zero a b e = across a b (doubled a) (doubled b) e
parts_told (suc zero) a b e = across a b (doubled a) (doubled b) (sym e)
parts_told (suc (suc i)) a b e = parts_told i a b e

pub exchanged : (ds : List ℕ) (i : ℕ) → 1 + i < length ds → Decimals ds → get_or ds i 0 ≢ get_or ds (1 + i) 0
    → ((get_or ds i 0 ≡ 0) × (get_or ds (1 + i) 0 ≡ 9) → ⊥) → ((get_or ds i 0 ≡ 9) × (get_or ds (1 + i) 0 ≡ 0) → ⊥)
    → luhn ds % 10 ≡ 0 → luhn (set (set ds i (get_or ds (1 + i) 0)) (1 + i) (get_or ds i 0)) % 10 ≢ 0
exchanged ds i h ten n up down right e =
    let a = get_or ds i 0 in
    let b = get_or ds (1 + i) 0 in
    let s = swapped ds i h in
    let ha : a < 10 = omega (arith, ten i) in
    let hb : b < 10 = omega (arith, ten (1 + i)) in
    let m : a % 9 ≡ b % 9 = sym (told_more a ha) ∙ ap by-more (parts_told i a b (omega arith)) ∙ told_more b hb in
    elim (dec_lt a b) [ yes l ↦ up (omega arith, omega arith) | no l ↦ down (omega arith, omega arith) ]

-- 0 and 9 count the same at every place
same : (i a : ℕ) → (a ≡ 0) ⊎ (a ≡ 9) → part i a ≡ a
unfolding part
same zero a w = refl
same (suc zero) a w = ⊎_elim (λ e. omega arith) (λ e. omega arith) w
same (suc (suc i)) a w = same i a w

-- so that their exchange is not seen
pub blind : (ds : List ℕ) (i : ℕ) → 1 + i < length ds
    → ((get_or ds i 0 ≡ 0) × (get_or ds (1 + i) 0 ≡ 9)) ⊎ ((get_or ds i 0 ≡ 9) × (get_or ds (1 + i) 0 ≡ 0))
    → luhn (set (set ds i (get_or ds (1 + i) 0)) (1 + i) (get_or ds i 0)) % 10 ≡ luhn ds % 10
blind ds i h = ⊎_elim (λ w. both (inl w.0) (inr w.1)) (λ w. both (inr w.0) (inl w.1))
  where
    both : (get_or ds i 0 ≡ 0) ⊎ (get_or ds i 0 ≡ 9) → (get_or ds (1 + i) 0 ≡ 0) ⊎ (get_or ds (1 + i) 0 ≡ 9) → luhn (swap ds i) % 10 ≡ luhn ds % 10
    both u w = omega (arith, swapped ds i h, same i _ u, same (suc i) _ u, same i _ w, same (suc i) _ w)

-- ---- decimal digits

-- those of a number, before others
pub decimals_join : (n v : ℕ) (ds : List ℕ) → (Means (decimal n v) × Decimals ds) ↔ Decimals (digits_of n v ++ ds)
decimals_join n v ds = ((λ p k. there p k (dec_lt k n)), λ ten. ((λ k h. rw (own k h) at (ten k)), λ k. rw (other k) at (ten (n + k))))
  where
    own : (k : ℕ) → k < n → get_or (digits_of n v ++ ds) k 0 ≡ v / 2 ^ (4 * k) % 16
    own k h = get_or-append (digits_of n v) ds 0 k (omega (arith, length_digits n v)) ∙ get_or_digits n v k h

    other : (k : ℕ) → get_or (digits_of n v ++ ds) (n + k) 0 ≡ get_or ds k 0
    other k = rw (length_digits n v) at (get_or-append-add (digits_of n v) ds k 0)

    there : Means (decimal n v) × Decimals ds → (k : ℕ) → Dec (k < n) → get_or (digits_of n v ++ ds) k 0 ≤ 9
    there p k (yes h) = rw (own k h) (p.0 k h)
    there p k (no h) = let e : n + (k - n) ≡ k = omega arith in rw (← e, other (k - n)) (p.1 (k - n))

pub decimals_digits : (n v : ℕ) → Means (decimal n v) ↔ Decimals (digits_of n v)
decimals_digits n v =
    let j = rw (append-nil (digits_of n v)) at (decimals_join n v []) in
    ((λ m. j.0 (m, λ k. omega arith)), λ ten. (j.1 ten).0)

pub decimals-set : (ds : List ℕ) (i d : ℕ) → Decimals ds → d ≤ 9 → Decimals (set ds i d)
decimals-set [] i d ten h k = omega arith
decimals-set (x ∷ ds) zero d ten h zero = h
decimals-set (x ∷ ds) zero d ten h (suc k) = ten (suc k)
decimals-set (x ∷ ds) (suc i) d ten h zero = ten 0
decimals-set (x ∷ ds) (suc i) d ten h (suc k) = decimals-set ds i d (λ j. ten (suc j)) h k
