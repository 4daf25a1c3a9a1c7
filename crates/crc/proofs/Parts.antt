-- The register over the first bytes: n bytes are 8 × n clocks of their number. Assumes nothing.
use mathlib.Core.Path.{◌≡◌, refl, sym, ap, ap₂, ◌∙◌}
use mathlib.Core.List.{List, [], ◌∷◌}
use Prim.Native.Nat.{ℕ, zero, suc, ◌+◌, ◌-◌, ◌*◌, ◌/◌, ◌%◌, ◌^◌, ◌<◌, ◌≤◌}
use native.Mathlib.Nat.{mul_assoc, mul-zero, zero-add, suc-add}
use native.Mathlib.Omega.{arith}
use native.Mathlib.Decide.{dec_lt}
use lib.ListN.{length, get_or, take, drop, length-drop, drop_of_length-le, get_or-eq_default}
use lib.Seq.{get_or-drop, drop-cons, drop-drop, take-take, length-take-le, get_or-take}
use lib.Bits.{bit_xor, xor_lt}
use lib.Pow.{pow-add, shl_exact}
use Rattle.std.proofs.lemmas.List.{drop-take}
use Rattle.std.specs.Simd.{first_chunks}
use Rattle.crc.specs.Crc.{clocks, register, crc}
use Rattle.crc.specs.Little.{little, part}
use Rattle.crc.specs.Carry.{carried}
use Rattle.crc.proofs.Step.{clocks-add, clocks-more}
use Rattle.crc.proofs.Many.{carried-lt, carried_law}

pub byte_up : (n : ℕ) → 2 ^ (8 * suc n) ≡ 256 * 2 ^ (8 * n)
byte_up n = let e : 8 * suc n ≡ 8 * n + 8 = omega arith in rw (e, pow-add 2 (8 * n) 8) (omega arith)

-- the first m bytes and the n after them
pub little-add : (m n : ℕ) (l : List ℕ) → m ≤ length l → little (take (m + n) l) ≡ little (take m l) + 2 ^ (8 * m) * little (take n (drop m l))
unfolding little
little-add zero n l h = rw (zero-add n) (omega arith)
little-add (suc m) n [] h = absurd (omega arith)
little-add (suc m) n (b ∷ l) h =
    let e : 2 ^ (8 * suc m) * little (take n (drop m l)) ≡ 256 * (2 ^ (8 * m) * little (take n (drop m l))) = rw (byte_up m) (mul_assoc 256 (2 ^ (8 * m)) (little (take n (drop m l)))) in
    rw (suc-add m n) (omega (arith, little-add m n l (omega arith)))

-- a number of n bytes
pub little-lt : (n : ℕ) (l : List ℕ) → ((k : ℕ) → get_or l k 0 < 256) → little (take n l) < 2 ^ (8 * n)
unfolding little
little-lt zero l b = omega arith
little-lt (suc n) [] b = omega (arith, byte_up n, little-lt n [] (λ k. b (suc k)))
little-lt (suc n) (x ∷ l) b = omega (arith, byte_up n, b 0, little-lt n l (λ k. b (suc k)))

little_one : (s : List ℕ) (i : ℕ) → i < length s → little (take 1 (drop i s)) ≡ get_or s i 0
unfolding little
little_one s i h = rw (drop-cons s i 0 h) (omega arith)

-- one byte more of n, moved up past those below it
pub little_next : (n : ℕ) (s : List ℕ) (k b : ℕ) → ((i : ℕ) → get_or s i 0 < 256) → n ≤ 8 → n ≤ length s → k < n → b ≡ get_or (take n s) k 0
    → little (take k s) + b * 2 ^ (8 * k) % 2 ^ 64 ≡ little (take (k + 1) s)
little_next n s k b bytes h l i p =
    let e : b ≡ get_or s k 0 = p ∙ get_or-take n s k 0 i in
    let f : b < 2 ^ 8 = omega (arith, bytes k) in
    let g : b * 2 ^ (8 * k) % 2 ^ 64 ≡ b * 2 ^ (8 * k) = shl_exact 8 (8 * k) 64 f (omega arith) in
    rw (g, e, little-add k 1 s (omega arith), little_one s k (omega arith)) (omega arith)

-- n bytes of the register are 8 × n clocks
pub register-take : (n : ℕ) (l : List ℕ) (r : ℕ) → ((k : ℕ) → get_or l k 0 < 256) → n ≤ length l
    → register (clocks (8 * n) (little (take n l)) r) (drop n l) ≡ register r l
unfolding register little clocks
register-take zero l r b h = refl
register-take (suc n) [] r b h = absurd (omega arith)
register-take (suc n) (x ∷ l) r b h =
    let w : ℕ = little (take n l) in
    let e : 8 * suc n ≡ 8 + 8 * n = omega arith in
    let d : (x + 256 * w) / 2 ^ 8 ≡ w = omega (arith, b 0) in
    ap (λ (z : ℕ). register z (drop n l))
    (ap (λ (k : ℕ). clocks k (x + 256 * w) r) e ∙ clocks-add 8 (8 * n) (x + 256 * w) r ∙ ap₂ (λ (p q : ℕ). clocks (8 * n) p q) d (clocks-more 8 x w r))
    ∙ register-take n l (clocks 8 x r) (λ k. b (suc k)) (omega arith)

-- ---- as the code goes

pub pair_law : (s : List ℕ) (i a b : ℕ) → i + 2 ≤ length s → a ≡ get_or s i 0 → b ≡ get_or s (i + 1) 0 → a + 256 * b ≡ little (part s i 2)
pair_law s i a b h p q =
    let x = little-add 1 1 (drop i s) (omega (arith, length-drop i s)) in
    let y = little_one s i (omega arith) in
    let z = rw (drop-drop 1 i s) at x in
    let w = little_one s (i + 1) (omega arith) in
    omega arith

-- n bytes more
pub more_law : (n : ℕ) (s : List ℕ) (r w y x : ℕ) → ((k : ℕ) → get_or s k 0 < 256) → n ≤ length s
    → w ≡ little (take n s) → y ≡ clocks (8 * n) w r → x ≡ register y (drop n s) → x ≡ register r s
more_law n s r w y x b h p q e =
    e ∙ ap (λ (z : ℕ). register z (drop n s)) (q ∙ ap (λ (z : ℕ). clocks (8 * n) z r) p) ∙ register-take n s r b h

-- from byte i on
pub more_at : (n : ℕ) (s : List ℕ) (i j r w y a : ℕ) → ((k : ℕ) → get_or s k 0 < 256) → i + n ≤ length s → j ≡ i + n
    → w ≡ little (take n (drop i s)) → y ≡ clocks (8 * n) w r → register r (drop i s) ≡ a → register y (drop j s) ≡ a
more_at n s i j r w y a b h e p q f =
    more_law n (drop i s) r w y (register y (drop j s)) (λ k. rw (get_or-drop i s k 0) (b (i + k))) (omega (arith, length-drop i s)) p q
    (ap (register y) (ap (λ (m : ℕ). drop m s) e ∙ sym (drop-drop n i s))) ∙ f

-- no byte more
pub none_law : (s : List ℕ) (i r : ℕ) → length s ≤ i → register r (drop i s) ≡ r
unfolding register
none_law s i r h = rw (drop_of_length-le s h)

-- the last byte
pub last_law : (s : List ℕ) (i r w y a : ℕ) → ((k : ℕ) → get_or s k 0 < 256) → i + 1 ≡ length s
    → w ≡ get_or s i 0 → y ≡ clocks 8 w r → register r (drop i s) ≡ a → y ≡ a
last_law s i r w y a b e p q f =
    sym (none_law s (i + 1) y (omega arith)) ∙ more_at 1 s i (i + 1) r w y a b (omega arith) refl (p ∙ sym (little_one s i (omega arith))) q f

-- eight bytes more where six follow, and 64 bits of the register are left
pub carried-more : (s : List ℕ) (r w : ℕ) → ((k : ℕ) → get_or s k 0 < 256) → 14 ≤ length s → r < 2 ^ 64 → w < 2 ^ 64 → w ≡ little (take 8 s)
    → register (carried (bit_xor r w)) (drop 8 s) ≡ register r s
carried-more s r w b h l m p =
    let c : (k : ℕ) → get_or (drop 8 s) k 0 < 256 = λ k. rw (get_or-drop 8 s k 0) (b (8 + k)) in
    let v : ℕ = little (take 6 (drop 8 s)) in
    let a : v < 2 ^ 48 = little-lt 6 (drop 8 s) c in
    let u : 6 ≤ length (drop 8 s) = omega (arith, length-drop 8 s) in
    sym (register-take 6 (drop 8 s) (carried (bit_xor r w)) c u)
    ∙ ap (λ (z : ℕ). register z (drop 6 (drop 8 s))) (carried_law r w v l m a)
    ∙ register-take 6 (drop 8 s) (clocks 64 w r) c u
    ∙ more_law 8 s r w (clocks 64 w r) (register (clocks 64 w r) (drop 8 s)) b (omega arith) p refl refl

-- from byte i on
pub carried_at : (s : List ℕ) (i j r w a : ℕ) → ((k : ℕ) → get_or s k 0 < 256) → i + 14 ≤ length s → j ≡ i + 8 → r < 2 ^ 64 → w < 2 ^ 64
    → w ≡ little (take 8 (drop i s)) → register r (drop i s) ≡ a → register (carried (bit_xor r w)) (drop j s) ≡ a
carried_at s i j r w a b h e l m p f =
    ap (register (carried (bit_xor r w))) (ap (λ (n : ℕ). drop n s) e ∙ sym (drop-drop 8 i s))
    ∙ carried-more (drop i s) r w (λ k. rw (get_or-drop i s k 0) (b (i + k))) (omega (arith, length-drop i s)) l m p ∙ f

-- a part of a part
pub part_in : (n k m : ℕ) (l : List ℕ) → k + n ≤ m → take n (drop k (take m l)) ≡ take n (drop k l)
part_in n k m l h =
    let e : m ≡ k + (m - k) = omega arith in
    ap (λ (z : ℕ). take n (drop k (take z l))) e ∙ ap (take n) (drop-take k (m - k) l) ∙ take-take n (m - k) (drop k l) (omega arith)

-- ---- in chunks

-- the chunk at place i
pub chunk_at : (n k i : ℕ) (s : List ℕ) → i < k → get_or (first_chunks n k s) i [] ≡ take n (drop (n * i) s)
chunk_at n zero i s h = absurd (omega arith)
chunk_at n (suc k) zero s h = rw (mul-zero n) refl
chunk_at n (suc k) (suc i) s h =
    chunk_at n k i (drop n s) (omega arith) ∙ ap (take n) (drop-drop (n * i) n s ∙ ap (λ (j : ℕ). drop j s) (omega arith))

-- and its number
pub chunk_word : (n k i : ℕ) (s : List ℕ) (l : List (List ℕ)) → l ≡ first_chunks n k s → i < k → little (take n (get_or l i [])) ≡ little (take n (drop (n * i) s))
chunk_word n k i s l e h = rw e (ap little (ap (take n) (chunk_at n k i s h) ∙ take-take n n (drop (n * i) s) (omega arith)))

-- ---- 22 bytes

module _ (s : List ℕ) (i : ℕ) (bytes : (k : ℕ) → get_or s k 0 < 256) (long : i + 22 ≤ length s) where
  abbrev these : List ℕ
  these = part s i 22

  inner : (k n : ℕ) → k + n ≤ 22 → little (part these k n) ≡ little (part s (i + k) n)
  inner k n h = ap little (part_in n k 22 (drop i s) h ∙ ap (take n) (drop-drop k i s))

  these-length : length these ≡ 22
  these-length = length-take-le 22 (drop i s) (omega (arith, length-drop i s))

  these-bytes : (k : ℕ) → get_or these k 0 < 256
  these-bytes k = elim (dec_lt k 22) [
    | yes h ↦ rw (get_or-take 22 (drop i s) k 0 h, get_or-drop i s k 0) (bytes (i + k))
    | no h ↦ rw (get_or-eq_default these 0 {n = k} (omega (arith, these-length))) (omega arith)
  ]

  -- eight, eight and six of which the last two are 0
  pub twenty-two : (v w q a b y : ℕ) → v < 2 ^ 64 → w < 2 ^ 64 → v ≡ little (part s i 8) → w ≡ little (part s (i + 8) 8) → q ≡ little (part s (i + 16) 4)
      → little (part s (i + 20) 2) ≡ 0 → a ≡ carried (bit_xor 0xFFFF v) → b ≡ carried (bit_xor a w) → y ≡ clocks 48 q b → 0xFFFF - y ≡ crc these
  unfolding crc
  twenty-two v w q a b y hv hw ev ew eq z ea eb ey =
      let e0 : i + 0 ≡ i = omega arith in
      let f : v ≡ little (take 8 these) = ev ∙ sym (inner 0 8 (omega arith) ∙ ap (λ (k : ℕ). little (part s k 8)) e0) in
      let g : w ≡ little (take 8 (drop 8 these)) = ew ∙ sym (inner 8 8 (omega arith)) in
      let j : i + 16 + 4 ≡ i + 20 = omega arith in
      let p = little-add 4 2 (drop (i + 16) s) (omega (arith, length-drop (i + 16) s)) in
      let m : little (part s (i + 16) 6) ≡ q = rw (drop-drop 4 (i + 16) s, j) at p ∙ rw z (omega arith) in
      let d : q ≡ little (take 6 (drop 16 these)) = sym (inner 16 6 (omega arith) ∙ m) in
      let x : 0xFFFF < 2 ^ 64 = omega arith in
      let n = these-length in
      let r : register 0xFFFF these ≡ y =
      sym (carried_at these 0 8 0xFFFF v _ these-bytes (omega arith) refl x hv f refl)
      ∙ ap (λ (u : ℕ). register u (drop 8 these)) (sym ea)
      ∙ sym (carried_at these 8 16 a w _ these-bytes (omega arith) refl (rw ea (carried-lt (bit_xor 0xFFFF v) (xor_lt 64 0xFFFF v x hv))) hw g refl)
      ∙ ap (λ (u : ℕ). register u (drop 16 these)) (sym eb)
      ∙ sym (more_at 6 these 16 22 b q y _ these-bytes (omega arith) refl d ey refl) ∙ none_law these 22 y (omega arith) in
      ap (λ (u : ℕ). 0xFFFF - u) (sym r)
