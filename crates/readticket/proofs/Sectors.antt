-- A product is copied sector by sector in chain order: after k sectors the buffer has the first k of them, and behind them what it had.
-- Assumes nothing.
use mathlib.Core.Path.{◌≡◌, refl, sym, ap, ◌∙◌}
use mathlib.Core.List.{List, [], ◌∷◌, ◌++◌, append_assoc, append-nil}
use Prim.Native.Nat.{ℕ, zero, suc, ◌+◌, ◌-◌, ◌*◌, ◌≤◌, ◌<◌}
use native.Mathlib.Nat.{zero-mul, suc-mul, mul-le-mul_right}
use native.Mathlib.Numerals.{add-one}
use native.Mathlib.Omega.{arith}
use lib.ListN.{length, get_or, take, drop, length-append, length-drop}
use lib.Seq.{take-suc, take_at, drop_at, drop-drop, take-length}
use borrow.Rule.Slice.PartMut.{put_mid, mid_len}
use Rattle.chains.specs.Chain.{Sector}
use Rattle.image.specs.Image.{B, S, sectors, sector, joined, product}
use Rattle.image.specs.Shape.{Shaped, sector_place}
use Rattle.image.specs.declared.Shape.{Shape}
use Rattle.image.proofs.First.{product-size, length-sector}
use Rattle.image.proofs.Shapes.{sector-is}
use Rattle.image.proofs.Places.{cut, sector-in, count-few, size_in}
use Rattle.reads.specs.Asked.{over}
use Rattle.image.specs.Facts.{Present}
use Rattle.reads.proofs.Known.{there-at}

joined-append : (c is ks : List ℕ) → joined c (is ++ ks) ≡ joined c is ++ joined c ks
unfolding joined
joined-append c [] ks = refl
joined-append c (i ∷ is) ks = rw (joined-append c is ks) (sym (append_assoc (sector c i) (joined c is) (joined c ks)))

joined_one : (c : List ℕ) (i : ℕ) → joined c (i ∷ []) ≡ sector c i
unfolding joined
joined_one c i = append-nil (sector c i)

-- one sector more
pub joined-more : (c ss : List ℕ) (k : ℕ) → k < length ss → joined c (take (k + 1) ss) ≡ joined c (take k ss) ++ sector c (get_or ss k 0)
joined-more c ss k h =
    rw (add-one k, take-suc ss k 0 h, joined-append c (take k ss) (get_or ss k 0 ∷ []), joined_one c (get_or ss k 0))

-- y goes behind the n elements x that were copied before it
pub put-more : (x y b : List ℕ) (n m : ℕ) → length x ≡ n → length y ≡ m → put_mid n (n + m - n) (x ++ drop n b) y ≡ (x ++ y) ++ drop (n + m) b
put-more x y b n m e f =
    let d : n + m - n ≡ m = omega arith in
    rw (take_at x (drop n b) n e, drop_at x (drop n b) n e, d, drop-drop m n b) (sym (append_assoc x y (drop (n + m) b)))

module _ {c : List ℕ} {j : ℕ} (t : Present c j) where
  pub joined_length : (k : ℕ) → k ≤ length (sectors c j) → length (joined c (take k (sectors c j))) ≡ k * B c
  unfolding joined
  joined_length zero h = omega arith
  joined_length (suc k) h =
      let m = joined-more c (sectors c j) k (omega arith) in
      let ih = joined_length k (omega arith) in
      let l = length-sector c t.obeys (get_or (sectors c j) k 0) (there-at t k (omega arith)) in
      rw (← add-one k, m, length-append (joined c (take k (sectors c j))) (sector c (get_or (sectors c j) k 0)), ih, l)
      (omega (arith, ap (λ (n : ℕ). n * B c) (add-one k), suc-mul k (B c)))

  -- the whole product is copied
  pub joined-all : (k : ℕ) (b : List ℕ) → k ≡ length (sectors c j) → joined c (take k (sectors c j)) ++ drop (k * B c) b ≡ over (product c j) b
  unfolding product
  joined-all k b e = rw (e, take-length (sectors c j), ← product-size c t.obeys t.is-product)

-- ---- the loop of the copy

-- the buffer b after k sectors
abbrev pub partly : List ℕ → Shape → ℕ → List ℕ → ℕ → List ℕ
partly c g j b k = joined c (take k (sectors c j)) ++ drop (k * g.size) b

pub partly_none : (c : List ℕ) (g : Shape) (j : ℕ) (b : List ℕ) → b ≡ partly c g j b 0
unfolding joined
partly_none c g j b = rw (zero-mul g.size)

module _ {c : List ℕ} {g : Shape} (s : Shaped c g) {j : ℕ} (t : Present c j) where
  sector-part : (i : ℕ) → take (sector_place g i + g.size - sector_place g i) (drop (sector_place g i) c) ≡ sector c i
  unfolding sector
  sector-part i = rw (cut (sector_place g i) g.size, sector-is s i, s.size_is)

  pub copied-length : (k : ℕ) → k ≤ length (sectors c j) → length (joined c (take k (sectors c j))) ≡ k * g.size
  copied-length k h = rw s.size_is (joined_length t k h)

  pub partly-length : (b : List ℕ) (k : ℕ) → k ≤ length (sectors c j) → k * g.size ≤ length b → length (partly c g j b k) ≡ length b
  partly-length b k h l =
      rw (length-append (joined c (take k (sectors c j))) (drop (k * g.size) b), copied-length k h, length-drop (k * g.size) b) (omega arith)

  pub partly_more : (b : List ℕ) (k i : ℕ) → k < length (sectors c j) → i ≡ get_or (sectors c j) k 0
      → put_mid (k * g.size) (k * g.size + g.size - k * g.size) (partly c g j b k) (take (sector_place g i + g.size - sector_place g i) (drop (sector_place g i) c)) ≡ partly c g j b (k + 1)
  partly_more b k i h e =
      let n = copied-length k (omega arith) in
      let l : length (sector c i) ≡ g.size = rw e (length-sector c t.obeys (get_or (sectors c j) k 0) (there-at t k h)) ∙ sym s.size_is in
      let q : (k + 1) * g.size ≡ k * g.size + g.size = omega (arith, ap (λ (m : ℕ). m * g.size) (add-one k), suc-mul k g.size) in
      let m : joined c (take (k + 1) (sectors c j)) ≡ joined c (take k (sectors c j)) ++ sector c i = rw e (joined-more c (sectors c j) k h) in
      rw (sector-part i, m, q) (put-more (joined c (take k (sectors c j))) (sector c i) b (k * g.size) g.size n l)

  pub partly-all : (b : List ℕ) (k : ℕ) → k ≡ length (sectors c j) → partly c g j b k ≡ over (product c j) b
  partly-all b k e = rw s.size_is (joined-all t k b e)

-- where the loop stands after k of n sectors, at sector i: the sector lies within the image, its part within the n sectors, and these are smaller
-- than the image
pub record Turn (c : List ℕ) (g : Shape) (n k i : ℕ) : Type 0 where
  pub source : sector_place g i + g.size ≤ length c
  pub target : k * g.size + g.size ≤ n * g.size
  pub whole : 4 + n * g.size ≤ length c
  pub least : 32 ≤ g.size
  pub most : g.size ≤ 255
  pub sector_byte : i ≤ 255
  pub count_byte : n ≤ 255
  pub length_top : length c ≤ 65029

pub turn : {c : List ℕ} {g : Shape} → Shaped c g → {j : ℕ} → Present c j → {n k i : ℕ} → n ≡ length (sectors c j) → k < n → Sector (S c) i → Turn c g n k i
turn {c} {g} s t {n} {k} {i} e h u =
    let b = s.in_bounds in
    record {
      source = sector-in s i u;
      target = omega (arith, suc-mul k g.size, mul-le-mul_right {n = n} g.size h);
      whole = size_in s t e;
      least = omega (arith, s.size_is);
      most = omega (arith, s.size_is);
      sector_byte = omega (arith, u.high);
      count_byte = omega (arith, count-few s t e);
      length_top = b.length_top;
    }

-- a sector and the part of the buffer that it goes to have the same length, which is a block of thirty-two at least
pub parts_same : (l b : List ℕ) (a d n : ℕ) → a + n ≤ length l → d + n ≤ length b → 32 ≤ n
    → (length (take (a + n - a) (drop a l)) ≡ length (take (d + n - d) (drop d b))) × (32 ≤ length (take (a + n - a) (drop a l)))
parts_same l b a d n h k u =
    let e : a + n - a ≡ d + n - d = omega arith in
    (mid_len a (a + n) l h ∙ e ∙ sym (mid_len d (d + n) b k), omega (arith, mid_len a (a + n) l h))
