-- A list of bytes is copied onto another part by part: parts that follow each other are one part, and once the last byte is copied the two are
-- the same. Assumes nothing.
use mathlib.Core.Path.{◌≡◌, sym, ap, ◌∙◌}
use mathlib.Core.Logic.{⊎_elim, inl, inr}
use mathlib.Core.List.{List}
use Prim.Native.Nat.{ℕ, ◌+◌, ◌-◌, ◌*◌, ◌≤◌, ◌<◌}
use native.Mathlib.Omega.{arith}
use lib.ListN.{length}
use Rattle.bits.specs.Bits.{Bytes, bit, field, store}
use Rattle.bits.proofs.Laws.{lt-or-le, ext, store_is, length-store, bytes-store, bit-store_in, bit-store_out, digit-field}

-- m with the n bytes from byte k on that l has
abbrev pub pasted : List ℕ → List ℕ → ℕ → ℕ → List ℕ
pasted l m k n = store m (8 * k) (8 * n) (field l (8 * k) (8 * n))

pasted_in : (l m : List ℕ) (k n b : ℕ) → 8 * k ≤ b → b < 8 * (k + n) → b < 8 * length m → bit (pasted l m k n) b ≡ bit l b
pasted_in l m k n b h u v =
    let j = b - 8 * k in
    let e : 8 * k + j ≡ b = omega arith in
    sym (ap (bit (pasted l m k n)) e)
    ∙ bit-store_in m (8 * k) (8 * n) (field l (8 * k) (8 * n)) j (omega arith) (omega arith)
    ∙ digit-field l (8 * k) (8 * n) j (omega arith)
    ∙ ap (bit l) e

pub pasted-next : (l m : List ℕ) (k n o : ℕ) → k + (n + o) ≤ length m → pasted l (pasted l m k n) (k + n) o ≡ pasted l m k (n + o)
pasted-next l m k n o h =
    let p = pasted l m k n in
    let e = length-store m (8 * k) (8 * n) (field l (8 * k) (8 * n)) in
    store_is m (pasted l p (k + n) o) (8 * k) (8 * (n + o)) (field l (8 * k) (8 * (n + o))) (bytes-store p _ _ _) (length-store p _ _ _ ∙ e)
    (λ j u v. ⊎_elim
    (λ w. bit-store_out p (8 * (k + n)) (8 * o) _ (8 * k + j) (inl (omega arith)) ∙ pasted_in l m k n (8 * k + j) (omega arith) (omega arith) v)
    (λ w. pasted_in l p (k + n) o (8 * k + j) (omega arith) (omega arith) (omega arith))
    (lt-or-le j (8 * n))
    ∙ sym (digit-field l (8 * k) (8 * (n + o)) j u))
    (λ b u v. bit-store_out p (8 * (k + n)) (8 * o) _ b (⊎_elim (λ w. inl (omega arith)) (λ w. inr (omega arith)) u)
    ∙ bit-store_out m (8 * k) (8 * n) _ b (⊎_elim (λ w. inl (omega arith)) (λ w. inr (omega arith)) u))

-- m is as long as l, and its first i bytes are those of l
pub record Begun (l m : List ℕ) (i : ℕ) : Type 0 where
  pub many : length m ≡ length l
  pub reached : i ≤ length l
  pub so_far : (b : ℕ) → b < 8 * i → bit m b ≡ bit l b

pub begun-none : (l m : List ℕ) → length l ≡ length m → Begun l m 0
begun-none l m e = record { many = sym e; reached = omega arith; so_far = λ b h. absurd (omega arith) }

module _ {l m : List ℕ} {i : ℕ} (k n : ℕ) (h : k ≤ i) (f : Begun l m i) where
  pub begun_more : k + n ≤ length l → Begun l (pasted l m k n) (k + n)
  begun_more u =
      let e = f.many in
      record {
        many = length-store m (8 * k) (8 * n) (field l (8 * k) (8 * n)) ∙ e;
        reached = u;
        so_far = λ b v. ⊎_elim (λ w. bit-store_out m (8 * k) (8 * n) _ b (inl w) ∙ f.so_far b (omega arith))
            (λ w. pasted_in l m k n b w v (omega arith)) (lt-or-le b (8 * k));
      }

  pub begun-last : Bytes l → k + n ≡ length l → pasted l m k n ≡ l
  begun-last a u =
      let g = begun_more (omega arith) in
      ext (pasted l m k n) l (bytes-store m (8 * k) (8 * n) (field l (8 * k) (8 * n))) a g.many (λ b v. g.so_far b (omega (arith, g.many)))
