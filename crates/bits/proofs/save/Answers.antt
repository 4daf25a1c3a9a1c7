-- `bits::save` meets its contract. The loop's invariant, with t the list that is to come: from byte from + k on the slice
-- is t, before that it is what it was, and y is what the bytes of t before from + k carry. Assumes nothing.
use mathlib.Core.Path.{◌≡◌, ◌∙◌, sym, refl, subst}
use mathlib.Core.Logic.{⊎_elim, inl, inr}
use mathlib.Core.List.{List}
use Prim.Native.Nat.{ℕ, ◌≤◌, ◌<◌, ◌-◌, ◌+◌, ◌*◌, ◌/◌, ◌%◌, ◌^◌}
use native.Mathlib.Omega.{arith}
use borrow.Author.Rules.{rules}
use lib.ListN.{length, set}
use lib.Seq.{ext_get_or, get_or-set_same, get_or-set_other}
use Rattle.bits.specs.Bits.{store, Bytes}
use Rattle.bits.proofs.Laws.{field-store, field_next, get_or-store-apart, length-store, bytes-store, lt-or-le}
use Rattle.bits.proofs.save.Invariants.{Half}
use Rattle.bits.proofs.save.Goals as goal

module _ (l : List ℕ) (from count x : ℕ) (b : Bytes l) where
  start : x < 2 ^ (8 * count) → from + count ≤ length l → Half l (store l (8 * from) (8 * count) x) l from (from + count) x
  start h k =
      let n : 8 * (from + count - from) ≡ 8 * count = omega arith in
      record {
        begun = omega arith;
        before = λ i j. refl;
        after = λ i j. sym (get_or-store-apart l (8 * from) (8 * count) x i (b i) (inl (omega arith)));
        rest = rw n (sym (field-store l (8 * from) (8 * count) x (omega arith) h));
      }

  finish : (s : List ℕ) (k y : ℕ) → length s ≡ length l → k ≤ from → Half l (store l (8 * from) (8 * count) x) s from k y
      → s ≡ store l (8 * from) (8 * count) x
  finish s k y e m h =
      ext_get_or 0 s (store l (8 * from) (8 * count) x) (e ∙ sym (length-store l (8 * from) (8 * count) x))
      (λ i j. ⊎_elim
      (λ o. h.before i o ∙ sym (get_or-store-apart l (8 * from) (8 * count) x i (b i) (inr (let f = h.begun in omega arith))))
      (λ o. h.after i o) (lt-or-le i k))

step : (l t s : List ℕ) (from k y : ℕ) → Bytes t → k < length s → from ≤ k
    → Half l t s from (k + 1) y → Half l t (set s k (y % 256)) from k (y / 256)
step l t s from k y b u f h =
    let p : from + (k - from) ≡ k = omega arith in
    let q : k + 1 - from ≡ k - from + 1 = omega arith in
    let g = rw p at (b (from + (k - from))) in
    let n = rw p at (field_next t from (k - from) (b (from + (k - from)))) in
    let r = rw q at h.rest in
    record {
      begun = f;
      before = λ i j. get_or-set_other s k i (y % 256) 0 (omega arith) ∙ h.before i (omega arith);
      after = λ i j. ⊎_elim
          (λ o. get_or-set_other s k i (y % 256) 0 (omega arith) ∙ h.after i (omega arith))
          (λ o. let e : i ≡ k = omega arith in rw e (get_or-set_same s k (y % 256) 0 u ∙ omega arith))
          (lt-or-le k i);
      rest = omega arith;
    }

pub loop-k-init : goal.loop-k-init
loop-k-init c =
    let a = c.args in
    start a.s.now a.from a.count a.x (λ i. search rules) c.requires.0 c.requires.1

pub loop-k-preserved : goal.loop-k-preserved
loop-k-preserved c =
    let a = c.args in
    let l = c.loop-k in
    let t = store a.s.now (8 * a.from) (8 * a.count) a.x in
    let e : a.from + l.k ≡ (a.from + (l.k - 1)) + 1 = omega arith in
    step a.s.now t l.s a.from (a.from + (l.k - 1)) l.y (bytes-store a.s.now (8 * a.from) (8 * a.count) a.x) (omega arith) (omega arith)
    (subst (λ (n : ℕ). Half a.s.now t l.s a.from n l.y) e l.invariant)

pub returns : goal.returns
returns c =
    let a = c.args in
    let l = c.loop-k in
    finish a.s.now a.from a.count a.x (λ i. search rules) l.s (a.from + l.k) l.y l.auto.s (omega arith) l.invariant
