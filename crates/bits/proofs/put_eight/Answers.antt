-- `bits::put_eight` meets its contract: the old digits are taken out of the eight bytes' number, and those of v put in. Assumes nothing.
use mathlib.Core.Path.{◌≡◌, ◌∙◌, sym, ap, refl}
use mathlib.Core.List.{List}
use Prim.Native.Nat.{ℕ, ◌≤◌, ◌<◌, ◌+◌, ◌-◌, ◌*◌, ◌/◌, ◌%◌, ◌^◌}
use native.Mathlib.Nat.{mod-eq_of_lt, add_comm, add-mul}
use native.Mathlib.Omega.{arith}
use lib.Pow.{split, shr-shr}
use lib.ListN.{length}
use borrow.Author.Rules.{rules}
use Rattle.bits.specs.Bits.{field, store}
use Rattle.bits.proofs.Laws.{field_about, field_lt, store_wider}
use Rattle.bits.proofs.put_eight.Goals.{After-low-2}
use Rattle.bits.proofs.put_eight.Goals as goal

-- a number by its digits before the w, those w, and the c after
whole : (o w c : ℕ) → (o / 2 ^ (w + c) * 2 ^ w + o / 2 ^ c % 2 ^ w) * 2 ^ c + o % 2 ^ c ≡ o
whole o w c =
    let e : o / 2 ^ (w + c) ≡ o / 2 ^ c / 2 ^ w = ap (λ (n : ℕ). o / 2 ^ n) (add_comm w c) ∙ sym (shr-shr o c w) in
    ap (λ (x : ℕ). (x * 2 ^ w + o / 2 ^ c % 2 ^ w) * 2 ^ c + o % 2 ^ c) e ∙ ap (λ (x : ℕ). x * 2 ^ c + o % 2 ^ c) (split (o / 2 ^ c) w) ∙ split o c

-- the old number o less its w digits k, and with m in their place: nothing wraps
record Changed (o k m c new : ℕ) : Type 0 where
  under : k * 2 ^ c % 2 ^ 64 ≤ o
  all : o - k * 2 ^ c % 2 ^ 64 + m * 2 ^ c % 2 ^ 64 < 2 ^ 64
  is : o - k * 2 ^ c % 2 ^ 64 + m * 2 ^ c % 2 ^ 64 ≡ new

changed : (o w c k m new : ℕ) → k ≡ o / 2 ^ c % 2 ^ w → o < 2 ^ 64 → new ≡ (o / 2 ^ (w + c) * 2 ^ w + m) * 2 ^ c + o % 2 ^ c → new < 2 ^ 64 → Changed o k m c new
changed o w c k m new e h f g =
    let p = rw (← e) at (whole o w c) in
    let a = add-mul (o / 2 ^ (w + c) * 2 ^ w) k (2 ^ c) in
    let b = add-mul (o / 2 ^ (w + c) * 2 ^ w) m (2 ^ c) in
    let x : k * 2 ^ c % 2 ^ 64 ≡ k * 2 ^ c = mod-eq_of_lt (omega arith) in
    let y : m * 2 ^ c % 2 ^ 64 ≡ m * 2 ^ c = mod-eq_of_lt (omega arith) in
    record { under = rw x (omega arith); all = rw (x, y) (omega arith); is = rw (x, y) (omega arith) }

-- of the eight bytes' number
made : (l : List ℕ) (first w v o k m : ℕ) → w ≤ 56 → first / 8 + 8 ≤ length l → o ≡ field l (8 * (first / 8)) 64
    → k ≡ o / 2 ^ (64 - (first % 8 + w)) % 2 ^ w → m ≡ v % 2 ^ w
    → Changed o k m (64 - (first % 8 + w)) (field (store l first w v) (8 * (first / 8)) 64)
made l first w v o k m hw hl eo ek em =
    let c : ℕ = 64 - (first % 8 + w) in
    changed o w c k m (field (store l first w v) (8 * (first / 8)) 64) ek (rw eo (field_lt l (8 * (first / 8)) 64))
    (rw (em, eo) (field_about l (8 * (first / 8)) (first % 8) w c v first 64 (omega arith) (omega arith) (omega arith)))
    (field_lt (store l first w v) (8 * (first / 8)) 64)

abbrev spare_of : After-low-2 → ℕ
spare_of c = let a = c.args in 64 - (a.first % 8 + a.width)

abbrev new-of : After-low-2 → ℕ
new-of c = let a = c.args in field (store a.s.now a.first a.width a.v) (8 * (a.first / 8)) 64

at : (c : After-low-2) → Changed c.load-old.result c.low.result c.low-2.result (spare_of c) (new-of c)
at c =
    let a = c.args in
    made a.s.now a.first a.width a.v c.load-old.result c.low.result c.low-2.result c.requires.1 c.requires.2
    c.load-old.ensures c.low.ensures c.low-2.ensures

pub overflow_sub-old : goal.overflow_sub-old
overflow_sub-old c =
    let a = c.args in
    (made a.s.now a.first a.width a.v c.load-old.result c.low.result (a.v % 2 ^ a.width) c.requires.1 c.requires.2
    c.load-old.ensures c.low.ensures refl).under

pub overflow_add-old : goal.overflow_add-old
overflow_add-old c = record { fits = (at c).all }

pub save-requires : goal.save-requires
save-requires c =
    let a = c.args in
    (rw (at c).is (field_lt (store a.s.now a.first a.width a.v) (8 * (a.first / 8)) 64), search rules)

pub returns : goal.returns
returns c =
    let a = c.args in
    c.save.ensures
    ∙ ap (store a.s.now (8 * (a.first / 8)) 64) (at (goal.at.returns c).After-low-2).is
    ∙ store_wider a.s.now (8 * (a.first / 8)) 64 a.first a.width a.v (omega arith) (omega arith)
