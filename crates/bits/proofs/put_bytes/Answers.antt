-- `bits::put_bytes` meets its contract: what is saved are the bytes that the field touches, as the stored list has them.
-- Assumes nothing.
use mathlib.Core.Path.{◌≡◌, ◌∙◌, sym, ap, refl}
use mathlib.Core.List.{List}
use Prim.Native.Nat.{ℕ, ◌≤◌, ◌<◌, ◌+◌, ◌-◌, ◌*◌, ◌/◌, ◌%◌, ◌^◌}
use native.Mathlib.Nat.{mod-eq_of_lt, le-mul_of_pos_right}
use native.Mathlib.Omega.{arith}
use lib.Pow.{pow_pos}
use lib.ListN.{length}
use Rattle.bits.specs.Bits.{field, store}
use Rattle.bits.proofs.Laws.{field_about, field_below, field_lt, store_wider}
use Rattle.bits.proofs.put_bytes.Goals.{After-low-2}
use Rattle.bits.proofs.put_bytes.Goals as goal

-- the number put together from its parts, of which none wraps
record Joined (h m c r whole : ℕ) : Type 0 where
  high : h % 2 ^ 64 + m < 2 ^ 64
  all : (h % 2 ^ 64 + m) * 2 ^ c % 2 ^ 64 + r < 2 ^ 64
  is : (h % 2 ^ 64 + m) * 2 ^ c % 2 ^ 64 + r ≡ whole

joined : (h m c r whole : ℕ) → whole ≡ (h + m) * 2 ^ c + r → whole < 2 ^ 64 → Joined h m c r whole
joined h m c r whole e l =
    let k = le-mul_of_pos_right (h + m) (pow_pos c) in
    let z : h % 2 ^ 64 ≡ h = mod-eq_of_lt (omega arith) in
    let y : (h + m) * 2 ^ c % 2 ^ 64 ≡ (h + m) * 2 ^ c = mod-eq_of_lt (omega arith) in
    record { high = rw z (omega arith); all = rw (z, y) (omega arith); is = rw (z, y) (sym e) }

-- what is computed from the old number, the digits of v and the old number's low digits
made : (l : List ℕ) (first w v n old m r : ℕ) → n ≡ (first % 8 + w + 7) / 8 → w ≤ 56 → first + w ≤ 8 * length l
    → old ≡ field l (8 * (first / 8)) (8 * n) → m ≡ v % 2 ^ w → r ≡ old % 2 ^ (8 * n - (first % 8 + w))
    → Joined (old / 2 ^ (w + (8 * n - (first % 8 + w))) * 2 ^ w) m (8 * n - (first % 8 + w)) r
    (field (store l first w v) (8 * (first / 8)) (8 * n))
made l first w v n old m r en hw hl eo em er =
    let c : ℕ = 8 * n - (first % 8 + w) in
    joined (old / 2 ^ (w + c) * 2 ^ w) m c r (field (store l first w v) (8 * (first / 8)) (8 * n))
    (rw (er, em, eo) (field_about l (8 * (first / 8)) (first % 8) w c v first (8 * n) (omega arith) (omega arith) hl))
    (field_below (store l first w v) (8 * (first / 8)) (8 * n) 64 (omega arith))

abbrev width_of : After-low-2 → ℕ
width_of c = c.args.width

abbrev bytes_of : After-low-2 → ℕ
bytes_of c = c.div_ceil-count.result

abbrev spare_of : After-low-2 → ℕ
spare_of c = 8 * bytes_of c - (c.args.first % 8 + width_of c)

whole : (c : After-low-2)
    → Joined (c.load-old.result / 2 ^ (width_of c + spare_of c) * 2 ^ width_of c) c.low.result (spare_of c)
    c.low-2.result
    (field (store c.args.s.now c.args.first (width_of c)
    c.args.v)
    (8 * (c.args.first / 8)) (8 * bytes_of c))
whole c =
    let a = c.args in
    made a.s.now a.first a.width a.v (bytes_of c) c.load-old.result c.low.result c.low-2.result
    (omega (arith, c.div_ceil-count.ensures)) c.requires.0 c.requires.1 c.load-old.ensures c.low.ensures c.low-2.ensures

pub overflow_add-x : goal.overflow_add-x
overflow_add-x c =
    let a = c.args in
    record {
      fits = (made a.s.now a.first a.width a.v _ c.load-old.result c.low.result _ (omega (arith, c.div_ceil-count.ensures)) c.requires.0 c.requires.1
          c.load-old.ensures c.low.ensures refl).high;
    }

pub overflow_add-x-2 : goal.overflow_add-x-2
overflow_add-x-2 c = record { fits = (whole c).all }

pub save-requires : goal.save-requires
save-requires c =
    let a = c.args in
    (rw (whole (goal.at.save-requires c).After-low-2).is (field_lt (store a.s.now a.first a.width a.v) (8 * (a.first / 8)) (8 * bytes_of (goal.at.save-requires c).After-low-2)), omega arith)

pub returns : goal.returns
returns c =
    let a = c.args in
    c.save.ensures
    ∙ ap (store a.s.now (8 * (a.first / 8)) (8 * bytes_of (goal.at.returns c).After-low-2)) (whole (goal.at.returns c).After-low-2).is
    ∙ store_wider a.s.now (8 * (a.first / 8)) (8 * bytes_of (goal.at.returns c).After-low-2) a.first a.width a.v (omega arith) (omega arith)
