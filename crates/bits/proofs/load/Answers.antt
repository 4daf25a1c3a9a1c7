-- `bits::load` meets its contract. The loop's invariant: the number holds the bytes passed. Assumes nothing.
use mathlib.Core.Path.{◌≡◌, ◌∙◌, sym}
use mathlib.Core.List.{List}
use Prim.Native.Nat.{ℕ, ◌≤◌, ◌<◌, ◌+◌, ◌-◌, ◌*◌}
use native.Mathlib.Omega.{arith}
use borrow.Author.Rules.{rules}
use lib.ListN.{length, get_or, take, drop, length-take, length-drop}
use lib.Seq.{get_or-take, get_or-drop}
use Rattle.bits.specs.Bits.{Bytes, field}
use Rattle.bits.proofs.Laws.{field-zero, field_next, field_below}
use Rattle.bits.proofs.load.Goals.{After-from}
use Rattle.bits.proofs.load.Goals as goal

-- the bytes that are passed, and how many there are
abbrev items : List ℕ → ℕ → ℕ → List ℕ
items s from count = take (from + count - from) (drop from s)

many : (s : List ℕ) (from count : ℕ) → from + count ≤ length s → length (items s from count) ≡ count
many s from count h = omega (arith, length-take (from + count - from) (drop from s), length-drop from s)

-- one byte more
next : (s : List ℕ) (from count k x b : ℕ) → Bytes s → k < count → x ≡ field s (8 * from) (8 * k) → b ≡ get_or (items s from count) k 0
    → x * 256 + b ≡ field s (8 * from) (8 * (k + 1))
next s from count k x b bytes h e f =
    let g = get_or-take (from + count - from) (drop from s) k 0 (omega arith) ∙ get_or-drop from s k 0 in
    omega (arith, field_next s from k (bytes (from + k)))

pub loop-b-init : goal.loop-b-init
loop-b-init c = sym (field-zero c.args.s.now (8 * c.args.from))

pub overflow_mul-x : goal.overflow_mul-x
overflow_mul-x c =
    let a = c.args in
    omega (arith, many a.s.now a.from a.count (omega arith), field_below a.s.now (8 * a.from) (8 * c.loop-b.b-index) 56)

added : (c : After-from) → let a = c.args in let l = c.loop-b in l.x * 256 + c.from.result ≡ field a.s.now (8 * a.from) (8 * (l.b-index + 1))
added c =
    let a = c.args in
    let l = c.loop-b in
    next a.s.now a.from a.count l.b-index l.x c.from.result (λ i. search rules) (omega (arith, many a.s.now a.from a.count)) l.invariant c.from.ensures

pub overflow_add-x : goal.overflow_add-x
overflow_add-x c =
    let a = c.args in
    omega (arith, added c, many a.s.now a.from a.count (omega arith), field_below a.s.now (8 * a.from) (8 * (c.loop-b.b-index + 1)) 64)

pub loop-b-preserved : goal.loop-b-preserved
loop-b-preserved c = added c

pub returns : goal.returns
returns c =
    let a = c.args in
    let e : c.loop-b.b-index ≡ a.count = omega (arith, many a.s.now a.from a.count) in
    rw e at c.loop-b.invariant
