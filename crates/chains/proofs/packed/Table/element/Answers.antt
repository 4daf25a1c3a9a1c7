-- `Table::element` meets its contract: an element of eight bits is a byte. Assumes nothing.
use Rattle.std.proofs.Common.{◌≡◌, ℕ, ◌+◌, ◌-◌, ◌*◌, ◌/◌, ◌%◌, ◌<◌, List, get_or, sym, ap, ◌∙◌, arith, rules}
use Rattle.bits.specs.Bits.{field}
use Rattle.bits.proofs.Laws.{field-byte}
use Rattle.chains.specs.Packed.{element_in}
use Rattle.chains.proofs.packed.Table.element.Goals as goal

whole-byte : (l : List ℕ) (first p i : ℕ) → p ≡ 8 → first % 8 ≡ 0 → get_or l (first / 8 + (i - 1)) 0 < 256
    → get_or l (first / 8 + (i - 1)) 0 ≡ element_in l first p i
whole-byte l first p i e w h =
    sym (field-byte l (first / 8 + (i - 1)) h)
    ∙ ap (λ (q : ℕ). field l q 8) (let z : 8 * (first / 8 + (i - 1)) ≡ first + 8 * (i - 1) = omega arith in z)
    ∙ ap (λ (q : ℕ). field l (first + q * (i - 1)) q) (sym e)

pub returns-then-t-eq8 : goal.returns-then-t-eq8
returns-then-t-eq8 c =
    let t = c.args.self.now in
    c.from.ensures ∙ whole-byte t.bytes.now t.place.first t.place.psi c.args.i c.if-t-eq8.true t.inside.whole (search rules)
