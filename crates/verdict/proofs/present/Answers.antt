-- `verdict::present` meets its contract: an entry's forty bits are zero exactly where its five bytes are. Assumes nothing.
use mathlib.Core.Path.{◌≡◌, ◌∙◌}
use mathlib.Core.Bool.{Bool, not}
use mathlib.Core.List.{List}
use Prim.Native.Nat.{ℕ, ◌+◌, ◌*◌, ◌≤◌}
use native.Mathlib.Omega.{arith}
use lib.Dec.{eqb}
use borrow.Author.Tests.{le-leb}
use Rattle.bits.specs.Bits.{field}
use Rattle.image.specs.Image.{e#}
use Rattle.image.specs.Verdict.{is_product}
use Rattle.image.specs.Shape.{Shaped, entry_place}
use Rattle.image.specs.declared.Shape.{Shape}
use Rattle.image.proofs.Shapes.{entry-is}
use Rattle.image.proofs.ZeroBytes.{third-filled, third-empty}
use Rattle.verdict.proofs.present.Goals as goal

-- the rules' test of entry j is that of its forty bits, at the place k where the shape has it
placed : {c : List ℕ} {g : Shape} {j k : ℕ} {r : Bool} → Shaped c g → (1 ≤ j) × (j ≤ g.entries) → k ≡ entry_place g j → r ≡ not (eqb (field c (8 * k) 40) 0) → r ≡ is_product c j
unfolding is_product
placed {c} {g} {j} s h p e = e ∙ rw (p ∙ entry-is s j, le-leb 1 j h.0, le-leb j (e# c) (omega arith))

pub returns-then-image-k-ne0 : goal.returns-then-image-k-ne0
returns-then-image-k-ne0 c =
    let k = c.entry_at-k.result in
    placed c.args.card.now.shaped c.requires c.entry_at-k.ensures (third-filled c.args.card.now.image.now k (λ i. (c.shared_slice_known-1.given (k + i)).fits) c.if-image-k-ne0.true)

pub returns : goal.returns
returns c =
    let k = c.entry_at-k.result in
    placed c.args.card.now.shaped c.requires c.entry_at-k.ensures (third-empty c.args.card.now.image.now k (λ i. (c.shared_slice_known-5-1.given (k + i)).fits) c.if-image-k-ne0.false)
