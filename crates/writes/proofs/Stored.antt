-- What is stored in the part that is a product's first sector, lent on, is stored in the image: the part comes back in its place. Assumes nothing.
use mathlib.Core.Path.{◌≡◌, sym}
use mathlib.Core.List.{List, [], ◌∷◌}
use Prim.Native.Nat.{ℕ, zero, suc, ◌+◌, ◌-◌, ◌*◌, ◌≤◌}
use native.Mathlib.Omega.{arith}
use lib.ListN.{length, take, drop}
use borrow.Rule.Slice.PartMut.{put_mid, put_same}
use Rattle.bits.specs.Bits.{Bytes, store}
use Rattle.bits.proofs.Laws.{store-part}
use Rattle.fields.specs.declared.Span.{Span}
use Rattle.fields.specs.declared.Layout.{Layout}
use Rattle.fields.specs.Lists.{list_of, bit_after, nth}
use Rattle.fields.specs.Ends.{start_of}
use Rattle.fields.specs.Packed.{pack_number, pack_in}
use Rattle.rules.specs.Answer.{if_done}
use Rattle.fields.specs.Fields.{stores, shifted}
use Rattle.fields.proofs.Joined.{lists-joined}
use Rattle.fields.proofs.Only.{joined-inside}
use Rattle.fields.proofs.Parts.{stores-part}
use Rattle.image.specs.Image.{sector_at}
use Rattle.image.specs.Shape.{Shaped, sector_place}
use Rattle.image.specs.declared.Shape.{Shape}
use Rattle.image.specs.Product.{product_at}
use Rattle.steps.specs.Step.{write, write_all, layout_of}
use Rattle.steps.specs.Steps.{next}
use Rattle.steps.proofs.Acts.{Taken, next-is}
use Rattle.image.proofs.Shapes.{sector-is}
use Rattle.image.proofs.Places.{cut, part_long, sector-in}
use Rattle.steps.proofs.Calls.{entry-sector}

-- the part from byte a on, where sector j starts
module _ {c : List ℕ} {g : Shape} (s : Shaped c g) {j : ℕ} (h : (1 ≤ j) × (j ≤ g.entries)) {a : ℕ} (u : a ≡ sector_place g j) where
  pub part_in : a + g.size ≤ length c
  part_in = rw u (sector-in s j (entry-sector s h))

  pub part_room : 256 ≤ 8 * length (take (a + g.size - a) (drop a c))
  part_room = let b = s.in_bounds in omega (arith, part_long c a g.size part_in, s.size_is)

  module _ (b : Bytes c) where
    pub field-placed : (v : ℕ) (p : Span) (m : List ℕ) → p.0 + p.1 ≤ 256
        → m ≡ store (take (a + g.size - a) (drop a c)) p.0 p.1 v
        → put_mid a (a + g.size - a) c m ≡ stores c (shifted (8 * sector_at c j) (p ∷ [])) (v ∷ [])
    unfolding stores shifted
    field-placed v p m k q =
        rw (q, cut a g.size, ← sector-is s j, ← u)
        (store-part c a g.size p.0 p.1 v b part_in (omega (arith, s.size_is, s.in_bounds.b_least)))

    -- of any list of places up to bit 256
    record-placed : (k : Layout) → bit_after k ≤ 256 → (vs : List ℕ)
        → put_mid a (a + g.size - a) c (stores (take (a + g.size - a) (drop a c)) (list_of k) vs) ≡ stores c (shifted (8 * sector_at c j) (list_of k)) vs
    record-placed k h vs =
        rw (cut a g.size, ← sector-is s j, ← u)
        (stores-part c a g.size (list_of k) vs b part_in
        (joined-inside (start_of k) (list_of k) (bit_after k) (lists-joined k) 0 (8 * g.size) (omega arith) (omega (arith, s.size_is, s.in_bounds.b_least))))

    pub laid : (k : Layout) → bit_after k ≤ 256 → (vs m : List ℕ) → m ≡ pack_in k vs (take (a + g.size - a) (drop a c))
        → put_mid a (a + g.size - a) c m ≡ if_done (pack_number k vs) (stores c (shifted (8 * sector_at c j) (list_of k)) vs) c
    laid k h vs m q = rw q (go (pack_number k vs))
      where
        go : (n : ℕ) → put_mid a (a + g.size - a) c (if_done n (stores (take (a + g.size - a) (drop a c)) (list_of k) vs) (take (a + g.size - a) (drop a c)))
            ≡ if_done n (stores c (shifted (8 * sector_at c j) (list_of k)) vs) c
        go zero = record-placed k h vs
        go (suc n) = put_same a (a + g.size - a) c

pub field_stored : (c : List ℕ) (j f v : ℕ) → Taken c (write j f v)
    → stores c (shifted (8 * sector_at c j) (nth (list_of (layout_of (product_at c j))) (f - 1) ∷ [])) (v ∷ []) ≡ next c (write j f v)
unfolding product_at
field_stored c j f v t = sym (next-is c (write j f v) t)

pub record-stored : (c : List ℕ) (j t r : ℕ) (vs : List ℕ) → Taken c (write_all j t r vs)
    → stores c (shifted (8 * sector_at c j) (list_of (layout_of (product_at c j)))) vs ≡ next c (write_all j t r vs)
unfolding product_at
record-stored c j t r vs k = sym (next-is c (write_all j t r vs) k)
