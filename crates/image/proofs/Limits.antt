-- Document 01's bounds: the smallest image that can be accepted has 132 bytes, and the largest 60,439; its chains have at most S - 3 sectors
-- together, and a check consults at most 2 × (S - 3) elements. And a broken chain in its words.
-- Assumes nothing.
use mathlib.Core.Logic.{◌↔◌}
use mathlib.Core.List.{List, []}
use Prim.Native.Nat.{ℕ, ◌-◌, ◌*◌, ◌≤◌, ◌<◌}
use native.Mathlib.Nat.{mul-le-mul}
use native.Mathlib.Omega.{arith}
use native.Mathlib.Decide.{dec_lt}
use lib.ListN.{length}
use lib.Pow.{pow_mono}
use Rattle.chains.specs.Chain.{Distinct}
use Rattle.chains.specs.Breaks.{Break, Breaks}
use Rattle.chains.specs.Products.{all_sectors}
use Rattle.chains.proofs.ProductLaws.{disjoint-none}
use Rattle.chains.proofs.Together.{together-once, together-few}
use Rattle.chains.proofs.Consulted.{consulted-most}
use Rattle.chains.proofs.Broken.{broken-breaks}
use Rattle.image.specs.Image.{S, e#, element}
use Rattle.image.specs.Verdict.{is_product}
use Rattle.chains.proofs.PsiLaws.{psi-is}
use Rattle.image.specs.Bounds.{Bounds}
use Rattle.image.specs.Consulted.{stops, consulted}
use Rattle.image.specs.Facts.{Facts}
use Rattle.image.specs.Obeys.{IsProduct, Broken, Shares}
use Rattle.image.proofs.Exact.{product-sector, tested, facts_bounds}
use Rattle.chains.specs.Psi.{Ψ}

-- with 238 sectors the table alone is too long
few : (c : List ℕ) → Bounds c → S c ≤ 237
few c b = elim (dec_lt 237 (S c)) [ no h ↦ omega arith | yes h ↦ absurd (big h) ]
  where
    wide : 237 < S c → 8 ≤ Ψ (S c)
    wide h = elim (dec_lt (Ψ (S c)) 8) [
      | yes l ↦ absurd (omega (arith, (psi-is (S c) (omega arith) b.s_top).enough, pow_mono {i = Ψ (S c)} {j = 7} (omega arith)))
      | no l ↦ omega arith
    ]

    big : 237 < S c → ⊥
    big h = omega (arith, mul-le-mul {n₁ = 8} {m₁ = 235} {n₂ = Ψ (S c)} {m₂ = S c - 3} (wide h) (omega arith))

pub largest : (c : List ℕ) → Facts c → Bounds c → length c ≤ 60439
largest c o b = omega (arith, o.whole, mul-le-mul {n₂ = 237} {m₂ = 255} (few c b) b.b_top)

pub smallest : (c : List ℕ) → Facts c → 132 ≤ length c
smallest c o = omega (arith, o.whole, mul-le-mul {n₁ = 4} {m₁ = 32} o.sectors_least o.size_least)

-- while none of the products up to entry n shares a sector with a lower one, their chains have at most S - 3 sectors together, and none twice
pub sectors-together : (c : List ℕ) → e# c ≤ S c - 3 → (n : ℕ) → ((k : ℕ) → k ≤ n → Shares c k → ⊥)
    → Distinct (all_sectors (is_product c) (element c) (S c) n) × (length (all_sectors (is_product c) (element c) (S c) n) ≤ S c - 3)
sectors-together c fits n clean = let t = tested c fits in (together-once t (element c) n clean, together-few t (element c) n clean)

-- so have all chains of an acceptable image
pub all-sectors : (c : List ℕ) → Facts c → Distinct (all_sectors (is_product c) (element c) (S c) (e# c)) × (length (all_sectors (is_product c) (element c) (S c) (e# c)) ≤ S c - 3)
all-sectors c o = sectors-together c o.entries.1 (e# c) (λ k l. (disjoint-none (tested c o.entries.1) (element c)).0 o.disjoint k)

-- a check consults at most 2 × (S - 3) elements of the chain table
pub elements-consulted : (c : List ℕ) → Bounds c → consulted c ≤ 2 * (S c - 3)
unfolding consulted
elements-consulted c b =
    let t = tested c (omega (arith, b.e_top)) in
    consulted-most (is_product c) (element c) (S c) b.s_top (λ j e. t.sector j (t.so j e)) (e# c) (stops c)

-- nothing of another size can be accepted
pub size_limits : (c : List ℕ) → Facts c → (132 ≤ length c) × (length c ≤ 60439)
size_limits c o = (smallest c o, largest c o (facts_bounds c o))

-- a chain is broken if it meets 0 or a number above S - 1, or returns to a sector it has passed
pub broken-words : (c : List ℕ) → e# c ≤ S c - 3 → {j : ℕ} → IsProduct c j → Broken c j ↔ ((b : Break) × Breaks (element c) (S c) [] j b)
broken-words c fits v =
    let t = broken-breaks (element c) (S c) (product-sector c fits v) in
    ((λ b. t.0 b.none), λ b. record { is-product = v; none = t.1 b })
