-- `image::element_of` meets its contract: fourteen bytes or more follow the table, and four bytes moved up past the bits before an element, and then
-- down, leave the element. Assumes nothing.
use mathlib.Core.Path.{◌≡◌, ◌∙◌, ap}
use mathlib.Core.List.{List}
use Prim.Native.Nat.{ℕ, ◌+◌, ◌-◌, ◌*◌, ◌/◌, ◌%◌, ◌^◌, ◌≤◌, ◌<◌}
use native.Mathlib.Nat.{mul-div-mul_right}
use native.Mathlib.Decide.{dec_lt}
use native.Mathlib.Omega.{arith}
use lib.ListN.{length}
use lib.Pow.{pow-add, pow_pos}
use lib.Pow as pow
use Rattle.bits.specs.Bits.{field}
use Rattle.bits.proofs.Laws.{field_lt, field-within}
use Rattle.chains.specs.Chain.{Sector}
use Rattle.chains.specs.Psi.{Ψ}
use Rattle.chains.proofs.Places as places
use Rattle.chains.proofs.PsiLaws.{psi-is}
use Rattle.image.specs.Image.{S, table_at, element}
use Rattle.image.specs.Shape.{Shaped}
use Rattle.image.specs.declared.Shape.{Shape}
use Rattle.image.proofs.Shapes.{element-is}
use Rattle.image.proofs.measured.Measured.element.Goals as goal

-- the w digits of x after its first b of thirty-two
moved : (x b w : ℕ) → b ≤ 7 → w ≤ 8 → x * 2 ^ b % 2 ^ 32 / 2 ^ (32 - w) ≡ x / 2 ^ (32 - b - w) % 2 ^ w
moved x b w h k =
    let e : 32 ≡ w + (32 - w) = omega arith in
    let f : 32 - w ≡ 32 - b - w + b = omega arith in
    ap (λ (n : ℕ). x * 2 ^ b % 2 ^ n / 2 ^ (32 - w)) e
    ∙ pow.field (x * 2 ^ b) w (32 - w)
    ∙ ap (λ (n : ℕ). x * 2 ^ b / n % 2 ^ w) (ap (λ (n : ℕ). 2 ^ n) f ∙ pow-add 2 (32 - b - w) b)
    ∙ ap (λ (y : ℕ). y % 2 ^ w) (mul-div-mul_right x (2 ^ (32 - b - w)) (pow_pos b))

-- in the four bytes from byte t on, and the bit p of them
within : (l : List ℕ) (t p w : ℕ) → w ≤ 8 → field l (8 * (t + p / 8)) (8 * 4) / 2 ^ (32 - p % 8 - w) % 2 ^ w ≡ field l (8 * t + p) w
within l t p w h =
    let c : ℕ = 32 - p % 8 - w in
    let s : 8 * 4 ≡ p % 8 + w + c = omega arith in
    let q : 8 * (t + p / 8) + p % 8 ≡ 8 * t + p = omega arith in
    ap (λ (x : ℕ). field l (8 * (t + p / 8)) x / 2 ^ c % 2 ^ w) s
    ∙ field-within l (8 * (t + p / 8)) (p % 8) w c
    ∙ ap (λ (x : ℕ). field l x w) q

-- what is known of the place
record Place (c : List ℕ) (g : Shape) (i : ℕ) : Type 0 where
  wide : (1 ≤ g.psi) × (g.psi ≤ 8)
  small : g.psi * (i - 1) ≤ 8 * 255
  four : g.table + g.psi * (i - 1) / 8 + 4 ≤ length c
  below : g.table ≤ 65536

positive : (s : ℕ) → 4 ≤ s → s ≤ 255 → 1 ≤ Ψ s
positive s h k = let t = psi-is s (omega arith) k in elim (dec_lt 0 (Ψ s)) [
  | yes l ↦ l
  | no l ↦ absurd (let z : Ψ s ≡ 0 = omega arith in let u : s ≤ 2 ^ 0 = rw z at t.enough in omega arith)
]

place : {c : List ℕ} {g : Shape} {i : ℕ} → Shaped c g → Sector (S c) i → Place c g i
unfolding table_at
place {c} {g} {i} s h =
    let b = s.in_bounds in
    let n = places.inside (Ψ (S c)) i (S c - 3) h.low (omega arith) in
    record {
      wide = (rw s.psi-is (positive (S c) b.s_least b.s_top), rw s.psi-is b.psi_top);
      small = rw s.psi-is (places.small (Ψ (S c)) (i - 1) b.psi_top (omega arith));
      four = rw (s.psi-is, s.table_is) (omega (arith, n));
      below = rw s.table_is (omega arith);
    }

-- what is returned is the element
is-element : {c : List ℕ} {g : Shape} {i : ℕ} (x : ℕ) → Shaped c g → Sector (S c) i → x ≡ field c (8 * (g.table + g.psi * (i - 1) / 8)) (8 * 4)
    → x * 2 ^ (g.psi * (i - 1) % 8) % 2 ^ 32 / 2 ^ (32 - g.psi) ≡ element c i
is-element {c} {g} {i} x s h e =
    let p = place s h in
    moved x (g.psi * (i - 1) % 8) g.psi (omega arith) p.wide.1
    ∙ ap (λ (y : ℕ). y / 2 ^ (32 - g.psi * (i - 1) % 8 - g.psi) % 2 ^ g.psi) e
    ∙ within c g.table (g.psi * (i - 1)) g.psi p.wide.1
    ∙ element-is s i

-- what is moved down fits
narrow : (y k : ℕ) → y % 2 ^ 32 / 2 ^ k < 2 ^ 64
narrow y k = omega (arith, pow.shr_le (y % 2 ^ 32) k)

pub overflow_mul-first : goal.overflow_mul-first
overflow_mul-first c = omega (arith, (place c.args.self.now.shaped c.requires).small)

pub overflow_add-g : goal.overflow_add-g
overflow_add-g c = omega (arith, (place c.args.self.now.shaped c.requires).small, (place c.args.self.now.shaped c.requires).below)

pub load-four-requires : goal.load-four-requires
load-four-requires c = (omega arith, (place c.args.self.now.shaped c.requires).four)

pub overflow_cast-four : goal.overflow_cast-four
overflow_cast-four c =
    record { fits = rw c.load-four.ensures (field_lt c.args.self.now.image.now _ 32) }

pub overflow_shr-result : goal.overflow_shr-result
overflow_shr-result c = omega (arith, (place c.args.self.now.shaped c.requires).wide)

pub overflow_cast-result-3 : goal.overflow_cast-result-3
overflow_cast-result-3 c = record { fits = narrow _ _ }

pub returns : goal.returns
returns c = is-element _ c.args.self.now.shaped c.requires c.load-four.ensures
