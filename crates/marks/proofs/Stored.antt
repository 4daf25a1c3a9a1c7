-- The tests of a mark are its rules, and the element stored in the directory sector, lent on, is stored in the image. Assumes nothing.
use mathlib.Core.Path.{◌≡◌, sym, ap, ◌∙◌}
use mathlib.Core.Logic.{◌≢◌}
use mathlib.Core.List.{List}
use Prim.Native.Nat.{ℕ, ◌+◌, ◌-◌, ◌*◌, ◌≤◌, ◌<◌}
use native.Mathlib.Decide.{dec_lt}
use native.Mathlib.Omega.{arith}
use lib.ListN.{length, take, drop}
use borrow.Author.Tests.{le-leb, lt-leb}
use borrow.Rule.Slice.PartMut.{put_mid}
use Rattle.bits.specs.Bits.{Bytes, store}
use Rattle.bits.proofs.Laws.{store-part}
use Rattle.fields.specs.Fields.{stores}
use Rattle.chains.specs.Chain.{Sector, Ends, fresh, used, blocked}
use Rattle.chains.specs.Packed.{Inside}
use Rattle.chains.specs.Packed as packed
use Rattle.chains.specs.Psi.{Ψ}
use Rattle.chains.proofs.Laws.{last-ends}
use Rattle.rules.specs.First.{first}
use Rattle.image.specs.Image.{B, S, e#, directory_at, table_at, element, mark}
use Rattle.image.specs.Shape.{Shaped}
use Rattle.image.specs.declared.Shape.{Shape}
use Rattle.image.specs.Product.{element_at, product_at}
use Rattle.image.proofs.Founds.{Finds}
use Rattle.image.proofs.Same.{element_in_lem}
use Rattle.image.proofs.Stays.{chain_of}
use Rattle.steps.specs.Step.{set_mark, step_rules}
use Rattle.steps.specs.Steps.{next}
use Rattle.steps.proofs.Acts.{Taken, kept-taken, next-is}
use Rattle.image.proofs.Places.{cut}

-- ---- the rules of a mark

module _ {c : List ℕ} {j l n : ℕ} (f : Finds c j l n) where
  -- the last sector's element ends the chain
  end : Ends (S c) l (element c l) (mark c j)
  end = rw f.last-is (last-ends (element c) (S c) (chain_of c f.present.obeys f.present.is-product).leads)

  -- 28
  pub below_one : (k : ℕ) → k < 1 → first (step_rules (product_at c j) (set_mark j k)) ≡ 28
  unfolding step_rules first
  below_one k h = rw (lt-leb 1 k h)

  pub above-two : (k : ℕ) → 1 ≤ k → 2 < k → first (step_rules (product_at c j) (set_mark j k)) ≡ 28
  unfolding step_rules first
  above-two k h u = rw (le-leb 1 k h, lt-leb k 2 u)

  module _ (k x : ℕ) (h : 1 ≤ k) (u : k ≤ 2) (e : x ≡ element c l) where
    -- the mark is there already
    pub same-mark : x ≡ S c - k → mark c j ≡ k
    same-mark q = go end
      where
        go : {m : ℕ} → Ends (S c) l (element c l) m → m ≡ k
        go (fresh y) = absurd (omega (arith, f.sector, f.in_bounds))
        go (used y) = omega (arith, f.in_bounds)
        go (blocked y) = omega (arith, f.in_bounds)

    -- 27
    higher : x ≢ S c - k → x ≡ S c - 2 → k < mark c j
    higher d q = go end
      where
        go : {m : ℕ} → Ends (S c) l (element c l) m → k < m
        go (fresh y) = absurd (omega (arith, f.sector, f.in_bounds))
        go (used y) = absurd (omega (arith, f.in_bounds))
        go (blocked y) = elim (dec_lt k 2) [ yes v ↦ v | no v ↦ absurd (d (let z : k ≡ 2 = omega arith in rw z q)) ]

    pub blocked-mark : x ≢ S c - k → x ≡ S c - 2 → first (step_rules (product_at c j) (set_mark j k)) ≡ 27
    unfolding step_rules product_at first
    blocked-mark d q = rw (le-leb 1 k h, le-leb k 2 u, lt-leb (mark c j) k (higher d q))

    -- neither
    pub low-mark : x ≢ S c - 2 → mark c j ≤ k
    low-mark d = go end
      where
        go : {m : ℕ} → Ends (S c) l (element c l) m → m ≤ k
        go (fresh y) = omega arith
        go (used y) = omega arith
        go (blocked y) = absurd (d (e ∙ y))

  pub mark-taken : (k : ℕ) → 1 ≤ k → k ≤ 2 → mark c j ≤ k → Taken c (set_mark j k)
  unfolding step_rules product_at
  mark-taken k h u v = kept-taken c (set_mark j k) f.present.obeys f.present.is-product ((h, u), (v, tt))

  pub mark-stored : (k : ℕ) → Taken c (set_mark j k) → store c (element_at c l) (Ψ (S c)) (S c - k) ≡ next c (set_mark j k)
  unfolding product_at stores
  mark-stored k t = rw f.last-is (sym (next-is c (set_mark j k) t))

-- ---- the directory sector, lent on

module _ {c : List ℕ} {g : Shape} (s : Shaped c g) where
  -- what the routine that stores an element asks of a part of one sector
  pub table-inside : (m : List ℕ) → length m ≡ g.size → Inside m (record { first = 16 + 40 * g.entries; psi = g.psi; sectors = g.sectors })
  unfolding table_at
  table-inside m l =
      let b = s.in_bounds in
      let u : g.psi * (g.sectors - 3) ≡ Ψ (S c) * (S c - 3) = rw (s.psi-is, s.sectors_is) in
      record {
        least = omega (arith, s.sectors_is);
        most = omega (arith, s.sectors_is);
        narrow = omega (arith, s.psi-is);
        near = omega (arith, s.entries-is);
        far = omega arith;
        whole = omega arith;
        within = omega (arith, s.entries-is, s.bytes-is, s.size_is);
      }

  pub mark-placed : (b : Bytes c) (l k : ℕ) (m : List ℕ) → Sector g.sectors l
      → m ≡ store (take (g.directory + g.size - g.directory) (drop g.directory c)) (packed.element_at (16 + 40 * g.entries) g.psi l) g.psi (g.sectors - k)
      → put_mid g.directory (g.directory + g.size - g.directory) c m ≡ store c (element_at c l) (Ψ (S c)) (S c - k)
  unfolding element_at table_at
  mark-placed b l k m h q =
      let d = s.in_bounds in
      let t = element_in_lem c l (rw s.sectors_is at h) in
      let e : 8 * directory_at c + (16 + 40 * e# c + Ψ (S c) * (l - 1)) ≡ 8 * (directory_at c + 2 + 5 * e# c) + Ψ (S c) * (l - 1) = omega arith in
      rw (q, cut g.directory g.size, s.directory-is, s.size_is, s.entries-is, s.psi-is, s.sectors_is)
      (store-part c (directory_at c) (B c) (16 + 40 * e# c + Ψ (S c) * (l - 1)) (Ψ (S c)) (S c - k) b d.directory_in (omega arith)
      ∙ ap (λ (x : ℕ). store c x (Ψ (S c)) (S c - k)) e)
