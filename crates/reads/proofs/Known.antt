-- What is known once an entry is found in an accepted image: it is a product, its chain is whole, and what was found of it is its own.
-- Assumes nothing.
use mathlib.Core.Path.{◌≡◌, sym}
use mathlib.Core.Bool.{Bool, true, false}
use mathlib.Core.List.{List}
use Prim.Native.Nat.{ℕ, zero, suc, ◌+◌, ◌-◌, ◌≤◌, ◌<◌}
use native.Mathlib.Omega.{arith}
use lib.ListN.{length, get_or}
use Rattle.rules.specs.Claim.{Rule}
use Rattle.chains.specs.Chain.{Sector, Chain}
use Rattle.chains.proofs.Laws.{chain-short}
use Rattle.chains.proofs.Order.{chain_first, chain_next, chain-sector}
use Rattle.image.specs.Image.{S, element, sectors, mark}
use Rattle.rules.specs.declared.Answer.{Answer}
use Rattle.image.specs.Verdict.{is_product, verdict}
use Rattle.image.specs.Product.{Product, product_at}
use Rattle.image.specs.Seen.{seen_by, seen, judged_by, asked}
use Rattle.image.specs.Check.{shape_of, check_of}
use Rattle.image.specs.Found.{found_in, found_of}
use Rattle.image.specs.declared.Shape.{Shape}
use Rattle.image.specs.Found as F
use Rattle.image.proofs.Accepted.{Open, accepted_open}
use Rattle.image.proofs.Exact.{test-product}
use Rattle.image.proofs.First.{sectors-head}
use Rattle.image.proofs.Places.{own-sector}
use Rattle.image.proofs.Stays.{chain_of}
use Rattle.image.specs.Facts.{Present}

-- an image accepted with the shape g, and a product of it
pub record Known (c : List ℕ) (g : Shape) (j : ℕ) : Type 0 where
  pub opened : Open c g
  pub is_there : is_product c j ≡ true
  pub there : Present c j

pub known_at : (c : List ℕ) (j : ℕ) → (verdict c).number ≡ 0 → is_product c j ≡ true → Known c (shape_of c) j
unfolding check_of
known_at c j z t =
    let o = accepted_open c (shape_of c) (rw z) in
    record { opened = o; is_there = t; there = record { obeys = o.obeys; is-product = test-product c j t } }

-- a call whose verdict is v is refused with the number n and the entry e
pub record Barred (v : Answer) (n e : ℕ) : Type 0 where
  pub number_is : v.number ≡ n
  pub entry-is : v.entry ≡ e
  pub some : n ≡ 0 → ⊥

module _ (c : List ℕ) (j : ℕ) where
  -- nothing is found, whatever is asked of the product besides
  pub found-not : {n e : ℕ} → found_of c j ≡ F.Not n e → (rs : Product → List Rule) → Barred (asked c j rs) n e
  unfolding found_of asked seen
  found-not {n} {e} q rs = go (verdict c).number (is_product c j) q
    where
      go : (v : ℕ) (b : Bool) → found_in (seen_by v (verdict c).entry b (product_at c j)) c j ≡ F.Not n e
          → Barred (judged_by (seen_by v (verdict c).entry b (product_at c j)) j rs) n e
      go (suc v) b w =
          let i : suc v ≡ n = cc in
          let k : (verdict c).entry ≡ e = cc in
          record { number_is = i; entry-is = k; some = λ y. omega arith }
      go zero false w =
          let i : 20 ≡ n = cc in
          let k : j ≡ e = cc in
          record { number_is = i; entry-is = k; some = λ y. omega arith }
      go zero true w = absurd (let y : ◌≡◌ {A = ℕ} 0 1 = cc in omega arith)

-- ---- the sectors of a product, by their number in its chain

module _ {c : List ℕ} {j : ℕ} (t : Present c j) where
  pub there-chain : Chain (element c) (S c) j (sectors c j) (mark c j)
  there-chain = chain_of c t.obeys t.is-product

  pub there-start : get_or (sectors c j) 0 0 ≡ j
  there-start = chain_first (element c) (S c) there-chain

  pub there-at : (k : ℕ) → k < length (sectors c j) → Sector (S c) (get_or (sectors c j) k 0)
  there-at = chain-sector (element c) (S c) there-chain (own-sector t)

  pub there-next : (k : ℕ) → k + 1 < length (sectors c j) → element c (get_or (sectors c j) k 0) ≡ get_or (sectors c j) (k + 1) 0
  there-next k h = sym (chain_next (element c) (S c) there-chain k h)

  pub there-some : 1 ≤ length (sectors c j)
  there-some = let r = sectors-head there-chain.leads in rw r.1 (omega arith)

  pub there-few : length (sectors c j) ≤ S c - 3
  there-few = chain-short (element c) (S c) (own-sector t) there-chain
