-- A read of one product whose number is 0 has passed every check: the image is accepted, the entry is a product, and a ticket's rules 21 to 23 are kept.
-- Assumes nothing.
use mathlib.Core.Path.{◌≡◌, refl}
use mathlib.Core.Bool.{Bool, true, false}
use mathlib.Core.List.{List, []}
use Prim.Native.Nat.{ℕ, zero, suc, ◌≤◌}
use native.Mathlib.Omega.{arith}
use lib.ListN.{length}
use Rattle.rules.specs.Claim.{Means, Kept}
use Rattle.rules.specs.First.{first}
use Rattle.rules.proofs.ClaimLaws.{Numbered}
use Rattle.ticket.specs.Kind.{rest_of, listed}
use Rattle.ticket.proofs.Listed.{kind_facts}
use Rattle.image.specs.Image.{product}
use Rattle.image.specs.Verdict.{is_product, verdict}
use Rattle.image.specs.Product.{Product, product_at}
use Rattle.image.specs.Seen.{seen_by, seen, named, judged_by, asked}
use Rattle.image.specs.Facts.{Present}
use Rattle.image.proofs.Exact.{test-product, accepts}
use Rattle.image.proofs.Stops.{kept}
use Rattle.reads.specs.Values.{ticket_rules, kind_at, extent}
use Rattle.reads.specs.Entry.{entry_refusal}
use Rattle.reads.specs.Ticket.{ticket_refusal}

pub record Passed (c : List ℕ) (j room : ℕ) : Type 0 where
  pub accepted : (verdict c).number ≡ 0
  pub is_there : is_product c j ≡ true
  pub rules_kept : Kept (ticket_rules room (product_at c j))

pub rules_numbered : (room : ℕ) (p : Product) → Numbered (ticket_rules room p)
rules_numbered room p = (omega arith, (omega arith, (omega arith, (omega arith, tt))))

pub named-zero : (n j : ℕ) → (named n j).number ≡ 0 → n ≡ 0
named-zero zero j q = refl
named-zero (suc n) j q = q

module _ (c : List ℕ) (j room : ℕ) where
  pub passed : (ticket_refusal c j room).number ≡ 0 → Passed c j room
  unfolding ticket_refusal asked seen
  passed q = go (verdict c).number refl (is_product c j) refl q
    where
      go : (n : ℕ) → (verdict c).number ≡ n → (b : Bool) → is_product c j ≡ b
          → (judged_by (seen_by n (verdict c).entry b (product_at c j)) j (ticket_rules room)).number ≡ 0 → Passed c j room
      go (suc n) z b t w = absurd (omega arith)
      go zero z false t w = absurd (omega arith)
      go zero z true t w =
          record {
            accepted = z;
            is_there = t;
            rules_kept = kept (ticket_rules room (product_at c j)) (rules_numbered room (product_at c j)) refl (named-zero _ j w);
          }

  -- success names no entry
  pub passed_entry : (ticket_refusal c j room).number ≡ 0 → (ticket_refusal c j room).entry ≡ 0
  unfolding ticket_refusal asked seen
  passed_entry q = go (verdict c).number (is_product c j) q
    where
      go : (n : ℕ) (b : Bool) → (judged_by (seen_by n (verdict c).entry b (product_at c j)) j (ticket_rules room)).number ≡ 0
          → (judged_by (seen_by n (verdict c).entry b (product_at c j)) j (ticket_rules room)).entry ≡ 0
      go (suc n) b w = absurd (omega arith)
      go zero false w = absurd (omega arith)
      go zero true w = named-entry (first (ticket_rules room (product_at c j))) w
        where
          named-entry : (n : ℕ) → (named n j).number ≡ 0 → (named n j).entry ≡ 0
          named-entry zero q = refl
          named-entry (suc n) q = absurd (omega arith)

-- what 22 and 23 leave: the kind is listed, its fixed fields stand in the dataset, and that in the product
pub record Placed (c : List ℕ) (j : ℕ) : Type 0 where
  pub is_listed : Means (listed (kind_at c j).layout)
  pub before : rest_of (kind_at c j).layout ≤ extent c j
  pub inside : extent c j ≤ length (product c j)

pub placed : (c : List ℕ) (j room : ℕ) → (ticket_refusal c j room).number ≡ 0 → Placed c j
unfolding product_at
placed c j room z =
    let k = (passed c j room z).rules_kept in
    let f = kind_facts (product_at c j).typ (product_at c j).revision in
    record { is_listed = k.1.0; before = omega (arith, k.1.1.0, f.least_room); inside = k.1.1.1.0 }

-- a read of an entry or of its chain
pub entry_passed : (c : List ℕ) (j : ℕ) → (entry_refusal c j).number ≡ 0 → Present c j
unfolding asked seen
entry_passed c j q = go (verdict c).number refl (is_product c j) refl q
  where
    go : (n : ℕ) → (verdict c).number ≡ n → (b : Bool) → is_product c j ≡ b
        → (judged_by (seen_by n (verdict c).entry b (product_at c j)) j (λ p. [])).number ≡ 0 → Present c j
    go (suc n) z b t w = absurd (omega arith)
    go zero z false t w = absurd (omega arith)
    go zero z true t w = record { obeys = (accepts c).0 z; is-product = test-product c j t }
