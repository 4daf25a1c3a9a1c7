-- What every kind of ticket has in common, computed for each row of the table and for the list that has no field; and that the rows are those of document 01.
-- Assumes nothing.
use mathlib.Core.Path.{◌≡◌, refl}
use mathlib.Core.Logic.{◌↔◌, ◌⊎◌, inl, inr}
use mathlib.Core.Bool.{Bool, true, false, cond, ◌&&◌}
use mathlib.Core.List.{List, [], ◌∷◌}
use Prim.Native.Nat.{ℕ, zero, suc, ◌-◌, ◌*◌, ◌≤◌}
use native.Mathlib.Omega.{arith}
use borrow.Author.Tests.{eqb-true}
use lib.Dec.{eqb}
use Rattle.rules.specs.Claim.{Claim, ◌≡?◌, ◌≤?◌, ◌and◌, Means}
use Rattle.rules.specs.First.{holds}
use Rattle.rules.proofs.ClaimLaws.{and-true, holds_means}
use Rattle.fields.specs.declared.Layout.{Layout}
use Rattle.fields.specs.declared.Layout.TheVariants as layout
use Rattle.fields.specs.Ends.{start_of}
use Rattle.fields.specs.Lists.{list_of, bit_after, nth}
use Rattle.fields.specs.Padded.{most}
use Rattle.ticket.specs.Kind.{Row, row_of, kinds, form_among, form_in, row_by, kind_of, count_of, least_of, rest_of, listed}
use Rattle.ticket.specs.declared.kinds.Kind.{Kind}
use Rattle.ticket.specs.declared.kinds.Kind.TheVariants.{Typ23, Typ22r1, Typ22r2, Typ22r3}
use Rattle.std.specs.Prelude.{Option, Some, None}

-- two bytes of a header before its fields, all within the first thirty-two bytes and the room in memory, its fields whole bytes, which the least length holds
pub record Facts (k : Layout) : Type 0 where
  pub starts : start_of k ≡ 16
  pub ends : bit_after k ≤ 232
  pub after : 16 ≤ bit_after k
  pub whole : 8 * rest_of k ≡ bit_after k
  pub many : count_of k ≤ most
  pub least_room : rest_of k ≤ least_of k

-- and a row has a field, and its ExpiryTime is one of eleven bits
pub record Row-facts (k : Row) : Type 0 where
  pub facts : Facts k.layout
  pub some : Means (listed k.layout)
  pub expiry_from : 1 ≤ k.expiry
  pub expiry_to : k.expiry ≤ count_of k.layout
  pub expiry_width : (nth (list_of k.layout) (k.expiry - 1)).1 ≡ 11

-- the same as tests
abbrev claims : Layout → Claim
claims k =
    start_of k ≡? 16
    and bit_after k ≤? 232
    and 16 ≤? bit_after k
    and 8 * rest_of k ≡? bit_after k
    and count_of k ≤? most
    and rest_of k ≤? least_of k

abbrev row_claims : Row → Claim
row_claims k =
    claims k.layout
    and listed k.layout
    and 1 ≤? k.expiry
    and k.expiry ≤? count_of k.layout
    and (nth (list_of k.layout) (k.expiry - 1)).1 ≡? 11

-- the test of a row: its facts, and that it is the one of its TYP and revision
row_tested : (k : Kind) → (holds (row_claims (row_of k)) ≡ true) × (form_in (row_of k).typ (row_of k).revision ≡ Some k)
unfolding form_in
row_tested Typ23 = (refl, refl)
row_tested Typ22r1 = (refl, refl)
row_tested Typ22r2 = (refl, refl)
row_tested Typ22r3 = (refl, refl)

tested : {k : Layout} → Means (claims k) → Facts k
tested m = record {
  starts = m.0;
  ends = m.1.0;
  after = m.1.1.0;
  whole = m.1.1.1.0;
  many = m.1.1.1.1.0;
  least_room = m.1.1.1.1.1;
}

pub row_is : (k : Kind) → Row-facts (row_of k)
row_is k =
    let m = holds_means (row_claims (row_of k)) (row_tested k).0 in
    record { facts = tested m.0; some = m.1.0; expiry_from = m.1.1.0; expiry_to = m.1.1.1.0; expiry_width = m.1.1.1.1 }

pub row_facts : (k : Kind) → Facts (row_of k).layout
row_facts k = (row_is k).facts

pub form_facts : (f : Option Kind) → Facts (row_by f).layout
form_facts (Some k) = row_facts k
form_facts None = tested (holds_means (claims layout.Unlisted) refl)

pub kind_facts : (t r : ℕ) → Facts (kind_of t r).layout
kind_facts t r = form_facts (form_in t r)

module _ (t r : ℕ) where
  pub listed-form : {k : Kind} → form_in t r ≡ Some k → Means (listed (kind_of t r).layout)
  listed-form {k} e = rw e (row_is k).some

  pub other-form-unlisted : form_in t r ≡ None → Means (listed (kind_of t r).layout) → ⊥
  other-form-unlisted e m = let z : 1 ≤ 0 = (rw e at m) in omega arith

  -- a kind that is listed is a row of the table
  pub form-listed : Means (listed (kind_of t r).layout) → (k : Kind) × (form_in t r ≡ Some k)
  form-listed m = go (form_in t r) refl
    where
      go : (f : Option Kind) → form_in t r ≡ f → (k : Kind) × (form_in t r ≡ Some k)
      go (Some k) e = (k, e)
      go None e = absurd (other-form-unlisted e m)

  pub expiry-in : Means (listed (kind_of t r).layout)
      → (1 ≤ (kind_of t r).expiry)
      × ((kind_of t r).expiry ≤ count_of (kind_of t r).layout)
      × ((nth (list_of (kind_of t r).layout) ((kind_of t r).expiry - 1)).1 ≡ 11)
  expiry-in m =
      let f = form-listed m in
      let i = row_is f.0 in
      rw f.1 (i.expiry_from, i.expiry_to, i.expiry_width)

-- ---- which TYP and revision

-- a TYP and revision of the table have its row, and no others have
pub row_form : (k : Kind) → form_in (row_of k).typ (row_of k).revision ≡ Some k
row_form k = (row_tested k).1

among : (t r : ℕ) (ks : List Kind) {k : Kind} → form_among t r ks ≡ Some k → (t ≡ (row_of k).typ) × (r ≡ (row_of k).revision)
among t r [] e = let z : ◌≡◌ {A = ℕ} 0 1 = cc in absurd (omega arith)
among t r (j ∷ ks) {k} e = go (eqb t (row_of j).typ && eqb r (row_of j).revision) refl e (among t r ks)
  where
    go : (b : Bool) → (eqb t (row_of j).typ && eqb r (row_of j).revision) ≡ b → cond b (Some j) (form_among t r ks) ≡ Some k
        → (form_among t r ks ≡ Some k → (t ≡ (row_of k).typ) × (r ≡ (row_of k).revision)) → (t ≡ (row_of k).typ) × (r ≡ (row_of k).revision)
    go true q e ih =
        let p = and-true (eqb t (row_of j).typ) (eqb r (row_of j).revision) q in
        let s : j ≡ k = cc in
        rw (← s) (eqb-true t (row_of j).typ p.0, eqb-true r (row_of j).revision p.1)
    go false q e ih = ih e

pub form-row : (t r : ℕ) {k : Kind} → form_in t r ≡ Some k → (t ≡ (row_of k).typ) × (r ≡ (row_of k).revision)
unfolding form_in
form-row t r e = among t r kinds e

-- TYP 23 has revision 2, and TYP 22 revisions 1 to 3
pub kinds_are : (t r : ℕ) → Means (listed (kind_of t r).layout) ↔ (((t ≡ 23) × (r ≡ 2)) ⊎ ((t ≡ 22) × (1 ≤ r) × (r ≤ 3)))
kinds_are t r = ((λ m. let f = form-listed t r m in there f.0 (form-row t r f.1)), back)
  where
    there : (k : Kind) → (t ≡ (row_of k).typ) × (r ≡ (row_of k).revision) → ((t ≡ 23) × (r ≡ 2)) ⊎ ((t ≡ 22) × (1 ≤ r) × (r ≤ 3))
    there Typ23 e = inl e
    there Typ22r1 e = inr (e.0, omega arith, omega arith)
    there Typ22r2 e = inr (e.0, omega arith, omega arith)
    there Typ22r3 e = inr (e.0, omega arith, omega arith)

    of : (k : Kind) → t ≡ (row_of k).typ → r ≡ (row_of k).revision → Means (listed (kind_of t r).layout)
    of k p q = rw (p, q) (listed-form (row_of k).typ (row_of k).revision (row_form k))

    revision : (r' : ℕ) → r ≡ r' → t ≡ 22 → 1 ≤ r' → r' ≤ 3 → Means (listed (kind_of t r).layout)
    revision zero e p h k = absurd (omega arith)
    revision (suc zero) e p h k = of Typ22r1 p e
    revision (suc (suc zero)) e p h k = of Typ22r2 p e
    revision (suc (suc (suc zero))) e p h k = of Typ22r3 p e
    revision (suc (suc (suc (suc n)))) e p h k = absurd (omega arith)

    back : ((t ≡ 23) × (r ≡ 2)) ⊎ ((t ≡ 22) × (1 ≤ r) × (r ≤ 3)) → Means (listed (kind_of t r).layout)
    back (inl e) = of Typ23 e.0 e.1
    back (inr e) = revision r refl e.0 e.1 e.2
