-- 22 and 23 of a product, and its kind. Assumes nothing.
use mathlib.Core.Path.{◌≡◌, refl, sym, ap, ◌∙◌}
use mathlib.Core.Logic.{◌≢◌}
use Prim.Native.Nat.{ℕ, zero, suc}
use native.Mathlib.Omega.{arith}
use Rattle.std.specs.Prelude.{Option, Some, None}
use Rattle.rules.specs.First.{first}
use Rattle.ticket.specs.Kind.{form_in, row_of, kind_rules}
use Rattle.ticket.specs.Checks.{extent_in}
use Rattle.ticket.specs.declared.kinds.Kind.{Kind}
use Rattle.ticket.proofs.Rules.{other-form, wrong-extent, right-extent}
use Rattle.image.specs.Product.{Product}
use Rattle.verdict.specs.Products.{Known, Unknown, kind_by, kind_in}

module _ (p : Product) (j : ℕ) where
  -- ---- by the checks

  pub kind-other : form_in p.typ p.revision ≡ None → Unknown 22 j ≡ kind_in p j
  unfolding kind_in
  kind-other q = rw (← other-form _ _ p.blocks p.size q)

  module _ {k : Kind} (q : form_in p.typ p.revision ≡ Some k) where
    pub kind-wrong : extent_in (row_of k).layout p.blocks p.size ≡ None → Unknown 23 j ≡ kind_in p j
    unfolding kind_in
    kind-wrong e = rw (← wrong-extent _ _ p.blocks p.size q e)

    pub kind-right : {x : ℕ} → extent_in (row_of k).layout p.blocks p.size ≡ Some x → Known k ≡ kind_in p j
    unfolding kind_in
    kind-right e = rw (← right-extent _ _ p.blocks p.size q e, q)

  -- ---- by the answer

  pub kind-known : {k : Kind} → kind_in p j ≡ Known k → (first (kind_rules p.typ p.revision p.blocks p.size) ≡ 0) × (form_in p.typ p.revision ≡ Some k)
  unfolding kind_in
  kind-known {k} w = go (first (kind_rules p.typ p.revision p.blocks p.size)) refl (form_in p.typ p.revision) refl w
    where
      go : (n : ℕ) → first (kind_rules p.typ p.revision p.blocks p.size) ≡ n → (f : Option Kind) → form_in p.typ p.revision ≡ f → kind_by n f j ≡ Known k
          → (first (kind_rules p.typ p.revision p.blocks p.size) ≡ 0) × (form_in p.typ p.revision ≡ Some k)
      go zero z (Some t) i w = (z, i ∙ (let e : t ≡ k = cc in ap Some e))
      go zero z None i w = absurd (cc)
      go (suc n) z f i w = absurd (cc)

  pub kind-unknown : {n e : ℕ} → kind_in p j ≡ Unknown n e → (n ≡ first (kind_rules p.typ p.revision p.blocks p.size)) × (n ≢ 0) × (e ≡ j)
  unfolding kind_in
  kind-unknown {n} {e} w = go (first (kind_rules p.typ p.revision p.blocks p.size)) refl (form_in p.typ p.revision) refl w
    where
      go : (m : ℕ) → first (kind_rules p.typ p.revision p.blocks p.size) ≡ m → (f : Option Kind) → form_in p.typ p.revision ≡ f → kind_by m f j ≡ Unknown n e
          → (n ≡ first (kind_rules p.typ p.revision p.blocks p.size)) × (n ≢ 0) × (e ≡ j)
      go zero z (Some t) i w = absurd (cc)
      go zero z None i w = absurd (omega (arith, z, other-form _ _ p.blocks p.size i))
      go (suc m) z f i w =
          let u : suc m ≡ n = cc in
          let v : j ≡ e = cc in
          (sym u ∙ sym z, (λ y. omega arith), sym v)
