-- What the code of a step relies on: what it finds is what the definitions see, where a product stands, and what the first rule that fails says
-- of the answer. Assumes nothing.
use mathlib.Core.Path.{◌≡◌, refl, sym, ◌∙◌}
use mathlib.Core.Logic.{◌≢◌}
use mathlib.Core.Bool.{Bool, true, false}
use mathlib.Core.List.{List}
use Prim.Native.Nat.{ℕ, zero, suc, ◌≤◌}
use native.Mathlib.Omega.{arith}
use Rattle.chains.specs.Chain.{Sector}
use Rattle.rules.specs.First.{first}
use Rattle.image.specs.Image.{S}
use Rattle.rules.specs.Answer.{says}
use Rattle.rules.proofs.AnswerLaws.{says_same}
use Rattle.image.specs.Verdict.{is_product, verdict}
use Rattle.image.specs.Shape.{Shaped}
use Rattle.image.specs.Product.{product_at}
use Rattle.image.specs.Seen.{seen_by, seen}
use Rattle.image.specs.Found.{Found, Not, found_in, found_of}
use Rattle.image.specs.declared.Shape.{Shape}
use Rattle.image.proofs.Exact.{product_test, accepts}
use Rattle.steps.specs.Step.{Step, owner, step_rules}
use Rattle.steps.specs.Steps.{answer, next}
use Rattle.image.specs.Facts.{Present}
use Rattle.steps.proofs.Acts.{Taken, refused-same}

-- ---- what is found

-- every step on entry j is refused with the number n and the entry e
pub record Turned (c : List ℕ) (j n e : ℕ) : Type 0 where
  pub some : 1 ≤ n
  pub answers : (s : Step) → owner s ≡ j → answer c s ≡ says n e

pub turned_of : {c : List ℕ} {j n e : ℕ} {r : Found} → r ≡ found_of c j → r ≡ Not n e → Turned c j n e
unfolding found_of seen answer
turned_of {c} {j} {n} {e} f h = go (verdict c).number refl (is_product c j) refl (sym h ∙ f)
  where
    go : (k : ℕ) → (verdict c).number ≡ k → (b : Bool) → is_product c j ≡ b → Not n e ≡ found_in (seen_by k (verdict c).entry b (product_at c j)) c j → Turned c j n e
    go (suc k) x b y q =
        let u : n ≡ suc k = cc in
        let v : e ≡ (verdict c).entry = cc in
        record { some = omega arith; answers = λ s w. rw (x, u, v) }
    go zero x false y q =
        let u : n ≡ 20 = cc in
        let v : e ≡ j = cc in
        record { some = omega arith; answers = λ s w. rw (w, x, y, u, v) }
    go zero x true y q = absurd (let z : ◌≡◌ {A = ℕ} 0 1 = cc in omega arith)

-- ---- where a product stands

module _ {c : List ℕ} {g : Shape} (s : Shaped c g) where
  pub entry_in_lem : {j : ℕ} → Present c j → (1 ≤ j) × (j ≤ g.entries)
  entry_in_lem p = (p.is-product.low, omega (arith, p.is-product.high, s.entries-is))

  -- an entry's number is that of a sector
  pub entry-sector : {j : ℕ} → (1 ≤ j) × (j ≤ g.entries) → Sector (S c) j
  entry-sector h = let b = s.in_bounds in record { low = h.0; high = omega (arith, s.entries-is) }

-- ---- the answer

-- success names no entry
pub taken-entry : (c : List ℕ) (s : Step) → (answer c s).number ≡ 0 → (answer c s).entry ≡ 0
unfolding answer seen
taken-entry c s z = go (verdict c).number refl (is_product c (owner s)) refl (first (step_rules (product_at c (owner s)) s)) refl z
  where
    go : (n : ℕ) → (verdict c).number ≡ n → (b : Bool) → is_product c (owner s) ≡ b → (r : ℕ) → first (step_rules (product_at c (owner s)) s) ≡ r
        → (answer c s).number ≡ 0 → (answer c s).entry ≡ 0
    go (suc n) e b f r g z = absurd (let w : ◌≡◌ {A = ℕ} (suc n) 0 = (rw e at z) in omega arith)
    go zero e false f r g z = absurd (let w : ◌≡◌ {A = ℕ} 20 0 = (rw (e, f) at z) in omega arith)
    go zero e true f (suc r) g z = absurd (let w : ◌≡◌ {A = ℕ} (suc r) 0 = (rw (e, f, g) at z) in omega arith)
    go zero e true f zero g z = rw (e, f, g)

module _ (c : List ℕ) (s : Step) where
  pub turned-answer : {n e : ℕ} → Turned c (owner s) n e → (says n e ≡ answer c s) × (c ≡ next c s)
  turned-answer {n} {e} t =
      let q = t.answers s refl in
      (sym q, sym (refused-same c s (rw q t.some)))

  -- a rule of the step that fails
  pub failed-answer : (n : ℕ) → Present c (owner s) → first (step_rules (product_at c (owner s)) s) ≡ n → n ≢ 0
      → (says n (owner s) ≡ answer c s) × (c ≡ next c s)
  unfolding answer seen
  failed-answer zero p e h = absurd (h refl)
  failed-answer (suc n) p e h =
      let q : answer c s ≡ says (suc n) (owner s) = rw ((accepts c).1 p.obeys, product_test c (owner s) p.is-product, e) in
      (sym q, sym (refused-same c s (rw q (omega arith))))

  pub taken-answer : Taken c s → says 0 0 ≡ answer c s
  taken-answer t = says_same (sym t.answered_zero) (sym (taken-entry c s t.answered_zero))
