-- What a call on one entry answers, case by case: the number and entry that `Gives` says, and no other. Assumes nothing.
use mathlib.Core.Path.{◌≡◌, refl, sym, ap, ◌∙◌}
use mathlib.Core.Logic.{◌↔◌}
use mathlib.Core.Bool.{Bool, true, false, true≢false}
use mathlib.Core.List.{List}
use Prim.Native.Nat.{ℕ, zero, suc, ◌≤◌}
use native.Mathlib.Omega.{arith}
use Rattle.rules.specs.Claim.{Rule}
use Rattle.rules.specs.First.{first}
use Rattle.rules.proofs.ClaimLaws as CL
use Rattle.rules.proofs.ClaimLaws.{Numbered, fails-some}
use Rattle.rules.proofs.First.{first-of-kept, first-of-fails}
use Rattle.image.specs.Obeys.{Obeys, IsProduct, Gives, own, no_product, against, taken}
use Rattle.rules.specs.declared.Answer.{Answer}
use Rattle.image.specs.Verdict.{is_product, verdict}
use Rattle.image.specs.Product.{Product, product_at}
use Rattle.image.specs.Seen.{seen_by, seen, named, judged_by, asked}
use Rattle.image.proofs.Accepted.{Shut}
use Rattle.image.proofs.Exact.{exact, says, accepted-exactly, test-product, product_test}

module _ (c : List ℕ) (j : ℕ) (rs : Product → List Rule) where
  pub asked-shut : {n e : ℕ} → Shut c n e → asked c j rs ≡ record { number = n; entry = e }
  unfolding asked seen
  asked-shut {n} {e} s = rw (s.number_is, s.entry-is) (go n s.some)
    where
      go : (m : ℕ) → (m ≡ 0 → ⊥) → judged_by (seen_by m e (is_product c j) (product_at c j)) j rs ≡ record { number = m; entry = e }
      go zero h = absurd (h refl)
      go (suc m) h = refl

  pub asked-missing : (verdict c).number ≡ 0 → is_product c j ≡ false → asked c j rs ≡ record { number = 20; entry = j }
  unfolding asked seen
  asked-missing z t = rw (z, t)

  pub asked-there : (verdict c).number ≡ 0 → is_product c j ≡ true → asked c j rs ≡ named (first (rs (product_at c j))) j
  unfolding asked seen
  asked-there z t = rw (z, t)

  -- ---- exactly

  named_some : (n : ℕ) → 1 ≤ n → named n j ≡ record { number = n; entry = j }
  named_some zero h = absurd (omega arith)
  named_some (suc n) h = refl

  no_test : (IsProduct c j → ⊥) → is_product c j ≡ false
  no_test h = go (is_product c j) refl
    where
      go : (b : Bool) → is_product c j ≡ b → is_product c j ≡ false
      go true q = absurd (h (test-product c j q))
      go false q = q

  module _ (numbered : Numbered (rs (product_at c j))) where
    -- what the first of the product's rules says
    there-gives : Obeys c → IsProduct c j → {n : ℕ} → CL.Found (rs (product_at c j)) n → Gives c j rs (named n j).number (named n j).entry
    there-gives o v (CL.none k) = taken o v k
    there-gives o v {n} (CL.one a f) = rw (named_some n a) (against o v f)

    -- the answer is one that `Gives` has
    pub asked-gives : Gives c j rs (asked c j rs).number (asked c j rs).entry
    asked-gives = go (verdict c).number refl
      where
        product : Obeys c → (b : Bool) → is_product c j ≡ b → Gives c j rs (asked c j rs).number (asked c j rs).entry
        product o true q =
            rw (asked-there ((accepted-exactly c).1 o) q) (there-gives o (test-product c j q) (CL.found (rs (product_at c j)) numbered))
        product o false q =
            rw (asked-missing ((accepted-exactly c).1 o) q) (no_product o (λ v. true≢false (sym (product_test c j v) ∙ q)))

        go : (n : ℕ) → (verdict c).number ≡ n → Gives c j rs (asked c j rs).number (asked c j rs).entry
        go zero z = product ((accepted-exactly c).0 z) (is_product c j) refl
        go (suc n) z =
            rw (asked-shut (record { number_is = refl; entry-is = refl; some = λ y. omega arith })) (own {n = (verdict c).number} (omega arith) (says c))

    -- and whatever `Gives` has is the answer
    pub gives-asked : {n e : ℕ} → Gives c j rs n e → asked c j rs ≡ record { number = n; entry = e }
    gives-asked (own {n} {e} h s) =
        let v = (exact c n e).1 s in asked-shut (record { number_is = v.0; entry-is = v.1; some = λ z. omega arith })
    gives-asked (no_product o h) = asked-missing ((accepted-exactly c).1 o) (no_test h)
    gives-asked (against {n} o v f) =
        asked-there ((accepted-exactly c).1 o) (product_test c j v)
        ∙ ap (λ (m : ℕ). named m j) (first-of-fails (rs (product_at c j)) numbered n f)
        ∙ named_some n (fails-some f numbered)
    gives-asked (taken o v k) =
        asked-there ((accepted-exactly c).1 o) (product_test c j v) ∙ ap (λ (m : ℕ). named m j) (first-of-kept (rs (product_at c j)) numbered k)

    -- THE THEOREM: a call on entry j gives number n and entry e if and only if document 01 says so
    pub asked-exactly : (n e : ℕ) → (((asked c j rs).number ≡ n) × ((asked c j rs).entry ≡ e)) ↔ Gives c j rs n e
    asked-exactly n e = (
      (λ q. rw (← q.0, ← q.1) asked-gives),
      λ g. (ap (λ (v : Answer). v.number) (gives-asked g), ap (λ (v : Answer). v.entry) (gives-asked g)),
    )
