-- What `touched` answers: the first image's refusal, the second's, then 90 and 91 by the images' shapes; and where none is given, both images
-- are of one shape. Assumes nothing.
use mathlib.Core.Path.{◌≡◌, refl, sym, ap, ◌∙◌}
use mathlib.Core.Logic.{◌≢◌}
use mathlib.Core.List.{List}
use Prim.Native.Nat.{ℕ, zero, suc}
use native.Mathlib.Omega.{arith}
use lib.ListN.{length}
use Rattle.rules.specs.Answer.{says}
use Rattle.chains.specs.Psi.{Ψ, table_bytes}
use Rattle.rules.specs.Claim.{Kept}
use Rattle.rules.specs.First.{first}
use Rattle.rules.proofs.ClaimLaws.{Found, none, one, found}
use Rattle.image.specs.Image.{copy, B, S, e#, sector_at, directory_at, table_at}
use Rattle.image.specs.Facts.{Facts}
use Rattle.image.specs.Verdict.{verdict}
use Rattle.image.specs.Check.{check_of}
use Rattle.image.specs.declared.Shape.{Shape}
use Rattle.image.specs.Answer as K
use Rattle.image.proofs.Accepted.{Open, refused_shut, facts_bounds}
use Rattle.steps.specs.Flags.{flags_to, touched_answer, touched_flags}
use Rattle.steps.specs.Touched.{compare_rules}
use Rattle.touched.specs.Together.{Both, OneShape, shape_rules}

directories : (c d : List ℕ) → S d ≡ S c → B d ≡ B c → copy d ≡ copy c → directory_at d ≡ directory_at c
unfolding directory_at sector_at
directories c d s b y = rw (s, b, y)

tables : (c d : List ℕ) → directory_at d ≡ directory_at c → e# d ≡ e# c → table_at d ≡ table_at c
unfolding table_at
tables c d t e = rw (t, e)

-- two accepted images of the same S, B, e# and copy
one-shape : (c d : List ℕ) (g : Shape) → Open c g → Facts d → S d ≡ S c → B d ≡ B c → e# d ≡ e# c → copy d ≡ copy c → Both c d g
one-shape c d g o p s b e y =
    let q = o.shape in
    let t = directories c d s b y in
    record {
      obeys = o.obeys;
      obeys_after = p;
      shape = q;
      shape_after = record {
        copy_is = q.copy_is ∙ sym y;
        dataset_is = refl;
        size_is = q.size_is ∙ sym b;
        sectors_is = q.sectors_is ∙ sym s;
        entries-is = q.entries-is ∙ sym e;
        bytes-is = q.bytes-is ∙ o.obeys.table-bytes ∙ ap table_bytes (sym s) ∙ sym p.table-bytes;
        psi-is = q.psi-is ∙ ap Ψ (sym s);
        directory-is = q.directory-is ∙ sym t;
        table_is = q.table_is ∙ sym (tables c d t e);
        in_bounds = facts_bounds d p;
      };
    }

module _ (c d f : List ℕ) where
  pub first-refused : (n e : ℕ) → check_of c ≡ K.Refused n e → (says n e ≡ touched_answer c d (length f)) × (f ≡ touched_flags c d f)
  unfolding touched_answer touched_flags
  first-refused n e q = let h = refused_shut c n e q in go n h.number_is h.entry-is h.some
    where
      go : (n : ℕ) → (verdict c).number ≡ n → (verdict c).entry ≡ e → (n ≡ 0 → ⊥) → (says n e ≡ touched_answer c d (length f)) × (f ≡ touched_flags c d f)
      go zero x y h = absurd (h refl)
      go (suc n) x y h = (rw (x, y), rw x)

  module _ {g : Shape} (o : Open c g) where
    pub second-refused : (n e : ℕ) → check_of d ≡ K.Refused n e → (says n e ≡ touched_answer c d (length f)) × (f ≡ touched_flags c d f)
    unfolding touched_answer touched_flags
    second-refused n e q = let h = refused_shut d n e q in go n h.number_is h.entry-is h.some
      where
        go : (n : ℕ) → (verdict d).number ≡ n → (verdict d).entry ≡ e → (n ≡ 0 → ⊥) → (says n e ≡ touched_answer c d (length f)) × (f ≡ touched_flags c d f)
        go zero x y h = absurd (h refl)
        go (suc n) x y h = (rw (o.number_zero, x, y), rw (o.number_zero, x))

    module _ {h : Shape} (p : Open d h) (m : ℕ) (e : m ≡ first (shape_rules g h (length f))) where
      compared : first (compare_rules c d (length f)) ≡ m
      compared = sym (e ∙ ap first (rw (o.shape_is, p.shape_is)))

      pub rules-refused : m ≢ 0 → (says m 0 ≡ touched_answer c d (length f)) × (f ≡ touched_flags c d f)
      unfolding touched_answer touched_flags
      rules-refused z = go m compared z
        where
          go : (m : ℕ) → first (compare_rules c d (length f)) ≡ m → m ≢ 0 → (says m 0 ≡ touched_answer c d (length f)) × (f ≡ touched_flags c d f)
          go zero x h = absurd (h refl)
          go (suc m) x h = (rw (o.number_zero, p.number_zero, x), rw (o.number_zero, p.number_zero, x))

      pub compare-taken : (k : List ℕ) → m ≡ 0 → k ≡ flags_to c d g.entries → (says 0 0 ≡ touched_answer c d (length f)) × (k ≡ touched_flags c d f)
      unfolding touched_answer touched_flags
      compare-taken k z q =
          let x : first (compare_rules c d (length f)) ≡ 0 = compared ∙ z in
          let y : k ≡ flags_to c d (e# c) = rw o.shape.entries-is at q in
          (rw (o.number_zero, p.number_zero, x), rw (o.number_zero, p.number_zero, x) y)

      kept-rules : m ≡ 0 → Kept (compare_rules c d (length f))
      kept-rules z = go (found (compare_rules c d (length f)) (omega arith)) (compared ∙ z)
        where
          go : {n : ℕ} → Found (compare_rules c d (length f)) n → n ≡ 0 → Kept (compare_rules c d (length f))
          go (none k) q = k
          go (one a b) q = absurd (omega arith)

      pub flags-many : m ≡ 0 → length f ≡ g.entries
      flags-many z = (kept-rules z).1.1.1.1.0 ∙ sym o.shape.entries-is

      pub both-shaped : m ≡ 0 → Both c d g
      both-shaped z =
          let k = kept-rules z in
          one-shape c d g o p.obeys k.0 k.1.0 k.1.1.0 k.1.1.1.0

      pub one-shape-of : m ≡ 0 → OneShape c d g
      one-shape-of z = record { accepted = o.number_zero; accepted_after = p.number_zero; shape_after = (both-shaped z).shape_after }
