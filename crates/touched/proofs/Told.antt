-- Where `touched` is not refused, both images are of one shape, so that each of its flags, one for each entry, is 1 exactly where its entry is touched.
-- Assumes nothing.
use mathlib.Core.Path.{◌≡◌, refl, subst, ◌∙◌}
use mathlib.Core.Logic.{◌↔◌}
use mathlib.Core.Bool.{Bool, true, false}
use mathlib.Core.List.{List, [], ◌∷◌}
use Prim.Native.Nat.{ℕ, zero, suc, ◌-◌, ◌≤◌}
use native.Mathlib.Decide.{dec_lt}
use native.Mathlib.Omega.{arith}
use lib.ListN.{length, get_or, length-append, get_or-append}
use lib.Seq.{get_or-append_seam}
use Rattle.image.specs.Image.{e#}
use Rattle.image.specs.Check.{shape_of}
use Rattle.image.proofs.Accepted.{opened}
use Rattle.image.proofs.Exact.{accepted-exactly}
use Rattle.steps.specs.Touched.{Touched}
use Rattle.steps.specs.Flags.{kept, flag_of, flags_to, touched_answer, touched_flags}
use Rattle.touched.specs.Together.{Both}
use Rattle.touched.proofs.Compare.{both-shaped}
use Rattle.touched.proofs.Exactly.{zero-both}
use Rattle.touched.proofs.Flags.{flag-exactly}

-- ---- the flags of the entries 1, .., n

length-flags : (c d : List ℕ) (n : ℕ) → length (flags_to c d n) ≡ n
unfolding flags_to
length-flags c d zero = refl
length-flags c d (suc n) = omega (arith, length-append (flags_to c d n) (flag_of (kept c d (suc n)) ∷ []), length-flags c d n)

flag_at : (c d : List ℕ) (n j : ℕ) → 1 ≤ j → j ≤ n → get_or (flags_to c d n) (j - 1) 0 ≡ flag_of (kept c d j)
unfolding flags_to
flag_at c d zero j l h = absurd (omega arith)
flag_at c d (suc n) j l h =
    let m = length-flags c d n in
    elim (dec_lt (j - 1) n) [
      | yes k ↦ get_or-append (flags_to c d n) (flag_of (kept c d (suc n)) ∷ []) 0 (j - 1) (omega arith) ∙ flag_at c d n j l (omega arith)
      | no k ↦ let p : j - 1 ≡ n = omega arith in
          let q : j ≡ suc n = omega arith in
          rw (p, q) (subst (λ (x : ℕ). get_or (flags_to c d (suc n)) x 0 ≡ flag_of (kept c d (suc n))) m (get_or-append_seam (flags_to c d n) (flag_of (kept c d (suc n))) [] 0))
    ]

flag_small : (b : Bool) → flag_of b ≤ 1
flag_small true = omega arith
flag_small false = omega arith

-- ---- what the call tells

module _ (c d f : List ℕ) (z : (touched_answer c d (length f)).number ≡ 0) where
  one-shape : Both c d (shape_of c)
  one-shape =
      let q = zero-both c d (length f) z in
      both-shaped c d f (opened c ((accepted-exactly c).1 q.0)) (opened d ((accepted-exactly d).1 q.1)) _ refl q.2

  flags-are : touched_flags c d f ≡ flags_to c d (e# c)
  unfolding touched_flags
  flags-are = rw z

  -- a flag for each entry, 0 or 1, and 1 exactly where it is touched
  pub told : (length (touched_flags c d f) ≡ e# c)
      × ((j : ℕ) → 1 ≤ j → j ≤ e# c → (get_or (touched_flags c d f) (j - 1) 0 ≤ 1) × ((get_or (touched_flags c d f) (j - 1) 0 ≡ 1) ↔ Touched c d j))
  told = (
    rw flags-are (length-flags c d (e# c)),
    λ j l h. rw (flags-are, flag_at c d (e# c) j l h) (flag_small (kept c d j), flag-exactly one-shape j l h),
  )
