-- `touched` gives a number exactly when its rules say so: the first image's own verdict comes first, then the second's, then the first of the rules
-- that is not kept. Assumes nothing.
use mathlib.Core.Path.{◌≡◌, refl, ap, ◌∙◌}
use mathlib.Core.Logic.{◌↔◌, ◌≢◌}
use mathlib.Core.List.{List}
use Prim.Native.Nat.{ℕ, zero, suc, ◌≤◌}
use native.Mathlib.Decide.{ℕ_discrete}
use native.Mathlib.Omega.{arith}
use lib.ListN.{length}
use Rattle.rules.specs.Claim.{Answers}
use Rattle.rules.specs.First.{first}
use Rattle.rules.proofs.First.{answers-exactly}
use Rattle.rules.proofs.AnswerLaws.{refused-stays}
use Rattle.image.specs.Image.{e#}
use Rattle.image.specs.Obeys.{Obeys}
use Rattle.rules.specs.declared.Answer.{Answer}
use Rattle.image.specs.Verdict.{verdict}
use Rattle.image.proofs.Exact.{exact, says, accepted-exactly}
use Rattle.steps.specs.Touched.{compare_rules, Compares, before, after, both}
use Rattle.steps.specs.Flags.{or_refusal, touched_answer, flags_to, touched_flags}

or-refused : (v w : Answer) → v.number ≢ 0 → or_refusal v w ≡ v
or-refused v w h = go v.number v.entry h
  where
    go : (n e : ℕ) → n ≢ 0 → or_refusal (record { number = n; entry = e }) w ≡ record { number = n; entry = e }
    go zero e h = absurd (h refl)
    go (suc n) e h = refl

or-accepted : (v w : Answer) → v.number ≡ 0 → or_refusal v w ≡ w
or-accepted v w z = rw z

some : {m : ℕ} → m ≢ 0 → 1 ≤ m
some h = omega arith

module _ (c d : List ℕ) (n : ℕ) where
  answer-before : (verdict c).number ≢ 0 → touched_answer c d n ≡ verdict c
  unfolding touched_answer
  answer-before h = or-refused (verdict c) _ h

  answer-after : (verdict c).number ≡ 0 → (verdict d).number ≢ 0 → touched_answer c d n ≡ verdict d
  unfolding touched_answer
  answer-after z h = or-accepted (verdict c) _ z ∙ or-refused (verdict d) _ h

  answer-both : (verdict c).number ≡ 0 → (verdict d).number ≡ 0 → touched_answer c d n ≡ record { number = first (compare_rules c d n); entry = 0 }
  unfolding touched_answer
  answer-both z y = or-accepted (verdict c) _ z ∙ or-accepted (verdict d) _ y

  rules-exactly : (m e : ℕ) → ((first (compare_rules c d n) ≡ m) × (0 ≡ e)) ↔ Answers (compare_rules c d n) m e
  rules-exactly = answers-exactly (compare_rules c d n) (omega arith)

  -- the answer is one that `Compares` has
  answer-compares : Compares c d n (touched_answer c d n).number (touched_answer c d n).entry
  answer-compares =
      elim (ℕ_discrete (verdict c).number 0) [
        | no h ↦ rw (answer-before h) (before (some h) (says c))
        | yes z ↦ elim (ℕ_discrete (verdict d).number 0) [
          | no h ↦ rw (answer-after z h) (after ((accepted-exactly c).0 z) (some h) (says d))
          | yes y ↦ rw (answer-both z y) (both ((accepted-exactly c).0 z) ((accepted-exactly d).0 y) ((rules-exactly _ 0).0 (refl, refl)))
        ]
      ]

  -- and whatever `Compares` has is the answer
  compares-answer : {m e : ℕ} → Compares c d n m e → touched_answer c d n ≡ record { number = m; entry = e }
  compares-answer (before {m} {e} h s) =
      let v = (exact c m e).1 s in answer-before (λ z. omega (arith, v.0)) ∙ rw (v.0, v.1)
  compares-answer (after {m} {e} o h s) =
      let v = (exact d m e).1 s in answer-after ((accepted-exactly c).1 o) (λ z. omega (arith, v.0)) ∙ rw (v.0, v.1)
  compares-answer (both {m} {e} o p a) =
      let v = (rules-exactly m e).1 a in answer-both ((accepted-exactly c).1 o) ((accepted-exactly d).1 p) ∙ rw (v.0, v.1)

  -- THE THEOREM: number m and entry e if and only if `Compares` says so
  pub touched-exactly : (m e : ℕ) → (((touched_answer c d n).number ≡ m) × ((touched_answer c d n).entry ≡ e)) ↔ Compares c d n m e
  touched-exactly m e = (
    (λ q. rw (← q.0, ← q.1) answer-compares),
    λ g. (ap (λ (v : Answer). v.number) (compares-answer g), ap (λ (v : Answer). v.entry) (compares-answer g)),
  )

  -- not refused: both images obey, and its own rules are kept
  pub zero-both : (touched_answer c d n).number ≡ 0 → Obeys c × Obeys d × (first (compare_rules c d n) ≡ 0)
  zero-both z = go answer-compares z
    where
      go : {m e : ℕ} → Compares c d n m e → m ≡ 0 → Obeys c × Obeys d × (first (compare_rules c d n) ≡ 0)
      go (before h s) z = absurd (omega arith)
      go (after o h s) z = absurd (omega arith)
      go (both {m} {e} o p a) z = (o, p, ((rules-exactly m e).1 a).0 ∙ z)

-- refused, the flags are as they were
pub flags_stay : (c d f : List ℕ) → (touched_answer c d (length f)).number ≢ 0 → touched_flags c d f ≡ f
unfolding touched_flags
flags_stay c d f h = refused-stays (touched_answer c d (length f)).number (flags_to c d (e# c)) f h
