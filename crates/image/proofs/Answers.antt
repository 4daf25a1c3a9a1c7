-- The answer of a check is its verdict: the number, the entry, and the shape where it accepts; and an answer is known by its number, entry
-- and values. Assumes nothing.
use mathlib.Core.Path.{◌≡◌, refl}
use mathlib.Core.Logic.{◌↔◌, ◌≢◌}
use mathlib.Core.List.{List, [], ◌∷◌}
use Prim.Native.Nat.{ℕ, zero, suc}
use lib.ListN.{replicate}
use Rattle.rules.specs.First.{first}
use Rattle.rules.specs.Lowest.{lowest}
use Rattle.chains.specs.Psi.{Ψ}
use Rattle.image.specs.Image.{copy, dataset, B, S, e#, SCTL, directory_at, table_at}
use Rattle.image.specs.Rules.{rules}
use Rattle.image.specs.Verdict.{broken_at, shares_at, judged, verdict}
use Rattle.image.specs.Answer.{number_of, entry_of, values_of}
use Rattle.image.specs.Check.{shape_of, checked_by, check_of}
use Rattle.image.specs.Obeys.{Obeys, Says}
use Rattle.image.specs.Answer.{Checked, Accepted, Refused}
use Rattle.image.proofs.Exact.{exact, accepted-exactly}

-- the number and entry of the check's answer are the verdict's
pub check-says : (c : List ℕ) → (number_of (check_of c) ≡ (verdict c).number) × (entry_of (check_of c) ≡ (verdict c).entry)
unfolding check_of verdict
check-says c = go (first (rules c)) (lowest (e# c) (broken_at c)) (lowest (e# c) (shares_at c))
  where
    go : (n j k : ℕ) → (number_of (checked_by (judged n j k).number (judged n j k).entry (shape_of c)) ≡ (judged n j k).number) × (entry_of (checked_by (judged n j k).number (judged n j k).entry (shape_of c)) ≡ (judged n j k).entry)
    go (suc n) j k = (refl, refl)
    go zero (suc j) k = (refl, refl)
    go zero zero (suc k) = (refl, refl)
    go zero zero zero = (refl, refl)

-- so they are given exactly where document 01 says so
pub check_exactly : (c : List ℕ) (n e : ℕ) → ((number_of (check_of c) ≡ n) × (entry_of (check_of c) ≡ e)) ↔ Says c n e
check_exactly c n e = rw ((check-says c).0, (check-says c).1) (exact c n e)

-- an acceptable image is answered by the numbers by which everything in it is found
pub accepted-values : (c : List ℕ) → Obeys c
    → values_of (check_of c) ≡ copy c ∷ dataset c ∷ B c ∷ S c ∷ e# c ∷ SCTL c ∷ Ψ (S c) ∷ directory_at c ∷ table_at c ∷ []
unfolding check_of
accepted-values c o = rw ((accepted-exactly c).1 o)

-- a refusal holds zeros
pub refused_zeros : (a : Checked) → number_of a ≢ 0 → values_of a ≡ replicate 9 0
refused_zeros (Accepted g) h = absurd (h refl)
refused_zeros (Refused n e) h = refl
