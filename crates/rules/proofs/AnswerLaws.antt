-- Answers with the same number and entry are the same; and a lent buffer after a call whose number is not 0 is the old one. Assumes nothing.
use mathlib.Core.Path.{◌≡◌, refl}
use mathlib.Core.Logic.{◌≢◌}
use mathlib.Core.List.{List}
use Prim.Native.Nat.{ℕ, zero, suc}
use Rattle.rules.specs.Answer.{says, if_done}

pub says_same : {m n e f : ℕ} → m ≡ n → e ≡ f → says m e ≡ says n f
says_same p q = rw (p, q)

-- refused, no byte is altered
pub refused-stays : (n : ℕ) (new old : List ℕ) → n ≢ 0 → if_done n new old ≡ old
refused-stays zero new old h = absurd (h refl)
refused-stays (suc n) new old h = refl
