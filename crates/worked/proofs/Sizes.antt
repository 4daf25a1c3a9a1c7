-- The smallest card and the largest that can be accepted, each in full, and accepted: by computation. That none is smaller or larger
-- is proved in image (Limits). Assumes nothing.
use mathlib.Core.Path.{◌≡◌, refl}
use lib.ListN.{length}
use Rattle.bits.specs.Bits.{Bytes}
use Rattle.bits.proofs.Laws.{below, below-bytes}
use Rattle.image.specs.Obeys.{Obeys}
use Rattle.image.proofs.Exact.{accepted-exactly}
use Rattle.worked.specs.Cards.{shell_start, one_ticket, small_card, largest}
use Rattle.worked.proofs.Cards.{judge}

smallest-accepted : (length (small_card 0 0) ≡ 132) × ((judge (small_card 0 0)).number ≡ 0)
unfolding judge small_card one_ticket shell_start
smallest-accepted = (refl, refl)

largest-accepted : (length largest ≡ 60439) × ((judge largest).number ≡ 0)
unfolding judge largest shell_start
largest-accepted = (refl, refl)

smallest-bytes : Bytes (small_card 0 0)
unfolding below small_card one_ticket shell_start
smallest-bytes = below-bytes (small_card 0 0) tt

largest-bytes : Bytes largest
unfolding below largest shell_start
largest-bytes = below-bytes largest tt

-- both obey
pub smallest-obeys : Bytes (small_card 0 0) × Obeys (small_card 0 0) × (length (small_card 0 0) ≡ 132)
unfolding judge
smallest-obeys = (smallest-bytes, (accepted-exactly (small_card 0 0)).0 smallest-accepted.1, smallest-accepted.0)

pub largest-obeys : Bytes largest × Obeys largest × (length largest ≡ 60439)
unfolding judge
largest-obeys = (largest-bytes, (accepted-exactly largest).0 largest-accepted.1, largest-accepted.0)
