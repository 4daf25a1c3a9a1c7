-- Values in memory: a kind's own come first, and zeros fill the room that the longest list needs. Assumes nothing.
use mathlib.Core.Path.{◌≡◌, ap, ◌∙◌}
use mathlib.Core.List.{List, ◌++◌}
use Prim.Native.Nat.{ℕ, ◌+◌, ◌-◌, ◌≤◌}
use native.Mathlib.Omega.{arith}
use lib.ListN.{length, get_or, take, replicate, length-append, length-replicate}
use lib.Seq.{take_at, take-append_seam, get_or-append-add}
use Rattle.fields.specs.Padded.{most, held}
use Rattle.chains.proofs.Seen.{zeros}
use Rattle.ticket.specs.Kind.{kind_of, count_of}
use Rattle.ticket.specs.Ticket.{record_of}
use Rattle.ticket.specs.Memory.{own_of, own}

module _ (vs : List ℕ) where
  abbrev after : List ℕ
  after = replicate (most - length vs) 0

  zero-after : (i : ℕ) → length vs ≤ i → get_or (held vs) i 0 ≡ 0
  zero-after i h =
      let e : i ≡ length vs + (i - length vs) = omega arith in
      ap (λ (k : ℕ). get_or (held vs) k 0) e ∙ get_or-append-add vs after (i - length vs) 0 ∙ zeros (most - length vs) (i - length vs)

  pub in_memory : length vs ≤ 25 → (length (held vs) ≡ 25) × (take (length vs) (held vs) ≡ vs) × ((i : ℕ) → length vs ≤ i → get_or (held vs) i 0 ≡ 0)
  in_memory h = (length-append vs after ∙ omega (arith, length-replicate {A = ℕ} (most - length vs) 0), take-append_seam vs after, zero-after)

pub of_memory : (t r : ℕ) (vs xs : List ℕ) → length vs ≡ count_of (kind_of t r).layout → (own_of t r (vs ++ xs) ≡ vs) × (own (record_of t r (vs ++ xs)) ≡ record_of t r vs)
of_memory t r vs xs e = let p = take_at vs xs (count_of (kind_of t r).layout) e in (p, ap (record_of t r) p)
