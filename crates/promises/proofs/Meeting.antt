-- That fields meet end to end, as the page says it, is the test that each list brings; so what is stored by a list that meets is read again. Assumes nothing.
use mathlib.Core.Path.{◌≡◌}
use mathlib.Core.List.{List, [], ◌∷◌}
use Prim.Native.Nat.{ℕ, ◌+◌, ◌*◌, ◌≤◌}
use borrow.Author.Tests.{eq-eqb}
use lib.Dec.{T}
use lib.ListN.{length}
use Rattle.rules.specs.Claim.{Means}
use Rattle.fields.specs.declared.Span.{Span}
use Rattle.fields.specs.Lists.{list_of, bit_after}
use Rattle.fields.specs.Ends.{end_to_end}
use Rattle.fields.specs.Fields.{fields, stores, fit}
use Rattle.fields.proofs.Joined.{lists-joined, head_of, tail_of, nil_of}
use Rattle.fields.proofs.Laws.{fields-stores}
use Rattle.ticket.specs.Kind.{row_of}
use Rattle.ticket.specs.declared.kinds.Kind.{Kind}
use Rattle.ticket.proofs.Listed.{row_facts}
use Rattle.promises.specs.Demands.{Meets}

tested : (a : ℕ) (ps : List Span) (e : ℕ) → Meets a ps e → T (end_to_end a ps e)
tested a [] e m = rw (eq-eqb a e m) tt
tested a (p ∷ ps) e m = rw (eq-eqb p.0 a m.0) (tested (a + p.1) ps e m.1)

meets : (a : ℕ) (ps : List Span) (e : ℕ) → T (end_to_end a ps e) → Meets a ps e
meets a [] e t = nil_of a e t
meets a (p ∷ ps) e t = (head_of a p ps e t, meets (a + p.1) ps e (tail_of a p ps e t))

pub read_again : (a : ℕ) (ps : List Span) (e : ℕ) → Meets a ps e → (l vs : List ℕ) → e ≤ 8 * length l → Means (fit ps vs) → fields (stores l ps vs) ps ≡ vs
read_again a ps e m = fields-stores a ps e (tested a ps e m)

pub kinds-meet : (k : Kind) → Meets 16 (list_of (row_of k).layout) (bit_after (row_of k).layout)
kinds-meet k = meets 16 (list_of (row_of k).layout) (bit_after (row_of k).layout) (rw (← (row_facts k).starts) (lists-joined (row_of k).layout))
