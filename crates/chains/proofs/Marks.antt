-- A mark stands in the last sector's element alone, so that it alters the mark of the chains that end there and nothing else; where chains
-- share a sector, as in document 01's table 33 F0, it alters the other's mark too. Assumes nothing.
use mathlib.Core.Path.{◌≡◌, refl}
use mathlib.Core.Logic.{◌≢◌}
use mathlib.Core.List.{List, [], ◌∷◌}
use Prim.Native.Nat.{ℕ}
use lib.ListN.{replicate}
use borrow.Author.Tests.{eq-eqb, ne_eqb}
use Rattle.bits.specs.Bits.{digit, bit, number, field}
use Rattle.chains.specs.Chain.{Sector, Chain}
use Rattle.chains.specs.Walk.{found, walk, walk_on, member, link}
use Rattle.chains.specs.Packed.{element_in}
use Rattle.chains.specs.Products.{InNoChain}
use Rattle.chains.specs.Marks.{replaced}
use Rattle.chains.proofs.Laws.{chain-apart}

pub replaced-here : (f : ℕ → ℕ) (l x : ℕ) → replaced f l x l ≡ x
unfolding replaced
replaced-here f l x = rw (eq-eqb l l refl)

pub replaced-other : (f : ℕ → ℕ) (l x i : ℕ) → i ≢ l → replaced f l x i ≡ f i
unfolding replaced
replaced-other f l x i h = rw (ne_eqb i l h)

-- an element of a sector in no chain may be anything: every product's chain is as it was
pub carried : (P : ℕ → Type 0) (f : ℕ → ℕ) (S l x : ℕ) → InNoChain P f S l → {j m : ℕ} {ss : List ℕ} → P j → Sector S j → Chain f S j ss m → Chain (replaced f l x) S j ss m
carried P f S l x free {j} {m} {ss} v s c = chain-apart f (replaced f l x) S l (λ y t h. replaced-other f l x y h) s (free j v ss m c) c

-- ---- the incident: without "shares none", blocking the chain of 1 blocks that of 2 (document 01's table 33 F0, S 16)

pub shared : ℕ → ℕ
shared = element_in (0x33 ∷ 0xF0 ∷ replicate 5 0) 0 4

unblocked : (walk shared 16 1 13 ≡ found (1 ∷ 3 ∷ []) 1) × (walk shared 16 2 13 ≡ found (2 ∷ 3 ∷ []) 1)
unfolding shared walk_on member link field number bit digit
unblocked = (refl, refl)

pub incident : (walk (replaced shared 3 14) 16 1 13 ≡ found (1 ∷ 3 ∷ []) 2) × (walk (replaced shared 3 14) 16 2 13 ≡ found (2 ∷ 3 ∷ []) 2)
unfolding shared replaced walk_on member link field number bit digit
incident = (refl, refl)
