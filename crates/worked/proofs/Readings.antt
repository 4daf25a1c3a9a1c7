-- How 004, 5.1.5.2 reads the element that ends a chain, and document 01 with it: on the worked card, by computation. Assumes nothing.
use mathlib.Core.Path.{◌≡◌, refl}
use mathlib.Core.List.{List, [], ◌∷◌, ◌++◌}
use Prim.Native.Nat.{ℕ}
use lib.ListN.{replicate}
use Rattle.bits.specs.Bits.{digit, bit, number, field}
use Rattle.chains.specs.Breaks.{is_zero}
use Rattle.chains.specs.Walk.{Walk, found, broken, link, member, walk_on, walk}
use Rattle.chains.specs.Packed.{element_in}
use Rattle.image.specs.Image.{sectors}
use Rattle.rules.specs.Answer.{says}
use Rattle.worked.specs.Cards.{shell_start, shell_sector}
use Rattle.worked.proofs.Cards.{judge}

-- the walk from sector 1 of a table of S 16 that begins with the byte a
walked : ℕ → Walk
walked a = walk (element_in (a ∷ replicate 6 0) 0 4) 16 1 13

-- 3 A: it refers to itself, never used; B: to S-2, blocked; C: to S-1, used and not blocked
ends : (walked 0x10 ≡ found (1 ∷ []) 0) × (walked 0xE0 ≡ found (1 ∷ []) 2) × (walked 0xF0 ≡ found (1 ∷ []) 1)
unfolding walked walk_on member link field number bit digit
ends = (refl, refl, refl)

-- 4: 0 says that the sector is free, so no chain passes it
free : walked 0x00 ≡ broken (record { sector = 1; fault = is_zero; consulted = 1 })
unfolding walked walk_on member link field number bit digit
free = refl

-- 2: the sector of entry 2 continues the chain of entry 1, where entry 2 is empty
lent : List ℕ
lent =
    0x04 ∷ 0x04 ∷ 1 ∷ 0
    ∷ shell_sector ++ (replicate 832 0 ++ (0 ∷ 0 ∷ 0x00 ∷ 0x06 ∷ 0xE1 ∷ 0x00 ∷ 0x01 ∷ 0 ∷ 0 ∷ 0 ∷ 0 ∷ 0 ∷ 0x2F ∷ replicate 115 0))

lent-accepted : (judge lent ≡ says 0 0) × (sectors lent 1 ≡ 1 ∷ 2 ∷ [])
unfolding judge sectors lent shell_sector shell_start
lent-accepted = (refl, refl)
