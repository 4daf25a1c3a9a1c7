-- An annex: cards byte by byte: those of document 01, "Examples by hand", the smallest and largest of "The image", one with two directory copies that differ,
-- one with a ticket of two sectors, one with a ticket that ends in the night, and one with an area ticket. Assumes nothing.
use Rattle.std.specs.Prelude.{List, [], ◌∷◌, ◌++◌, ℕ, replicate}

-- the shell's first 16 bytes, before B, S, e# and SCTL: a dataset of 24 bytes
unfoldable pub shell_start : List ℕ
shell_start = 0x18 ∷ 0x01 ∷ 0x63 ∷ 0x35 ∷ 0x97 ∷ 0x12 ∷ 0x34 ∷ 0x12 ∷ 0x34 ∷ 0x56 ∷ 0x77 ∷ 0x01 ∷ 0x00 ∷ 0x00 ∷ 0x00 ∷ 0x64 ∷ []

-- sector 0 of B 64, S 16, e# 2, SCTL 7, with its SECR
unfoldable pub shell_sector : List ℕ
shell_sector = shell_start ++ (0x40 ∷ 0x10 ∷ 0x02 ∷ 0x07 ∷ 0x00 ∷ 0x00 ∷ 0xBE ∷ 0xB2 ∷ replicate 40 0)

-- the directory: two entries, a table that begins with the bytes a and b, and the rest of the sector
unfoldable pub directory : ℕ → ℕ → List ℕ
directory a b =
    0 ∷ 0 ∷ 0x00 ∷ 0x06 ∷ 0xE1 ∷ 0x00 ∷ 0x01 ∷ 0x00 ∷ 0x06 ∷ 0xE1 ∷ 0x00 ∷ 0x01
    ∷ a ∷ b ∷ replicate 50 0

-- "With S 16, e# 2, both entries present": of B 64 and copy A, with the table a, b and zeros
unfoldable pub card : ℕ → ℕ → List ℕ
card a b = 0x04 ∷ 0x04 ∷ 1 ∷ 0 ∷ shell_sector ++ (replicate 832 0 ++ (directory a b ++ replicate 64 0))

-- the same with a copy A whose chains share a sector: copy k is in force, and the table of copy B is 32, b and zeros
unfoldable pub copies : ℕ → ℕ → List ℕ
copies k b = 0x04 ∷ 0x04 ∷ 1 ∷ k ∷ shell_sector ++ (replicate 832 0 ++ (directory 0x33 0xF0 ++ directory 0x32 b))

-- the same of S 17, where Ψ is 5 and SCTL 9
unfoldable pub card17 : ℕ → ℕ → List ℕ
card17 a b =
    0x04 ∷ 0x44 ∷ 1 ∷ 0
    ∷ shell_start ++ (0x40 ∷ 0x11 ∷ 0x02 ∷ 0x09 ∷ 0x00 ∷ 0x00 ∷ 0xA5 ∷ 0xED
    ∷ (replicate 936 0 ++ (directory a b ++ replicate 64 0)))

-- S 4, B 32, one entry, whose third byte is y (0xE1 of TYP 23, 0xC1 of TYP 22), of the EXP e, and whose chain is its sector 1, used (the element is 3); the 32
-- bytes of that sector
unfoldable pub one_ticket : ℕ → ℕ → List ℕ → List ℕ
one_ticket y e sector =
    0x00 ∷ 0x84 ∷ 1 ∷ 0
    ∷ shell_start ++ (0x20 ∷ 0x04 ∷ 0x01 ∷ 0x01 ∷ 0x00 ∷ 0x00 ∷ 0x53 ∷ 0x47
    ∷ (replicate 8 0 ++ (sector ++ (0 ∷ 1 ∷ 0x00 ∷ 0x06 ∷ y ∷ 0x00 ∷ e ∷ 0xC0 ∷ replicate 56 0))))

-- of TYP 23 and EXP 1, the sector's first bytes a and b
unfoldable pub small_card : ℕ → ℕ → List ℕ
small_card a b = one_ticket 0xE1 1 (a ∷ b ∷ replicate 30 0)

-- of TYP 23 and EXP e, a ticket with a and b as its bytes 9 and 10, where ExpiryTime stands, and p as byte 19, the last of AmountPaid
unfoldable pub night_card : ℕ → ℕ → ℕ → ℕ → List ℕ
night_card e a b p = one_ticket 0xE1 e (0x20 ∷ 0x02 ∷ (replicate 7 0 ++ (a ∷ b ∷ (replicate 8 0 ++ (p ∷ replicate 12 0)))))

-- the 32 bytes of an area ticket: l and r its header's, x its bytes 9 to 11, where ExpiryTime stands, and y those from 13 on
unfoldable pub area_sector : ℕ → ℕ → List ℕ → List ℕ → List ℕ
area_sector l r x y = l ∷ r ∷ 0x1E ∷ 0x02 ∷ 0x01 ∷ 0x01 ∷ 0x05 ∷ 0x4F ∷ 0x9C ∷ x ++ (0x68 ∷ y)

-- S 237, B 255, one entry, whose chain is its sector 1, fresh: the element is 1
unfoldable pub largest : List ℕ
largest =
    0xEC ∷ 0x17 ∷ 1 ∷ 0
    ∷ shell_start ++ (0xFF ∷ 0xED ∷ 0x01 ∷ 0xEA ∷ 0x00 ∷ 0x00 ∷ 0x71 ∷ 0x88
    ∷ (replicate 59901 0 ++ (0 ∷ 1 ∷ 0x00 ∷ 0x06 ∷ 0xE1 ∷ 0x00 ∷ 0x01 ∷ 0x01 ∷ replicate 502 0)))

-- S 6, B 32, e# 2: the ticket of entry 1, of TYP 23, is in sectors 1 and 3, with a and b as its bytes 9 and 10; t is the table's second byte, 0x80 where entry 1
-- is used and 0x00 where it is blocked; entry 2, whose third byte is y, has sector 2, of these 32 bytes
unfoldable pub two_tickets : ℕ → ℕ → ℕ → ℕ → List ℕ → List ℕ
two_tickets a b t y sector =
    0x00 ∷ 0xC4 ∷ 1 ∷ 0
    ∷ shell_start ++ (0x20 ∷ 0x06 ∷ 0x02 ∷ 0x02 ∷ 0x00 ∷ 0x00 ∷ 0x8F ∷ 0x66 ∷ replicate 8 0
    ++ (0x40 ∷ 0x02 ∷ 0x1E ∷ 0x02 ∷ 0x01 ∷ 0x05 ∷ 0x4F ∷ 0xA7 ∷ 0x0F ∷ a ∷ b ∷ 0x53 ∷ 0x02 ∷ 0x01 ∷ 0x04 ∷ 0x96
    ∷ 0x00 ∷ 0x01 ∷ 0x86 ∷ 0xA0 ∷ 0x37 ∷ 0xD0 ∷ 0x07 ∷ 0x5B ∷ 0xCD ∷ 0x15 ∷ 0x15 ∷ 0x12 ∷ 0x34 ∷ 0xAA ∷ 0xBB ∷ 0xCC
    ∷ sector
    ++ (replicate 32 0x33
    ++ (0 ∷ 0 ∷ 0x00 ∷ 0x06 ∷ 0xE1 ∷ 0x27 ∷ 0x10 ∷ 0x00 ∷ 0x06 ∷ y ∷ 0x00 ∷ 0x01 ∷ 0x6A ∷ t ∷ replicate 50 0))))

-- entry 2 of TYP 23
unfoldable pub ticket_card : ℕ → ℕ → ℕ → List ℕ
ticket_card a b t = two_tickets a b t 0xE1 (0x20 ∷ 0x02 ∷ replicate 30 0x22)

-- entry 2 of TYP 22 and revision 3: x its ticket's bytes 9 to 11, and p its byte 26, the last of AmountPaid
unfoldable pub mixed_card : ℕ → ℕ → List ℕ → ℕ → List ℕ
mixed_card a b x p = two_tickets a b 0x80 0xC1 (area_sector 0x20 3 x (replicate 13 0 ++ (p ∷ replicate 5 0)))
