-- The chain table's places, and the checks of its encoder and decoder (document 01, "Sector chains" and "Encoding what was read"). Assumes nothing.
use Rattle.std.specs.Prelude.{ℕ, zero, suc, ◌+◌, ◌-◌, ◌^◌, List, [], ◌∷◌, ◌++◌, length, get_or}
use Rattle.chains.specs.Psi.{Ψ, table_bytes}
use Rattle.fields.specs.declared.Span.{Span}
use Rattle.fields.specs.Lists.{span}
use Rattle.rules.specs.Claim.{◌≡?◌, ◌≤?◌, every, Rule, rule}

unfoldable pub places : ℕ → ℕ → ℕ → List Span  -- the places of n elements of p bits each, from bit a on
places p a zero = []
places p a (suc n) = span a p ∷ places p (a + p) n

abbrev pub element_places : ℕ → List Span  -- the places of the s - 3 elements of a table, SCT(1) first
element_places s = places (Ψ s) 0 (s - 3)

abbrev pub sector_rules : ℕ → List Rule  -- number 6: S not 4 to 255
sector_rules s = rule 6 (4 ≤? s) ∷ rule 6 (s ≤? 255) ∷ []

-- the encoder's checks in order: 6; 21 (not s - 3 elements, or a buffer not of SCTL bytes); 26 (an element of 2^Ψ or more)
abbrev pub encode_rules : ℕ → List ℕ → ℕ → List Rule
encode_rules s es room =
    sector_rules s
    ++ (rule 21 (length es ≡? s - 3)
    ∷ rule 21 (room ≡? table_bytes s)
    ∷ rule 26 (every (length es) λ i. get_or es i 0 ≤? 2 ^ Ψ s - 1)
    ∷ [])

abbrev pub decode_rules : ℕ → ℕ → List Rule  -- the decoder's checks in order: 6, then 21 (bytes not SCTL in number)
decode_rules s n = sector_rules s ++ (rule 21 (n ≡? table_bytes s) ∷ [])
