-- The ISRN in words of digits: IIN, OID, ISSN and CHD side by side have the digits of one number, whose rules are those of its first two digits and its
-- sixteen others. Assumes nothing.
use mathlib.Core.Path.{◌≡◌, refl, sym, ap, ap₂, subst, ◌∙◌}
use mathlib.Core.Logic.{◌↔◌, ◌⊎◌, inl, inr, ⊎_elim}
use mathlib.Core.Bool.{Bool, true}
use mathlib.Core.List.{List, [], ◌∷◌, ◌++◌}
use Prim.Native.Nat.{ℕ, ◌+◌, ◌*◌, ◌/◌, ◌%◌, ◌^◌, ◌≤◌, ◌<◌}
use native.Mathlib.Omega.{arith}
use lib.ListN.{length, set}
use lib.Seq.{get_or-set_same, get_or-set_other}
use Rattle.rules.specs.Claim.{Means, Kept, Fails, here, later}
use Rattle.rules.specs.First.{holds, first}
use Rattle.rules.proofs.ClaimLaws.{holds_means, Found, none, one, found, fails-after, kept-both}
use Rattle.rules.proofs.First.{stops, passes}
use Rattle.digits.specs.Digits.{decimal, digits_of, luhn}
use Rattle.digits.proofs.Bytewise.{luhn-append, luhn-short}
use Rattle.digits.proofs.Joined.{digits_join, widened}
use Rattle.digits.proofs.Luhn.{Decimals, decimals_join, decimals_digits, once}
use Rattle.shell.specs.Shell.{IIN, OID, ISSN, CHD, ISRN, digit_rules, check_digit_rule}
use Rattle.shell.specs.Encode.{isrn_rules, word_rules}

pub digit_tested : (v i : ℕ) {r : Bool} → r ≡ holds (decimal 16 v) → r ≡ true → i < 16 → v / 2 ^ (4 * i) % 16 ≤ 9
digit_tested v i e t h = holds_means (decimal 16 v) (sym e ∙ t) i h

pub one_number : (vs : List ℕ) → OID vs < 2 ^ 16 → ISSN vs < 2 ^ 28 → CHD vs < 2 ^ 4
    → ISRN vs ≡ digits_of 18 ((IIN vs * 2 ^ 16 + OID vs) * 2 ^ 32 + (ISSN vs * 2 ^ 4 + CHD vs))
unfolding digits_of
one_number vs ho hs hc =
    sym (ap₂ (λ (x y : List ℕ). x ++ y) (digits_join 1 7 (ISSN vs) (CHD vs) hc) (digits_join 4 6 (IIN vs) (OID vs) ho))
    ∙ sym (digits_join 8 10 (IIN vs * 2 ^ 16 + OID vs) (ISSN vs * 2 ^ 4 + CHD vs) (omega arith))

module _ (vs : List ℕ) where
  -- its digits are decimal where the first half of rule 8 is kept, and only there
  pub rule-8 : Kept (digit_rules vs) ↔ Decimals (ISRN vs)
  rule-8 =
      let i = decimals_digits 6 (IIN vs) in
      let o = decimals_join 4 (OID vs) (digits_of 6 (IIN vs)) in
      let s = decimals_join 7 (ISSN vs) (digits_of 4 (OID vs) ++ digits_of 6 (IIN vs)) in
      let c = decimals_join 1 (CHD vs) (digits_of 7 (ISSN vs) ++ (digits_of 4 (OID vs) ++ digits_of 6 (IIN vs))) in
      ((λ k. c.0 (k.1.1.1.0, s.0 (k.1.1.0, o.0 (k.1.0, i.0 k.0)))), λ ten. let x = c.1 ten in let y = s.1 x.1 in let z = o.1 y.1 in (i.1 z.1, (z.0, (y.0, (x.0, tt)))))

  -- 8 is that of a digit, and 12 that of the check digit
  pub told : {n : ℕ} → Fails (isrn_rules vs) n → ((n ≡ 8) × Fails (digit_rules vs) n) ⊎ ((n ≡ 12) × Kept (digit_rules vs))
  told (here x) = inl (refl, here x)
  told (later a (here x)) = inl (refl, later a (here x))
  told (later a (later b (here x))) = inl (refl, later a (later b (here x)))
  told (later a (later b (later d (here x)))) = inl (refl, later a (later b (later d (here x))))
  told (later a (later b (later d (later e (here x))))) = inr (refl, (a, (b, (d, (e, tt)))))
  told {n = n} (later a (later b (later d (later e (later _ x))))) = elim x [ ]

  not-kept : (Kept (digit_rules vs) → ⊥) → Fails (isrn_rules vs) 8
  not-kept h = go (found (isrn_rules vs) (omega arith))
    where
      go : {n : ℕ} → Found (isrn_rules vs) n → Fails (isrn_rules vs) 8
      go (none k) = absurd (h (k.0, (k.1.0, (k.1.1.0, (k.1.1.1.0, tt)))))
      go (one a f) = ⊎_elim (λ t. subst (Fails (isrn_rules vs)) t.0 f) (λ t. absurd (h t.1)) (told f)

  -- its first two digits are `high`, and the sixteen others `low`
  module _ (high low : ℕ) (hh : high < 256) (hl : low < 2 ^ 64) (d : ISRN vs ≡ digits_of 18 (high * 2 ^ 64 + low)) where
    in_words : ISRN vs ≡ digits_of 16 low ++ digits_of 2 high
    in_words = d ∙ digits_join 16 2 high low hl

    summed : luhn (ISRN vs) ≡ luhn (digits_of 16 low) + luhn (digits_of 16 high)
    summed =
        ap luhn in_words ∙ luhn-append 8 low (digits_of 2 high)
        ∙ ap (λ (x : ℕ). luhn (digits_of 16 low) + x) (sym (luhn-short 1 7 high hh))

    decimal-words : Kept (digit_rules vs) → Means (decimal 16 high) × Means (decimal 16 low)
    decimal-words k =
        let t = (decimals_join 16 low (digits_of 2 high)).1 (rw in_words at (rule-8.0 k)) in
        (widened 2 high (omega arith) hh ((decimals_digits 2 high).1 t.1), t.0)

    words-decimal : Means (decimal 16 high) → Means (decimal 16 low) → Kept (digit_rules vs)
    words-decimal mh ml =
        rule-8.1 (rw in_words ((decimals_join 16 low (digits_of 2 high)).0 (ml, (decimals_digits 2 high).0 (λ i h. mh i (omega arith)))))

    -- judged by words, it gets the number of its fields
    pub by-words : first (word_rules high low) ≡ first (isrn_rules vs)
    by-words = go (found (word_rules high low) (omega arith))
      where
        go : {n : ℕ} → Found (word_rules high low) n → n ≡ first (isrn_rules vs)
        go (none k) =
            passes (isrn_rules vs) (kept-both (digit_rules vs) (check_digit_rule vs ∷ []) (words-decimal k.0 k.1.0) (rw summed k.1.1.0, tt))
        go (one a (here x)) = stops (not-kept (λ k. x (decimal-words k).0))
        go (one a (later mh (here x))) = stops (not-kept (λ k. x (decimal-words k).1))
        go (one a (later mh (later ml (here x)))) =
            stops (fails-after (digit_rules vs) (words-decimal mh ml) (here (λ z. x (rw (← summed) z))))
        go {n = n} (one a (later mh (later ml (later _ x)))) = elim x [ ]

-- ---- another CHD

with-chd : (vs : List ℕ) (d : ℕ) → 7 ≤ length vs → d ≤ 9 → ISRN (set vs 6 d) ≡ d ∷ (digits_of 7 (ISSN vs) ++ (digits_of 4 (OID vs) ++ digits_of 6 (IIN vs)))
unfolding digits_of
with-chd vs d h l =
    let e : d % 16 ≡ d = omega arith in
    rw (get_or-set_same vs 6 d 0 (omega arith), get_or-set_other vs 6 5 d 0 (λ z. omega arith), get_or-set_other vs 6 4 d 0 (λ z. omega arith), get_or-set_other vs 6 3 d 0 (λ z. omega arith), e) refl

-- one is right
pub chd-once : (vs : List ℕ) → 7 ≤ length vs
    → (d : ℕ) × (d ≤ 9) × (luhn (ISRN (set vs 6 d)) % 10 ≡ 0) × ((e : ℕ) → e ≤ 9 → luhn (ISRN (set vs 6 e)) % 10 ≡ 0 → e ≡ d)
chd-once vs h =
    let o = once (digits_of 7 (ISSN vs) ++ (digits_of 4 (OID vs) ++ digits_of 6 (IIN vs))) in
    (o.0, o.1, rw (with-chd vs o.0 h o.1) o.2, λ e l z. o.3 e l (rw (with-chd vs e h l) at z))
