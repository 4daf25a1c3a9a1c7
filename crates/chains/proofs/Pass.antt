-- One pass over the entries, with one count of elements still allowed for all of them, does not run out: while no product shares a sector with a
-- lower one their sectors together are distinct, so that what is left is enough for each next one. Assumes nothing.
use mathlib.Core.Path.{◌≡◌, refl, sym, ap, ◌∙◌}
use mathlib.Core.Logic.{◌≢◌}
use mathlib.Core.Bool.{Bool, true, false, true≢false}
use mathlib.Core.List.{List, ◌++◌}
use Prim.Native.Nat.{ℕ, zero, suc, ◌+◌, ◌-◌, ◌≤◌, ◌<◌}
use native.Mathlib.Omega.{arith}
use native.Mathlib.Decide.{ℕ_discrete}
use native.Mathlib.Numerals.{sub-one}
use borrow.Author.Count.{below_more}
use lib.ListN.{length, get_or, set, replicate, length-append, length-set}
use Rattle.chains.specs.Chain.{Sector, Leads, last_of}
use Rattle.chains.specs.Walk.{Walk, found, broken, walk}
use Rattle.chains.specs.Packed.{last_left, last_told, left_told, count_told}
use Rattle.chains.specs.Products.{sectors_of, chain_at, is_broken, broken_at, shares_at, last_at, count_at, if_product, all_sectors}
use Rattle.chains.proofs.Laws.{walk-finds, walk-leads, walk-short, leads-short, leads-sectors, last-in}
use Rattle.chains.proofs.Told.{last-told, count-told, left-told}
use Rattle.chains.proofs.ProductLaws.{Tested, so-shares, shares-meets, meets-shares, no_product, last-small}
use Rattle.chains.proofs.Seen.{Seen, seen_none, seen_skip, seen-hit, seen-add}
use Rattle.chains.proofs.Together.{together-few}

-- the products below k have taken all but n of the S - 3 elements
pub record Allowed (p : ℕ → Bool) (f : ℕ → ℕ) (S k n : ℕ) : Type 0 where
  pub low : 1 ≤ k
  counted : length (all_sectors p f S (k - 1)) + n ≡ S - 3

-- what the number r, given with n elements allowed, tells of product k: its chain ends, where, after how many sectors; and how many are then left
pub record Passes (p : ℕ → Bool) (f : ℕ → ℕ) (S k n r : ℕ) : Type 0 where
  pub sound : broken_at p f S k ≡ false
  pub last-is : last_told r ≡ last_at p f S k
  pub last_some : last_at p f S k ≢ 0
  pub told : 256 ≤ r
  pub fewer : left_told r ≤ n
  pub count-is : count_told r n ≡ count_at p f S k
  pub left : Allowed p f S (k + 1) (left_told r)

module _ (p : ℕ → Bool) (f : ℕ → ℕ) (S : ℕ) where
  pub allowed_all : Allowed p f S 1 (S - 3)
  unfolding all_sectors
  allowed_all = record { low = omega arith; counted = omega arith }

  together-more : (k : ℕ) → 1 ≤ k → all_sectors p f S k ≡ all_sectors p f S (k - 1) ++ if_product (p k) (sectors_of (chain_at f S k))
  unfolding all_sectors
  together-more zero l = absurd (omega arith)
  together-more (suc j) l = rw sub-one

  module _ {k n : ℕ} (a : Allowed p f S k n) where
    allowed-more : {l : ℕ} → length (if_product (p k) (sectors_of (chain_at f S k))) + l ≡ n → Allowed p f S (k + 1) l
    allowed-more {l} e =
        let q : k + 1 - 1 ≡ k = omega arith in
        record { low = omega arith; counted = rw (q, together-more k a.low, length-append) (omega (arith, a.counted, e)) }

    pub allowed-skip : p k ≡ false → Allowed p f S (k + 1) n
    allowed-skip e = allowed-more (rw e (omega arith))

    pub allowed-few : n ≤ S - 3
    allowed-few = omega (arith, a.counted)

module _ {P : ℕ → Type 0} {p : ℕ → Bool} {S : ℕ} (t : Tested P p S) (f : ℕ → ℕ) (most : S ≤ 255) where
  module _ {k n r : ℕ} (a : Allowed p f S k n) (v : p k ≡ true) (e : r ≡ last_left n (walk f S k n)) where
    here : Sector S k
    here = t.sector k (t.so k v)

    small : {ss : List ℕ} {m : ℕ} → Leads f S k ss m → Sector S (last_of ss)
    small {ss} q = leads-sectors f S here q (last_of ss) (last-in f S q)

    -- the walk gave no number: the chain is broken, or it shares a sector with a lower one
    pub pass-stops : ((j : ℕ) → j < k → shares_at p f S j ≡ true → ⊥) → r ≡ 0 → broken_at p f S k ≡ false → shares_at p f S k ≡ true
    unfolding broken_at
    pass-stops clean z b = go (shares_at p f S k) refl
      where
        -- with those below it, its sectors are distinct
        enough : (shares_at p f S k ≡ true → ⊥) → length (sectors_of (chain_at f S k)) ≤ n
        enough h =
            let few = together-few t f k (λ j l x. elim (ℕ_discrete j k) [ yes q ↦ h (rw q at (so-shares t f j x)) | no d ↦ clean j (omega arith) (so-shares t f j x) ]) in
            omega (arith, a.counted, rw (together-more p f S k a.low, v, length-append) at few)

        inner : (w : Walk) → chain_at f S k ≡ w → is_broken w ≡ false → length (sectors_of w) ≤ n → ⊥
        inner (found ss m) q x l =
            let d = walk-leads f S (S - 3) k ss m q in
            omega (arith, (small d).low, sym z ∙ e ∙ ap (last_left n) (walk-finds f S here d n l))
        inner (broken x) q y l = true≢false y

        go : (x : Bool) → shares_at p f S k ≡ x → x ≡ true
        go true q = refl
        go false q = absurd (inner (chain_at f S k) refl (rw v at b) (enough (λ y. true≢false (sym y ∙ q))))

    pub pass-goes : r ≢ 0 → Passes p f S k n r
    unfolding broken_at last_at count_at
    pass-goes z = go (walk f S k n) refl e
      where
        go : (w : Walk) → walk f S k n ≡ w → r ≡ last_left n w → Passes p f S k n r
        go (found ss m) q h =
            let d = walk-leads f S n k ss m q in
            let l = walk-short f S n k ss m q in
            let b = small d in
            let u : last_of ss < 256 = omega arith in
            let x : chain_at f S k ≡ found ss m = walk-finds f S here d (S - 3) (leads-short f S here d) in
            record {
              sound = rw (v, x);
              last-is = rw (v, x, h) (last-told n ss m u l);
              last_some = rw (v, x) (λ y. omega (arith, y));
              told = omega (arith, h);
              fewer = rw h (left-told n ss m u l);
              count-is = rw (v, x, h) (count-told n ss m u l);
              left = allowed-more p f S a (rw (v, x) (omega arith));
            }
        go (broken x) q h = absurd (z h)

-- ---- the pass

-- before entry k: the products below it have chains, no two of which share a sector, `seen` remembers their last sectors, and n elements are still allowed
pub record Pass (p : ℕ → Bool) (f : ℕ → ℕ) (S k n : ℕ) (seen : List ℕ) : Type 0 where
  pub allowed : Allowed p f S k n
  pub ends : Seen (last_at p f S) k seen
  pub sound : (j : ℕ) → j < k → 1 ≤ j → broken_at p f S j ≡ true → ⊥
  pub room : length seen ≡ 256

-- at entry k: none below it shares a sector with a lower one, and k is broken or does
pub record Unsound (p : ℕ → Bool) (f : ℕ → ℕ) (S k : ℕ) : Type 0 where
  pub clean : (j : ℕ) → j < k → 1 ≤ j → shares_at p f S j ≡ true → ⊥
  pub shares : broken_at p f S k ≡ false → shares_at p f S k ≡ true

pub pass-start : (p : ℕ → Bool) (f : ℕ → ℕ) (S : ℕ) → Pass p f S 1 (S - 3) (replicate 256 0)
pass-start p f S = record { allowed = allowed_all p f S; ends = seen_none (last_at p f S); sound = λ j l h e. omega arith; room = refl }

module _ {P : ℕ → Type 0} {p : ℕ → Bool} {S : ℕ} (t : Tested P p S) (f : ℕ → ℕ) {k n : ℕ} {seen : List ℕ} (w : Pass p f S k n seen) where
  -- of the products below k none shares
  pub pass-clean : (j : ℕ) → j < k → shares_at p f S j ≡ true → ⊥
  pass-clean j l e = w.ends.clean j l (shares-meets t f j e)

  -- entry k is no product
  pub pass-skip : p k ≡ false → Pass p f S (k + 1) n seen
  pass-skip e =
      let q = no_product t f k e in
      record {
        allowed = allowed-skip p f S w.allowed e;
        ends = seen_skip (last_at p f S) k w.allowed.low seen w.ends q.1;
        sound = below_more (λ j. 1 ≤ j → broken_at p f S j ≡ true → ⊥) k w.sound (λ l h. true≢false (sym h ∙ q.0));
        room = w.room;
      }

  module _ (most : S ≤ 255) (v : p k ≡ true) {r : ℕ} (e : r ≡ last_left n (walk f S k n)) where
    -- it has no chain within what is allowed
    pub pass-none : r ≡ 0 → Unsound p f S k
    pass-none z = record { clean = λ j l b. pass-clean j l; shares = pass-stops t f most w.allowed v e pass-clean z }

    -- it has one that ends where another does
    pub pass-met : r ≢ 0 → get_or seen (last_told r) 0 ≢ 0 → Unsound p f S k
    pass-met z h = record {
      clean = λ j l b. pass-clean j l;
      shares = λ b. let g = pass-goes t f most w.allowed v e z in meets-shares t f k (seen-hit (last_at p f S) k w.allowed.low seen w.ends g.last_some (rw g.last-is at h));
    }

    -- it has one that ends where no other does
    pub pass-take : r ≢ 0 → get_or seen (last_told r) 0 ≡ 0 → Passes p f S k n r × Pass p f S (k + 1) (left_told r) (set seen (last_told r) 1)
    pass-take z h =
        let g = pass-goes t f most w.allowed v e z in (
          g,
          record {
            allowed = g.left;
            ends = rw g.last-is (seen-add (last_at p f S) k w.allowed.low seen w.ends (omega (arith, w.room, last-small t f k)) (rw g.last-is at h));
            sound = below_more (λ j. 1 ≤ j → broken_at p f S j ≡ true → ⊥) k w.sound (λ l x. true≢false (sym x ∙ g.sound));
            room = length-set seen (last_told r) 1 ∙ w.room;
          },
        )
