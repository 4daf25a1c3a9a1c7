-- Two chains walked together are the same exactly where their sectors, their marks and their bytes are: an element tells its end or its next
-- sector, and no two elements tell the same. Assumes nothing.
use mathlib.Core.Path.{◌≡◌, refl, sym, ap, ◌∙◌}
use mathlib.Core.Logic.{◌≢◌}
use mathlib.Core.Bool.{Bool, true, false, ◌&&◌, false≢true}
use mathlib.Core.List.{List, [], ◌∷◌, ◌++◌, append-nil}
use Prim.Native.Nat.{ℕ, zero, suc, ◌≤◌}
use native.Mathlib.Decide.{ℕ_discrete}
use native.Mathlib.Omega.{arith}
use lib.Dec.{eqb}
use lib.ListN.{length}
use borrow.Author.Tests.{eqb-true, eq-eqb, ne_eqb}
use Rattle.chains.specs.Chain.{Sector, Ends, fresh, used, blocked, Leads, last}
use Rattle.chains.specs.Chain as C
use Rattle.chains.proofs.Laws.{one-mark, ends-or-names, view, view-end, view-to}
use Rattle.rules.proofs.ClaimLaws.{and-true}
use Rattle.image.specs.Image.{element, sector, joined}
use Rattle.image.proofs.First.{sectors-head}
use Rattle.steps.specs.Flags.{alike}
use Rattle.touched.specs.Together.{same_from}

-- ---- lists

pub alike_so : (xs ys : List ℕ) → alike xs ys ≡ true → xs ≡ ys
unfolding alike
alike_so [] [] e = refl
alike_so [] (y ∷ ys) e = absurd (false≢true e)
alike_so (x ∷ xs) [] e = absurd (false≢true e)
alike_so (x ∷ xs) (y ∷ ys) e = let z = and-true (eqb x y) (alike xs ys) e in rw (eqb-true x y z.0, alike_so xs ys z.1)

pub so-alike : (xs : List ℕ) → alike xs xs ≡ true
unfolding alike
so-alike [] = refl
so-alike (x ∷ xs) = rw (eq-eqb x x refl, so-alike xs)

pub alike-append : (xs ys us ws : List ℕ) → length xs ≡ length us → alike (xs ++ ys) (us ++ ws) ≡ (alike xs us && alike ys ws)
unfolding alike
alike-append [] ys [] ws e = refl
alike-append [] ys (a ∷ us) ws e = absurd (omega arith)
alike-append (x ∷ xs) ys [] ws e = absurd (omega arith)
alike-append (x ∷ xs) ys (a ∷ us) ws e = go (eqb x a) (alike-append xs ys us ws (omega arith))
  where
    go : (b : Bool) → alike (xs ++ ys) (us ++ ws) ≡ (alike xs us && alike ys ws) → (b && alike (xs ++ ys) (us ++ ws)) ≡ ((b && alike xs us) && alike ys ws)
    go true h = h
    go false h = refl

-- ---- elements

-- the mark tells the element
ends_back : {s i x y m : ℕ} → Ends s i x m → Ends s i y m → x ≡ y
ends_back (fresh e) (fresh f) = e ∙ sym f
ends_back (used e) (used f) = e ∙ sym f
ends_back (blocked e) (blocked f) = e ∙ sym f

same_ends : {s i x y m k : ℕ} → Sector s i → Ends s i x m → Ends s i y k → eqb x y ≡ eqb m k
same_ends {s} {i} {x} {y} {m} {k} t a b = elim (ℕ_discrete x y) [
  | yes e ↦ eq-eqb x y e ∙ sym (eq-eqb m k (one-mark t a (rw (sym e) at b)))
  | no d ↦ ne_eqb x y d ∙ sym (ne_eqb m k (λ e. d (ends_back a (rw (sym e) at b))))
]

-- ---- the walk

-- chains that start at different sectors are not alike
starts_apart : {f g : ℕ → ℕ} {s i j m k : ℕ} {ss ts : List ℕ} → Leads f s i ss m → Leads g s j ts k → i ≢ j → alike ss ts ≡ false
unfolding alike
starts_apart {i = i} {j = j} p q d = let x = sectors-head p in let y = sectors-head q in rw (x.1, y.1, ne_eqb i j d)

-- ---- tests joined

and-false : (x : Bool) → (x && false) ≡ false
and-false true = refl
and-false false = refl

at-end : (x y : Bool) → (x && (y && true)) ≡ (y && x)
at-end true true = refl
at-end true false = refl
at-end false true = refl
at-end false false = refl

going_on : (x a e j : Bool) → (x && (a && (e && j))) ≡ (a && (e && (x && j)))
going_on true a e j = refl
going_on false a e j = sym (ap (λ (z : Bool). a && z) (and-false e) ∙ and-false a)

module _ (c d : List ℕ) (n₀ : ℕ) (long : (i : ℕ) → Sector n₀ i → length (sector c i) ≡ length (sector d i)) where
  -- the test of one sector
  abbrev pub same_sector : ℕ → Bool
  same_sector i = alike (sector c i) (sector d i)

  pub together : {i m k : ℕ} {ss ts : List ℕ} (n : ℕ) → Sector n₀ i → Leads (element c) n₀ i ss m → Leads (element d) n₀ i ts k → length ss ≤ n
      → same_from (element c) (element d) same_sector n₀ i n ≡ (alike ss ts && (eqb m k && alike (joined c ss) (joined d ts)))
  unfolding same_from alike joined
  together zero s (last a) q h = absurd (omega arith)
  together zero s (C.then a p) q h = absurd (omega arith)
  together {i} {m} {k} (suc n) s (last a) (last b) h =
      rw (view-end s (view n₀ i (element c i)) a, eq-eqb i i refl, same_ends s a b, append-nil (sector c i), append-nil (sector d i)) (at-end (same_sector i) (eqb m k))
  together {i} {m} {k} (suc n) s (last a) (C.then b q) h =
      let x = sectors-head q in
      rw (ne_eqb (element c i) (element d i) (λ e. ends-or-names s (rw e at a) b), eq-eqb i i refl, x.1) (and-false (same_sector i))
  together {i} {m} {k} (suc n) s (C.then a p) (last b) h =
      let x = sectors-head p in
      rw (ne_eqb (element c i) (element d i) (λ e. ends-or-names s b (rw e at a)), eq-eqb i i refl, x.1) (and-false (same_sector i))
  together {i} {m} {k} (suc n) s (C.then {ss = ss} a p) (C.then {ss = ts} b q) h = elim (ℕ_discrete (element c i) (element d i)) [
    | no z ↦ rw (ne_eqb (element c i) (element d i) z, eq-eqb i i refl, starts_apart p q z) (and-false (same_sector i))
    | yes z ↦
        rw (
          eq-eqb (element c i) (element d i) z,
          view-to s (view n₀ i (element c i)) a,
          eq-eqb i i refl,
          alike-append (sector c i) (joined c ss) (sector d i) (joined d ts) (long i s),
          together {i = element c i} n a.sector p (rw (sym z) at q) (omega arith),
        )
        (going_on (same_sector i) (alike ss ts) (eqb m k) (alike (joined c ss) (joined d ts)))
  ]
