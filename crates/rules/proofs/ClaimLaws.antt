-- A claim's test is true exactly where it is so, and `first` finds exactly the first rule that fails. Assumes nothing.
use mathlib.Core.Path.{◌≡◌, refl, sym, subst, ◌∙◌}
use mathlib.Core.Logic.{◌↔◌}
use mathlib.Core.Bool.{Bool, true, false, ◌&&◌, not, cond, true≢false, false≢true}
use mathlib.Core.List.{List, [], ◌∷◌, ◌++◌}
use Prim.Native.Nat.{ℕ, zero, suc, ◌≤◌, ◌<◌}
use native.Mathlib.Omega.{arith}
use native.Mathlib.Decide.{dec_lt}
use lib.Dec.{eqb}
use borrow.Author.Tests.{eqb-true, eq-eqb, ne_eqb, leb-true, le-leb, not-true}
use Rattle.rules.specs.Claim.{Claim, ◌≡?◌, ◌≤?◌, ◌and◌, every, Means, Rule, Kept, Fails, here, later}
use Rattle.rules.specs.First.{all, holds, if_kept, first}
use Rattle.rules.specs.Rows.{rows_before, row_of, FailsRow}

pub and-true : (a b : Bool) → (a && b) ≡ true → (a ≡ true) × (b ≡ true)
and-true true b e = (refl, e)
and-true false b e = absurd (false≢true e)

pub all_true : (n : ℕ) (t : ℕ → Bool) → all n t ≡ true → (i : ℕ) → i < n → t i ≡ true
unfolding all
all_true zero t e i h = absurd (omega arith)
all_true (suc n) t e i h = go (dec_lt i n) (all_true n t (and-true (all n t) (t n) e).0 i)
  where
    go : Dec (i < n) → (i < n → t i ≡ true) → t i ≡ true
    go (yes l) ih = ih l
    go (no l) ih = let q : i ≡ n = omega arith in rw q (and-true (all n t) (t n) e).1

pub true-all : (n : ℕ) (t : ℕ → Bool) → ((i : ℕ) → i < n → t i ≡ true) → all n t ≡ true
unfolding all
true-all zero t h = refl
true-all (suc n) t h = rw (true-all n t (λ i l. h i (omega arith)), h n (omega arith))

-- the test is the claim
pub holds_means : (p : Claim) → holds p ≡ true → Means p
holds_means (a ≡? b) e = eqb-true a b e
holds_means (a ≤? b) e = leb-true a b e
holds_means (p and q) e = (holds_means p (and-true (holds p) (holds q) e).0, holds_means q (and-true (holds p) (holds q) e).1)
holds_means (every n p) e = λ i h. holds_means (p i) (all_true n (λ i. holds (p i)) e i h)

pub means-holds : (p : Claim) → Means p → holds p ≡ true
means-holds (a ≡? b) m = eq-eqb a b m
means-holds (a ≤? b) m = le-leb a b m
means-holds (p and q) m = rw (means-holds p m.0, means-holds q m.1)
means-holds (every n p) m = true-all n (λ i. holds (p i)) (λ i h. means-holds (p i) (m i h))

pub false_means : (p : Claim) → holds p ≡ false → Means p → ⊥
false_means p e m = true≢false (sym (means-holds p m) ∙ e)

pub holds-not : (p : Claim) → (Means p → ⊥) → holds p ≡ false
holds-not p h = go (holds p) refl
  where
    go : (b : Bool) → holds p ≡ b → b ≡ false
    go true e = absurd (h (holds_means p e))
    go false e = refl

-- ---- a list of rules

-- every rule has a number that is not 0
abbrev pub Numbered : List Rule → Type 0
Numbered [] = Unit {0}
Numbered (r ∷ rs) = (1 ≤ r.number) × Numbered rs

-- the number of a rule that fails is not 0
pub fails-some : {n : ℕ} {rs : List Rule} → Fails rs n → Numbered rs → 1 ≤ n
fails-some (here b) h = h.0
fails-some (later m f) h = fails-some f h.1

pub kept_fails : {n : ℕ} {rs : List Rule} → Fails rs n → Kept rs → ⊥
kept_fails (here b) k = b k.0
kept_fails (later m f) k = kept_fails f k.1

pub fails_one : {n m : ℕ} {rs : List Rule} → Fails rs n → Fails rs m → n ≡ m
fails_one (here b) (here d) = refl
fails_one (here b) (later m f) = absurd (b m)
fails_one (later m f) (here b) = absurd (b m)
fails_one (later m f) (later k g) = fails_one f g

-- what `first` says of the rules
pub data Found (rs : List Rule) : ℕ → Type 0 where
  none : Kept rs → Found rs 0
  one : {n : ℕ} → 1 ≤ n → Fails rs n → Found rs n

pub found : (rs : List Rule) → Numbered rs → Found rs (first rs)
unfolding first
found [] h = none tt
found (r ∷ rs) h = go (holds r.claim) refl (found rs h.1)
  where
    more : Means r.claim → {n : ℕ} → Found rs n → Found (r ∷ rs) n
    more m (none k) = none (m, k)
    more m (one a f) = one a (later m f)

    go : (b : Bool) → holds r.claim ≡ b → Found rs (first rs) → Found (r ∷ rs) (if_kept b (first rs) r.number)
    go true e ih = more (holds_means r.claim e) ih
    go false e ih = one h.0 (here (false_means r.claim e))

-- parts of a list are judged one after the other
abbrev pub or_else : ℕ → ℕ → ℕ
or_else zero m = m
or_else (suc n) m = suc n

-- a number that is none leaves the word to the next
pub kept_else : (n m : ℕ) → if_kept (eqb n 0) m n ≡ or_else n m
kept_else zero m = refl
kept_else (suc n) m = rw (ne_eqb (suc n) 0 (λ e. omega arith)) refl

pub first-append : (rs ss : List Rule) → Numbered rs → first (rs ++ ss) ≡ or_else (first rs) (first ss)
unfolding first
first-append [] ss h = refl
first-append (r ∷ rs) ss h = go (holds r.claim) r.number h.0 (first-append rs ss h.1)
  where
    go : (b : Bool) (n : ℕ) → 1 ≤ n → first (rs ++ ss) ≡ or_else (first rs) (first ss)
        → if_kept b (first (rs ++ ss)) n ≡ or_else (if_kept b (first rs) n) (first ss)
    go true n a e = e
    go false zero a e = absurd (omega arith)
    go false (suc n) a e = refl

-- a part fails, or it is kept and one after it fails
pub fails_in : {n : ℕ} {rs : List Rule} (ss : List Rule) → Fails rs n → Fails (rs ++ ss) n
fails_in ss (here b) = here b
fails_in ss (later m f) = later m (fails_in ss f)

pub fails-after : {n : ℕ} (rs : List Rule) {ss : List Rule} → Kept rs → Fails ss n → Fails (rs ++ ss) n
fails-after [] k f = f
fails-after (r ∷ rs) k f = later k.0 (fails-after rs k.1 f)

pub kept-both : (rs ss : List Rule) → Kept rs → Kept ss → Kept (rs ++ ss)
kept-both [] ss k l = l
kept-both (r ∷ rs) ss k l = (k.0, kept-both rs ss k.1 l)

-- ---- rows: rules of one number stand together

-- no rule has the number n
abbrev pub absent : ℕ → List Rule → Bool
absent n [] = true
absent n (r ∷ rs) = not (eqb r.number n) && absent n rs

-- the next rule has the number n, or none has
abbrev follows : ℕ → List Rule → Bool
follows n [] = true
follows n (r ∷ rs) = cond (eqb r.number n) true (absent n rs)

abbrev pub together : List Rule → Bool
together [] = true
together (r ∷ rs) = follows r.number rs && together rs

absent-row : (n : ℕ) (rs : List Rule) → absent n rs ≡ true → Kept (row_of n rs)
absent-row n [] e = tt
absent-row n (r ∷ rs) e =
    let p = and-true (not (eqb r.number n)) (absent n rs) e in
    rw (not-true (eqb r.number n) p.0) (absent-row n rs p.1)

-- after a rule of row n: a rule of it comes next, or the row has ended
follows-row : (n : ℕ) (rs : List Rule) → follows n rs ≡ true → (Kept (row_of n rs) → ⊥) → Kept (rows_before n rs)
follows-row n [] e h = tt
follows-row n (r ∷ rs) e h = go (eqb r.number n) e h
  where
    go : (b : Bool) → cond b true (absent n rs) ≡ true → (Kept (cond b (r ∷ row_of n rs) (row_of n rs)) → ⊥) → Kept (cond b [] (r ∷ rows_before n rs))
    go true e h = tt
    go false e h = absurd (h (absent-row n rs e))

row-there : {n : ℕ} {rs : List Rule} → Fails rs n → FailsRow n rs
row-there (here {r = r} b) = rw (eq-eqb r.number r.number refl) (tt, λ k. b k.0)
row-there {n} (later {r = r} {rs = rs} m f) = go (eqb r.number n) (row-there f)
  where
    go : (b : Bool) → FailsRow n rs → Kept (cond b [] (r ∷ rows_before n rs)) × (Kept (cond b (r ∷ row_of n rs) (row_of n rs)) → ⊥)
    go true p = (tt, λ k. p.1 k.1)
    go false p = ((m, p.0), p.1)

pub fails_absent : {n : ℕ} {rs : List Rule} → Fails rs n → absent n rs ≡ true → ⊥
fails_absent {n} {rs} f e = (row-there f).1 (absent-row n rs e)

row_back : (n : ℕ) (rs : List Rule) → together rs ≡ true → FailsRow n rs → Fails rs n
row_back n [] t p = absurd (p.1 tt)
row_back n (r ∷ rs) t p =
    let q = and-true (follows r.number rs) (together rs) t in
    go (row_back n rs q.1) q.0 (eqb r.number n) refl p
  where
    own : (FailsRow n rs → Fails rs n) → follows n rs ≡ true → r.number ≡ n → (Kept (r ∷ row_of n rs) → ⊥) → (b : Bool) → holds r.claim ≡ b → Fails (r ∷ rs) n
    own back w q k true e =
        let m = holds_means r.claim e in
        let z : Kept (row_of n rs) → ⊥ = λ l. k (m, l) in
        later m (back (follows-row n rs w z, z))
    own back w q k false e = subst (λ (x : ℕ). Fails (r ∷ rs) x) q (here (false_means r.claim e))

    go : (FailsRow n rs → Fails rs n) → follows r.number rs ≡ true → (b : Bool) → eqb r.number n ≡ b
        → Kept (cond b [] (r ∷ rows_before n rs)) × (Kept (cond b (r ∷ row_of n rs) (row_of n rs)) → ⊥) → Fails (r ∷ rs) n
    go back w true e k = let q = eqb-true r.number n e in own back (rw q at w) q k.1 (holds r.claim) refl
    go back w false e k = later k.0.0 (back (k.0.1, k.1))

-- the first to fail has the number n exactly where row n says so and every row before it holds
pub fails-row : (n : ℕ) (rs : List Rule) → together rs ≡ true → Fails rs n ↔ FailsRow n rs
fails-row n rs t = (row-there, row_back n rs t)
