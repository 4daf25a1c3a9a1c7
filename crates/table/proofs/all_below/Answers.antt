-- `table::all_below` meets its contract: a test of each element is a test at each index. Assumes nothing.
use Rattle.std.proofs.Common.{◌≡◌, ℕ, zero, suc, Bool, true, false, ◌&&◌, List, [], ◌∷◌, length, get_or, refl, ap, ◌∙◌, rules, tests}
use lib.Dec.{leb}
use Rattle.std.specs.List.{list_all}
use Rattle.std.proofs.lemmas.Iterator.{YieldsList-from_slice}
use Rattle.std.proofs.lemmas.Iterator.Search.{all_from_yields_List}
use Rattle.rules.specs.First.{all}
use Rattle.table.proofs.all_below.Goals as goal

-- the test at 0 first, and then at the others
front : (n : ℕ) (t : ℕ → Bool) → all (suc n) t ≡ (t zero && all n (λ i. t (suc i)))
unfolding all
front zero t = go (t zero)
  where
    go : (b : Bool) → (true && b) ≡ (b && true)
    go true = refl
    go false = refl
front (suc n) t = ap (λ (b : Bool). b && t (suc n)) (front n t) ∙ go (t zero) (all n (λ i. t (suc i))) (t (suc n))
  where
    go : (a b d : Bool) → ((a && b) && d) ≡ (a && (b && d))
    go true b d = refl
    go false b d = refl

by_index : (xs : List ℕ) (m : ℕ) → list_all (λ (x : ℕ). leb x m) xs ≡ all (length xs) (λ i. leb (get_or xs i 0) m)
unfolding all
by_index [] m = refl
by_index (x ∷ xs) m = ap (λ (b : Bool). leb x m && b) (by_index xs m) ∙ go
  where
    go : (leb x m && all (length xs) (λ i. leb (get_or xs i 0) m)) ≡ all (suc (length xs)) (λ i. leb (get_or (x ∷ xs) i 0) m)
    go = rw (front (length xs) (λ i. leb (get_or (x ∷ xs) i 0) m)) refl

pub returns : goal.returns
returns c =
    let a = c.args in
    all_from_yields_List (λ (x : ℕ). leb x a.most) _ _ _ c.all.ensures.ran (YieldsList-from_slice a.elements.now cc) (λ x b q k. search (rules, tests))
    ∙ by_index a.elements.now a.most
