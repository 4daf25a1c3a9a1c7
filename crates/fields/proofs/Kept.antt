-- Values in memory, with zeros after them: a value set or put behind them, and a part of zeros that was filled. Assumes nothing.
use mathlib.Core.Path.{◌≡◌, refl, sym, ap, ◌∙◌}
use mathlib.Core.List.{List, [], ◌∷◌, ◌++◌, append_assoc}
use Prim.Native.Nat.{ℕ, suc, ◌+◌, ◌-◌, ◌≤◌, ◌<◌}
use native.Mathlib.Numerals.{add-one}
use native.Mathlib.Omega.{arith}
use lib.ListN.{length, get_or, set, take, replicate, length-set, length-append}
use lib.Seq.{take-suc, length-take-le, set-append_left, set_at}
use Rattle.fields.specs.Padded.{most, held}

pub held-set : (vs : List ℕ) (i v : ℕ) → i < length vs → set (held vs) i v ≡ held (set vs i v)
held-set vs i v h = rw (length-set vs i v) (set-append_left vs (replicate (most - length vs) 0) i v h)

-- one value more
behind : (vs : List ℕ) (v : ℕ) → length vs < most → set (held vs) (length vs) v ≡ held (vs ++ v ∷ [])
behind vs v h =
    let n : most - length vs ≡ suc (most - suc (length vs)) = omega arith in
    let l : length (vs ++ v ∷ []) ≡ suc (length vs) = omega (arith, length-append vs (v ∷ [])) in
    rw (n, l, append_assoc vs (v ∷ []) (replicate (most - suc (length vs)) 0))
    (set_at vs 0 (replicate (most - suc (length vs)) 0) v (length vs) refl)

pub held_more : (vs : List ℕ) (i : ℕ) → i < length vs → length vs ≤ most → set (held (take i vs)) i (get_or vs i 0) ≡ held (take (i + 1) vs)
held_more vs i h n =
    let l : length (take i vs) ≡ i = length-take-le i vs (omega arith) in
    ap (λ (j : ℕ). set (held (take i vs)) j (get_or vs i 0)) (sym l)
    ∙ behind (take i vs) (get_or vs i 0) (omega arith)
    ∙ ap held (sym (ap (λ (j : ℕ). take j vs) (add-one i) ∙ take-suc vs i 0 (omega arith)))
