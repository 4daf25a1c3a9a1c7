-- `hex::count`: two digits are looked at in each turn.
use mathlib.Core.Path.{◌≡◌, sym, ap, ◌∙◌}
use mathlib.Core.Bool.{Bool, true, false}
use mathlib.Core.List.{List, [], ◌∷◌}
use Prim.Native.Nat.{ℕ, ◌+◌, ◌*◌, ◌/◌, ◌<◌}
use native.Mathlib.Omega.{arith}
use lib.ListN.{length, get_or}
use lib.Dec.{eqb}
use borrow.Author.Tests.{eqb-true, eq-eqb}
use Rattle.std.specs.Str.{bytes_eq}
use Rattle.text.specs.Words.{same, bytes_of}
use Rattle.text.proofs.Split.{same_is}
use Rattle.text.proofs.Pairs.{uneven, mixed, all, looked, a_pair, no_pair, at-end}
use Rattle.text.proofs.hex.count.Goals as goal

no_dash : (w v : List ℕ) → v ≡ 45 ∷ [] → false ≡ bytes_eq w v → same w (bytes_of "-") ≡ false
no_dash w v e h = same_is w (45 ∷ []) ∙ sym (rw e at h)

some_left : (n : ℕ) → ◌≡◌ {A = Bool} false (eqb n 0) → n ≡ 0 → ⊥
some_left n e h = let z : eqb n 0 ≡ true = eq-eqb n 0 h in cc

pub returns-then-not-is_empty-clause-counted : goal.returns-then-not-is_empty-clause-counted
returns-then-not-is_empty-clause-counted c =
    let w = c.args.word.now in
    let t = c.as_chunks.ensures in
    uneven w (no_dash _ _ c.as_slice.ensures c.if-eq.ensures) (λ h. some_left _ c.if-is_empty.ensures (t.front_len ∙ h)) (λ h. some_left _ c.if-not-is_empty.ensures (t.back_len ∙ h))

pub loop-digits-preserved : goal.loop-digits-preserved
loop-digits-preserved c =
    let w = c.args.word.now in
    let k = c.loop-digits in
    let t = c.as_chunks.ensures in
    let i = k.digits-index in
    let h : i < length w / 2 = omega (arith, t.front_len) in
    let e : 2 * i + 2 ≡ 2 * (i + 1) = omega arith in
    k.invariant ∙ (a_pair w (2 * i) _ (omega arith) (looked w _ i _ h (ap (λ l. get_or l i []) t.front) c.pair.ensures ∙ c.in_ok-pair.was) ∙ rw e)

pub returns-in_err-pair-clause-counted : goal.returns-in_err-pair-clause-counted
returns-in_err-pair-clause-counted c =
    let w = c.args.word.now in
    let k = c.loop-digits in
    let t = c.as_chunks.ensures in
    let i = k.digits-index in
    let h : i < length w / 2 = omega (arith, t.front_len) in
    rw c.from_residual.ensures (mixed w (no_dash _ _ c.as_slice.ensures c.if-eq.ensures) (λ e. some_left _ c.if-is_empty.ensures (t.front_len ∙ e))
    (k.invariant ∙ no_pair w (2 * i) (omega arith) (looked w _ i _ h (ap (λ l. get_or l i []) t.front) c.pair.ensures ∙ c.in_err-pair.was)))

pub returns-clause-counted : goal.returns-clause-counted
returns-clause-counted c =
    let w = c.args.word.now in
    let k = c.loop-digits in
    let t = c.as_chunks.ensures in
    let n : length c.as_chunks.result.1.now ≡ 0 = eqb-true _ _ (sym c.if-not-is_empty.ensures) in
    t.front_len ∙ all w (no_dash _ _ c.as_slice.ensures c.if-eq.ensures) (λ h. some_left _ c.if-is_empty.ensures (t.front_len ∙ h))
    (k.invariant ∙ at-end w (2 * k.digits-index) (omega (arith, t.front_len, t.back_len)))
