-- `measure::number` meets its contract: what passes all looks keeps all rules. Assumes nothing.
use mathlib.Core.Path.{◌≡◌, refl, sym, ap, ap₂, ◌∙◌}
use mathlib.Core.Bool.{true, false≢true}
use Prim.Native.Nat.{ℕ, ◌+◌, ◌-◌, ◌*◌, ◌/◌, ◌≤◌}
use native.Mathlib.Omega.{arith}
use lib.ListN.{length}
use Rattle.bits.specs.Bits.{Bytes}
use Rattle.chains.specs.Psi.{Ψ}
use Rattle.fields.specs.Fields.{fields}
use Rattle.std.specs.Prelude.{Result, Ok, Err}
use Rattle.std.specs.Result.{is_ok}
use Rattle.rules.specs.declared.Reason.{Reason}
use Rattle.rules.specs.Reasons.{said}
use Rattle.rules.proofs.First.{kept-of-first}
use Rattle.image.specs.Image.{stated, version, copy, shell_values, B, S, e#, SCTL}
use Rattle.shell.specs.Encode.{isrn_rules}
use Rattle.verdict.proofs.Short.{no_bytes, pad-kept, secr-kept, all-kept, pad-at}
use Rattle.verdict.proofs.measure.number.Goals as goal

pub of_22-requires : goal.of_22-requires
of_22-requires c =
    (omega arith, no_bytes c.args.image.now (λ k. (c.type_inv.image k).fits) (omega arith) 24 (omega arith) (sym c.load.ensures ∙ c.if-load-ne0.false))

-- what is right has no number
ok-said : {A : Type 0} (r : Result A Reason) → is_ok r ≡ true → said r ≡ 0
ok-said (Ok a) e = refl
ok-said (Err r) e = absurd (false≢true e)

pub returns-then-is_ok : goal.returns-then-is_ok
unfolding stated version copy B S e# SCTL shell_values fields
returns-then-is_ok c =
    let m = c.args.image.now in
    let bytes : Bytes m = λ k. (c.type_inv.image k).fits in
    let b = c.size-b in
    let s = c.size-s in
    let e = c.size-e in
    let t = c.size-t in
    let k = c.load-copy in
    let eb : b.result ≡ B m = b.ensures.0 in
    let es : s.result ≡ S m = s.ensures.0 in
    let ee : e.result ≡ e# m = e.ensures.0 in
    let et : t.result ≡ SCTL m = t.ensures.0 in
    let ek : k.result ≡ copy m = k.ensures in
    let eu : c.psi.result * (s.result - 3) ≡ Ψ (S m) * (S m - 3) = ap₂ (λ (x y : ℕ). x * (y - 3)) (c.psi.ensures.0 ∙ ap Ψ es) es in
    let blocks = sym c.size-blocks.ensures.0 ∙ c.if-blocks-ne6.false in
    let long : 36 ≤ length m = omega (arith, c.if-n-lt36.false) in
    let table : SCTL m ≡ (Ψ (S m) * (S m - 3) + 7) / 8 = sym et ∙ c.if-t-used.false ∙ ap (λ (x : ℕ). (x + 7) / 8) eu in
    let q : (s.result - 2 + k.result) * b.result ≡ (S m - 2 + copy m) * B m = ap₂ (λ (x y : ℕ). x * y) (ap₂ (λ (x y : ℕ). x - 2 + y) es ek) eb in
    let last : c.sector_from-2.result + 1 + 5 * e.result + t.result ≡ 4 + (S m - 2 + copy m) * B m + 1 + 5 * e# m + SCTL m = omega (arith, c.sector_from-2.ensures.0, q, ee, et) in
    all-kept m bytes long blocks
    (sym c.load-3.ensures ∙ c.if-load-n.false)
    (sym c.load-else-load-n.ensures ∙ c.if-load-ne1.false)
    (omega (arith, ek, c.if-copy-gt1.false))
    (sym c.size-map.ensures.0 ∙ c.if-map-ne0.false)
    (omega (arith, eb, c.if-b-lt32.false))
    (omega (arith, ee, c.if-e-lt1.false))
    (omega (arith, ee, es, c.if-s-e.false))
    table
    (omega (arith, eb, ee, et, c.if-b-e.false))
    (c.if-n-sector_from.false ∙ c.sector_from.ensures.0 ∙ ap₂ (λ (x y : ℕ). 4 + x * y) es eb)
    (pad-kept m bytes long blocks (sym c.load.ensures ∙ c.if-load-ne0.false))
    (secr-kept m bytes long blocks (sym c.load-2.ensures ∙ sym c.if-of_22-load.false ∙ c.of_22.ensures))
    (kept-of-first (isrn_rules (shell_values m)) (omega arith) (sym c.judge_isrn.ensures ∙ ok-said c.judge_isrn.result (sym c.is_ok.ensures.value ∙ c.if-is_ok.true)))
    (pad-at m (omega arith) (omega arith) last (ap₂ (λ (x y : ℕ). 8 * x - y) et eu) (sym c.closing.ensures ∙ c.if-closing-eq0.true))
