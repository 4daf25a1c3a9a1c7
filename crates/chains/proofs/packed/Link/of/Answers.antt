-- `Link::of` meets its contract: its two tests tell whether the chain ends, goes on or is broken. Assumes nothing.
use Rattle.std.proofs.Common.{refl, sym, ◌∙◌}
use Rattle.chains.proofs.Links.{own, other, link-bad, link-end, link-to}
use Rattle.chains.proofs.packed.Link.of.Goals as goal

pub returns-then-i-x : goal.returns-then-i-x
returns-then-i-x c =
    let a = c.args in
    let w = own a.s a.i a.x (sym c.if-i-x.true) in
    rw (link-end a.s a.i a.x c.requires w.0 w.1).1 refl

pub returns-then-x-s-2 : goal.returns-then-x-s-2
returns-then-x-s-2 c =
    let a = c.args in
    let w = other a.s a.i a.x (λ e. c.if-i-x.false (sym e)) in
    rw (link-bad a.s a.i a.x c.requires (w.1 ∙ c.if-x-s-2.true)).1 refl

pub returns-then-x-s : goal.returns-then-x-s
returns-then-x-s c =
    let a = c.args in
    let w = other a.s a.i a.x (λ e. c.if-i-x.false (sym e)) in
    rw (link-end a.s a.i a.x c.requires (w.0 ∙ c.if-x-s.true) (w.1 ∙ c.if-x-s-2.false)).1 refl

pub returns : goal.returns
returns c =
    let a = c.args in
    let w = other a.s a.i a.x (λ e. c.if-i-x.false (sym e)) in
    rw (link-to a.s a.i a.x c.requires (w.0 ∙ c.if-x-s.false)) refl
