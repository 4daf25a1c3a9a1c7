-- `Pair::next` meets its contract: the element of sector i is the first image's. Assumes nothing.
use Rattle.std.proofs.Common.{◌≡◌, refl, sym, ◌∙◌}
use Rattle.chains.specs.Walk.{link}
use Rattle.chains.specs.Ended.{link_told}
use Rattle.chains.proofs.Links.{told-bad, told-last, told-next}
use Rattle.image.specs.Image.{S, element}
use Rattle.touched.proofs.Pairs.{both, element_of, of-element}
use Rattle.touched.proofs.pair.Pair.next.Goals.{After-of}
use Rattle.touched.proofs.pair.Pair.next.Goals as goal

told : (c : After-of) → let m = c.args.self.now.before.image.now in c.of.result ≡ link_told (link (S m) c.args.i (element m c.args.i))
told c =
    let p = c.args.self.now in
    of-element (both p) c.args.i c.element-x.result (c.element-x.ensures ∙ rw (c.table.ensures.bytes, c.table.ensures.place) (element_of p.before.shaped c.args.i)) c.of.ensures

pub of-requires : goal.of-requires
of-requires c = c.requires

pub returns-in-Next : goal.returns-in-Next
returns-in-Next c =
    let m = c.args.self.now.before.image.now in
    rw (told-next (link (S m) c.args.i (element m c.args.i)) (sym c.in-Next.is ∙ told (goal.at.returns-in-Next c).After-of)) refl

pub returns-in-Last : goal.returns-in-Last
returns-in-Last c =
    let m = c.args.self.now.before.image.now in
    rw (told-last (link (S m) c.args.i (element m c.args.i)) (sym c.in-Last.is ∙ told (goal.at.returns-in-Last c).After-of)).1 refl

pub returns-in-Broken : goal.returns-in-Broken
returns-in-Broken c =
    let m = c.args.self.now.before.image.now in
    rw (told-bad (link (S m) c.args.i (element m c.args.i)) (sym c.in-Broken.is ∙ told (goal.at.returns-in-Broken c).After-of)).1 refl
