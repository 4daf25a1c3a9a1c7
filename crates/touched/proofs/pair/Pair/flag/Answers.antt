-- `Pair::flag` meets its contract: the flags passed are those of the entries passed. Assumes nothing.
use Rattle.std.proofs.Common.{◌≡◌, refl, Bool, true, false, ap, ◌∙◌, arith}
use mathlib.Core.Bool.{not}
use mir.Val.{bool_byte}
use Rattle.steps.specs.Flags.{flag_of}
use Rattle.touched.proofs.Pairs.{flags-start, flags-more}
use Rattle.touched.proofs.pair.Pair.flag.Goals as goal

byte-flag : (b : Bool) → bool_byte (not b) ≡ flag_of b
byte-flag true = refl
byte-flag false = refl

pub loop-k-init : goal.loop-k-init
loop-k-init c = flags-start _ _ _ _ c.requires

pub loop-k-preserved : goal.loop-k-preserved
loop-k-preserved c =
    flags-more _ _ _ _ _ _ (omega arith) (c.from.ensures ∙ byte-flag c.same_entry.result ∙ ap flag_of c.same_entry.ensures) c.loop-k.invariant
