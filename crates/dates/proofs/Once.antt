-- What C is told tells dates and stamps apart: two results of which it is told the same are the same. Assumes nothing.
use mathlib.Core.Path.{◌≡◌, ap}
use Prim.Native.Nat.{ℕ}
use Rattle.std.specs.Prelude.{Result}
use Rattle.rules.specs.declared.Reason.{Reason}
use Rattle.rules.proofs.ReasonLaws.{said_one}
use Rattle.dates.specs.declared.calendar.Date.{Date}
use Rattle.dates.specs.declared.Dated.{Dated}
use Rattle.dates.specs.declared.Stamped.{Stamped}
use Rattle.dates.specs.Calendar.{date}
use Rattle.dates.specs.Coded.{coded_date, coded_stamp}

date_in : Dated → Date
date_in d = date d.year d.month d.day

pub date_once : {r s : Result Date Reason} → coded_date r ≡ coded_date s → r ≡ s
unfolding date_in
date_once e = said_one (date 0 0 0) (ap (λ (d : Dated). d.number) e) (ap date_in e)

pub stamp_once : {r s : Result ℕ Reason} → coded_stamp r ≡ coded_stamp s → r ≡ s
stamp_once e = said_one 0 (ap (λ (s : Stamped). s.number) e) (ap (λ (s : Stamped). s.stamp) e)
