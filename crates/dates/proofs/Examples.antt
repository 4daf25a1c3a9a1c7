-- Document 01's examples of dates by hand. A date's number is computed by adding, 45 years of twelve months; counting gives the same (Days, Order).
-- Assumes nothing.
use mathlib.Core.Path.{◌≡◌}
use native.Mathlib.Omega.{arith}
use Rattle.dates.specs.Calendar.{date, leap, month_days, dated, date_of, stamped, stamp_of}
use Rattle.dates.specs.Counting.{days_before, new_year, day_number}
use Rattle.dates.proofs.Bounds.{takes}
use Rattle.dates.proofs.Undo.{undo}

pub record Examples : Type 0 where
  pub stamp_1 : date_of 1 ≡ dated 0 (date 1997 1 2)
  pub stamp_16383 : date_of 16383 ≡ dated 0 (date 2041 11 9)
  pub stamp_0 : date_of 0 ≡ dated 0 (date 2041 11 10)
  pub leap-day : stamp_of 2000 2 29 ≡ stamped 0 1154

pub examples : Examples
unfolding day_number new_year days_before month_days leap
examples =
    record {
      stamp_1 = (undo 1 1997 1 2).1 (takes (date 1997 1 2) (omega arith));
      stamp_16383 = (undo 16383 2041 11 9).1 (takes (date 2041 11 9) (omega arith));
      stamp_0 = (undo 0 2041 11 10).1 (takes (date 2041 11 10) (omega arith));
      leap-day = takes (date 2000 2 29) (omega arith);
    }
