-- An annex: the checks of a ticket read, 20 to 23: what they answer together; 22 and 23 are those of crate ticket. Assumes nothing.
use Rattle.std.specs.Prelude.{ℕ, zero, suc, Option, Some, None, Result, Ok, Err, List, [], ◌∷◌, length, drop}
use Rattle.rules.specs.Reasons.{number}
use Rattle.rules.specs.declared.Refusal.{Refusal}
use Rattle.chains.specs.Ended.{mark_number}
use Rattle.fields.specs.Fields.{value_at}
use Rattle.fields.specs.declared.Layout.TheVariants.{Entry, Header}
use Rattle.image.specs.Image.{entry_at, sectors, mark, product}
use Rattle.image.specs.Product.{product_at}
use Rattle.reads.specs.Ticket.{ticket_refusal}
use Rattle.reads.specs.declared.TicketRead.{TicketRead}
use Rattle.ticket.specs.Kind.{form_in, end_minutes}
use Rattle.ticket.specs.declared.kinds.Kind.{Kind}
use Rattle.ticket.specs.declared.kinds.Fields.{Fields}
use Rattle.readticket.specs.declared.checks.Stated.{Stated}
use Rattle.readticket.specs.declared.checks.Sound.{Sound}

-- what is looked at: TYP and EXP of the entry; the header's three values of the product
abbrev pub stated_in : List ℕ → ℕ → Stated
stated_in c j = record {
  typ = value_at Entry 2 (drop (entry_at c j) c);
  day = value_at Entry 6 (drop (entry_at c j) c);
  blocks = value_at Header 0 (product c j);
  map = value_at Header 1 (product c j);
  revision = value_at Header 2 (product c j);
}

-- taken, with the kind, what is stated, the number of sectors and the mark; or refused, with a number and an entry
pub data Judged : Type 0 where
  Taken : Kind → Stated → ℕ → ℕ → Judged
  Refused : ℕ → ℕ → Judged

-- what is known of a ticket of the kind k once none of 1 to 23 holds
abbrev pub sound_in : List ℕ → ℕ → Kind → Judged
sound_in c j k = Taken k (stated_in c j) (length (sectors c j)) (mark c j)

abbrev pub judged_with : ℕ → ℕ → Option Kind → (Kind → Judged) → Judged
judged_with zero e (Some k) f = f k
judged_with zero e None f = Refused 0 e
judged_with (suc n) e g f = Refused (suc n) e

unfoldable pub judged_in : List ℕ → ℕ → ℕ → Judged
judged_in c j room =
    judged_with (ticket_refusal c j room).number (ticket_refusal c j room).entry (form_in (product_at c j).typ (product_at c j).revision) (sound_in c j)

-- what the code's answer says
abbrev pub judged : Result Sound Refusal → Judged
judged (Ok f) = Taken f.kind f.stated f.sectors (mark_number f.mark)
judged (Err r) = Refused (number r.reason) r.entry

-- what is read of it
abbrev pub told_of : Sound → Fields → TicketRead
told_of f r =
    record {
      number = 0;
      entry = 0;
      typ = f.stated.typ;
      header = f.stated.blocks ∷ f.stated.map ∷ f.stated.revision ∷ [];
      values = r.values;
      end = end_minutes f.stated.day r.time;
      mark = mark_number f.mark;
      sectors = f.sectors;
    }
