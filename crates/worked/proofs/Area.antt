-- Both sides of every line compute to the same; a read after a step is the read of the card that the step made. Assumes nothing.
use mathlib.Core.Path.{◌≡◌, refl, ap, ◌∙◌}
use mathlib.Core.List.{List, []}
use Prim.Native.Nat.{ℕ}
use lib.ListN.{length, replicate}
use Rattle.bits.specs.Bits.{Bytes}
use Rattle.bits.proofs.Laws.{below, below-bytes}
use Rattle.fields.specs.Packed.{pack_number}
use Rattle.ticket.specs.Kind.{row_of, count_of}
use Rattle.ticket.specs.Ticket.{set_number, encode_number}
use Rattle.ticket.specs.declared.kinds.Kind.{Kind}
use Rattle.ticket.specs.declared.kinds.Kind.TheVariants.{Typ23, Typ22r1, Typ22r2, Typ22r3}
use Rattle.image.specs.Image.{product}
use Rattle.reads.specs.Ticket.{read_ticket, rest, rest_at}
use Rattle.steps.specs.Step.{write, write_all}
use Rattle.steps.specs.Steps.{answer, next}
use Rattle.worked.specs.Cards.{shell_start, one_ticket, area_sector}
use Rattle.worked.specs.Area.{Sample, first, second, third, area, later, blank, shorter, area_values, area_ticket, AreaTicket, Area}
use Rattle.worked.specs.Told.{used}
use Rattle.worked.proofs.Cards.{look, act}
use Rattle.worked.proofs.Told.{used-typ, used-steps}

-- what is read of a ticket, and the cards that its steps make
abbrev Reads : Sample → Type 0
Reads s = (read_ticket (area s) 1 32 ≡ area_ticket s 8 600 144600) × (read_ticket (later s) 1 32 ≡ area_ticket s 8 1439 145439)

abbrev Makes : Sample → Type 0
Makes s = (next (area s) (write 1 7 1439) ≡ later s) × (next (blank s) (write_all 1 22 s.revision (area_values s 600)) ≡ area s)

reads : Reads first × Reads second × Reads third
unfolding look one_ticket area_sector shell_start
reads = ((refl, refl), (refl, refl), (refl, refl))

makes : Makes first × Makes second × Makes third
unfolding act one_ticket area_sector shell_start
makes = ((refl, refl), (refl, refl), (refl, refl))

revision_1 : AreaTicket first
unfolding act rest encode_number pack_number set_number one_ticket area_sector shell_start
revision_1 = record {
  accepted = refl;
  read = reads.0.0;
  places = (refl, refl);
  read_rest = refl;
  write_taken = (refl, makes.0.0);
  read_again = ap (λ c. read_ticket c 1 32) makes.0.0 ∙ reads.0.1;
  record_taken = (refl, makes.0.1);
  record_again = ap (λ c. read_ticket c 1 32) makes.0.1 ∙ reads.0.0;
  record_encoded = refl;
  record_set = refl;
  too_wide = refl;
  other_kind = refl;
  short = (refl, refl, refl);
}

revision_2 : AreaTicket second
unfolding act rest encode_number pack_number set_number one_ticket area_sector shell_start
revision_2 = record {
  accepted = refl;
  read = reads.1.0;
  places = (refl, refl);
  read_rest = refl;
  write_taken = (refl, makes.1.0);
  read_again = ap (λ c. read_ticket c 1 32) makes.1.0 ∙ reads.1.1;
  record_taken = (refl, makes.1.1);
  record_again = ap (λ c. read_ticket c 1 32) makes.1.1 ∙ reads.1.0;
  record_encoded = refl;
  record_set = refl;
  too_wide = refl;
  other_kind = refl;
  short = (refl, refl, refl);
}

revision_3 : AreaTicket third
unfolding act rest encode_number pack_number set_number one_ticket area_sector shell_start
revision_3 = record {
  accepted = refl;
  read = reads.2.0;
  places = (refl, refl);
  read_rest = refl;
  write_taken = (refl, makes.2.0);
  read_again = ap (λ c. read_ticket c 1 32) makes.2.0 ∙ reads.2.1;
  record_taken = (refl, makes.2.1);
  record_again = ap (λ c. read_ticket c 1 32) makes.2.1 ∙ reads.2.0;
  record_encoded = refl;
  record_set = refl;
  too_wide = refl;
  other_kind = refl;
  short = (refl, refl, refl);
}

pub areas : Area
unfolding act rest rest_at encode_number pack_number set_number one_ticket area_sector shell_start
areas = record {
  revision_1 = revision_1;
  revision_2 = revision_2;
  revision_3 = revision_3;
  others_1 = (refl, refl);
  others_2 = (refl, refl);
  others_3 = (refl, refl);
  before_22 = (refl, refl);
  numbers = (refl, refl, refl, refl);
  two_bytes = (refl, refl);
  empty_part = (refl, refl);
  too_short = (refl, refl);
  parts = (refl, refl, refl);
  unlisted = (refl, refl, refl);
  unlisted_record = (refl, refl);
  as_typ_23 = refl;
}

-- ---- for the page: a card whose part is empty though it is read, and for each kind a card that is read and written

area-bytes : Bytes (area first) × Bytes (area second) × Bytes (area third) × Bytes (shorter second)
unfolding below one_ticket area_sector shell_start
area-bytes = (below-bytes (area first) tt, below-bytes (area second) tt, below-bytes (area third) tt, below-bytes (shorter second) tt)

long : (length (product (area first) 1) ≡ 32) × (length (product (area second) 1) ≡ 32) × (length (product (area third) 1) ≡ 32) × (length (product (shorter second) 1) ≡ 32)
unfolding look one_ticket area_sector shell_start
long = (refl, refl, refl, refl)

pub rest_empty-card : (c : List ℕ) × Bytes c × ((read_ticket c 1 (length (product c 1))).number ≡ 0) × (rest c 1 (length (product c 1)) ≡ [])
rest_empty-card = (shorter second, area-bytes.3, rw (long.3, areas.empty_part.0), rw (long.3, areas.empty_part.1))

zeros : ((answer (area first) (write_all 1 22 1 (replicate 22 0))).number ≡ 0) × ((answer (area second) (write_all 1 22 2 (replicate 22 0))).number ≡ 0)
    × ((answer (area third) (write_all 1 22 3 (replicate 25 0))).number ≡ 0)
unfolding act one_ticket area_sector shell_start
zeros = (refl, refl, refl)

pub each_kind : (k : Kind) → (c : List ℕ) × Bytes c × ((read_ticket c 1 (length (product c 1))).number ≡ 0) × ((read_ticket c 1 (length (product c 1))).typ ≡ (row_of k).typ)
    × ((answer c (write_all 1 (row_of k).typ (row_of k).revision (replicate (count_of (row_of k).layout) 0))).number ≡ 0)
each_kind Typ23 = (used, used-steps.0, used-steps.1, used-typ, used-steps.6)
each_kind Typ22r1 = (area first, area-bytes.0, rw (long.0, reads.0.0), rw (long.0, reads.0.0), zeros.0)
each_kind Typ22r2 = (area second, area-bytes.1, rw (long.1, reads.1.0), rw (long.1, reads.1.0), zeros.1)
each_kind Typ22r3 = (area third, area-bytes.2, rw (long.2, reads.2.0), rw (long.2, reads.2.0), zeros.2)
