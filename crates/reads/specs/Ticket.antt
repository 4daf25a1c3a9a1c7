-- An annex: what the two calls that read a ticket answer, and the buffer after each (document 01, "Ticket fields"). Assumes nothing.
use Rattle.std.specs.Prelude.{ℕ, ◌-◌, List, [], length, take, drop}
use Rattle.fields.specs.Fields.{fields}
use Rattle.fields.specs.Lists.{list_of}
use Rattle.fields.specs.Padded.{held}
use Rattle.fields.specs.declared.Layout.TheVariants.{Header}
use Rattle.ticket.specs.Kind.{rest_of}
use Rattle.image.specs.Image.{sectors, mark, product}
use Rattle.rules.specs.declared.Answer.{Answer}
use Rattle.image.specs.Seen.{asked}
use Rattle.image.specs.Product.{product_at}
use Rattle.reads.specs.Values.{ticket_rules, kind_at, ticket_end, extent}
use Rattle.rules.specs.Answer.{if_done}
use Rattle.reads.specs.Asked.{or_zero, or_zeros, over}
use Rattle.reads.specs.declared.TicketRead.{TicketRead}
use Rattle.reads.specs.declared.Filled.{Filled}

unfoldable pub ticket_refusal : List ℕ → ℕ → ℕ → Answer
ticket_refusal c j room = asked c j (ticket_rules room)

-- the entry's TYP; the header's three values and those of the ticket's kind are fields of the product
unfoldable pub read_ticket : List ℕ → ℕ → ℕ → TicketRead
read_ticket c j room =
    record {
      number = (ticket_refusal c j room).number;
      entry = (ticket_refusal c j room).entry;
      typ = or_zero (ticket_refusal c j room).number (product_at c j).typ;
      header = or_zeros (ticket_refusal c j room).number 3 (fields (product c j) (list_of Header));
      values = if_done (ticket_refusal c j room).number (fields (product c j) (list_of (kind_at c j).layout)) [];
      end = or_zero (ticket_refusal c j room).number (ticket_end c j);
      mark = or_zero (ticket_refusal c j room).number (mark c j);
      sectors = or_zero (ticket_refusal c j room).number (length (sectors c j));
    }

-- "Only the first (sectors × B) bytes of the buffer change": the buffer b after either call
unfoldable pub buffer_after : List ℕ → ℕ → List ℕ → List ℕ
buffer_after c j b = if_done (ticket_refusal c j (length b)).number (over (product c j) b) b

unfoldable pub fill_of : List ℕ → ℕ → ℕ → Filled
fill_of c j room =
    record {
      number = (ticket_refusal c j room).number;
      entry = (ticket_refusal c j room).entry;
      from = or_zero (ticket_refusal c j room).number (rest_of (kind_at c j).layout);
      end = or_zero (ticket_refusal c j room).number (extent c j);
    }

-- "the bytes after its fixed fields", to 4 × IPELength; no bytes where the read is refused
unfoldable pub rest : List ℕ → ℕ → ℕ → List ℕ
rest c j room =
    if_done (ticket_refusal c j room).number
    (take (extent c j - rest_of (kind_at c j).layout) (drop (rest_of (kind_at c j).layout) (product c j)))
    []

-- where in the buffer that part starts
unfoldable pub rest_at : List ℕ → ℕ → ℕ → ℕ
unfolding fill_of
rest_at c j room = (fill_of c j room).from

-- the answer in memory: zeros after the values of its kind
abbrev pub held_ticket : TicketRead → TicketRead
held_ticket r =
    record {
      number = r.number;
      entry = r.entry;
      typ = r.typ;
      header = r.header;
      values = held r.values;
      end = r.end;
      mark = r.mark;
      sectors = r.sectors;
    }
