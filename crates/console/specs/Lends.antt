-- The buffer that a command lends, after it. Assumes nothing.
use Rattle.std.specs.Prelude.{ℕ, zero, suc, ◌≡◌, cond, List, ◌++◌, length, take, drop, replicate, ltb}
use Rattle.reads.specs.Ticket.{buffer_after}
use Rattle.console.specs.declared.commands.Lend.{Lend}
use Rattle.console.specs.declared.commands.Lend.TheVariants.{Ticket, TicketIn, Rest, RestIn, Buffer}

-- what is shown for a part with no bytes, by the number of the read: `=` where it is taken, `-` where it is refused
abbrev pub of_none : ℕ → ℕ
of_none zero = 61
of_none (suc n) = 45

-- what a buffer is filled with before a call
abbrev pub filling : List ℕ → List ℕ
filling b = replicate (length b) 0xA5

-- the buffer b after a read of the ticket of entry j that was lent the first n bytes of it; as it was where it has no n bytes
abbrev pub lent_to : List ℕ → ℕ → ℕ → List ℕ → List ℕ
lent_to c j n b = cond (ltb (length b) n) b (buffer_after c j (take n (filling b)) ++ drop n (filling b))

-- the buffer is b before a command and d after it. Of a call that hands back a part of its buffer no contract says what the rest then holds: of `rest` it is said
-- that the buffer stays as long as it was.
abbrev pub Lent : Lend → List ℕ → List ℕ → List ℕ → Type 0
Lent (Ticket j) c b d = d ≡ lent_to c j (length b) b
Lent (TicketIn j n) c b d = d ≡ lent_to c j n b
Lent (Rest j) c b d = length d ≡ length b
Lent (RestIn j n) c b d = length d ≡ length b
Lent (Buffer n) c b d = d ≡ b
