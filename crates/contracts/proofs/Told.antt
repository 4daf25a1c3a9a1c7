-- What C is told of a read or a step tells results apart: two of which it is told the same are the same. Assumes nothing.
use mathlib.Core.Path.{◌≡◌, refl, sym, ap, ap₂, ◌∙◌}
use mathlib.Core.List.{List}
use Prim.Native.Nat.{ℕ, zero, suc}
use lib.ListN.{replicate}
use Rattle.std.specs.Prelude.{Result, Ok, Err}
use Rattle.std.specs.Result.{result_unwrap_or}
use Rattle.rules.specs.Reasons.{number}
use Rattle.rules.specs.Refusals.{answered}
use Rattle.rules.specs.declared.Answer.{Answer}
use Rattle.rules.specs.declared.Reason.{Reason}
use Rattle.rules.specs.declared.Refusal.{Refusal}
use Rattle.rules.proofs.ReasonLaws.{number_one, number-ne0}
use Rattle.chains.specs.Ended.{mark_number}
use Rattle.chains.specs.declared.packed.Mark.{Mark}
use Rattle.chains.specs.declared.packed.Mark.TheVariants.{Fresh, Used, Blocked}
use Rattle.image.specs.Answer.{Checked, Accepted, Refused}
use Rattle.image.specs.Check.{checked}
use Rattle.image.specs.declared.Shape.{Shape}
use Rattle.reads.specs.Given.{shell_given, directory_given, entry_given, table_given, no_elements, chain_given, no_sectors, ticket_given, no_ticket, filled_given}
use Rattle.table.specs.declared.Table.{Table}
use Rattle.reads.specs.declared.ChainSectors.{ChainSectors}
use Rattle.reads.specs.declared.Ticket.{Ticket}
use Rattle.reads.specs.declared.Extent.{Extent}
use Rattle.reads.specs.declared.ShellRead.{ShellRead}
use Rattle.reads.specs.declared.DirectoryRead.{DirectoryRead}
use Rattle.reads.specs.declared.TableRead.{TableRead}
use Rattle.reads.specs.declared.EntryRead.{EntryRead}
use Rattle.reads.specs.declared.ChainRead.{ChainRead}
use Rattle.reads.specs.declared.TicketRead.{TicketRead}
use Rattle.reads.specs.declared.Filled.{Filled}

refusal_one : {p q : Refusal} → number p.reason ≡ number q.reason → p.entry ≡ q.entry → p ≡ q
refusal_one e f = ap₂ (λ (r : Reason) (n : ℕ). record { reason = r; entry = n }) (number_one e) f

-- results that give one answer, and one value where they have any, are the same
told_one : {A : Type 0} (d : A) {r s : Result A Refusal} → answered r ≡ answered s → result_unwrap_or r d ≡ result_unwrap_or s d → r ≡ s
told_one d {r = Ok a} {s = Ok b} e v = ap Ok v
told_one d {r = Ok a} {s = Err q} e v = absurd (number-ne0 q.reason (sym (ap (λ (x : Answer). x.number) e)))
told_one d {r = Err p} {s = Ok b} e v = absurd (number-ne0 p.reason (ap (λ (x : Answer). x.number) e))
told_one d {r = Err p} {s = Err q} e v = ap Err (refusal_one (ap (λ (x : Answer). x.number) e) (ap (λ (x : Answer). x.entry) e))

pub done_one : {r s : Result (Unit {0}) Refusal} → answered r ≡ answered s → r ≡ s
done_one e = told_one tt e refl

pub checked_one : {r s : Result Shape Refusal} → checked r ≡ checked s → r ≡ s
checked_one {r = Ok g} {s = Ok h} e = let q : g ≡ h = cc in ap Ok q
checked_one {r = Ok g} {s = Err q} e = absurd (cc)
checked_one {r = Err p} {s = Ok h} e = absurd (cc)
checked_one {r = Err p} {s = Err q} e = let n : number p.reason ≡ number q.reason = cc in let f : p.entry ≡ q.entry = cc in ap Err (refusal_one n f)

-- the mark with a number
marked : ℕ → Mark
marked zero = Fresh
marked (suc zero) = Used
marked (suc (suc n)) = Blocked

marked-number : (m : Mark) → marked (mark_number m) ≡ m
unfolding marked
marked-number m = elim m as (λ m. marked (mark_number m) ≡ m) [ Fresh ↦ refl | Used ↦ refl | Blocked ↦ refl ]

mark_one : {m n : Mark} → mark_number m ≡ mark_number n → m ≡ n
mark_one {m} {n} e = sym (marked-number m) ∙ ap marked e ∙ marked-number n

pub shell_one : {r s : Result (List ℕ) Refusal} → shell_given r ≡ shell_given s → r ≡ s
shell_one e = told_one (replicate 16 0) (ap (λ (c : ShellRead). record { number = c.number; entry = c.entry }) e) (ap (λ (c : ShellRead). c.values) e)

pub directory_one : {r s : Result (List ℕ) Refusal} → directory_given r ≡ directory_given s → r ≡ s
directory_one e = told_one (replicate 7 0) (ap (λ (c : DirectoryRead). record { number = c.number; entry = c.entry }) e) (ap (λ (c : DirectoryRead). c.values) e)

pub entry_one : {r s : Result (List ℕ) Refusal} → entry_given r ≡ entry_given s → r ≡ s
entry_one e = told_one (replicate 7 0) (ap (λ (c : EntryRead). record { number = c.number; entry = c.entry }) e) (ap (λ (c : EntryRead). c.values) e)

pub table_one : {r s : Result Table Refusal} → table_given r ≡ table_given s → r ≡ s
table_one e =
    told_one no_elements (ap (λ (c : TableRead). record { number = c.number; entry = c.entry }) e)
    (ap (λ (c : TableRead). record { count = c.count; elements = c.elements }) e)

pub chain_one : {r s : Result ChainSectors Refusal} → chain_given r ≡ chain_given s → r ≡ s
chain_one e =
    told_one no_sectors (ap (λ (c : ChainRead). record { number = c.number; entry = c.entry }) e)
    (ap₂ (λ (m : Mark) (c : ChainRead). record { mark = m; count = c.count; sectors = c.sectors }) (mark_one (ap (λ (c : ChainRead). c.mark) e)) e)

pub ticket_one : {r s : Result Ticket Refusal} → ticket_given r ≡ ticket_given s → r ≡ s
ticket_one e =
    told_one no_ticket (ap (λ (c : TicketRead). record { number = c.number; entry = c.entry }) e)
    (ap₂ (λ (m : Mark) (c : TicketRead). record { typ = c.typ; header = c.header; values = c.values; end = c.end; mark = m; sectors = c.sectors }) (mark_one (ap (λ (c : TicketRead). c.mark) e)) e)

pub filled_one : {r s : Result Extent Refusal} → filled_given r ≡ filled_given s → r ≡ s
filled_one e =
    told_one (record { from = 0; end = 0 }) (ap (λ (c : Filled). record { number = c.number; entry = c.entry }) e)
    (ap (λ (c : Filled). record { from = c.from; end = c.end }) e)
