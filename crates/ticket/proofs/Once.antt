-- What C is told tells results apart: two of which it is told the same are the same. Assumes nothing.
use mathlib.Core.Path.{◌≡◌, ap, ap₂}
use mathlib.Core.List.{List}
use Prim.Native.Nat.{ℕ}
use lib.ListN.{replicate}
use Rattle.std.specs.Prelude.{Result}
use Rattle.rules.specs.declared.Reason.{Reason}
use Rattle.rules.specs.Reasons.{said}
use Rattle.rules.proofs.ReasonLaws.{said_one, done_one}
use Rattle.ticket.specs.declared.Record.{Record}
use Rattle.ticket.specs.declared.Changed.{Changed}
use Rattle.ticket.specs.declared.Value.{Value}
use Rattle.ticket.specs.declared.Encoding.{Encoding}
use Rattle.ticket.specs.declared.Encoded.{Encoded}
use Rattle.ticket.specs.declared.Decoded.{Decoded}
use Rattle.ticket.specs.declared.HeaderBytes.{HeaderBytes}
use Rattle.ticket.specs.Ticket.{changed}
use Rattle.ticket.specs.Coded.{valued, no_bytes, encoding, no_record, decoding, coded_header}

-- a step, and the record after it
pub changed_once : {r s : Result (Unit {0}) Reason} {t u : Record} → changed (said r) t ≡ changed (said s) u → (r ≡ s) × (t ≡ u)
changed_once e = (done_one (ap (λ (c : Changed). c.number) e), ap (λ (c : Changed). c.next) e)

pub valued_once : {r s : Result ℕ Reason} → valued r ≡ valued s → r ≡ s
valued_once e = said_one 0 (ap (λ (v : Value). v.number) e) (ap (λ (v : Value). v.value) e)

pub encoding_once : {r s : Result Encoding Reason} → encoding r ≡ encoding s → r ≡ s
encoding_once e =
    said_one no_bytes (ap (λ (c : Encoded). c.number) e)
    (ap₂ (λ (n : ℕ) (b : List ℕ). record { count = n; bytes = b }) (ap (λ (c : Encoded). c.count) e) (ap (λ (c : Encoded). c.bytes) e))

pub decoding_once : {r s : Result Record Reason} → decoding r ≡ decoding s → r ≡ s
decoding_once e = said_one no_record (ap (λ (d : Decoded). d.number) e) (ap (λ (d : Decoded). d.next) e)

pub header_once : {r s : Result (List ℕ) Reason} → coded_header r ≡ coded_header s → r ≡ s
header_once e = said_one (replicate 2 0) (ap (λ (h : HeaderBytes). h.number) e) (ap (λ (h : HeaderBytes). h.bytes) e)
