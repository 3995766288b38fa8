-- The card and the account run alike over any list of calls from power-up, refused ones included, the guest rewriting memory between calls
-- and changing its length; and what holds of the histories of either stream queue. `Holds` is the claim; the theorem is `holds` of
-- proofs/Theorem.
use Rattle.std.specs.Prelude.{◌≡◌, Bool, false, cond, List, [], ◌++◌, ℕ, ◌+◌, ◌≤◌, eqb, length}
use Rattle.description.specs.declared.Description.{Description}
use Rattle.registers.specs.Map.{size_of}
use Rattle.device.specs.Device.{Direction, output, input, queue_number, Rest, Device, queue_for}
use Rattle.rules.specs.Account.{writes_anew}
use Rattle.rules.specs.Calls.{Told}
use Rattle.rules.specs.Claim.{start_by, told_along, after_along, gathered_along, shown_as}
use Rattle.queue_lines.specs.Claim.{queue_of, Good}
use Rattle.queue_lines.specs.Counters.{Queue}
use Rattle.queue_lines.specs.Histories.{History, line_at}
use Rattle.queue_lines.specs.Parts.{cards, accounts}
use Rattle.queue_lines.specs.Rules.{Ops}
use Rattle.queue_lines.specs.Turn.{Book}
use Rattle.line_calls.specs.Calls.{Request, ReadRegister, WriteRegister, Control, Play, Capture, Event, Call, step}
use Rattle.line_calls.specs.Streams.{Streams, streams_of, first_of, count_of}

-- a call that drops the lines of a direction's queue: a reset, or a base write of that queue
abbrev pub clears_on : Direction → Request → Rest → Bool
clears_on d (ReadRegister offset width) r = false
clears_on d (WriteRegister offset width v) r = writes_anew (queue_number d) offset width v r.registers
clears_on d Control r = false
clears_on d (Play id host backlog) r = false
clears_on d (Capture id host backlog) r = false
clears_on d (Event code data') r = false

-- whether a call is a transfer of this stream on the queue of a direction: its bytes, and its count, are then the stream's
abbrev pub transfers_of : Direction → ℕ → Request → Bool
transfers_of d stream (ReadRegister offset width) = false
transfers_of d stream (WriteRegister offset width v) = false
transfers_of d stream Control = false
transfers_of output stream (Play id host backlog) = eqb id stream
transfers_of input stream (Play id host backlog) = false
transfers_of output stream (Capture id host backlog) = false
transfers_of input stream (Capture id host backlog) = eqb id stream
transfers_of d stream (Event code data') = false

abbrev pub bytes_of : Direction → ℕ → Request → Told → List ℕ
bytes_of d stream q t = cond (transfers_of d stream q) t.bytes []

abbrev pub count_of_call : Direction → ℕ → Request → Told → ℕ
count_of_call d stream q t = cond (transfers_of d stream q) t.count 0

module _ (n : Streams) where
  abbrev pub card : Direction → Ops Queue
  card d = cards d (first_of n d) (count_of n d)

  abbrev pub account : Direction → Ops History
  account d = accounts d (first_of n d) (count_of n d)

  module _ {Q : Type 0} (ops : Direction → Ops Q) where
    abbrev pub start : Description → ℕ → Device Q
    start d len = start_by (λ (q : Direction). (ops q).empty) d len

    -- what the calls of a list told, and the last state
    abbrev pub told_by : Device Q → List Call → List Told
    told_by b cs = told_along (step n ops) b cs

    abbrev pub after : Device Q → List Call → Device Q
    after b cs = after_along (step n ops) b cs

    -- the bytes, and the sum of the counts, told of the transfers of a stream, on the queue of its direction, since the lines were dropped
    module _ (d : Direction) (stream : ℕ) where
      abbrev pub heard : List ℕ → Device Q → List Call → List ℕ
      heard w b cs =
          gathered_along (step n ops) (λ (b : Device Q) (c : Call). clears_on d c.asked b.rest) []
          (λ (w : List ℕ) (c : Call) (t : Told). w ++ bytes_of d stream c.asked t) w b cs

      abbrev pub counted : ℕ → Device Q → List Call → ℕ
      counted k b cs =
          gathered_along (step n ops) (λ (b : Device Q) (c : Call). clears_on d c.asked b.rest) 0
          (λ (k : ℕ) (c : Call) (t : Told). k + count_of_call d stream c.asked t) k b cs

-- ---- the claim

pub record Holds (d : Description) (len : ℕ) (cs : List Call) : Type 0 where
  -- each answer, count, handed bytes, host buffer and lent memory of the card is the account's
  pub same :
      let n = streams_of d in
      told_by n (card n) (start n (card n) d len) cs ≡ told_by n (account n) (start n (account n) d len) cs
  -- the card is what the account stands for
  pub stands :
      let n = streams_of d in
      after n (card n) (start n (card n) d len) cs ≡ shown_as queue_of (after n (account n) (start n (account n) d len) cs)
  -- takings, entries, positions and bytes, of either direction and each line
  pub good :
      (q : Direction)
      → let n = streams_of d in
      Good q (count_of n q) (λ i. heard n (card n) q (first_of n q + i) [] (start n (card n) d len) cs)
      (queue_for q (after n (account n) (start n (account n) d len) cs))
  pub book : (q : Direction) → let n = streams_of d in Book q (queue_for q (after n (account n) (start n (account n) d len) cs))
  -- no more than N messages are in line
  pub within :
      (q : Direction)
      → let n = streams_of d in
      (account n q).in_work (queue_for q (after n (account n) (start n (account n) d len) cs)) ≤ size_of (queue_number q)
  -- the counts of a stream's transfers since the lines were dropped add up to the positions moved
  pub adds :
      (q : Direction) (i : ℕ)
      → let n = streams_of d in
      counted n (card n) q (first_of n q + i) 0 (start n (card n) d len) cs
      ≡ length (line_at (queue_for q (after n (account n) (start n (account n) d len) cs)) i).story.notes
