-- 01, Play, capture, events, third paragraph: what the structs of an event's attempts stand for. An attempt changes the
-- registers and the event queue's counters of a card; the rules see both as parts of the `Rest`.
use Rattle.std.specs.Prelude.{Option, ℕ, Bool, true, cond, List, length, Some, None}
use Rattle.counts.specs.declared.PageNumber.{PageNumber}
use Rattle.ranges.specs.Ranges.{ranges_of, places, put_at}
use Rattle.ranges.specs.declared.Range.{Range}
use Rattle.ranges.specs.declared.Ranges.{Ranges}
use Rattle.registers.specs.Answers.{done, no_event_buffer, plain}
use Rattle.registers.specs.Map.{size_of}
use Rattle.registers.specs.Rules.{broken}
use Rattle.registers.specs.declared.Registers.{Registers}
use Rattle.ring.specs.Rules.{Completion, base_of, next_of, posted_of, interrupts, check_of}
use Rattle.ring.specs.declared.Cause.{Cause}
use Rattle.ring.specs.declared.Posted.{Posted}
use Rattle.card.specs.declared.Counters.{Counters}
use Rattle.device.specs.Answers.{broken_answer}
use Rattle.rules.specs.Calls.{Result, Sent, Tried, Ended, Further, event_found}
use Rattle.device.specs.Device.{Rest, with_registers, with_event, page_of, signalled_if, one_taken}
use Rattle.device.specs.Numbers.{event_queue}
use Rattle.event_queue.specs.declared.Attempt.{Attempt}

-- the rest with these registers and these counters of the event queue
abbrev pub holding : Registers → Counters → Rest → Rest
holding g q r = with_registers g (with_event q r)

-- what an attempt makes of the rest, and the entries left
abbrev pub result_in : Rest → Attempt → List ℕ → Result
result_in r a m = record { rest = holding a.registers a.counters r; answer = a.answer; count = 0; mem = m }

abbrev pub sent_in : Rest → Attempt → List ℕ → Sent
sent_in r a m = record { result = result_in r a m; left = a.left }

abbrev pub tried_in : Rest → Attempt → List ℕ → Tried
tried_in r a m = cond a.ended (Ended (result_in r a m)) (Further (result_in r a m))

-- what a chain offers, over the words that the chain's ranges stand in
abbrev pub room_in : List ℕ → Option Ranges → Option (List Range)
room_in ws None = None
room_in ws (Some reply) = Some (ranges_of ws reply)

-- a chain of the event queue completed with these bytes in its reply
unfoldable pub posting_of : List ℕ → PageNumber → ℕ → ℕ → List Range → List ℕ → Completion
posting_of m page completed head reply bytes =
    let after : List ℕ = posted_of (put_at m (places reply) bytes) (base_of page) (size_of event_queue) completed head (length bytes) in
    record { memory = after; completed = next_of completed; interrupt = interrupts after (base_of page) (size_of event_queue) }

-- one entry taken and completed
abbrev pub attempt_of : Bool → ℕ → Registers → Counters → Posted → Attempt
attempt_of over left g q p =
    record {
      ended = over;
      left = left;
      answer = plain done;
      registers = signalled_if p.interrupt g;
      counters = record { taken = (one_taken q).taken; completed = p.completed };
    }

-- the queue is broken, or no chain has room
abbrev pub halted_by : Cause → ℕ → Registers → Counters → Attempt
halted_by cause left g q =
    record { ended = true; left = left; answer = broken_answer event_queue cause; registers = broken g; counters = q }

abbrev pub without_buffer : Registers → Counters → Attempt
without_buffer g q = record { ended = true; left = 0; answer = plain no_event_buffer; registers = g; counters = q }

-- an event that may be sent, over the rest in which its state is recorded
abbrev pub sent_of : ℕ → ℕ → Rest → List ℕ → Sent
sent_of code data' r m = event_found code data' r m (check_of m (page_of r event_queue) (size_of event_queue) r.event.taken 0)
