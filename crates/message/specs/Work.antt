-- A message in work, as the rules have it.
use Rattle.std.specs.Prelude.{Option, None, Some, cond, List, eqb, ℕ}
use Rattle.ranges.specs.Ranges.{ranges_of}
use Rattle.card.specs.declared.Counters.{Counters}
use Rattle.card.specs.declared.Message.{Message}
use Rattle.device.specs.Device as rules

-- as it was taken, its ranges in the words of its chain
abbrev pub taking_of_message : List ℕ → Message → rules.Taking
taking_of_message ws m =
    record { head = m.head.0; request = ranges_of ws m.request; reply = ranges_of ws m.reply; form = rules.well_formed }

abbrev pub message_of : List ℕ → Message → Option rules.Message
message_of ws m = cond (eqb m.count 0) None (Some (record { taking = taking_of_message ws m; done = m.done }))

-- a queue of one message
abbrev pub queue_of : List ℕ → Counters → Message → rules.Queue
queue_of ws c m = record { taken = c.taken; completed = c.completed; work = message_of ws m }
