-- What the code's structs of a stream queue with lines stand for in its rules.
use Rattle.std.specs.Prelude.{Option, None, Some, List, [], ℕ}
use Rattle.chain.specs.Walk.{whole}
use Rattle.ranges.specs.declared.Range.{Range}
use Rattle.ring.specs.Rules.{Completion}
use Rattle.device.specs.Device as device
use Rattle.device.specs.Transfer.{status_of}
use Rattle.message.specs.Message.{direction_of, taking_in, FitTaken, answered_of}
use Rattle.queue_lines.specs.Chains as rules
use Rattle.queue_lines.specs.Chains.{Virtqueue, in_line, at_once, arrival}
use Rattle.line_chains.specs.declared.LineQueue.{LineQueue}
use Rattle.line_chains.specs.declared.Arrival.{Arrival}
use Rattle.line_chains.specs.declared.Arrival.TheVariants.{InLine, AtOnce}

abbrev pub virtqueue_of : LineQueue → Virtqueue
virtqueue_of q =
    record {
      direction = direction_of q.queue.direction;
      page = q.queue.page;
      negotiated = q.queue.indirect;
      latency = q.queue.latency;
      first = q.first;
      streams = q.streams;
    }

-- the same queue, as one of a single message
abbrev pub single : Virtqueue → device.Virtqueue
single v = record { direction = v.direction; page = v.page; negotiated = v.negotiated; latency = v.latency }

-- ---- taking

-- the line that an entry joins, if any
abbrev pub joined_line : rules.Arrival → Option ℕ
joined_line (in_line i) = Some i
joined_line (at_once t) = None

-- .. by its request alone
abbrev pub place_of : Virtqueue → List ℕ → List Range → Option ℕ
place_of v m request = joined_line (arrival v m 0 (whole request []))

abbrev pub arrival_in : List ℕ → Arrival → rules.Arrival
arrival_in ws (InLine i) = in_line i
arrival_in ws (AtOnce t) = at_once (taking_in ws t)

-- what holds of a chain that is answered at once
abbrev pub FitArrival : ℕ → List ℕ → Arrival → Type 0
FitArrival len ws (InLine i) = Unit {0}
FitArrival len ws (AtOnce t) = FitTaken len ws t

-- ---- an ill-formed message's own answer

abbrev pub own_status : device.Form → Option ℕ
own_status form = status_of device.output device.ill_formed form

abbrev pub refused_of : Virtqueue → List ℕ → ℕ → device.Taking → Completion
refused_of v m completed t =
    answered_of v.direction m v.page completed t.head t.reply (status_of v.direction device.ill_formed t.form) v.latency 0
