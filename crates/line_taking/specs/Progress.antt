-- What a call's progress on a stream queue with lines stands for: the rules' `Run`.
use Rattle.std.specs.Prelude.{Some, None}
use Rattle.std.specs.Prelude.{◌≡◌, ℕ, ◌-◌, ◌<◌, false, ◌||◌, List, length, take, drop}
use Rattle.ring.specs.Rules.{Completion}
use Rattle.ring.specs.declared.Cause.{Cause}
use Rattle.card.specs.declared.Counters.{Counters}
use Rattle.device.specs.Device.{one_taken}
use Rattle.device.specs.Transfer.{Run}
use Rattle.queue_lines.specs.Chains.{Virtqueue, queue_size}
use Rattle.queue_lines.specs.Counters.{Line, Queue, sum_of, length_of}
use Rattle.line_words.specs.Slots.{lines_of, FitSlots}
use Rattle.line_taking.specs.declared.Progress.{Progress}

-- the run of a queue with these lines: memory and the host buffer as they are now; the first `moved` of the host's bytes are done
unfoldable pub run_with : List Line → Progress → List ℕ → List ℕ → Run Queue
run_with lines p m host =
    record {
      queue = record { taken = p.counters.taken; completed = p.counters.completed; lines = lines };
      mem = m;
      bytes = take p.moved host;
      host = drop p.moved host;
      room = length host - p.moved;
      stop = p.stop;
      signal = p.signal;
    }

-- the lines that the words stand for
abbrev pub run_in : Virtqueue → List ℕ → Progress → List ℕ → List ℕ → Run Queue
run_in v ws p m host = run_with (lines_of (queue_size v) v.streams ws) p m host

-- a call that begins
abbrev pub fresh : Counters → Progress
fresh c = record { counters = c; moved = 0; stop = None; signal = false }

abbrev pub halted : Cause → Progress → Progress
halted cause p = record { counters = p.counters; moved = p.moved; stop = Some cause; signal = p.signal }

-- an entry taken into a line
abbrev pub joined : Progress → Progress
joined p = record { counters = one_taken p.counters; moved = p.moved; stop = p.stop; signal = p.signal }

-- an entry taken and answered
abbrev pub bounced_by : Completion → Progress → Progress
bounced_by c p =
    record {
      counters = record { taken = (one_taken p.counters).taken; completed = c.completed };
      moved = p.moved;
      stop = p.stop;
      signal = p.signal || c.interrupt;
    }

-- fewer messages are in line than the queue has descriptors
abbrev pub Space : Virtqueue → List ℕ → Type 0
Space v ws = sum_of length_of (lines_of (queue_size v) v.streams ws) < queue_size v

-- what a step of taking does, for any host buffer: the rules' step; words, memory and progress before, then after
pub record Takes (v : Virtqueue) (step : Run Queue → Run Queue) (ws m : List ℕ) (p : Progress) (ws' m' : List ℕ) (r : Progress)
    : Type 0 where
  pub run : (host : List ℕ) → run_in v ws' r m' host ≡ step (run_in v ws p m host)
  pub fit : FitSlots v (length m) ws'
  pub moved : r.moved ≡ p.moved
  pub long : length m' ≡ length m
