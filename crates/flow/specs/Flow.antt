-- What the code's structs stand for: a stream's queue and a call's progress on it, as the rules' `Queue` and `Run`.
use Rattle.std.specs.Prelude.{◌≡◌, Bool, true, ◌||◌, List, ℕ, ◌+◌, ◌-◌, ◌≤◌, eqb, ltb, length, take, drop}
use Rattle.ring.specs.Rules.{Completion}
use Rattle.card.specs.Card.{no_message}
use Rattle.card.specs.Fit.{FitMessage}
use Rattle.card.specs.declared.Message.{Message}
use Rattle.message.specs.Work.{queue_of}
use Rattle.device.specs.Device as rules
use Rattle.device.specs.Transfer.{Run, completed, moved, worked, given_up}
use Rattle.device.specs.Counters.{counters_of}
use Rattle.flow.specs.declared.Flow.{Flow}
use Rattle.flow.specs.declared.Job.{Job}
use Rattle.flow.specs.declared.Job.TheVariants.{Transfer, Release}

-- ---- messages

-- how long the payload is: "the request past 4 bytes, for capture the reply before its last 8"
abbrev pub payload_bytes : rules.Direction → Message → ℕ
payload_bytes rules.output m = m.request.bytes - 4
payload_bytes rules.input m = m.reply.bytes - 8

-- ---- what a job does, in the rules' terms

-- why it completes a message in work
abbrev pub ending_of : Job → rules.Ending
ending_of Transfer = rules.finished
ending_of Release = rules.released

-- it goes on: a transfer while the host has room or bytes
abbrev pub reaches_of : Job → ℕ → ℕ → Bool
reaches_of Transfer moved room = ltb moved room
reaches_of Release moved room = true

-- it is done with a message: a transfer once nothing of the payload waits
abbrev pub over_of : Job → rules.Direction → Message → Bool
over_of Transfer d m = eqb (payload_bytes d m - m.done) 0
over_of Release d m = true

abbrev pub job_moved : Job → rules.Virtqueue → Run rules.Queue → Run rules.Queue
job_moved Transfer v r = moved (counters_of v.direction) v r
job_moved Release v r = r

-- its work on the message in work
abbrev pub job_worked : Job → rules.Virtqueue → Run rules.Queue → Run rules.Queue
job_worked Transfer v r = worked (counters_of v.direction) v r
job_worked Release v r = given_up (counters_of v.direction) v r

-- ---- a call's progress: the words of the queue's chain, memory and the host buffer as they are now; the first `moved` of the
-- host's bytes are done

unfoldable pub run_of : List ℕ → Flow → List ℕ → List ℕ → Run rules.Queue
run_of ws f m host =
    record {
      queue = queue_of ws f.counters f.message;
      mem = m;
      bytes = take f.moved host;
      host = drop f.moved host;
      room = length host - f.moved;
      stop = f.stop;
      signal = f.signal;
    }

-- a message is in work
abbrev pub Busy : Flow → Type 0
Busy f = f.message.count ≡ 1

-- what holds of a flow between two steps, over a memory of `len` bytes and a host buffer of `room`: the message is fit, no
-- more was moved than the host has
pub record FitFlow (len room : ℕ) (ws : List ℕ) (f : Flow) : Type 0 where
  pub message : FitMessage len ws f.message
  pub inside : f.moved ≤ room

-- n bytes more of the message and of the host
abbrev pub advanced_by : ℕ → Flow → Flow
advanced_by n f =
    record {
      counters = f.counters;
      message =
          record {
            count = f.message.count;
            head = f.message.head;
            done = f.message.done + n;
            request = f.message.request;
            reply = f.message.reply;
          };
      moved = f.moved + n;
      stop = f.stop;
      signal = f.signal;
    }

-- the message in work gone, with the counters and the interrupt of its completion
abbrev pub ended_by : Completion → Flow → Flow
ended_by c f =
    record {
      counters = record { taken = f.counters.taken; completed = c.completed };
      message = no_message;
      moved = f.moved;
      stop = f.stop;
      signal = f.signal || c.interrupt;
    }

-- ---- what a step of the code does, for any host buffer: the rules' step, the message fit, the host as it was. The words of the
-- chain, memory and the flow before, then after.

pub record Steps (step : Run rules.Queue → Run rules.Queue) (ws m : List ℕ) (f : Flow) (ws' m' : List ℕ) (r : Flow) : Type 0 where
  pub run : (host : List ℕ) → run_of ws' r m' host ≡ step (run_of ws f m host)
  pub message : FitMessage (length m) ws' r.message
  pub moved : r.moved ≡ f.moved
  pub long : length m' ≡ length m

-- the same where the host's buffer takes part, on a queue of a direction
pub record StepsOn (d : rules.Direction) (step : Run rules.Queue → Run rules.Queue) (ws m host : List ℕ) (f : Flow)
    (ws' m' host' : List ℕ) (r : Flow) : Type 0 where
  pub run : run_of ws' r m' host' ≡ step (run_of ws f m host)
  pub fit : FitFlow (length m) (length host) ws' r
  pub long : length m' ≡ length m
  pub host-long : length host' ≡ length host
  -- an input's host is only read
  pub read : d ≡ rules.input → host' ≡ host

-- payload moved: the message stays in work
pub record Moves (d : rules.Direction) (step : Run rules.Queue → Run rules.Queue) (ws m host : List ℕ) (f : Flow) (m' host' : List ℕ)
    (r : Flow) : Type 0 where
  pub steps : StepsOn d step ws m host f ws m' host' r
  pub busy : Busy r

-- a message in work completed: no message is in work after it
pub record Ends (v : rules.Virtqueue) (e : rules.Ending) (ws m : List ℕ) (f : Flow) (m' : List ℕ) (r : Flow) : Type 0 where
  pub steps : Steps (completed (counters_of v.direction) v e) ws m f ws m' r
  pub free : r.message.count ≡ 0
