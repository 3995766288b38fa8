-- Work on the line of one stream. The code has its message in work as that of a queue with one message (`flow`), and the heads behind it;
-- `lifted` says which run of a queue with lines this is.
use Rattle.std.specs.Prelude.{Option, None, Some, ◌≡◌, cond, ◌||◌, List, [], ◌∷◌, ℕ, ◌+◌, ◌<◌, length, set}
use Rattle.ring.specs.Rules.{Completion}
use Rattle.card.specs.Fit.{FitMessage}
use Rattle.flow.specs.Flow.{run_of, FitFlow}
use Rattle.flow.specs.declared.Flow.{Flow}
use Rattle.flow.specs.declared.Job.{Job}
use Rattle.flow.specs.declared.Job.TheVariants.{Transfer, Release}
use Rattle.message.specs.declared.Taken.{Taken}
use Rattle.waiting.specs.Waiting.{heads_in, FitLine}
use Rattle.device.specs.Counters as one
use Rattle.device.specs.Device as device
use Rattle.device.specs.Transfer.{Run, is_well, completed}
use Rattle.queue_lines.specs.Chains.{Virtqueue, reading_of}
use Rattle.queue_lines.specs.Claim.{card}
use Rattle.queue_lines.specs.Counters.{Line, Queue}
use Rattle.queue_lines.specs.Rules.{fresh, times, transfer_step, release_step}
use Rattle.line_chains.specs.Queue.{single}
use Rattle.line_words.specs.Slots.{chain_in, marks_in, ring_in}
use Rattle.line_work.specs.declared.Front.{Front}

-- ---- the front of a line beside those behind it

-- the heads behind the front that is begun, or of all, and the front's run, as that of a queue with one message
pub record Station : Type 0 where
  pub heads : List ℕ
  pub run : Run device.Queue

-- line i in the place of this one
unfoldable pub lifted : List Line → ℕ → Station → Run Queue
lifted lines i s =
    record {
      queue = record {
        taken = s.run.queue.taken;
        completed = s.run.queue.completed;
        lines = set lines i (record { begun = s.run.queue.work; heads = s.heads });
      };
      mem = s.run.mem;
      bytes = s.run.bytes;
      host = s.run.host;
      room = s.run.room;
      stop = s.run.stop;
      signal = s.run.signal;
    }

-- a step of a job on line i
abbrev pub job_step : Job → Virtqueue → ℕ → Run Queue → Run Queue
job_step Transfer v i r = transfer_step (card v) v i r
job_step Release v i r = release_step (card v) v i r

-- ---- a front is read

-- the message is in work
abbrev pub begun_run : device.Taking → Run device.Queue → Run device.Queue
begun_run t r =
    record {
      queue = record { taken = r.queue.taken; completed = r.queue.completed; work = Some (fresh t) };
      mem = r.mem;
      bytes = r.bytes;
      host = r.host;
      room = r.room;
      stop = r.stop;
      signal = r.signal;
    }

-- .. and an ill-formed one completed at once
unfoldable pub read_run : Virtqueue → device.Taking → Run device.Queue → Run device.Queue
read_run v t r =
    cond (is_well t.form) (begun_run t r) (completed (one.counters_of v.direction) (single v) device.ill_formed (begun_run t r))

abbrev pub open_run : Virtqueue → ℕ → ℕ → Run device.Queue → Run device.Queue
open_run v i head r = read_run v (reading_of v i r.mem head) r

-- the front is opened, where none is in work
abbrev pub open_by : Virtqueue → ℕ → Option device.Message → List ℕ → Run device.Queue → Station
open_by v i (Some w) heads r = record { heads = heads; run = r }
open_by v i None [] r = record { heads = []; run = r }
open_by v i None (head ∷ heads) r = record { heads = heads; run = open_run v i head r }

unfoldable pub opened : Virtqueue → ℕ → Station → Station
opened v i s = open_by v i s.run.queue.work s.heads s.run

-- ---- the code

abbrev pub begun_flow : Taken → Flow → Flow
begun_flow t f =
    record {
      counters = f.counters;
      message = record { count = 1; head = t.head; done = 0; request = t.request; reply = t.reply };
      moved = f.moved;
      stop = f.stop;
      signal = f.signal;
    }

abbrev pub refused_flow : Completion → Flow → Flow
refused_flow c f =
    record {
      counters = record { taken = f.counters.taken; completed = c.completed };
      message = f.message;
      moved = f.moved;
      stop = f.stop;
      signal = f.signal || c.interrupt;
    }

-- a front, its line in this slot
abbrev pub station_of : List ℕ → Front → List ℕ → List ℕ → Station
station_of s t m host = record { heads = heads_in (ring_in s) t.line; run = run_of (chain_in s) t.flow m host }

-- all but the chain of a slot stays
pub record Aside (s s' : List ℕ) : Type 0 where
  pub marks : marks_in s' ≡ marks_in s
  pub ring : ring_in s' ≡ ring_in s
  pub long : length s' ≡ length s

-- what the opening of a front does, for any host buffer; slot, memory and front before, then after
pub record Opens (v : Virtqueue) (i : ℕ) (s m : List ℕ) (t : Front) (s' m' : List ℕ) (r : Front) : Type 0 where
  pub run : (host : List ℕ) → station_of s' r m' host ≡ opened v i (station_of s t m host)
  pub message : FitMessage (length m) (chain_in s') r.flow.message
  pub line : FitLine (length (ring_in s)) r.line
  pub moved : r.flow.moved ≡ t.flow.moved
  pub long : length m' ≡ length m
  pub aside : Aside s s'

-- what holds of a front
pub record FitFront (len room : ℕ) (s : List ℕ) (t : Front) : Type 0 where
  pub flow : FitFlow len room (chain_in s) t.flow
  pub line : FitLine (length (ring_in s)) t.line

-- how many messages are in its line
abbrev pub in_front : Front → ℕ
in_front t = t.flow.message.count + t.line.count

-- what a job on a line does
pub record Works (v : Virtqueue) (i : ℕ) (job : Job) (s m host : List ℕ) (t : Front) (s' m' host' : List ℕ) (r : Front) : Type 0 where
  pub run : (lines : List Line) → i < length lines
      → lifted lines i (station_of s' r m' host') ≡ times (job_step job v i) (in_front t) (lifted lines i (station_of s t m host))
  pub fit : FitFront (length m) (length host) s' r
  pub long : length m' ≡ length m
  pub host-long : length host' ≡ length host
  pub aside : Aside s s'
  -- an input's host is only read
  pub read : v.direction ≡ device.input → host' ≡ host
