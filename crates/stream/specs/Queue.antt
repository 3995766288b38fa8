-- A stream queue in the card and in the rules' device, a job on one of its lines, and what the emptying of a line leaves.
use Rattle.std.specs.Prelude.{Option}
use Rattle.ring.specs.declared.Cause.{Cause}
use Rattle.std.specs.Prelude.{◌≡◌, Bool, true, false, List, ℕ, ◌≤◌, length, get_or}
use Rattle.registers.specs.Rules.{has_bit}
use Rattle.registers.specs.declared.Registers.{Registers}
use Rattle.card.specs.declared.Card.{Card}
use Rattle.card.specs.declared.Parts.{Parts}
use Rattle.live.specs.Live.{card_in, FitLive}
use Rattle.live.specs.Setters as live
use Rattle.live.specs.declared.Live.{Live}
use Rattle.meaning.specs.Card.{rest_of, device_of, queue_with}
use Rattle.meaning.specs.Fit.{streams_live, dropped_live, counters_live, FitQueue, Fits}
use Rattle.device.specs.Device as rules
use Rattle.device.specs.Numbers.{play_queue, capture_queue}
use Rattle.device.specs.Transfer.{Run}
use Rattle.message.specs.Message.{direction_of}
use Rattle.message.specs.declared.Virtqueue.{Virtqueue}
use Rattle.message.specs.declared.Direction.{Direction}
use Rattle.message.specs.declared.Direction.TheVariants.{Output, Input}
use Rattle.queue_lines.specs.Chains as lines
use Rattle.queue_lines.specs.Counters.{Queue}
use Rattle.queue_lines.specs.Rules.{emptied}
use Rattle.flow.specs.declared.Job.{Job}
use Rattle.line_chains.specs.Queue as chains
use Rattle.line_chains.specs.declared.LineQueue.{LineQueue}
use Rattle.line_words.specs.Cleared.{Cleared}
use Rattle.line_taking.specs.Progress.{run_in}
use Rattle.line_taking.specs.declared.Progress.{Progress}
use Rattle.line_queue.specs.Between.{FitLines}
use Rattle.line_queue.specs.Runs.{ran_of}
use Rattle.line_calls.specs.Calls.{virtqueue_of}
use Rattle.line_calls.specs.Claim.{card}
use Rattle.line_calls.specs.Streams.{streams_in, first_of, count_of}
use Rattle.stream.specs.declared.Emptied.{Emptied}

-- ---- in the small state

-- the queue of a direction as the guest laid it out, in a call whose statuses carry this latency
abbrev pub laid_out : Registers → Direction → ℕ → Virtqueue
laid_out g d latency =
    record {
      direction = d;
      page = get_or g.pages (rules.queue_number (direction_of d)) (record { 0 = 0 });
      indirect = has_bit g.features 28;
      latency = latency;
    }

-- .. with its streams
abbrev pub line_queue_in : Live → Direction → ℕ → LineQueue
line_queue_in l d latency =
    record {
      queue = laid_out l.registers d latency;
      first = first_of (streams_live l) (direction_of d);
      streams = count_of (streams_live l) (direction_of d);
    }

-- the same queue in the rules
abbrev pub virtqueue_in : Live → Direction → ℕ → lines.Virtqueue
virtqueue_in l d latency = chains.virtqueue_of (line_queue_in l d latency)

-- the words of a queue as its lines: where these were dropped, every line is empty
pub record Settles (v : lines.Virtqueue) (dropped : Bool) (ws ws' : List ℕ) : Type 0 where
  pub kept : dropped ≡ false → ws' ≡ ws
  pub cleared : dropped ≡ true → Cleared v ws'

-- a job on a line of that queue: words, memory and host buffer before, then after, and the progress that it leaves
pub record RunsOn (d : Direction) (latency line : ℕ) (job : Job) (l : Live) (ws m host ws' m' host' : List ℕ) (r : Progress) : Type 0 where
  pub run :
      run_in (virtqueue_in l d latency) ws' r m' host'
      ≡ ran_of job (virtqueue_in l d latency) line
      (queue_with (virtqueue_in l d latency) (dropped_live (direction_of d) l) ws (counters_live (direction_of d) l)) m host
  pub fit : FitLines (virtqueue_in l d latency) (length m) ws' r.counters
  -- no more was moved than the host has
  pub inside : r.moved ≤ length host
  pub long : length m' ≡ length m
  pub host-long : length host' ≡ length host
  -- an input's host is only read
  pub read : direction_of d ≡ rules.input → host' ≡ host

-- after a job on the queue of a direction, which left its lines in its words
abbrev pub progress_live : Direction → Progress → Live → Live
progress_live Output p l = live.with_play_kept (live.with_counters play_queue p.counters l)
progress_live Input p l = live.with_capture_kept (live.with_counters capture_queue p.counters l)

-- the card with these words of the direction's queue, and those of the other's
abbrev pub card_with : Direction → Live → Parts → List ℕ → List ℕ → Card
card_with Output l p ws other = card_in l p ws other
card_with Input l p ws other = card_in l p other ws

abbrev pub FitsWith : Direction → Live → Parts → List ℕ → List ℕ → Type 0
FitsWith Output l p ws other = Fits l p ws other
FitsWith Input l p ws other = Fits l p other ws

-- what of it the direction's queue needs
abbrev pub FitOwn : Direction → Live → List ℕ → Type 0
FitOwn d l ws = FitLive l × FitQueue (direction_of d) l ws

-- the backlog that a stream remembers, in every card with this small state
abbrev pub Remembers : Live → ℕ → ℕ → Type 0
Remembers l id backlog =
    (p : Parts) (pw cw : List ℕ) → Fits l p pw cw → backlog ≡ (rules.stream_at (rest_of (card_in l p pw cw)) id).backlog

-- ---- a line emptied, with statuses of this latency: the card and memory before; memory, where the queue stands, an interrupt wanted
-- and the card after

-- the rules' run
abbrev pub emptied_in : rules.Direction → ℕ → ℕ → Card → List ℕ → Run Queue
emptied_in d line latency c m =
    emptied (card (streams_in c.parts) d) (virtqueue_of (streams_in c.parts) (rest_of c) d latency) line (rules.queue_for d (device_of c)) m

pub record Empties (d : rules.Direction) (line latency : ℕ) (c : Card) (m m' : List ℕ) (stop : Option Cause) (signal : Bool) (n : Card)
    : Type 0 where
  -- queue, memory, stop and signal are the rules'
  pub queue : (emptied_in d line latency c m).queue ≡ rules.queue_for d (device_of n)
  pub memory : (emptied_in d line latency c m).mem ≡ m'
  pub stops : (emptied_in d line latency c m).stop ≡ stop
  pub signals : (emptied_in d line latency c m).signal ≡ signal
  -- the card is as it was but for that queue
  pub device : device_of n ≡ rules.with_queue d (rest_of c) (rules.queue_for d (device_of n)) (device_of c)
  pub ram : n.ram_len ≡ c.ram_len
  pub registers : n.registers ≡ c.registers
  pub parts : n.parts ≡ c.parts
  pub long : length m' ≡ length m

-- .. of every card with this small state and these words, whatever its parts and the other queue's words are
abbrev pub EmptiesOn : Direction → ℕ → ℕ → Live → List ℕ → List ℕ → List ℕ → List ℕ → Emptied → Type 0
EmptiesOn d line latency l ws m ws' m' r =
    (p : Parts) (other : List ℕ)
    → FitsWith d l p ws other
    → Empties (direction_of d) line latency (card_with d l p ws other) m m' r.stop r.signal (card_with d r.live p ws' other)
    × FitsWith d r.live p ws' other
