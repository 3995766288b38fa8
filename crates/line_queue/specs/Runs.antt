-- What a job on a stream queue with lines does, by the rules: of a stream's play or capture `transferred`, of its Release `emptied`.
use Rattle.std.specs.Prelude.{◌≡◌, ℕ, ◌<◌, ◌≤◌, List, length, slice_index_or, slice_set}
use Rattle.card.specs.declared.Counters.{Counters}
use Rattle.card.specs.declared.Message.{Message}
use Rattle.flow.specs.declared.Flow.{Flow}
use Rattle.flow.specs.declared.Job.{Job}
use Rattle.flow.specs.declared.Job.TheVariants.{Transfer, Release}
use Rattle.waiting.specs.declared.Line as waiting
use Rattle.device.specs.Device.{input}
use Rattle.device.specs.Transfer.{Run}
use Rattle.queue_lines.specs.Chains.{Virtqueue}
use Rattle.queue_lines.specs.Claim.{card}
use Rattle.queue_lines.specs.Counters.{Line, Queue, no_line, length_of}
use Rattle.queue_lines.specs.Rules.{times, line_run, transferred, emptied}
use Rattle.line_taking.specs.Progress.{run_with, run_in}
use Rattle.line_taking.specs.declared.Progress.{Progress}
use Rattle.line_words.specs.Slots.{line_of, queue_in, FitSlot, FitSlots}
use Rattle.line_work.specs.Work.{job_step}
use Rattle.line_work.specs.declared.Front.{Front}
use Rattle.line_queue.specs.Between.{FitLines}

-- the front of a line, from its marks, in a call that stands so
abbrev pub front_in : Progress → Message → waiting.Line → Front
front_in p message line =
    record {
      flow = record { counters = p.counters; message = message; moved = p.moved; stop = p.stop; signal = p.signal };
      line = line;
    }

abbrev pub progress_of : Flow → Progress
progress_of f = record { counters = f.counters; moved = f.moved; stop = f.stop; signal = f.signal }

-- ---- the work on a line, in its slot: beside any other lines

pub record WorksSlot (v : Virtqueue) (i : ℕ) (job : Job) (s m host : List ℕ) (p : Progress) (s' m' host' : List ℕ) (r : Progress)
    : Type 0 where
  pub run : (lines : List Line) → i < length lines → slice_index_or lines i no_line ≡ line_of s
      → run_with (slice_set lines i (line_of s')) r m' host' ≡ times (job_step job v i) (length_of (line_of s)) (run_with lines p m host)
  pub fit : FitSlot (length m) s'
  -- no more was moved than the host has
  pub inside : r.moved ≤ length host
  pub long : length m' ≡ length m
  pub host-long : length host' ≡ length host
  pub read : v.direction ≡ input → host' ≡ host

-- .. and in all words
pub record WorksLine (v : Virtqueue) (i : ℕ) (job : Job) (ws m host : List ℕ) (p : Progress) (ws' m' host' : List ℕ) (r : Progress)
    : Type 0 where
  pub run : run_in v ws' r m' host' ≡ line_run (card v) v i (job_step job v i) (run_in v ws p m host)
  pub fit : FitSlots v (length m) ws'
  pub inside : r.moved ≤ length host
  pub long : length m' ≡ length m
  pub host-long : length host' ≡ length host
  pub read : v.direction ≡ input → host' ≡ host

-- ---- a whole job

-- a Release needs no host, and leaves one that is lent as it is
abbrev pub lent : List ℕ → Run Queue → Run Queue
lent host r =
    record { queue = r.queue; mem = r.mem; bytes = r.bytes; host = host; room = length host; stop = r.stop; signal = r.signal }

abbrev pub ran_of : Job → Virtqueue → ℕ → Queue → List ℕ → List ℕ → Run Queue
ran_of Transfer v i q m host = transferred (card v) v i q m host
ran_of Release v i q m host = lent host (emptied (card v) v i q m)

-- words, memory and host before, then after: all that a job leaves
pub record Ran (v : Virtqueue) (i : ℕ) (job : Job) (ws m host : List ℕ) (c : Counters) (ws' m' host' : List ℕ) (r : Progress) : Type 0 where
  pub run : run_in v ws' r m' host' ≡ ran_of job v i (queue_in v ws c) m host
  pub fit : FitLines v (length m) ws' r.counters
  pub inside : r.moved ≤ length host
  pub long : length m' ≡ length m
  pub host-long : length host' ≡ length host
  -- an input's host is only read
  pub read : v.direction ≡ input → host' ≡ host
