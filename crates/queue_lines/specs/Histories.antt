-- "01's account runs by these rules": a stream queue as histories without bound. Takings and used entries are lists, oldest first, of the
-- whole queue. Each line has its own: all that joined it, and, of those whose chain was read, in order, the readings, used entries,
-- handed bytes and positions given up, kept as 01's account keeps those of a queue (device/specs/Histories).
use Rattle.std.specs.Prelude.{List, [], ◌∷◌, ◌++◌, map, ℕ, ◌+◌, ◌%◌, length, drop, get_or, replicate}
use Rattle.registers.specs.Map.{size_of}
use Rattle.ring.specs.Rules.{new_of}
use Rattle.device.specs.Claim.{work_of}
use Rattle.device.specs.Device.{Direction, queue_number, Taking, nobody, Ending, ill_formed}
use Rattle.device.specs.Histories.{Entry, History as Story, blank, number, current, handed_now, took, noted, with_entry}
use Rattle.device.specs.Transfer.{status_of, used_length}
use Rattle.queue_lines.specs.Chains.{Arrival, in_line, at_once}
use Rattle.queue_lines.specs.Counters.{sum_of, changed, front_of}
use Rattle.queue_lines.specs.Rules.{Ops}

-- an entry taken: its number, from 0 on, its head, and what became of it
pub record Taken : Type 0 where
  pub of : ℕ
  pub head : ℕ
  pub arrival : Arrival

-- what stands past the end of the takings
abbrev pub untaken : Taken
untaken = record { of = 0; head = 0; arrival = at_once nobody }

-- a used entry of the queue: the taking that it answers, the chain as it was read, and the entry
pub record Answer : Type 0 where
  pub taken : Taken
  pub chain : Taking
  pub entry : Entry

-- a line: all that joined it, and the story of those that were read; reading number k, its entry, its notes and its losses are those
-- of the message that joined as number k
pub record Line : Type 0 where
  pub joined : List Taken
  pub story : Story

pub record History : Type 0 where
  pub takings : List Taken
  pub entries : List Answer
  pub lines : List Line

abbrev pub blank_line : Line
blank_line = record { joined = []; story = blank }

abbrev pub line_at : History → ℕ → Line
line_at h i = get_or h.lines i blank_line

-- the messages in line, and those of them that were not read
abbrev pub standing : Line → List Taken
standing l = drop (number l.story) l.joined

abbrev pub unread_in : Line → List Taken
unread_in l = drop (length l.story.takings) l.joined

-- the entry that answers this chain, of which so many bytes were moved
abbrev pub entry_of : Direction → Ending → ℕ → Taking → ℕ → Entry
entry_of d e latency t done =
    record {
      head = t.head;
      length = used_length d (status_of d e t.form) done;
      ending = e;
      status = status_of d e t.form;
      latency = latency;
    }

-- a line joined by the next taking
abbrev pub with_joined : Taken → Line → Line
with_joined x l = record { joined = l.joined ++ x ∷ []; story = l.story }

abbrev pub with_story : (Story → Story) → Line → Line
with_story f l = record { joined = l.joined; story = f l.story }

abbrev pub taking : ℕ → Arrival → History → Taken
taking head a h = record { of = length h.takings; head = head; arrival = a }

unfoldable pub joining : ℕ → ℕ → History → History
joining i head h =
    let x : Taken = taking head (in_line i) h in
    record { takings = h.takings ++ x ∷ []; entries = h.entries; lines = changed blank_line i (with_joined x) h.lines }

module _ (d : Direction) where
  unfoldable pub bounced : Taking → ℕ → History → History
  bounced t latency h =
      let x : Taken = taking t.head (at_once t) h in
      record {
        takings = h.takings ++ x ∷ [];
        entries = h.entries ++ record { taken = x; chain = t; entry = entry_of d ill_formed latency t 0 } ∷ [];
        lines = h.lines;
      }

  -- the first message of a line that was not read is, and is the one in work
  unfoldable pub beginning : ℕ → Taking → History → History
  beginning i t h = record { takings = h.takings; entries = h.entries; lines = changed blank_line i (with_story (took d t)) h.lines }

  unfoldable pub handing : ℕ → List ℕ → List ℕ → History → History
  handing i bytes xs h =
      record { takings = h.takings; entries = h.entries; lines = changed blank_line i (with_story (noted d bytes xs)) h.lines }

  -- the first message of a line without an entry gets it
  abbrev pub answer_to : Ending → ℕ → Line → Answer
  answer_to e latency l =
      record {
        taken = get_or l.joined (number l.story) untaken;
        chain = current l.story;
        entry = entry_of d e latency (current l.story) (handed_now l.story);
      }

  unfoldable pub completing : ℕ → Ending → ℕ → History → History
  completing i e latency h =
      record {
        takings = h.takings;
        entries = h.entries ++ answer_to e latency (line_at h i) ∷ [];
        lines = changed blank_line i (with_story (with_entry d e latency)) h.lines;
      }

  -- n lines
  abbrev pub histories_of : ℕ → Ops History
  histories_of n =
      record {
        empty = record { takings = []; entries = []; lines = replicate n blank_line };
        new = λ h index. new_of index (length h.takings % 65536);
        place = λ h. length h.takings % size_of (queue_number d);
        used_place = λ h. length h.entries % size_of (queue_number d);
        used_index = λ h. (length h.entries + 1) % 65536;
        in_work = λ h. sum_of (λ (l : Line). length (standing l)) h.lines;
        queued = λ i h. length (standing (line_at h i));
        front = λ i h. front_of (work_of (line_at h i).story) (map (λ (x : Taken). x.head) (unread_in (line_at h i)));
        join = joining;
        bounce = bounced;
        begin = beginning;
        hand = handing;
        complete = completing;
      }
