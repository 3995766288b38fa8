-- "as memory then shows them": each entry that a call takes, by its number; each chain that a play or a Release reads, and each byte that
-- a play hands on, by the message's number in its line; in the memory that the answers before it left.
use Rattle.std.specs.Prelude.{Ok}
use Rattle.std.specs.Prelude.{◌≡◌, Bool, true, false, List, ℕ, ◌+◌, ◌-◌, ◌%◌, length, take, drop, get_or}
use Rattle.ring.specs.Rules.{head_at}
use Rattle.device.specs.Device.{nobody}
use Rattle.device.specs.Histories.{Note, number}
use Rattle.queue_lines.specs.Chains.{Virtqueue, queue_size, Arrival, in_line, at_once, arrival_of, reading_of}
use Rattle.queue_lines.specs.Claim.{heads_of, those}
use Rattle.queue_lines.specs.Histories.{Taken, untaken, History, line_at}
use Rattle.queue_lines.specs.Turn.{entries_written}

abbrev pub is_at_once : Arrival → Bool
is_at_once (in_line i) = false
is_at_once (at_once t) = true

-- of a call that was lent m₀ and began with history h₀
module _ (v : Virtqueue) (m₀ : List ℕ) (h₀ : History) where
  -- how many of the call's takings below number k were answered at once
  abbrev pub answered_below : ℕ → History → ℕ
  answered_below k h = length (those (λ (x : Taken). is_at_once x.arrival) (drop (length h₀.takings) (take k h.takings)))

  -- memory once so many of the call's entries are written
  abbrev pub memory_at : ℕ → History → List ℕ
  memory_at c h = entries_written v (length h₀.entries) (take c (drop (length h₀.entries) h.entries)) m₀

  -- taking number k: the head at ring place k mod N, and what its chain then was
  pub record Took (k : ℕ) (h : History) : Type 0 where
    pub head :
        head_at (memory_at (answered_below k h) h) v.page (queue_size v) (k % queue_size v)
        ≡ Ok (record { 0 = (get_or h.takings k untaken).head })
    pub arrival :
        arrival_of v (memory_at (answered_below k h) h) (get_or h.takings k untaken).head ≡ (get_or h.takings k untaken).arrival

  -- .. of line i
  module _ (i : ℕ) where
    -- memory as work on message number k of the line meets it: with the call's answers at once, and the entries of the line's messages
    -- before it that the call completed
    abbrev pub work_memory : ℕ → History → List ℕ
    work_memory k h = memory_at (answered_below (length h.takings) h + (k - number (line_at h₀ i).story)) h

    -- "its chain is read": from the head noted at its taking
    pub record Read (k : ℕ) (h : History) : Type 0 where
      pub is :
          get_or (line_at h i).story.takings k nobody
          ≡ reading_of v i (work_memory k h) (get_or (heads_of (line_at h i).joined) k 0)

    -- "A position handed notes the byte memory then holds": of message x .of of the line
    abbrev pub Held : History → Note → Type 0
    Held h x = x.byte ≡ get_or (work_memory x.of h) x.from 0
