-- "01's account runs by these rules": which part a call has on the queue of a direction, told by the rest of the device and the memory lent
-- alone, and what it then does to the queue's histories, to memory and to the count (`Turn`).
use Rattle.std.specs.Prelude.{Option, None, Some, ◌≡◌, Bool, true, false, cond, List, [], ℕ, ◌≤◌, ◌<◌, eqb, length, drop, take}
use Rattle.registers.specs.Answers.{done}
use Rattle.device.specs.Account.{Each}
use Rattle.device.specs.Device.{Direction, output, input, queue_number, Rest, Device, queue_for, stream_at}
use Rattle.device.specs.Transfer.{Run}
use Rattle.rules.specs.Account.{writes_anew, release_replied}
use Rattle.rules.specs.Calls.{Told, Pending, Order, Done, ReleaseFirst, admitted_if}
use Rattle.queue_lines.specs.Chains.{Virtqueue, line_of}
use Rattle.queue_lines.specs.Histories.{History, line_at}
use Rattle.queue_lines.specs.Parts.{Part, clears, transfers, releases, lies, accounts, part_of, TurnOf}
use Rattle.queue_lines.specs.Rules.{transferred, emptied}
use Rattle.queue_lines.specs.Shown.{Took, Held}
use Rattle.queue_lines.specs.Writes.{Wrote}
use Rattle.line_calls.specs.Calls.{Request, ReadRegister, WriteRegister, Control, Play, Capture, Event, Call, lay_of, virtqueue_of}
use Rattle.line_calls.specs.Calls.{release_queue, order_of, runs_on}
use Rattle.line_calls.specs.Streams.{Streams, direction_of, first_of, count_of}

abbrev pub is_direction : Direction → Direction → Bool
is_direction output output = true
is_direction output input = false
is_direction input output = false
is_direction input input = true

-- the transfer of a direction
abbrev pub transfer_of : Direction → ℕ → List ℕ → ℕ → Request
transfer_of output id host backlog = Play id host backlog
transfer_of input id host backlog = Capture id host backlog

module _ (n : Streams) where
  -- ---- which part

  -- a transfer of stream id, past 1, 5 and 6
  abbrev pub transfer_part : Direction → ℕ → List ℕ → ℕ → Rest → List ℕ → Option Part
  transfer_part d id host backlog r m =
      admitted_if (runs_on n r d id) r m (λ (number : ℕ). None)
      (Some (transfers (lay_of r d backlog) (line_of (virtqueue_of n r d backlog) id) m host))

  -- a Release past its checks
  abbrev pub release_part : Direction → Order → List ℕ → Option Part
  release_part d (Done o) m = None
  release_part d (ReleaseFirst id p) m =
      cond (is_direction (direction_of n id) d)
      (Some (releases (lay_of p.rest d (stream_at p.rest id).backlog) (line_of (release_queue n id p.rest) id) m)) None

  -- "What drops 01's message in work drops the lines.": a reset, and a base write of that queue
  abbrev pub write_part : Bool → Option Part
  write_part anew = cond anew (Some clears) None

  -- "On an idle queue neither adds anything" (a part that does nothing), "nor do other calls or those stopped by a check."
  abbrev pub part_in : Direction → Request → Rest → List ℕ → Option Part
  part_in d (ReadRegister offset width) r m = None
  part_in d (WriteRegister offset width v) r m = write_part (writes_anew (queue_number d) offset width v r.registers)
  part_in d Control r m = release_part d (order_of n r m) m
  part_in output (Play id host backlog) r m = transfer_part output id host backlog r m
  part_in input (Play id host backlog) r m = None
  part_in output (Capture id host backlog) r m = None
  part_in input (Capture id host backlog) r m = transfer_part input id host backlog r m
  part_in d (Event code data') r m = None

  -- ---- what it does

  -- a transfer or a Release of line i that was lent m, led from history h to history a and left memory so
  pub record Shown (v : Virtqueue) (i : ℕ) (m : List ℕ) (h a : History) (after : List ℕ) : Type 0 where
    -- memory after it is memory before it with the entries written in order, for a capture also the bytes recorded; each chain that it read
    -- is as memory was when its turn came
    pub wrote : Wrote v i m h a after
    -- "A taking notes .. as memory then shows them": each entry that it took, by its number
    pub took : (k : ℕ) → length h.takings ≤ k → k < length a.takings → Took v m h k a
    -- "A position handed notes the byte memory then holds", of a play
    pub held : v.direction ≡ output → Each (Held v m h i a) (drop (length (line_at h i).story.notes) (line_at a i).story.notes)

  -- on the queue of a direction, by the run of its part: one that clears it, a transfer, a Release
  abbrev pub ShownIn : Direction → Part → History → Run History → Type 0
  ShownIn d clears h r = Unit {0}
  ShownIn d (transfers lay i m host) h r = Shown (lies d (first_of n d) (count_of n d) lay) i m h r.queue r.mem
  ShownIn d (releases lay i m) h r = Shown (lies d (first_of n d) (count_of n d) lay) i m h r.queue r.mem

  -- the part of a call on the queue of a direction whose history was h, and is `a` after it; `said` of each line before it
  pub record Acted (d : Direction) (said : ℕ → List ℕ) (p : Part) (h a : History) : Type 0 where
    pub turn : TurnOf d (first_of n d) (count_of n d) said p h
    pub leads : a ≡ (part_of d (first_of n d) (count_of n d) (accounts d (first_of n d) (count_of n d)) p h).queue
    pub shown : ShownIn d p h (part_of d (first_of n d) (count_of n d) (accounts d (first_of n d) (count_of n d)) p h)

  -- a transfer tells the memory, the bytes and the count of its run; the bytes that a capture counts are the host's first
  pub record Moved (d : Direction) (host : List ℕ) (t : Told) (r : Run History) : Type 0 where
    pub memory : t.memory ≡ r.mem
    pub bytes : t.bytes ≡ r.bytes
    pub count : t.count ≡ length r.bytes
    pub captured : d ≡ input → t.bytes ≡ take t.count host

  -- one call: of the queue of direction d, from the account's device b to `a`
  pub record Turn (d : Direction) (said : ℕ → List ℕ) (b : Device History) (c : Call) (t : Told) (a : Device History) : Type 0 where
    pub nothing : part_in d c.asked b.rest c.lent ≡ None → queue_for d a ≡ queue_for d b
    pub part : (p : Part) → part_in d c.asked b.rest c.lent ≡ Some p → Acted d said p (queue_for d b) (queue_for d a)
    pub moved :
        (id : ℕ) (host : List ℕ) (backlog : ℕ)
        → c.asked ≡ transfer_of d id host backlog
        → let v : Virtqueue = virtqueue_of n b.rest d backlog in
        part_in d c.asked b.rest c.lent ≡ Some (transfers (lay_of b.rest d backlog) (line_of v id) c.lent host)
        → Moved d host t (transferred (accounts d (first_of n d) (count_of n d)) v (line_of v id) (queue_for d b) c.lent host)
    -- "nothing changed": a transfer that is refused
    pub refused :
        (id : ℕ) (host : List ℕ) (backlog : ℕ)
        → c.asked ≡ transfer_of d id host backlog
        → part_in d c.asked b.rest c.lent ≡ None
        → (t.memory ≡ c.lent) × (t.bytes ≡ []) × (t.count ≡ 0)
    -- a Release that breaks the queue does not reply
    pub released :
        (id : ℕ) (p : Pending)
        → c.asked ≡ Control
        → order_of n b.rest c.lent ≡ ReleaseFirst id p
        → direction_of n id ≡ d
        → let v : Virtqueue = release_queue n id p.rest in
        let r : Run History = emptied (accounts d (first_of n d) (count_of n d)) v (line_of v id) (queue_for d b) c.lent in
        t.memory ≡ cond (eqb t.answer.number done) (release_replied p r.mem) r.mem
