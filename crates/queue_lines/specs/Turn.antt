-- What a call on a stream queue adds to its histories, act by act, each as the memory of that moment shows it: `Acts`. What is claimed of
-- the entries, and of the messages in work between calls: `Book`.
use Rattle.std.specs.Prelude.{Some, Result, Ok}
use Rattle.ring.specs.declared.Cause.{Cause}
use Rattle.std.specs.Prelude.{◌≡◌, Bool, false, ◌||◌, List, [], ◌∷◌, ◌++◌, map, ◌⊎◌, ℕ, suc, ◌+◌, ◌%◌, ◌<◌, length, take, drop}
use Rattle.counts.specs.declared.DescriptorNumber.{DescriptorNumber}
use Rattle.ring.specs.Rules.{base_of, head_at, posted_at, interrupts}
use Rattle.device.specs.Account.{Each, Grows, InOrder}
use Rattle.device.specs.Answers.{going}
use Rattle.device.specs.Claim.{work_of}
use Rattle.device.specs.Device.{Direction, output, well_formed, Taking, Ending, finished, released, ill_formed, Message}
use Rattle.device.specs.Histories.{Entry, Note, History as Story, number}
use Rattle.device.specs.Transfer.{Run, is_nil, is_well, payload_of, status_in_reply, memory_moved, bytes_moved}
use Rattle.queue_lines.specs.Chains.{Virtqueue, queue_size, in_line, at_once, arrival_of, reading_of}
use Rattle.queue_lines.specs.Claim.{shown_run, queue_of, account, Good, also, Beside}
use Rattle.queue_lines.specs.Counters.{Queue}
use Rattle.queue_lines.specs.Histories.{Answer, History, line_at, entry_of, taking, joining, bounced, beginning, handing, answer_to}
use Rattle.queue_lines.specs.Histories.{completing}
use Rattle.queue_lines.specs.Rules.{unread, working}

-- ---- memory

-- "Completing writes, in order: reply bytes, used element (head, length) at completed mod N, then as used index .. completed + 1 modulo
-- 65,536": for used entry number k
unfoldable pub written : Virtqueue → ℕ → Answer → List ℕ → List ℕ
written v k a m =
    posted_at (status_in_reply a.entry.status a.entry.latency a.chain.reply m) (base_of v.page) (queue_size v) (k % queue_size v)
    ((k + 1) % 65536) a.entry.head a.entry.length

-- memory once these entries, from number k on, are written
unfoldable pub entries_written : Virtqueue → ℕ → List Answer → List ℕ → List ℕ
entries_written v k [] m = m
entries_written v k (a ∷ as') m = entries_written v (k + 1) as' (written v k a m)

-- ---- entries

-- an entry answers the chain that was read in one of three ways. "Finished: OK; length 8 for play, 8 + recorded for capture": all of the
-- payload was moved; a Release's answer; or an ill-formed message's own
pub data Answers (d : Direction) (t : Taking) (e : Entry) : Type 0 where
  whole : t.form ≡ well_formed → e ≡ entry_of d finished e.latency t (length (payload_of d t)) → Answers d t e
  cut : (done : ℕ) → t.form ≡ well_formed → e ≡ entry_of d released e.latency t done → Answers d t e
  bad : is_well t.form ≡ false → e ≡ entry_of d ill_formed e.latency t 0 → Answers d t e

-- a message in work between calls is well-formed, and something of it waits: "Once none waits, an OK entry, also for an empty payload"
pub record Waits (d : Direction) (w : Message) : Type 0 where
  pub well : w.taking.form ≡ well_formed
  pub some_left : is_nil (drop w.done (payload_of d w.taking)) ≡ false

abbrev pub Ordered : Story → Type 0
Ordered s = InOrder 0 (suc (number s)) s.notes

pub record Book (d : Direction) (h : History) : Type 0 where
  pub answers : Each (λ (a : Answer). Answers d a.chain a.entry) h.entries
  pub in-work : (i : ℕ) (w : Message) → work_of (line_at h i).story ≡ Some w → Waits d w
  -- the bytes of each line are handed on in the order of its messages, none of a message past the one in work
  pub in_order : (i : ℕ) → Ordered (line_at h i).story

-- ---- the acts of a call

-- why the message in work of a line is completed, in a transfer (`finished`) or a Release (`released`)
pub data Due (d : Direction) : Ending → Message → Ending → Type 0 where
  moved : {w : Message} → w.taking.form ≡ well_formed → w.done ≡ length (payload_of d w.taking) → Due d finished w finished
  ended : {w : Message} → w.taking.form ≡ well_formed → Due d released w released
  ill : {call : Ending} {w : Message} → is_well w.taking.form ≡ false → w.done ≡ 0 → Due d call w ill_formed

-- "Then available flags are read; bit 0 clear sets ISR bit 0."
abbrev pub wanted : Virtqueue → List ℕ → Bool
wanted v m = interrupts m (base_of v.page) (queue_size v)

-- the entry of a message answered at once
abbrev pub answer_at_once : Virtqueue → Taking → History → Answer
answer_at_once v t h =
    record { taken = taking t.head (at_once t) h; chain = t; entry = entry_of v.direction ill_formed v.latency t 0 }

-- the acts so far of a call that was lent m₀ and began with history h₀: memory and history after them, the bytes moved, and whether an
-- interrupt is wanted
module _ (v : Virtqueue) (m₀ : List ℕ) (h₀ : History) where
  abbrev pub next_head : List ℕ → History → Result DescriptorNumber Cause
  next_head m h = head_at m v.page (queue_size v) ((account v).place h)

  -- "Each play, capture or Release .. first takes all new entries"
  pub data Takes : List ℕ → History → Bool → Type 0 where
    start : Takes m₀ h₀ false
    -- "the stream id is read then, .. the rest join their lines"
    joins :
        {m : List ℕ} {h : History} {signal : Bool} {head : DescriptorNumber} {line : ℕ}
        → Takes m h signal
        → next_head m h ≡ Ok head
        → arrival_of v m head.0 ≡ in_line line
        → Takes m (joining line head.0 h) signal
    -- ".. gets its 01 answer at once"
    bounces :
        {m : List ℕ} {h : History} {signal : Bool} {head : DescriptorNumber} {t : Taking}
        → Takes m h signal
        → next_head m h ≡ Ok head
        → arrival_of v m head.0 ≡ at_once t
        → Takes (written v (length h.entries) (answer_at_once v t h) m) (bounced v.direction t v.latency h)
        (signal || wanted v (written v (length h.entries) (answer_at_once v t h) m))

  -- .. then works (`finished`), with this buffer of the host, or ends (`released`) line i
  module _ (i : ℕ) (call : Ending) (host : List ℕ) where
    -- "While host room (or bytes) is left": with no room left nothing is read, and nothing ill-formed or empty is completed
    abbrev pub Roomy : List ℕ → Type 0
    Roomy bytes = call ≡ finished → length bytes < length host

    pub data Acts : List ℕ → History → List ℕ → Bool → Type 0 where
      taken : {m : List ℕ} {h : History} {signal : Bool} → Takes m h signal → Acts m h [] signal
      -- "When work on the front of a line, or else its Release, begins, its chain is read and remembered"
      reads :
          {m : List ℕ} {h : History} {bytes : List ℕ} {signal : Bool} {head : ℕ}
          → Acts m h bytes signal
          → Roomy bytes
          → (account v).front i h ≡ unread head
          → Acts m (beginning v.direction i (reading_of v i m head) h) bytes signal
      -- "payload is read when handed on, and for capture written, byte by byte in order": of the message in work, as far as room goes
      moves :
          {m : List ℕ} {h : History} {bytes : List ℕ} {signal : Bool} {w : Message} {xs rest : List ℕ}
          → Acts m h bytes signal
          → call ≡ finished
          → length bytes < length host
          → (account v).front i h ≡ working w
          → rest ≡ drop (length bytes) host
          → xs ≡ take (length rest) (drop w.done (payload_of v.direction w.taking))
          → Acts (memory_moved v.direction xs rest m) (handing v.direction i (bytes_moved v.direction xs rest m) xs h)
          (bytes ++ bytes_moved v.direction xs rest m) signal
      -- completing
      ends :
          {m : List ℕ} {h : History} {bytes : List ℕ} {signal : Bool} {w : Message} {e : Ending}
          → Acts m h bytes signal
          → (account v).front i h ≡ working w
          → Due v.direction call w e
          → Acts (written v (length h.entries) (answer_to v.direction e v.latency (line_at h i)) m)
          (completing v.direction i e v.latency h) bytes
          (signal || wanted v (written v (length h.entries) (answer_to v.direction e v.latency (line_at h i)) m))

-- ---- what a call adds

-- the story of a line goes on: readings, entries, handed bytes and losses are added behind those before
pub record Further (before after : Story) : Type 0 where
  pub readings : Grows before.takings after.takings
  pub entries : Grows before.entries after.entries
  pub notes : Grows before.notes after.notes
  pub losses : Grows before.losses after.losses

-- a transfer (`finished`) or a Release (`released`) of line i, lent m, from history h to history n, that left memory so and moved these
-- bytes
pub record Adds (v : Virtqueue) (i : ℕ) (call : Ending) (m : List ℕ) (h n : History) (after bytes : List ℕ) : Type 0 where
  pub takings : Grows h.takings n.takings
  pub entries : Grows h.entries n.entries
  -- its own line's story goes on; "A play or capture works, and a Release ends, its own stream's line only"
  pub own : Further (line_at h i).story (line_at n i).story
  pub others : (j : ℕ) → (j ≡ i → ⊥) → Beside (line_at h j) (line_at n j)
  -- of a play, and of a Release, memory after it is memory before it with the entries written, in order
  pub memory : (v.direction ≡ output) ⊎ (call ≡ released) → after ≡ entries_written v (length h.entries) entries.added m
  -- order 5: "every status completed in that call carries it"
  pub late : Each (λ (a : Answer). a.entry.latency ≡ v.latency) entries.added
  -- a Release moves nothing, and only a Release gives positions up
  pub mute : call ≡ released → bytes ≡ []
  pub kept : call ≡ finished → (line_at n i).story.losses ≡ (line_at h i).story.losses

-- ---- a whole call's part on the queue

-- a transfer or a Release of line i, lent m and `host`: of the card, `c`, from the queue that history h stands for, and of the account,
-- `r`, from h;
-- `said`: what was said of each line before it
pub record Turn
    (v : Virtqueue) (i : ℕ) (call : Ending) (said : ℕ → List ℕ) (m host : List ℕ) (h : History) (c : Run Queue) (r : Run History) : Type 0
  where
    -- memory, bytes, host, room, stop, interrupt and queue of the card are the account's
    pub same : c ≡ shown_run queue_of r
    pub acts : Acts v m h i call host r.mem r.queue r.bytes r.signal
    -- "what the call added before it stands": where the queue broke nothing is worked or ended
    pub broke : going r.stop ≡ false → Takes v m h r.mem r.queue r.signal × (r.bytes ≡ [])
    pub adds : Adds v i call m h r.queue r.mem r.bytes
    -- the bytes that it moved are those noted
    pub handed : map (λ (x : Note). x.byte) adds.own.notes.added ≡ r.bytes
    pub good : Good v.direction v.streams (also i said r.bytes) r.queue
    pub book : Book v.direction r.queue
