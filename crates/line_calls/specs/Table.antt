-- The P cases of orders 1, 6 and 8 that are about control messages and whole calls, as one table over the definitions; 01's are in Cases.
use Rattle.std.specs.Prelude.{◌≡◌, true, false, List, [], ◌∷◌, ◌++◌, ℕ, ◌+◌, ◌%◌, ◌≤◌, ◌<◌, ◌^◌, length, take, replicate}
use Rattle.memory.specs.Bytes.{le}
use Rattle.registers.specs.Answers.{not_running, plain}
use Rattle.registers.specs.Map.{size_of}
use Rattle.registers.specs.Rules.{live, has_bit}
use Rattle.registers.specs.declared.answers.Answer.{Answer}
use Rattle.ring.specs.Layout.{end_at, ring_place_at}
use Rattle.ring.specs.Rules.{base_of, new_of, index_of}
use Rattle.card.specs.declared.Stream.{Stream}
use Rattle.device.specs.Device.{Direction, output, input, Rest, Device, page_of, bytes_of}
use Rattle.device.specs.Numbers.{pcm_info, control_queue, play_queue, s_ok, s_bad_msg}
use Rattle.device.specs.Transfer.{Shows}
use Rattle.rules.specs.Calls.{ReleaseFirst, Pending, is_running}
use Rattle.rules.specs.Control.{Parts, Reply, status, items_by, pcm_item_of}
use Rattle.rules.specs.Table.{named}
use Rattle.rules.specs.declared.Listing.TheVariants as listing
use Rattle.queue_lines.specs.Counters.{Line, Queue, length_of}
use Rattle.line_calls.specs.Account.{transfer_of}
use Rattle.line_calls.specs.Calls.{Request, WriteRegister, Control, Play, served, order_of, asked, step}
use Rattle.line_calls.specs.Claim.{card}
use Rattle.line_calls.specs.Streams.{Streams, lawful_streams, direction_of, direction_number}

abbrev pub streams : ℕ → ℕ → Streams
streams outputs inputs = record { outputs = outputs; inputs = inputs }

-- a live device, lent its RAM
pub record Ready (b : Device Queue) (m : List ℕ) : Type 0 where
  pub lent : length m ≡ b.rest.ram
  pub is_live : live b.rest.registers ≡ true

-- order 6: .. whose control queue (0, of 64) has a base; what a control call on it answers
pub record Controls (b : Device Queue) (m : List ℕ) : Type 0 where
  pub ready : Ready b m
  pub based : 0 < (page_of b.rest control_queue).0

abbrev pub controlled : Streams → Device Queue → List ℕ → Answer
controlled n b m = (step n (card n) b (record { asked = Control; lent = m })).told.answer

-- the end of a queue, at the page that it has then; how many new entries the control queue has, and its next head
abbrev pub ends_at : Rest → ℕ → ℕ
ends_at r queue = base_of (page_of r queue) + end_at (size_of queue)

abbrev pub new_for : Rest → List ℕ → ℕ
new_for r m = new_of (index_of m (page_of r control_queue) (size_of control_queue)) r.control.taken

abbrev pub head_for : Rest → List ℕ → ℕ
head_for r m = le 2 m (base_of (page_of r control_queue) + ring_place_at (size_of control_queue) (r.control.taken % size_of control_queue))

-- an information request: code, start_id, count, size
abbrev pub asks : ℕ → ℕ → ℕ → List ℕ
asks start count size = bytes_of 4 pcm_info ++ bytes_of 4 start ++ bytes_of 4 count ++ bytes_of 4 size

-- a card of one stream
abbrev pub one_output : Streams
one_output = streams 1 0

-- answer 6, and "nothing changed"
pub record Absent (n : Streams) (q : Request) (b : Device Queue) (m : List ℕ) : Type 0 where
  pub answer : (asked n (card n) q b m).told.answer ≡ plain not_running
  pub count : (asked n (card n) q b m).told.count ≡ 0
  pub memory : (asked n (card n) q b m).told.memory ≡ m
  pub state : (asked n (card n) q b m).state ≡ b

pub record Table : Type 0 where
  -- "one to four output and up to two input streams"
  pub fewest : lawful_streams (streams 1 0) ≡ true
  pub most : lawful_streams (streams 4 2) ≡ true
  pub no_output : lawful_streams (streams 0 1) ≡ false
  pub five-outputs : lawful_streams (streams 5 0) ≡ false
  pub three-inputs : lawful_streams (streams 1 3) ≡ false
  -- "outputs numbered first": of two outputs and an input streams 0 and 1 are outputs, 2 is the input; so PCM_INFO says
  pub second-output : direction_of (streams 2 1) 1 ≡ output
  pub first-input : direction_of (streams 2 1) 2 ≡ input
  pub pcm-info :
      (p : Parts) (x y z : Stream)
      → p.streams ≡ x ∷ y ∷ z ∷ []
      → items_by (direction_number (streams 2 1)) listing.Streams p ≡ pcm_item_of 0 x ∷ pcm_item_of 0 y ∷ pcm_item_of 1 z ∷ []
  -- order 1, on one stream: (0, 1, 40) gives length 44 with eight zeros behind the item; (0, 1, 8) length 12, the item's first 8 bytes
  pub longer-item :
      (p : Parts) (s : Stream) (room : ℕ) → p.streams ≡ s ∷ [] → 44 ≤ room
      → (served one_output p (asks 0 1 40) room ≡ Reply p (status s_ok ++ pcm_item_of 0 s ++ replicate 8 0))
      × (length (status s_ok ++ pcm_item_of 0 s ++ replicate 8 0) ≡ 44)
  pub shorter-item :
      (p : Parts) (s : Stream) (room : ℕ) → p.streams ≡ s ∷ [] → 12 ≤ room
      → (served one_output p (asks 0 1 8) room ≡ Reply p (status s_ok ++ take 8 (pcm_item_of 0 s)))
      × (length (status s_ok ++ take 8 (pcm_item_of 0 s)) ≡ 12)
  -- order 1: (0, 1, 0) BAD_MSG; (0, 0, 0) length 4, OK; room 43 for size 40: BAD_MSG
  pub no_size : (p : Parts) (s : Stream) (room : ℕ) → p.streams ≡ s ∷ [] → served one_output p (asks 0 1 0) room
      ≡ Reply p (status s_bad_msg)
  pub no-size-no-item :
      (p : Parts) (s : Stream) (room : ℕ) → p.streams ≡ s ∷ [] → 4 ≤ room
      → (served one_output p (asks 0 0 0) room ≡ Reply p (status s_ok)) × (length (status s_ok) ≡ 4)
  pub no-room-longer : (p : Parts) (s : Stream) → p.streams ≡ s ∷ [] → served one_output p (asks 0 1 40) 43 ≡ Reply p (status s_bad_msg)
  -- order 6: a region past RAM is 9, whatever its ring shows; inside RAM, 65 new entries or more are 11, whatever the head; with 1 to
  -- 64 a head of 64 or more is 12. Each names queue 0; a Release of output 0 whose queue passes the end of RAM names 2
  pub region-first :
      (n : Streams) (b : Device Queue) (m : List ℕ) → Controls b m → length m < ends_at b.rest control_queue → controlled n b m ≡ named 9 0
  pub then-entries :
      (n : Streams) (b : Device Queue) (m : List ℕ) → Controls b m → ends_at b.rest control_queue ≤ length m → 65 ≤ new_for b.rest m
      → controlled n b m ≡ named 11 0
  pub then-head :
      (n : Streams) (b : Device Queue) (m : List ℕ) → Controls b m → ends_at b.rest control_queue ≤ length m
      → 1 ≤ new_for b.rest m → new_for b.rest m ≤ 64 → 64 ≤ head_for b.rest m
      → controlled n b m ≡ named 12 0
  pub release-names :
      (n : Streams) (b : Device Queue) (m : List ℕ) (p : Pending)
      → 0 < n.outputs → order_of n b.rest m ≡ ReleaseFirst 0 p
      → 0 < (page_of p.rest play_queue).0 → length m < ends_at p.rest play_queue
      → controlled n b m ≡ named 9 2
  -- "stream absent or not Running"
  pub not-running :
      (n : Streams) (b : Device Queue) (m host : List ℕ) (d : Direction) (id backlog : ℕ)
      → Ready b m → is_running b.rest id ≡ false → Absent n (transfer_of d id host backlog) b m
  -- "A stream of the other direction counts as absent."
  pub play-of-input :
      (n : Streams) (b : Device Queue) (m host : List ℕ) (id backlog : ℕ)
      → Ready b m → n.outputs ≤ id → Absent n (transfer_of output id host backlog) b m
  pub capture-of-output :
      (n : Streams) (b : Device Queue) (m host : List ℕ) (id backlog : ℕ)
      → Ready b m → id < n.outputs → Absent n (transfer_of input id host backlog) b m
  pub capture-of-none :
      (n : Streams) (b : Device Queue) (m host : List ℕ) (id backlog : ℕ)
      → Ready b m → n.outputs + n.inputs ≤ id → Absent n (transfer_of input id host backlog) b m
  -- lines of 200 and 56 on two streams, 256 taken: the next entry is 11 of queue 2, whichever of them is played
  pub too_many :
      (b : Device Queue) (m host : List ℕ) (id backlog completed : ℕ) (x y : Line)
      → Ready b m
      → id < 2
      → is_running b.rest id ≡ true
      → Shows m (page_of b.rest play_queue) 257
      → length_of x ≡ 200
      → length_of y ≡ 56
      → b.play ≡ record { taken = 256; completed = completed; lines = x ∷ y ∷ [] }
      → (asked (streams 2 0) (card (streams 2 0)) (Play id host backlog) b m).told.answer ≡ named 11 2
  -- "Reset drops all lines, a base write those of its queue": 0 to STATUS; QUEUE_PFN with selector 2 and DRIVER_OK clear
  pub reset :
      (n : Streams) (b : Device Queue) (m : List ℕ)
      → let s = (asked n (card n) (WriteRegister 18 1 0) b m).state in
      (s.play ≡ (card n output).empty) × (s.capture ≡ (card n input).empty)
  pub base-write :
      (n : Streams) (b : Device Queue) (m : List ℕ) (page : ℕ)
      → page < 2 ^ 32
      → b.rest.registers.selector ≡ 2
      → has_bit b.rest.registers.status 2 ≡ false
      → let s = (asked n (card n) (WriteRegister 8 4 page) b m).state in
      (s.play ≡ (card n output).empty) × (s.capture ≡ b.capture)
