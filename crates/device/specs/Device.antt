-- The card as the rules see it: lists, no arrays. The stream queues are kept apart from all the rest, so that the rules can
-- run over counters (the card) and over histories (the account) alike.
use Rattle.std.specs.Prelude.{Option, Bool, cond, List, [], ◌∷◌, ℕ, zero, suc, ◌+◌, ◌/◌, ◌%◌, get_or}
use Rattle.chain.specs.declared.Fault.{Fault}
use Rattle.counts.specs.declared.PageNumber.{PageNumber}
use Rattle.description.specs.declared.MapInfo.{MapInfo}
use Rattle.ranges.specs.declared.Range.{Range}
use Rattle.registers.specs.Map.{size_of}
use Rattle.registers.specs.Rules.{signalled}
use Rattle.registers.specs.declared.Registers.{Registers}
use Rattle.card.specs.Card.{no_stream}
use Rattle.card.specs.declared.Counters.{Counters}
use Rattle.card.specs.declared.Jack.{Jack}
use Rattle.card.specs.declared.Stream.{Stream}
use Rattle.device.specs.Numbers.{play_queue, capture_queue}

-- ---- directions: outputs on the play queue, inputs on the capture queue

pub data Direction : Type 0 where
  output input : Direction

abbrev pub queue_number : Direction → ℕ
queue_number output = play_queue
queue_number input = capture_queue

-- a stream queue in a call, seen at one line: its direction, and its page and whether indirect tables are negotiated, as the guest laid it
-- out; the latency that the statuses completed in the call carry
pub record Virtqueue : Type 0 where
  pub direction : Direction
  pub page : PageNumber
  pub negotiated : Bool
  pub latency : ℕ

-- its number of descriptors
abbrev pub queue_size : Virtqueue → ℕ
queue_size v = size_of (queue_number v.direction)

-- ---- messages of the stream queues

-- what a chain is when it is read (01, Play, capture, events): well-formed; or ill-formed, answered IO_ERR (refused), or with
-- length 0 and nothing written (silent), as one that can't be walked is, for its fault
pub data Form : Type 0 where
  well_formed refused silent : Form
  unwalked : Fault → Form

-- a chain as it was read: "A taking notes head, ranges and faults as memory then shows them." No rule reads it again after a part was
-- played
pub record Taking : Type 0 where
  pub head : ℕ
  pub request : List Range
  pub reply : List Range
  pub form : Form

abbrev pub nobody : Taking
nobody = record { head = 0; request = []; reply = []; form = silent }

-- why a message is completed: its payload was moved, a Release ended it, or it is ill-formed
pub data Ending : Type 0 where
  finished released ill_formed : Ending

-- a message in work, and how many bytes of its payload were moved
pub record Message : Type 0 where
  pub taking : Taking
  pub done : ℕ

-- a queue seen at one line, with counters modulo 65,536
pub record Queue : Type 0 where
  pub taken : ℕ
  pub completed : ℕ
  pub work : Option Message

-- ---- all but the stream queues

-- "Guest RAM is a lent slice, address 0 first; its length is fixed at power-up.": `ram` is that length
pub record Rest : Type 0 where
  pub ram : ℕ
  pub registers : Registers
  pub jacks : List Jack
  pub maps : List MapInfo
  pub streams : List Stream
  pub control : Counters
  pub event : Counters

abbrev pub with_registers : Registers → Rest → Rest
with_registers v r =
    record {
      ram = r.ram;
      registers = v;
      jacks = r.jacks;
      maps = r.maps;
      streams = r.streams;
      control = r.control;
      event = r.event;
    }

abbrev pub with_jacks : List Jack → Rest → Rest
with_jacks v r =
    record {
      ram = r.ram;
      registers = r.registers;
      jacks = v;
      maps = r.maps;
      streams = r.streams;
      control = r.control;
      event = r.event;
    }

abbrev pub with_streams : List Stream → Rest → Rest
with_streams v r =
    record {
      ram = r.ram;
      registers = r.registers;
      jacks = r.jacks;
      maps = r.maps;
      streams = v;
      control = r.control;
      event = r.event;
    }

abbrev pub with_control : Counters → Rest → Rest
with_control v r =
    record {
      ram = r.ram;
      registers = r.registers;
      jacks = r.jacks;
      maps = r.maps;
      streams = r.streams;
      control = v;
      event = r.event;
    }

abbrev pub with_event : Counters → Rest → Rest
with_event v r =
    record {
      ram = r.ram;
      registers = r.registers;
      jacks = r.jacks;
      maps = r.maps;
      streams = r.streams;
      control = r.control;
      event = v;
    }

-- the base of a queue
abbrev pub page_of : Rest → ℕ → PageNumber
page_of r q = get_or r.registers.pages q (record { 0 = 0 })

abbrev pub stream_at : Rest → ℕ → Stream
stream_at r i = get_or r.streams i no_stream

-- ISR bit 0, where a completion asked for it
abbrev pub signalled_if : Bool → Registers → Registers
signalled_if b r = cond b (signalled r) r

abbrev pub one_taken : Counters → Counters
one_taken c = record { taken = (c.taken + 1) % 65536; completed = c.completed }

abbrev pub one_completed : Counters → Counters
one_completed c = record { taken = c.taken; completed = (c.completed + 1) % 65536 }

-- ---- bytes

-- a number in n bytes, the lowest first
unfoldable pub bytes_of : ℕ → ℕ → List ℕ
bytes_of zero v = []
bytes_of (suc n) v = v % 256 ∷ bytes_of n (v / 256)

-- ---- the whole device: the queues of both directions, kept in any way `Q`

pub record Device (Q : Type 0) : Type 0 where
  pub rest : Rest
  pub play : Q
  pub capture : Q

abbrev pub queue_for : {Q : Type 0} → Direction → Device Q → Q
queue_for output b = b.play
queue_for input b = b.capture

-- the device with another rest and another queue of a direction
abbrev pub with_queue : {Q : Type 0} → Direction → Rest → Q → Device Q → Device Q
with_queue output r q b = record { rest = r; play = q; capture = b.capture }
with_queue input r q b = record { rest = r; play = b.play; capture = q }
