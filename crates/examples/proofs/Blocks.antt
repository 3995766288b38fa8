-- What the cases are made of: memory in blocks, a small card, and calls run one after the other, with every rule open.
use Rattle.std.specs.Prelude.{None}
use mathlib.Core.List.{List, [], ◌∷◌, ◌++◌, map}
use Prim.Native.Nat.{ℕ, ◌+◌, ◌-◌}
use lib.ListN.{length, replicate}
use Rattle.chain.specs.Walk.{descriptor_at, descriptors, joined_of, enter_of, in_table, direct}
use Rattle.description.specs.declared.StreamInfo.{StreamInfo}
use Rattle.memory.specs.Bytes.{le, put}
use Rattle.ranges.specs.Ranges.{total, places, up_from, put_at, all_inside}
use Rattle.ranges.specs.declared.Range.{Range}
use Rattle.registers.specs.Map.{register_at, config_at, size_of}
use Rattle.registers.specs.Rules.{read_of, write_of, live, signalled, broken, page_read, config_bytes, config_value, isr_read}
use Rattle.registers.specs.Rules.{wrote_features, wrote_page, wrote_selector, wrote_notify, stored_status, wrote_status}
use Rattle.registers.specs.declared.Registers.{Registers}
use Rattle.ring.specs.Rules.{found_of, head_at, posted_at, interrupts}
use Rattle.card.specs.Card.{no_counters}
use Rattle.card.specs.declared.Jack.{Jack}
use Rattle.card.specs.declared.Stream.{Stream}
use Rattle.device.specs.Device.{Direction, output, input, Device, bytes_of}
use Rattle.device.specs.Histories.{handed_now, waiting, took, noted, with_entry}
use Rattle.device.specs.Transfer.{payload_of}
use Rattle.rules.specs.Calls.{replied, event_allowed, recorded, event_posted, tried, event_run, event_of, read_step, transfer_step}
use Rattle.rules.specs.Calls.{remembering}
use Rattle.rules.specs.Control.{joined, remap, judged_params, set_params, commanded, decoded_of}
use Rattle.rules.specs.Lifecycle.{transition}
use Rattle.queue_lines.specs.Chains.{arrival_of, reading_of}
use Rattle.queue_lines.specs.Counters.{Line, Queue, sum_of}
use Rattle.queue_lines.specs.Histories.{joining, bounced, beginning, handing, completing}
use Rattle.queue_lines.specs.Rules as lines
use Rattle.queue_lines.specs.Rules.{Ops, times, posted, next, completed, opened, moved, worked, taking_run, transfer_run, release_run}
use Rattle.queue_lines.specs.Rules.{transferred, emptied}
use Rattle.line_calls.specs.Calls.{Request, Call, served, order_of, transferred_of, release_by, step}
use Rattle.line_calls.specs.Claim.{card}
use Rattle.line_calls.specs.Streams.{Streams}
use Rattle.line_calls.specs.Table.{streams}

-- ---- memory in blocks

-- bytes at an address
pub record Block : Type 0 where
  pub start : ℕ
  pub bytes : List ℕ

abbrev pub block : ℕ → List ℕ → Block
block start bytes = record { start = start; bytes = bytes }

-- the bytes of memory from an address up to n: these blocks, by rising address, and zeros between and behind them
abbrev pub from : ℕ → ℕ → List Block → List ℕ
from start n [] = replicate (n - start) 0
from start n (b ∷ bs) = replicate (b.start - start) 0 ++ b.bytes ++ from (b.start + length b.bytes) n bs

abbrev pub memory : ℕ → List Block → List ℕ
memory n bs = from 0 n bs

-- numbers of four bytes each
abbrev pub words : List ℕ → List ℕ
words ws = joined (map (bytes_of 4) ws)

-- the four statuses in a reply; with the latency in a status of a transfer
abbrev pub ok : List ℕ
ok = 0 ∷ 128 ∷ 0 ∷ 0 ∷ []

abbrev pub bad_msg : List ℕ
bad_msg = 1 ∷ 128 ∷ 0 ∷ 0 ∷ []

abbrev pub not_supp : List ℕ
not_supp = 2 ∷ 128 ∷ 0 ∷ 0 ∷ []

abbrev pub io_err : List ℕ
io_err = 3 ∷ 128 ∷ 0 ∷ 0 ∷ []

abbrev pub xfer : List ℕ → List ℕ
xfer status = status ++ 0 ∷ 0 ∷ 0 ∷ 0 ∷ []

-- a descriptor; flags are the sum of 1 (NEXT), 2 (WRITE) and 4 (INDIRECT)
abbrev pub descriptor : ℕ → ℕ → ℕ → ℕ → List ℕ
descriptor at len flags next = bytes_of 8 at ++ bytes_of 4 len ++ bytes_of 2 flags ++ bytes_of 2 next

-- a request and a reply, each an address and a length: the table of a chain, and a descriptor that names such a table
abbrev pub message : ℕ → ℕ → ℕ → ℕ → List ℕ
message at len reply room = descriptor at len 1 1 ++ descriptor reply room 2 0

abbrev pub table : ℕ → List ℕ
table at = descriptor at 32 4 0

-- the available ring: flags, index, heads
abbrev pub available : ℕ → ℕ → List ℕ → List ℕ
available flags index heads = bytes_of 2 flags ++ bytes_of 2 index ++ joined (map (bytes_of 2) heads)

-- the used ring from its index on: index, elements
abbrev pub element : ℕ → ℕ → List ℕ
element head len = words (head ∷ len ∷ [])

abbrev pub used : ℕ → List (List ℕ) → List ℕ
used index elements = bytes_of 2 index ++ joined elements

abbrev pub range : ℕ → ℕ → Range
range start len = record { at = record { 0 = start }; len = len }

-- ---- a card: one jack with the remap feature, and streams, here an output and an input

abbrev pub jack : ℕ → ℕ → ℕ → Jack
jack features defconf connected =
    record {
      info = record { nid = 7; features = features; defconf = 18956319; caps = 9; connected = 1 };
      defconf = defconf;
      connected = connected;
    }

-- S16, 48,000, one or two channels, EVT_XRUNS offered; in this state, with these features selected
abbrev pub stream_info : StreamInfo
stream_info = record { nid = 8; features = 16; formats = 32; rates = 128; channels_min = 1; channels_max = 2 }

abbrev pub stream : ℕ → ℕ → Stream
stream state features =
    record {
      info = stream_info;
      state = state;
      params = record { buffer_bytes = 8; period_bytes = 4; features = features; channels = 2; format = 5; rate = 7 };
      backlog = 0;
    }

-- bit 28 agreed; the status, ISR and the pages of the four queues
abbrev pub registers : ℕ → ℕ → List ℕ → Registers
registers status isr pages =
    record { status = status; isr = isr; selector = 0; features = 268435456; pages = map (λ (n : ℕ). record { 0 = n }) pages }

-- one output and one input
abbrev pub both : Streams
both = streams 1 1

abbrev pub empty : Direction → Queue
empty d = (card both d).empty

-- a line in which nothing is begun, and these heads wait
abbrev pub waits : List ℕ → Line
waits heads = record { begun = None; heads = heads }

abbrev pub device : ℕ → ℕ → List ℕ → List Stream → Device Queue
device ram status pages streams =
    record {
      rest =
          record {
            ram = ram;
            registers = registers status 0 pages;
            jacks = jack 1 18956319 1 ∷ [];
            maps = [];
            streams = streams;
            control = no_counters;
            event = no_counters;
          };
      play = empty output;
      capture = empty input;
    }

-- ---- running, with every rule open

-- requests one after the other, each lent the memory that the one before left: what they answered and counted, and what they
-- left
pub record Ran (Q : Type 0) : Type 0 where
  pub answers : List ℕ
  pub counts : List ℕ
  pub state : Device Q
  pub memory : List ℕ

unfoldable pub runs : {Q : Type 0} (n : Streams) → (Direction → Ops Q) → Device Q → List ℕ → List Request → Ran Q
unfolding descriptor_at descriptors joined_of enter_of in_table direct le put total places up_from put_at all_inside register_at config_at
    size_of
    read_of write_of live signalled broken page_read config_bytes config_value isr_read wrote_features wrote_page wrote_selector
    wrote_notify
    stored_status wrote_status found_of head_at posted_at interrupts replied order_of event_allowed recorded event_posted tried event_run
    event_of
    read_step transfer_step remembering remap judged_params set_params transition commanded decoded_of served transferred_of release_by
    payload_of
    bytes_of arrival_of reading_of sum_of times posted next completed opened moved worked lines.transfer_step lines.release_step taking_run
    transfer_run release_run transferred emptied joining bounced beginning handing completing handed_now waiting took noted with_entry
runs n ops b m [] = record { answers = []; counts = []; state = b; memory = m }
runs n ops b m (q ∷ qs) =
    let s = step n ops b (record { asked = q; lent = m }) in
    let o = runs n ops s.state s.told.memory qs in
    record { answers = s.told.answer.number ∷ o.answers; counts = s.told.count ∷ o.counts; state = o.state; memory = o.memory }

abbrev pub run : Device Queue → List ℕ → List Request → Ran Queue
run b m qs = runs both (card both) b m qs

abbrev pub call : Request → List ℕ → Call
call q m = record { asked = q; lent = m }
