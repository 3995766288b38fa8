-- The rules run on small cases, by computation: each row of 01's table of answers at least once, each case chosen so that a slip in a rule
-- would show. Where a call writes, the whole of memory is compared. Play, capture and RELEASE are in Transfers.
use Rattle.std.specs.Prelude.{Option, None, Some}
use mathlib.Core.Path.{◌≡◌, refl}
use mathlib.Core.List.{List, [], ◌∷◌, ◌++◌, map}
use Prim.Native.Nat.{ℕ}
use lib.ListN.{replicate}
use Rattle.chain.specs.Walk.{whole}
use Rattle.ranges.specs.declared.Range.{Range}
use Rattle.registers.specs.Answers.{plain}
use Rattle.registers.specs.Rules.{power_on}
use Rattle.registers.specs.declared.Registers.{Registers}
use Rattle.card.specs.Card.{no_counters, fresh_stream, running_state, stopped_state}
use Rattle.card.specs.declared.Stream.{Stream}
use Rattle.device.specs.Device.{output, input, well_formed, Device, with_registers, with_jacks, with_control, with_event, bytes_of}
use Rattle.rules.specs.Calls.{Told, Order, Done, ReleaseFirst, read_message_by, event_room, told_all}
use Rattle.queue_lines.specs.Counters.{Queue}
use Rattle.line_calls.specs.Calls.{Request, ReadRegister, WriteRegister, Control, Play, Capture, Event, served}
use Rattle.line_calls.specs.Claim.{card, told_by}
use Rattle.examples.proofs.Blocks.{block, memory, words, bad_msg, not_supp, descriptor, message, table, available, element, used}
use Rattle.examples.proofs.Blocks.{range, jack, stream_info, stream, registers, both, empty, device, Block, Ran, runs, run, call}

-- ---- answers 1, 5 to 9, 11 and 12: the order of the checks, in 8 bytes of RAM

-- streams that were never set up
abbrev pub unset : List Stream
unset = replicate 2 (fresh_stream stream_info)

-- an output in this state, with these features selected, and an input that was never set up
abbrev pub speaks : ℕ → ℕ → List Stream
speaks state features = stream state features ∷ fresh_stream stream_info ∷ []

-- a call of each kind, the capture and one event of a stream that does not run; events of an absent stream, no kind that is sent, an
-- absent jack; transfers of a stream of the other direction, and of an absent one
abbrev pub one_of_each : List Request
one_of_each =
    Control ∷ Play 0 [] 0 ∷ Capture 1 [] 0 ∷ Event 4353 0 ∷ Event 4353 1 ∷ Event 4353 2 ∷ Event 4352 0 ∷ Event 4096 1 ∷ Play 1 [] 0
    ∷ Capture 0 [] 0 ∷ Play 2 [] 0 ∷ []

abbrev pub asks_all : ℕ → ℕ → List ℕ
asks_all status lent = (run (device 8 status (0 ∷ 0 ∷ 0 ∷ 0 ∷ []) (speaks running_state 16)) (replicate lent 0) one_of_each).answers

-- every call is refused while the device is not live, and before that for memory of another length; else it goes by its own checks
pub checks-in-order :
    (map (λ (s : ℕ). asks_all s 7) (15 ∷ 7 ∷ []) ≡ replicate 2 (replicate 11 1))
    × (map (λ (s : ℕ). asks_all s 8) (7 ∷ 11 ∷ 79 ∷ 143 ∷ []) ≡ replicate 4 (replicate 11 5))
    × (asks_all 15 8 ≡ 0 ∷ 0 ∷ 6 ∷ 8 ∷ 7 ∷ 7 ∷ 7 ∷ 7 ∷ 6 ∷ 6 ∷ 6 ∷ [])
unfolding runs
checks-in-order = (refl, refl, refl)

-- a queue whose region passes the end of RAM: 6 and 7 come before 9, after which the device is not live
abbrev pub past_ram : ℕ → ℕ → List Request → List ℕ
past_ram state features qs = (run (device 8 15 (1 ∷ 1 ∷ 1 ∷ 1 ∷ []) (speaks state features)) (replicate 8 0) qs).answers

pub broken-comes-last :
    (past_ram running_state 16 (Capture 1 [] 0 ∷ Event 4096 1 ∷ Control ∷ Control ∷ []) ≡ 6 ∷ 7 ∷ 9 ∷ 5 ∷ [])
    × (past_ram running_state 0 (Event 4353 0 ∷ Play 0 [] 0 ∷ Play 0 [] 0 ∷ []) ≡ 7 ∷ 9 ∷ 5 ∷ [])
    × (past_ram stopped_state 16 (Play 0 [] 0 ∷ Event 4353 0 ∷ Event 4096 0 ∷ Event 4096 0 ∷ []) ≡ 6 ∷ 7 ∷ 9 ∷ 5 ∷ [])
unfolding runs
broken-comes-last = (refl, refl, refl)

-- the control ring at page 1, which ends where RAM ends: 64 new entries, and 65, also with a head of 64; that head, which is not taken
abbrev pub offering : ℕ → ℕ → Ran Queue
offering index head =
    run (device 5768 15 (1 ∷ 0 ∷ 0 ∷ 0 ∷ []) unset) (memory 5768 (block 5120 (available 1 index (head ∷ [])) ∷ [])) (Control ∷ [])

pub control-ring :
    ((offering 64 0).answers ≡ 0 ∷ [])
    × ((offering 65 0).answers ≡ 11 ∷ [])
    × ((offering 65 64).answers ≡ 11 ∷ [])
    × ((offering 1 64).answers ≡ 12 ∷ [])
    × ((offering 1 64).state.rest.control ≡ no_counters)
unfolding runs
control-ring = (refl, refl, refl, refl, refl)

-- ---- answers 2, 3 and 4: registers

-- an access, and what it is told: answer and value, or the queue rung (255: none)
pub record Row : Type 0 where
  pub asked : Request
  pub told : Told

abbrev pub row : Request → ℕ → ℕ → Row
row q answer value = record { asked = q; told = told_all (plain answer) value 255 0 [] [] [] }

abbrev pub bell : ℕ → ℕ → Row
bell queue rung = record { asked = WriteRegister 16 2 queue; told = told_all (plain 0) 0 rung 0 [] [] [] }

abbrev pub Rows : List Row → Type 0
Rows rows =
    told_by both (card both) (device 8 15 (0 ∷ 0 ∷ 0 ∷ 9 ∷ []) (stream running_state 0 ∷ stream running_state 0 ∷ []))
    (map (λ (r : Row). call r.asked []) rows)
    ≡ map (λ (r : Row). r.told) rows

-- widths exact; configuration bytes across their borders and up to 0xff; 2 before 3 before 4, and 4 also where the write would be
-- dropped; a dropped write answers 0. STATUS 0x4b stores 0x0b, and after that a base write is not dropped.
pub register-accesses :
    Rows
    (row (ReadRegister 0 4) 0 268435456
    ∷ row (ReadRegister 0 2) 2 0
    ∷ row (ReadRegister 4 4) 3 0
    ∷ row (ReadRegister 12 2) 0 64
    ∷ row (ReadRegister 16 2) 3 0
    ∷ row (ReadRegister 21 1) 0 0
    ∷ row (ReadRegister 23 2) 0 512
    ∷ row (ReadRegister 20 3) 2 0
    ∷ row (ReadRegister 252 4) 0 0
    ∷ row (ReadRegister 253 4) 2 0
    ∷ row (WriteRegister 0 2 4294967296) 2 0
    ∷ row (WriteRegister 0 4 4294967296) 3 0
    ∷ row (WriteRegister 20 1 256) 3 0
    ∷ row (WriteRegister 4 4 4294967296) 4 0
    ∷ row (WriteRegister 8 4 4294967296) 4 0
    ∷ row (WriteRegister 14 2 65536) 4 0
    ∷ row (WriteRegister 18 1 256) 4 0
    ∷ bell 3 3
    ∷ bell 4 255
    ∷ row (WriteRegister 14 2 3) 0 0
    ∷ row (WriteRegister 8 4 7) 0 0
    ∷ row (ReadRegister 8 4) 0 9
    ∷ row (WriteRegister 18 1 75) 0 0
    ∷ row (ReadRegister 18 1) 0 11
    ∷ row (WriteRegister 8 4 7) 0 0
    ∷ row (ReadRegister 8 4) 0 7
    ∷ [])
unfolding runs
register-accesses = refl

-- a card in use: a remapped and unplugged jack, streams beyond Fresh, counters moved, a message in work on both stream queues
abbrev pub in_work : Queue
in_work =
    record {
      taken = 65535;
      completed = 65534;
      lines =
          record {
            begun = Some (record {
              taking = record { head = 6; request = range 32 7 ∷ []; reply = range 56 8 ∷ []; form = well_formed };
              done = 2;
            });
            heads = [];
          }
          ∷ [];
    }

abbrev pub in_use : ℕ → ℕ → ℕ → Device Queue
in_use status selector page =
    let r : Registers = registers status 3 (page ∷ 2 ∷ 3 ∷ 4 ∷ []) in
    record {
      rest =
          record {
            ram = 8;
            registers = record { status = status; isr = 3; selector = selector; features = r.features; pages = r.pages };
            jacks = jack 1 5 0 ∷ [];
            maps = [];
            streams = stream running_state 16 ∷ stream stopped_state 16 ∷ [];
            control = record { taken = 2; completed = 1 };
            event = record { taken = 4; completed = 3 };
          };
      play = in_work;
      capture = in_work;
    }

abbrev pub writes : ℕ → ℕ → ℕ → Device Queue → Device Queue
writes offset width value b = (run b [] (WriteRegister offset width value ∷ [])).state

-- STATUS 0x00 resets, 0x40 does not
pub a-reset :
    (writes 18 1 0 (in_use 79 3 1)
    ≡ record {
      rest =
          record {
            ram = 8;
            registers = power_on;
            jacks = jack 1 18956319 0 ∷ [];
            maps = [];
            streams = replicate 2 (fresh_stream stream_info);
            control = no_counters;
            event = no_counters;
          };
      play = empty output;
      capture = empty input;
    })
    × (writes 18 1 64 (in_use 79 3 1) ≡ in_use 64 3 1)
unfolding runs
a-reset = (refl, refl)

-- a base write clears its own queue, here 2 and 0; with DRIVER_OK set, or for a selector above 3, the write is dropped
pub a-base-write :
    (writes 8 4 3 (in_use 11 2 1) ≡ record { rest = (in_use 11 2 1).rest; play = empty output; capture = in_work })
    × (writes 8 4 0 (in_use 11 0 1) ≡ record { rest = with_control no_counters (in_use 11 0 0).rest; play = in_work; capture = in_work })
    × (writes 8 4 5 (in_use 15 2 1) ≡ in_use 15 2 1)
    × (writes 8 4 5 (in_use 11 4 1) ≡ in_use 11 4 1)
unfolding runs
a-base-write = (refl, refl, refl, refl)

-- ---- control

-- the control ring at page 1, which ends where RAM ends, taken and completed 65,534, interrupts not wanted. An unknown code (768),
-- a reply of 3, a request that passes the end of RAM; then none is new.
abbrev pub refusing : Device Queue
refusing =
    let b = device 5768 15 (1 ∷ 0 ∷ 0 ∷ 0 ∷ []) unset in
    record { rest = with_control (record { taken = 65534; completed = 65534 }) b.rest; play = b.play; capture = b.capture }

abbrev pub refusals : List Block → List Block → List Block → List ℕ
refusals replies low high =
    memory 5768
    (block 0 (words (768 ∷ []))
    ∷ replies
    ++ block 100 (message 0 4 16 4 ++ message 0 4 20 3 ++ message 5764 5 24 5)
    ∷ block 4096 (table 100 ++ table 132 ++ table 164)
    ∷ block 5120 (available 1 1 (2 ∷ []))
    ∷ block 5248 (bytes_of 2 0 ++ bytes_of 2 1)
    ∷ low
    ++ high)

pub control-refusals :
    run refusing (refusals [] [] []) (replicate 4 Control)
    ≡ record {
      answers = replicate 4 0;
      counts = 1 ∷ 1 ∷ 1 ∷ 0 ∷ [];
      state =
          record {
            rest = with_control (record { taken = 1; completed = 1 }) refusing.rest;
            play = empty output;
            capture = empty input;
          };
      memory =
          refusals (block 16 not_supp ∷ block 24 bad_msg ∷ []) (block 5254 (used 1 (element 2 4 ∷ [])) ∷ [])
          (block 5752 (element 0 4 ++ element 1 0) ∷ []);
    }
unfolding runs
control-refusals = refl

-- "Walk fault, writable range outside RAM, or reply under 4 bytes .. Then readable outside RAM or request under 4", in 16 bytes of
-- RAM without a ring: what is left of them
abbrev pub leaves : Order → List ℕ
leaves (Done o) = o.mem
leaves (ReleaseFirst id p) = []

abbrev pub reads : List Range → List Range → List ℕ
reads request reply =
    leaves
    (read_message_by (served both) (device 16 15 (0 ∷ 0 ∷ 0 ∷ 0 ∷ []) unset).rest (replicate 16 0) 0 (whole request reply))

pub control-at-the-borders :
    (reads (range 0 4 ∷ []) (range 12 4 ∷ []) ≡ replicate 12 0 ++ not_supp)
    × (reads (range 0 3 ∷ []) (range 12 4 ∷ []) ≡ replicate 12 0 ++ bad_msg)
    × (reads (range 0 4 ∷ range 16 1 ∷ []) (range 12 4 ∷ []) ≡ replicate 12 0 ++ bad_msg)
    × (reads (range 0 4 ∷ []) (range 12 3 ∷ []) ≡ replicate 16 0)
    × (reads (range 0 4 ∷ []) (range 12 4 ∷ range 16 1 ∷ []) ≡ replicate 16 0)
unfolding runs
control-at-the-borders = (refl, refl, refl, refl, refl)

-- ---- events

-- the event ring at page 1: a chain with a readable byte, a reply of 9
abbrev pub event_ring : List Block
event_ring =
    block 100 (message 0 1 16 8) ∷ block 4096 (table 100 ++ descriptor 24 9 2 0) ∷ block 5120 (available 0 2 (0 ∷ 1 ∷ [])) ∷ []

abbrev pub listener : ℕ → Device Queue
listener connected =
    let b = device 5768 15 (0 ∷ 1 ∷ 0 ∷ 0 ∷ []) unset in
    record { rest = with_jacks (jack 1 18956319 connected ∷ []) b.rest; play = empty output; capture = empty input }

-- the second takes the event; for the next there is none, and its jack state is recorded all the same
pub event-past-a-bad-chain :
    run (listener 1) (memory 5768 event_ring) (Event 4096 0 ∷ Event 4097 0 ∷ [])
    ≡ record {
      answers = 0 ∷ 8 ∷ [];
      counts = 0 ∷ 0 ∷ [];
      state =
          record {
            rest =
                with_registers (registers 15 1 (0 ∷ 1 ∷ 0 ∷ 0 ∷ []))
                (with_event (record { taken = 2; completed = 2 }) (listener 0).rest);
            play = empty output;
            capture = empty input;
          };
      memory =
          memory 5768
          (block 24 (words (4096 ∷ 0 ∷ [])) ∷ event_ring ++ block 5254 (used 2 (element 0 0 ∷ element 1 8 ∷ [])) ∷ []);
    }
unfolding runs
event-past-a-bad-chain = refl

-- a chain with readable bytes, a range outside RAM, a reply under 8
abbrev pub takes : List Range → List Range → Option (List Range)
takes request reply = event_room (replicate 16 0) (whole request reply)

pub event-buffers :
    (takes (range 99 0 ∷ []) (range 8 8 ∷ []) ≡ Some (range 8 8 ∷ []))
    × (takes (range 0 1 ∷ []) (range 8 8 ∷ []) ≡ None)
    × (takes [] (range 8 7 ∷ []) ≡ None)
    × (takes [] (range 9 8 ∷ []) ≡ None)
unfolding runs
event-buffers = (refl, refl, refl, refl)
