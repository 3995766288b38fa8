-- Play, capture and RELEASE run on small cases, by computation, on a card of one output and one input: each status at least once, the
-- whole of memory compared where a call writes; and messages of the stream queues at the borders of their rules.
use Rattle.std.specs.Prelude.{Option, Some, None}
use mathlib.Core.Path.{◌≡◌, refl}
use mathlib.Core.Bool.{Bool, true, false}
use mathlib.Core.List.{List, [], ◌∷◌, ◌++◌}
use Prim.Native.Nat.{ℕ}
use lib.ListN.{take, replicate}
use Rattle.chain.specs.Walk.{whole}
use Rattle.ranges.specs.declared.Range.{Range}
use Rattle.registers.specs.Answers.{plain}
use Rattle.ring.specs.declared.Cause.{Cause}
use Rattle.card.specs.Card.{prepared_state, running_state, released_state}
use Rattle.device.specs.Device.{Direction, output, input, Form, well_formed, refused, silent, Message, Device, with_registers, with_control}
use Rattle.device.specs.Device.{bytes_of}
use Rattle.device.specs.Transfer.{Run, payload_of}
use Rattle.rules.specs.Calls.{told_all}
use Rattle.queue_lines.specs.Chains.{Virtqueue, Arrival, in_line, at_once, arrival, reading}
use Rattle.queue_lines.specs.Counters.{Queue}
use Rattle.queue_lines.specs.Rules.{left_of, moved, emptied}
use Rattle.line_calls.specs.Calls.{Control, Play, Capture, virtqueue_of, step}
use Rattle.line_calls.specs.Claim.{card, told_by}
use Rattle.examples.proofs.Blocks.{block, memory, words, ok, io_err, xfer, descriptor, message, table, available, element, used}
use Rattle.examples.proofs.Blocks.{range, stream, registers, both, empty, waits, device, Block, runs, run, call}
use Rattle.examples.proofs.Calls.{speaks, in_work}

-- ---- play

-- the play ring at page 1, which ends where RAM ends. Head 5 names a table: an id and two payload bytes, three more, the reply.
abbrev pub player : Device Queue
player = device 10760 15 (0 ∷ 0 ∷ 1 ∷ 0 ∷ []) (speaks running_state 0)

abbrev pub one_head : Block
one_head = block 8192 (available 0 1 (5 ∷ []))

abbrev pub before : List ℕ
before =
    memory 10760
    (block 100 (11 ∷ 12 ∷ [])
    ∷ block 300 (13 ∷ 14 ∷ 15 ∷ [])
    ∷ block 400 (descriptor 96 6 1 1 ++ descriptor 300 3 1 2 ++ descriptor 200 8 2 0)
    ∷ block 4176 (descriptor 400 48 4 0)
    ∷ one_head
    ∷ [])

-- "Payload 1,920, two plays of 1,000" in small. The guest takes the chain away in between and changes bytes that wait: the chain is
-- not read again, a byte is read when it is handed on. The second play's room ends with the payload: the message is completed.
pub play-in-two-calls :
    told_by both (card both) player
    (call (Play 0 (0 ∷ 0 ∷ 0 ∷ []) 0) before ∷ call (Play 0 (0 ∷ 0 ∷ []) 0) (memory 10760 (block 302 (99 ∷ []) ∷ one_head ∷ [])) ∷ [])
    ≡ told_all (plain 0) 0 255 3 (11 ∷ 12 ∷ 13 ∷ []) (11 ∷ 12 ∷ 13 ∷ []) before
    ∷ told_all (plain 0) 0 255 2 (0 ∷ 99 ∷ []) (0 ∷ 99 ∷ [])
    (memory 10760 (block 200 (xfer ok) ∷ block 302 (99 ∷ []) ∷ one_head ∷ block 8710 (used 1 (element 5 8 ∷ [])) ∷ []))
    ∷ []
unfolding runs
play-in-two-calls = refl

-- answer 12: of heads 5 and 256 the first is taken, the second is not; order 8: all are taken before any work, so that nothing is played
-- and nothing written
abbrev pub two_heads : List ℕ
two_heads =
    memory 10760
    (block 100 (11 ∷ 12 ∷ [])
    ∷ block 400 (message 96 6 200 8)
    ∷ block 4176 (table 400)
    ∷ block 8192 (available 0 2 (5 ∷ 256 ∷ []))
    ∷ [])

pub bad-head-when-met :
    step both (card both) player (call (Play 0 (0 ∷ 0 ∷ 0 ∷ []) 0) two_heads)
    ≡ record {
      state =
          record {
            rest = with_registers (registers 79 2 (0 ∷ 0 ∷ 1 ∷ 0 ∷ [])) player.rest;
            play = record { taken = 1; completed = 0; lines = waits (5 ∷ []) ∷ [] };
            capture = empty input;
          };
      told = told_all (record { number = 12; queue = 2 }) 0 255 0 [] (0 ∷ 0 ∷ 0 ∷ []) two_heads;
    }
unfolding runs
bad-head-when-met = refl

-- the same without the bad head: the message is played, and what was asked of an interrupt stands
abbrev pub one_message : List Block → List Block → List ℕ
one_message reply used' =
    memory 10760 (block 100 (11 ∷ 12 ∷ []) ∷ reply ++ block 400 (message 96 6 200 8) ∷ block 4176 (table 400) ∷ one_head ∷ used')

pub a-message-played :
    step both (card both) player (call (Play 0 (0 ∷ 0 ∷ 0 ∷ []) 0) (one_message [] []))
    ≡ record {
      state =
          record {
            rest = with_registers (registers 15 1 (0 ∷ 0 ∷ 1 ∷ 0 ∷ [])) player.rest;
            play = record { taken = 1; completed = 1; lines = waits [] ∷ [] };
            capture = empty input;
          };
      told =
          told_all (plain 0) 0 255 2 (11 ∷ 12 ∷ []) (11 ∷ 12 ∷ 0 ∷ [])
          (one_message (block 200 (xfer ok) ∷ []) (block 8710 (used 1 (element 5 8 ∷ [])) ∷ []));
    }
unfolding runs
a-message-played = refl

-- ---- STOP and RELEASE

-- the control ring at page 1, a stream's ring at page 2. "Reply room 1,928, 500 captured, STOP, RELEASE" in small: reply room
-- 13, 3 captured; behind it a message with the wrong stream id and a reply of 10, which order 8 answers at its taking, so first.
abbrev pub recorder : ℕ → Device Queue
recorder state = device 9864 15 (1 ∷ 0 ∷ 0 ∷ 2 ∷ []) (stream prepared_state 0 ∷ stream state 0 ∷ [])

abbrev pub recording : List Block → List Block → List Block → List ℕ
recording replies used-control used-capture =
    memory 9864
    (block 0 (words (261 ∷ 1 ∷ 259 ∷ 1 ∷ []))
    ∷ replies
    ++ block 100 (message 0 8 16 4 ++ message 8 8 20 4 ++ message 12 4 40 13 ++ message 36 4 60 10)
    ∷ block 4096 (table 100 ++ table 132)
    ∷ block 5120 (available 0 2 (0 ∷ 1 ∷ []))
    ∷ used-control
    ++ block 8192 (table 164 ++ table 196)
    ∷ block 9216 (available 0 2 (0 ∷ 1 ∷ []))
    ∷ used-capture)

pub capture-stop-release :
    run (recorder running_state) (recording [] [] []) (Capture 1 (1 ∷ 2 ∷ 3 ∷ []) 0 ∷ Control ∷ Control ∷ [])
    ≡ record {
      answers = 0 ∷ 0 ∷ 0 ∷ [];
      counts = 3 ∷ 1 ∷ 1 ∷ [];
      state =
          record {
            rest =
                with_registers (registers 15 1 (1 ∷ 0 ∷ 0 ∷ 2 ∷ []))
                (with_control (record { taken = 2; completed = 2 }) (recorder released_state).rest);
            play = empty output;
            capture = record { taken = 2; completed = 2; lines = waits [] ∷ [] };
          };
      memory =
          recording
          (block 16 (ok ++ ok)
          ∷ block 40 (1 ∷ 2 ∷ 3 ∷ 0 ∷ 0 ∷ xfer ok)
          ∷ block 62 (xfer io_err)
          ∷ [])
          (block 5254 (used 2 (element 0 4 ∷ element 1 4 ∷ [])) ∷ [])
          (block 9350 (used 2 (element 1 8 ∷ element 0 11 ∷ [])) ∷ []);
    }
unfolding runs
capture-stop-release = refl

-- "If the queue breaks, the control message stays taken, uncompleted, and the stream keeps its state": of heads 0 and 64 the first is
-- taken. Order 8: all are taken before any is ended, so that its message waits
abbrev pub bad_ring : List ℕ
bad_ring =
    memory 9864
    (block 0 (words (259 ∷ 1 ∷ []))
    ∷ block 100 (message 0 8 16 4 ++ message 4 4 40 9)
    ∷ block 4096 (table 100)
    ∷ block 5120 (available 0 1 (0 ∷ []))
    ∷ block 8192 (table 132)
    ∷ block 9216 (available 0 2 (0 ∷ 64 ∷ []))
    ∷ [])

pub release-of-a-broken-queue :
    step both (card both) (recorder prepared_state) (call Control bad_ring)
    ≡ record {
      state =
          record {
            rest =
                with_registers (registers 79 2 (1 ∷ 0 ∷ 0 ∷ 2 ∷ []))
                (with_control (record { taken = 1; completed = 0 }) (recorder prepared_state).rest);
            play = empty output;
            capture = record { taken = 1; completed = 0; lines = waits (0 ∷ []) ∷ [] };
          };
      told = told_all (record { number = 12; queue = 3 }) 0 255 0 [] [] bad_ring;
    }
unfolding runs
release-of-a-broken-queue = refl

-- .. and without the bad head: a message not begun is ended (of 9 reply bytes the last 8), the control message answered
abbrev pub one_recording : List Block → List Block → List Block → List ℕ
one_recording replies used-control used-capture =
    memory 9864
    (block 0 (words (259 ∷ 1 ∷ []))
    ∷ replies
    ++ block 100 (message 0 8 16 4 ++ message 4 4 40 9)
    ∷ block 4096 (table 100)
    ∷ block 5120 (available 0 1 (0 ∷ []))
    ∷ used-control
    ++ block 8192 (table 132)
    ∷ block 9216 (available 0 1 (0 ∷ []))
    ∷ used-capture)

pub release-of-one-not-begun :
    step both (card both) (recorder prepared_state) (call Control (one_recording [] [] []))
    ≡ record {
      state =
          record {
            rest =
                with_registers (registers 15 1 (1 ∷ 0 ∷ 0 ∷ 2 ∷ []))
                (with_control (record { taken = 1; completed = 1 }) (recorder released_state).rest);
            play = empty output;
            capture = record { taken = 1; completed = 1; lines = waits [] ∷ [] };
          };
      told =
          told_all (plain 0) 0 255 1 [] []
          (one_recording (block 16 ok ∷ block 41 (xfer ok) ∷ []) (block 5254 (used 1 (element 0 4 ∷ [])) ∷ [])
          (block 9350 (used 1 (element 0 8 ∷ [])) ∷ []));
    }
unfolding runs
release-of-one-not-begun = refl

-- the play queue of one stream at a page, indirect tables negotiated
abbrev pub play_at : ℕ → Virtqueue
play_at page = record { direction = output; page = record { 0 = page }; negotiated = true; latency = 0; first = 0; streams = 1 }

-- what a RELEASE does to the play queue, at page 1, with counters about to wrap: a message in work, two of its three bytes
-- played; behind it, at ring places 255 and 0, heads 1 and 9. Head 1 has the wrong stream id, and is answered at its taking; its reply lies
-- over the start of the available ring: the index was read before, the head at place 0 is read after and is 0 then (a reply of 7), and
-- interrupts are not wanted from then on.
abbrev pub speaking : List Block → List ℕ → List Block → List Block → List ℕ
speaking reply start low high =
    memory 10760
    (reply
    ++ block 100 (message 32 7 48 7 ++ message 100 4 8192 8)
    ∷ block 4096 (table 100 ++ table 132)
    ∷ block 8192 start
    ∷ block 8706 (bytes_of 2 1)
    ∷ low
    ++ high)

-- what a Release leaves: the queue, memory, whether it broke, an interrupt wanted
abbrev pub ended : Queue → List ℕ → Option Cause → Bool → Run Queue
ended q m stop signal = record { queue = q; mem = m; bytes = []; host = []; room = 0; stop = stop; signal = signal }

pub release-of-the-output :
    emptied (card both output) (play_at 1) 0 in_work (speaking [] (available 0 1 (9 ∷ [])) [] [])
    ≡ ended
    (record { taken = 1; completed = 1; lines = waits [] ∷ [] })
    (speaking (block 56 (xfer io_err) ∷ []) (xfer io_err) (block 8710 (used 1 (element 0 0 ∷ [])) ∷ [])
    (block 10744 (element 1 8 ++ element 6 8) ∷ []))
    None
    false
unfolding runs
release-of-the-output = refl

-- .. where head 1 is well-formed and its reply lies elsewhere: it is ended behind the one in work, and head 9, a chain of no bytes, was
-- answered at its taking; the interrupt stands
abbrev pub waiting_to_speak : List Block → List Block → List Block → List ℕ
waiting_to_speak replies low high =
    memory 10760
    (replies
    ++ block 100 (message 32 7 48 7 ++ message 32 7 40 8)
    ∷ block 4096 (table 100 ++ table 132)
    ∷ block 8192 (available 0 1 (9 ∷ []))
    ∷ block 8706 (bytes_of 2 1)
    ∷ low
    ++ high)

pub release-in-line :
    emptied (card both output) (play_at 1) 0 in_work (waiting_to_speak [] [] [])
    ≡ ended
    (record { taken = 1; completed = 1; lines = waits [] ∷ [] })
    (waiting_to_speak (block 40 (xfer io_err) ∷ block 56 (xfer io_err) ∷ []) (block 8710 (used 1 (element 1 8 ∷ [])) ∷ [])
    (block 10744 (element 9 0 ++ element 6 8) ∷ []))
    None
    true
unfolding runs
release-in-line = refl

-- the used index on each side of the wrap
pub used-index :
    ((card both output).used_index (record { taken = 65535; completed = 65534; lines = waits [] ∷ [] }) ≡ 65535)
    × ((card both output).used_index (record { taken = 65535; completed = 65535; lines = waits [] ∷ [] }) ≡ 0)
used-index = (refl, refl)

-- on an idle queue nothing is pending; one whose region passes the end of RAM is broken, and its message in work stays
pub release-without-a-ring :
    (emptied (card both output) (play_at 0) 0 in_work (replicate 8 0) ≡ ended in_work (replicate 8 0) None false)
    × (emptied (card both output) (play_at 1) 0 in_work (replicate 8 0) ≡ ended in_work (replicate 8 0) (Some Cause.Region) false)
unfolding runs
release-without-a-ring = (refl, refl)

-- ---- messages of the stream queues: "I/O order", in 40 bytes that start with ids 0 and 1

-- the queue of a direction on a card of one output and one input; what a chain is when it is read, as the front of its line
abbrev pub queue_on : Direction → Virtqueue
queue_on d = virtqueue_of both (device 40 15 (0 ∷ 0 ∷ 1 ∷ 1 ∷ []) (replicate 2 (stream running_state 0))).rest d 0

abbrev pub forms : Direction → List Range → List Range → Form
forms d request reply = (reading (queue_on d) 0 (0 ∷ 0 ∷ 0 ∷ 0 ∷ 1 ∷ replicate 35 0) 0 (whole request reply)).form

pub forms-at-the-borders :
    (forms output (range 0 4 ∷ []) (range 32 8 ∷ []) ≡ well_formed)
    × (forms output (range 0 3 ∷ range 8 20 ∷ []) (range 8 3 ∷ range 99 0 ∷ range 8 5 ∷ []) ≡ well_formed)
    × (forms output (range 0 3 ∷ []) (range 8 8 ∷ []) ≡ refused)
    × (forms output (range 4 4 ∷ []) (range 8 8 ∷ []) ≡ refused)
    × (forms output (range 0 4 ∷ []) (range 8 9 ∷ []) ≡ refused)
    × (forms output (range 0 4 ∷ range 39 2 ∷ []) (range 8 8 ∷ []) ≡ refused)
    × (forms output (range 0 4 ∷ []) (range 8 7 ∷ []) ≡ silent)
    × (forms output (range 0 4 ∷ []) (range 33 8 ∷ []) ≡ silent)
    × (forms output (range 39 2 ∷ []) (range 8 8 ∷ range 40 1 ∷ []) ≡ silent)
    × (forms input (range 4 4 ∷ []) (range 8 8 ∷ []) ≡ well_formed)
    × (forms input (range 4 4 ∷ []) (range 8 32 ∷ []) ≡ well_formed)
    × (forms input (range 4 5 ∷ []) (range 8 8 ∷ []) ≡ refused)
    × (forms input (range 4 3 ∷ []) (range 8 8 ∷ []) ≡ refused)
    × (forms input (range 0 4 ∷ []) (range 8 8 ∷ []) ≡ refused)
    × (forms input (range 4 4 ∷ []) (range 8 7 ∷ []) ≡ silent)
unfolding runs
forms-at-the-borders = (refl, refl, refl, refl, refl, refl, refl, refl, refl, refl, refl, refl, refl, refl, refl)

-- order 8, at the taking: a request outside RAM or under 4, or an id not on the queue, gets its answer at once; else the reply is not
-- looked at, and the message joins its line
abbrev pub at_once_as : Arrival → Option Form
at_once_as (in_line i) = None
at_once_as (at_once t) = Some t.form

abbrev pub arrives : Direction → List Range → List Range → Option Form
arrives d request reply = at_once_as (arrival (queue_on d) (0 ∷ 0 ∷ 0 ∷ 0 ∷ 1 ∷ replicate 35 0) 0 (whole request reply))

pub arrivals-at-the-borders :
    (arrives output (range 0 4 ∷ []) (range 32 8 ∷ []) ≡ None)
    × (arrives output (range 0 4 ∷ []) (range 8 7 ∷ []) ≡ None)
    × (arrives output (range 0 4 ∷ []) (range 33 8 ∷ []) ≡ None)
    × (arrives output (range 0 3 ∷ []) (range 8 8 ∷ []) ≡ Some refused)
    × (arrives output (range 4 4 ∷ []) (range 8 8 ∷ []) ≡ Some refused)
    × (arrives output (range 0 4 ∷ range 39 2 ∷ []) (range 8 8 ∷ []) ≡ Some refused)
    × (arrives output (range 39 2 ∷ []) (range 8 8 ∷ range 40 1 ∷ []) ≡ Some silent)
    × (arrives input (range 4 4 ∷ []) (range 8 8 ∷ []) ≡ None)
    × (arrives input (range 4 5 ∷ []) (range 8 8 ∷ []) ≡ None)
    × (arrives input (range 4 3 ∷ []) (range 8 8 ∷ []) ≡ Some refused)
    × (arrives input (range 0 4 ∷ []) (range 8 8 ∷ []) ≡ Some refused)
    × (arrives input (range 0 4 ∷ []) (range 8 7 ∷ []) ≡ Some silent)
unfolding runs
arrivals-at-the-borders = (refl, refl, refl, refl, refl, refl, refl, refl, refl, refl, refl, refl)

-- the addresses of a payload: the request past 4 bytes, the reply before its last 8; none of an ill-formed message
abbrev pub pays : Direction → Form → List ℕ
pays d form =
    payload_of d (record { head = 0; request = range 10 3 ∷ range 20 3 ∷ []; reply = range 30 2 ∷ range 40 8 ∷ []; form = form })

pub payloads : (pays output well_formed ≡ 21 ∷ 22 ∷ []) × (pays input well_formed ≡ 30 ∷ 31 ∷ []) × (pays input refused ≡ [])
unfolding runs
payloads = (refl, refl, refl)

-- three bytes captured into a payload of two, across descriptors: the third is left for the next message
abbrev pub two_bytes : ℕ → Message
two_bytes done =
    record {
      taking = record { head = 0; request = range 0 4 ∷ []; reply = range 1 1 ∷ range 4 9 ∷ []; form = well_formed };
      done = done;
    }

abbrev pub capturing : ℕ → List ℕ → List ℕ → List ℕ → ℕ → Run Queue
capturing done mem bytes host room =
    record {
      queue = record { taken = 1; completed = 0; lines = record { begun = Some (two_bytes done); heads = [] } ∷ [] };
      mem = mem;
      bytes = bytes;
      host = host;
      room = room;
      stop = None;
      signal = false;
    }

pub capture-moves :
    moved (card both input) (queue_on input) 0 (take 3 (left_of (card both input) (queue_on input) (two_bytes 0)))
    (capturing 0 (replicate 6 0) [] (7 ∷ 8 ∷ 9 ∷ []) 3)
    ≡ capturing 2 (0 ∷ 7 ∷ 0 ∷ 0 ∷ 8 ∷ 0 ∷ []) (7 ∷ 8 ∷ []) (9 ∷ []) 1
unfolding runs
capture-moves = refl
