-- Order 8 by computation: a play queue with two output streams. The guest offers five chains, of streams 0, 1, 0, 7 and 1; a play of
-- stream 0 takes them all and plays a part of the first; then the guest swaps ids; a second play, a Release of stream 1, and what each
-- leaves.
use Rattle.std.specs.Prelude.{Option, Some, None}
use mathlib.Core.Path.{◌≡◌, refl}
use mathlib.Core.Bool.{true}
use mathlib.Core.List.{List, [], ◌∷◌, ◌++◌}
use Prim.Native.Nat.{ℕ}
use lib.ListN.{take, drop, replicate}
use Rattle.ring.specs.declared.Cause.{Cause}
use Rattle.device.specs.Device.{output, well_formed, refused, Taking, finished, ill_formed, bytes_of}
use Rattle.device.specs.Histories.{blank}
use Rattle.device.specs.Numbers.{s_ok, s_io_err}
use Rattle.device.specs.Transfer.{Run}
use Rattle.queue_lines.specs.Chains.{Virtqueue}
use Rattle.queue_lines.specs.Claim.{card, account}
use Rattle.queue_lines.specs.Counters.{Line, Queue}
use Rattle.queue_lines.specs.Histories.{History}
use Rattle.queue_lines.specs.Rules.{Ops, transferred, emptied}
use Rattle.examples.proofs.Account.{joined, chain, entry, bouncing, answer, note, story}
use Rattle.examples.proofs.Blocks.{block, memory, words, message, table, available, element, range, waits, runs}

-- the play queue at page 1, of streams 0 and 1
abbrev pub queue : ℕ → Virtqueue
queue latency = record { direction = output; page = record { 0 = 1 }; negotiated = true; latency = latency; first = 0; streams = 2 }

-- requests from 16 on, with these ids, replies from 64 on, tables of chains from 200 on: payloads 11 12 13, 21 22, 31, none, and 41
abbrev pub lent : ℕ → ℕ → ℕ → ℕ → List ℕ
lent a b c index =
    memory 10760
    (block 16 (words (a ∷ []) ++ 11 ∷ 12 ∷ 13 ∷ [])
    ∷ block 24 (words (b ∷ []) ++ 21 ∷ 22 ∷ [])
    ∷ block 32 (words (c ∷ []) ++ 31 ∷ [])
    ∷ block 40 (words (7 ∷ []))
    ∷ block 48 (words (1 ∷ []) ++ 41 ∷ [])
    ∷ block 200 (message 16 7 64 8 ++ message 24 6 72 8 ++ message 32 5 80 8 ++ message 40 4 88 8 ++ message 48 5 96 8)
    ∷ block 4096 (table 200 ++ table 232 ++ table 264 ++ table 296 ++ table 328)
    ∷ block 8192 (available 0 index (0 ∷ 1 ∷ 2 ∷ 3 ∷ 4 ∷ []))
    ∷ [])

-- a play and a Release of a line, with this latency
unfoldable pub plays : {Q : Type 0} → (Virtqueue → Ops Q) → ℕ → ℕ → Q → List ℕ → List ℕ → Run Q
unfolding runs
plays ops latency i q m host = transferred (ops (queue latency)) (queue latency) i q m host

unfoldable pub releases : {Q : Type 0} → (Virtqueue → Ops Q) → ℕ → ℕ → Q → List ℕ → Run Q
unfolding runs
releases ops latency i q m = emptied (ops (queue latency)) (queue latency) i q m

abbrev pub zeros : ℕ → List ℕ
zeros n = replicate n 0

-- the first play, of stream 0, with room for two bytes
abbrev pub first : {Q : Type 0} → (Virtqueue → Ops Q) → Run Q
first ops = plays ops 480 0 (ops (queue 0)).empty (lent 0 1 0 5) (zeros 2)

abbrev pub half : Line
half =
    record {
      begun = Some (record {
        taking = record { head = 0; request = range 16 7 ∷ []; reply = range 64 8 ∷ []; form = well_formed };
        done = 2;
      });
      heads = 2 ∷ [];
    }

-- what it leaves
abbrev pub then : Queue
then = record { taken = 5; completed = 1; lines = half ∷ waits (1 ∷ 4 ∷ []) ∷ [] }

-- what the five replies hold
abbrev pub statuses : List ℕ → List ℕ
statuses m = take 40 (drop 64 m)

-- what a run leaves to be seen, looked at together so that it runs once: the bytes handed on, the queue, why it stopped, the replies, and
-- the used ring, its index and three elements
pub record Seen : Type 0 where
  pub bytes : List ℕ
  pub queue : Queue
  pub stop : Option Cause
  pub replies : List ℕ
  pub used : List ℕ

abbrev pub seen : Run Queue → Seen
seen r =
    record { bytes = r.bytes; queue = r.queue; stop = r.stop; replies = statuses r.mem; used = take 26 (drop 8710 r.mem) }

-- nothing in an element's place
abbrev pub none-used : List ℕ
none-used = zeros 8

-- all are taken; the one of stream 7 is answered at once, with the call's latency; two bytes of the first are handed on, and the
-- others wait
abbrev pub bad-one-answered : List ℕ → Queue → Seen
bad-one-answered bytes q =
    record {
      bytes = bytes;
      queue = q;
      stop = None;
      replies = words (0 ∷ 0 ∷ 0 ∷ 0 ∷ 0 ∷ 0 ∷ 32771 ∷ 480 ∷ 0 ∷ 0 ∷ []);
      used = bytes_of 2 1 ++ element 3 8 ++ none-used ++ none-used;
    }

pub taken-and-played : seen (first card) ≡ bad-one-answered (11 ∷ 12 ∷ []) then
unfolding plays
taken-and-played = refl

-- with no room all are taken too, and the bad one is answered; nothing is begun
pub taken-without-room :
    seen (plays card 480 0 (card (queue 0)).empty (lent 0 1 0 5) [])
    ≡ bad-one-answered [] (record { taken = 5; completed = 1; lines = waits (0 ∷ 2 ∷ []) ∷ waits (1 ∷ 4 ∷ []) ∷ [] })
unfolding plays
taken-without-room = refl

-- "an id that changed meanwhile is IO_ERR": ids swapped after taking. The chain that is begun is not read again: it is finished. The next
-- one of stream 0 now names stream 1: IO_ERR, and it moves to no other line
abbrev pub second : Run Queue
second = plays card 960 0 then (lent 1 0 1 5) (zeros 5)

-- both messages of stream 0 are completed, the second with this status
abbrev pub both-completed : List ℕ → ℕ → Seen
both-completed bytes status =
    record {
      bytes = bytes;
      queue = record { taken = 5; completed = 3; lines = waits [] ∷ waits (1 ∷ 4 ∷ []) ∷ [] };
      stop = None;
      replies = words (32768 ∷ 960 ∷ 0 ∷ 0 ∷ status ∷ 960 ∷ 0 ∷ 0 ∷ 0 ∷ 0 ∷ []);
      used = bytes_of 2 3 ++ none-used ++ element 0 8 ++ element 2 8;
    }

pub ids-swapped : seen second ≡ both-completed (13 ∷ []) 32771
unfolding plays
ids-swapped = refl

-- .. and changed back is no change: it is played
pub changed-back : seen (plays card 960 0 then (lent 1 0 0 5) (zeros 5)) ≡ both-completed (13 ∷ 31 ∷ []) 32768
unfolding plays
changed-back = refl

-- "a Release ends, its own stream's line only": of stream 1, with messages of stream 0 waiting, one of them begun
pub release-leaves-the-other :
    seen (releases card 77 1 then (lent 0 1 0 5))
    ≡ record {
      bytes = [];
      queue = record { taken = 5; completed = 3; lines = half ∷ waits [] ∷ [] };
      stop = None;
      replies = words (0 ∷ 0 ∷ 32771 ∷ 77 ∷ 0 ∷ 0 ∷ 0 ∷ 0 ∷ 32771 ∷ 77 ∷ []);
      used = bytes_of 2 3 ++ none-used ++ element 1 8 ++ element 4 8;
    }
unfolding releases
release-leaves-the-other = refl

-- the account of the first two plays: who joined, what was read when work began, entries, handed bytes
abbrev pub book : Run History
book = plays account 960 0 (first account).queue (lent 1 0 1 5) (zeros 5)

abbrev pub strange : Taking
strange = chain 3 40 4 88 refused

pub accounted :
    book.queue
    ≡ record {
      takings = joined 0 0 0 ∷ joined 1 1 1 ∷ joined 2 2 0 ∷ bouncing 3 strange ∷ joined 4 4 1 ∷ [];
      entries =
          answer (bouncing 3 strange) strange (entry 3 ill_formed s_io_err 480)
          ∷ answer (joined 0 0 0) (chain 0 16 7 64 well_formed) (entry 0 finished s_ok 960)
          ∷ answer (joined 2 2 0) (chain 2 32 5 80 refused) (entry 2 ill_formed s_io_err 960)
          ∷ [];
      lines =
          record {
            joined = joined 0 0 0 ∷ joined 2 2 0 ∷ [];
            story =
                story (chain 0 16 7 64 well_formed ∷ chain 2 32 5 80 refused ∷ [])
                (entry 0 finished s_ok 960 ∷ entry 2 ill_formed s_io_err 960 ∷ [])
                (note 0 0 20 11 ∷ note 0 1 21 12 ∷ note 0 2 22 13 ∷ []) [];
          }
          ∷ record { joined = joined 1 1 1 ∷ joined 4 4 1 ∷ []; story = blank }
          ∷ [];
    }
unfolding plays
accounted = refl

-- ---- takings one after the other

-- one chain of stream 0, offered twice, is two messages
abbrev pub twice : Run Queue
twice =
    plays card 0 0 (card (queue 0)).empty
    (memory 10760
    (block 16 (words (0 ∷ []) ++ 11 ∷ 12 ∷ [])
    ∷ block 200 (message 16 6 64 8)
    ∷ block 4096 (table 200)
    ∷ block 8192 (available 0 2 (0 ∷ 0 ∷ []))
    ∷ [])) (zeros 3)

pub same-head-twice :
    seen twice
    ≡ record {
      bytes = 11 ∷ 12 ∷ 11 ∷ [];
      queue =
          record {
            taken = 2;
            completed = 1;
            lines = record { begun = Some (record { taking = chain 0 16 6 64 well_formed; done = 1 }); heads = [] } ∷ waits [] ∷ [];
          };
      stop = None;
      replies = words (32768 ∷ []) ++ zeros 36;
      used = bytes_of 2 1 ++ element 0 8 ++ none-used ++ none-used;
    }
unfolding plays
same-head-twice = refl

-- a taking sees what the answers before it wrote: the reply to head 1, of a stream that is not there, lies over the ring's next head, and
-- makes it 0x8003: not taken, the call ends with cause 12. What was taken before stands; the message of stream 0 is not worked
abbrev pub overwritten : Run Queue
overwritten =
    plays card 0 0 (card (queue 0)).empty
    (memory 10760
    (block 16 (words (0 ∷ []) ++ 11 ∷ 12 ∷ [])
    ∷ block 40 (words (7 ∷ []))
    ∷ block 200 (message 16 6 64 8 ++ message 40 4 8200 8)
    ∷ block 4096 (table 200 ++ table 232)
    ∷ block 8192 (available 0 3 (0 ∷ 1 ∷ 0 ∷ []))
    ∷ [])) (zeros 3)

pub broken-by-an-answer :
    seen overwritten
    ≡ record {
      bytes = [];
      queue = record { taken = 2; completed = 1; lines = waits (0 ∷ []) ∷ waits [] ∷ [] };
      stop = Some Cause.Head;
      replies = zeros 40;
      used = bytes_of 2 1 ++ element 1 8 ++ none-used ++ none-used;
    }
unfolding plays
broken-by-an-answer = refl
