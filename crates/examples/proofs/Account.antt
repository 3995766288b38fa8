-- The play queue's account, run by computation: a play in two calls, a message with the wrong stream id between two others, STOP and
-- RELEASE of the rest, a reset. All histories are shown after each of them; and order 5's latency, in the entries and in memory.
use Rattle.std.specs.Prelude.{Some}
use mathlib.Core.Path.{◌≡◌, refl}
use mathlib.Core.List.{List, [], ◌∷◌, ◌++◌, map}
use Prim.Native.Nat.{ℕ}
use lib.ListN.{take, drop}
use Rattle.card.specs.Card.{running_state}
use Rattle.card.specs.declared.Stream.{Stream}
use Rattle.device.specs.Device.{output, input, Device, Form, well_formed, refused, Taking, Ending, finished, released, ill_formed}
use Rattle.device.specs.Histories.{Entry, Note, Loss, History as Story}
use Rattle.device.specs.Numbers.{s_ok, s_io_err}
use Rattle.queue_lines.specs.Chains.{in_line, at_once}
use Rattle.queue_lines.specs.Histories.{Taken, Answer, History}
use Rattle.line_calls.specs.Calls.{Request, WriteRegister, Control, Play}
use Rattle.line_calls.specs.Claim.{account}
use Rattle.examples.proofs.Blocks.{Ran, block, memory, words, message, table, available, range, both, device, runs}
use Rattle.examples.proofs.Calls.{speaks}

-- the control ring at page 1 with STOP and RELEASE of stream 0, the play ring at page 2 with heads 0, 1 and 3: payloads 11 12 13, none,
-- and 21 22 23 24. Requests stand from 16 on, replies from 64 on, tables of chains from 200 on
abbrev pub lent : List ℕ
lent =
    memory 14856
    (block 0 (words (261 ∷ 0 ∷ 259 ∷ 0 ∷ []))
    ∷ block 16 (words (0 ∷ []) ++ 11 ∷ 12 ∷ 13 ∷ [])
    ∷ block 24 (words (1 ∷ []))
    ∷ block 32 (words (0 ∷ []) ++ 21 ∷ 22 ∷ 23 ∷ 24 ∷ [])
    ∷ block 200 (message 0 8 100 4 ++ message 8 8 104 4 ++ message 16 7 64 8 ++ message 24 4 72 8 ++ message 32 8 80 8)
    ∷ block 4096 (table 200 ++ table 232)
    ∷ block 5120 (available 0 2 (0 ∷ 1 ∷ []))
    ∷ block 8192 (table 264 ++ table 296)
    ∷ block 8240 (table 328)
    ∷ block 12288 (available 0 3 (0 ∷ 1 ∷ 3 ∷ []))
    ∷ [])

abbrev pub speaker : Device History
speaker =
    record {
      rest = (device 14856 15 (1 ∷ 0 ∷ 2 ∷ 0 ∷ []) (speaks running_state 0)).rest;
      play = (account both output).empty;
      capture = (account both input).empty;
    }

-- what is shown after a call: the account's history of the play queue, what memory holds at the three replies, and the backlogs that
-- the streams remember
pub record Shown : Type 0 where
  pub history : History
  pub statuses : List ℕ
  pub remembered : List ℕ

abbrev pub shown : Ran History → Shown
shown r =
    record {
      history = r.state.play;
      statuses = take 24 (drop 64 r.memory);
      remembered = map (λ (s : Stream). s.backlog) r.state.rest.streams;
    }

-- that after each of these requests, each lent the memory that the one before left
unfoldable pub after_each : Device History → List ℕ → List Request → List Shown
after_each b m [] = []
after_each b m (q ∷ qs) = let r = runs both (account both) b m (q ∷ []) in shown r ∷ after_each r.state r.memory qs

-- ---- histories in short

-- a taking that joined a line; a chain as it was read; an entry of 8 bytes
abbrev pub joined : ℕ → ℕ → ℕ → Taken
joined of head line = record { of = of; head = head; arrival = in_line line }

abbrev pub chain : ℕ → ℕ → ℕ → ℕ → Form → Taking
chain head request len reply form = record { head = head; request = range request len ∷ []; reply = range reply 8 ∷ []; form = form }

abbrev pub entry : ℕ → Ending → ℕ → ℕ → Entry
entry head ending status latency = record { head = head; length = 8; ending = ending; status = Some status; latency = latency }

-- a message answered at its taking: the taking, and its answer
abbrev pub bouncing : ℕ → Taking → Taken
bouncing of t = record { of = of; head = t.head; arrival = at_once t }

abbrev pub answer : Taken → Taking → Entry → Answer
answer x t e = record { taken = x; chain = t; entry = e }

abbrev pub note : ℕ → ℕ → ℕ → ℕ → Note
note of pos from byte = record { of = of; pos = pos; from = from; byte = byte }

abbrev pub loss : ℕ → ℕ → Loss
loss of pos = record { of = of; pos = pos }

abbrev pub story : List Taking → List Entry → List Note → List Loss → Story
story takings entries notes losses = record { takings = takings; entries = entries; notes = notes; losses = losses }

-- ---- the run

-- the chains of heads 0, 1 and 3
abbrev pub first : Taking
first = chain 0 16 7 64 well_formed

abbrev pub strange : Taking
strange = chain 1 24 4 72 refused

abbrev pub third : Taking
third = chain 3 32 8 80 well_formed

-- the first call takes all three, and answers the one with the wrong stream id at once, with its own latency; what differs then is which
-- entries there are behind that one, and the story of the line
abbrev pub book : List Answer → Story → History
book answers s =
    record {
      takings = joined 0 0 0 ∷ bouncing 1 strange ∷ joined 2 3 0 ∷ [];
      entries = answer (bouncing 1 strange) strange (entry 1 ill_formed s_io_err 480) ∷ answers;
      lines = record { joined = joined 0 0 0 ∷ joined 2 3 0 ∷ []; story = s } ∷ [];
    }

abbrev pub begun : List Note
begun = note 0 0 20 11 ∷ note 0 1 21 12 ∷ []

abbrev pub heard : List Note
heard = begun ++ note 0 2 22 13 ∷ note 1 0 36 21 ∷ note 1 1 37 22 ∷ []

-- two bytes of room with a backlog of 480: the first message is begun. Memory has 0x8003 and 480 for the ill-formed one
abbrev pub a-part-played : Shown
a-part-played =
    record {
      history = book [] (story (first ∷ []) [] begun []);
      statuses = words (0 ∷ 0 ∷ 32771 ∷ 480 ∷ 0 ∷ 0 ∷ []);
      remembered = 480 ∷ 0 ∷ [];
    }

-- three bytes with a backlog of 960: the first message is finished, the third begun. Memory has 0x8000 and 960 for the finished one
abbrev pub finishing : Entry
finishing = entry 0 finished s_ok 960

abbrev pub played-on : Shown
played-on =
    record {
      history = book (answer (joined 0 0 0) first finishing ∷ []) (story (first ∷ third ∷ []) (finishing ∷ []) heard []);
      statuses = words (32768 ∷ 960 ∷ 32771 ∷ 480 ∷ 0 ∷ 0 ∷ []);
      remembered = 960 ∷ 0 ∷ [];
    }

-- RELEASE gives up what waits, with 0x8003 and the backlog remembered
abbrev pub ending : Entry
ending = entry 3 released s_io_err 960

abbrev pub given-up : Shown
given-up =
    record {
      history =
          book (answer (joined 0 0 0) first finishing ∷ answer (joined 2 3 0) third ending ∷ [])
          (story (first ∷ third ∷ []) (finishing ∷ ending ∷ []) heard (loss 1 2 ∷ loss 1 3 ∷ []));
      statuses = words (32768 ∷ 960 ∷ 32771 ∷ 480 ∷ 32771 ∷ 960 ∷ []);
      remembered = 960 ∷ 0 ∷ [];
    }

-- STATUS written 0 starts all anew; what was written to memory stands
abbrev pub anew : Shown
anew = record { history = (account both output).empty; statuses = given-up.statuses; remembered = 0 ∷ 0 ∷ [] }

-- STOP adds nothing, nor does the play after it, which is refused: its backlog is not remembered
pub account-of-a-play :
    after_each speaker lent
    (Play 0 (0 ∷ 0 ∷ []) 480 ∷ Play 0 (0 ∷ 0 ∷ 0 ∷ []) 960 ∷ Control ∷ Play 0 (0 ∷ []) 77 ∷ Control ∷ WriteRegister 18 1 0 ∷ [])
    ≡ a-part-played ∷ played-on ∷ played-on ∷ played-on ∷ given-up ∷ anew ∷ []
unfolding runs after_each
account-of-a-play = refl

-- a Release with no play before it writes latency 0, for ill-formed messages too
pub latency-of-none :
    (shown (runs both (account both) speaker lent (Control ∷ Control ∷ []))).statuses ≡ words (32771 ∷ 0 ∷ 32771 ∷ 0 ∷ 32771 ∷ 0 ∷ [])
unfolding runs
latency-of-none = refl
