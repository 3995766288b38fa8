-- 01, Numbers on each side: "The P cases stand together as one table and one proved statement over the definitions". `Cases` is the
-- table, in the paper's order; `cases` of proofs/Cases proves it. What orders add is in Table, and in the Table of queue_lines and of
-- rules.
use Rattle.std.specs.Prelude.{Result, Option, Ok, Err, Some}
use Rattle.std.specs.Prelude.{◌≡◌, Bool, List, [], ◌∷◌, ◌++◌, ℕ, ◌≤◌, length}
use Rattle.counts.specs.declared.PageNumber.{PageNumber}
use Rattle.registers.specs.Rules.{read_of, write_of, power_on, value_read}
use Rattle.registers.specs.declared.Config.{Config}
use Rattle.registers.specs.declared.Registers.{Registers}
use Rattle.ring.specs.Rules.{new_of}
use Rattle.ring.specs.declared.Cause.{Cause}
use Rattle.card.specs.declared.Jack.{Jack}
use Rattle.card.specs.declared.Stream.{Stream}
use Rattle.device.specs.Device.{output, bytes_of}
use Rattle.device.specs.Numbers.{jack_remap, s_ok, s_bad_msg}
use Rattle.device.specs.Transfer.{Shows}
use Rattle.rules.specs.Control.{Parts, Reply, status, with_defconf, pcm_item_of}
use Rattle.queue_lines.specs.Counters.{Line, length_of, counters_of}
use Rattle.queue_lines.specs.Rules.{found}
use Rattle.line_calls.specs.Calls.{served}
use Rattle.line_calls.specs.Streams.{Streams}
use Rattle.line_calls.specs.Table.{asks, one_output}

-- ---- what the cases are asked of

-- what the check of a play queue of one stream finds_one with 10 taken, at this available index and with this many in its line: in every
-- memory and at every page that shows it
abbrev pub finds_one : ℕ → ℕ → Result (Option ℕ) Cause → Type 0
finds_one index line check =
    (m : List ℕ) (page : PageNumber) (negotiated : Bool) (latency completed : ℕ) (a : Line)
    → Shows m page index
    → length_of a ≡ line
    → found (counters_of output 1) (record {
      direction = output;
      page = page;
      negotiated = negotiated;
      latency = latency;
      first = 0;
      streams = 1;
    })
    (record { taken = 10; completed = completed; lines = a ∷ [] }) m
    ≡ check

-- the registers after power-up, a write of GUEST_FEATURES (offset 4) and one of 0x0b to STATUS (offset 18)
abbrev pub negotiated : ℕ → Registers
negotiated features = (write_of (write_of power_on 4 4 features).registers 18 1 11).registers

-- a remap request: code, jack_id, association, sequence
abbrev pub remaps : ℕ → ℕ → ℕ → List ℕ
remaps id association sequence = bytes_of 4 jack_remap ++ bytes_of 4 id ++ bytes_of 4 association ++ bytes_of 4 sequence

-- ---- the table

pub record Cases : Type 0 where
  -- "Taken 65,535, index 0: 1 new." "Taken 65,530, index 4: 10 new."
  pub one-new : new_of 0 65535 ≡ 1
  pub ten-new : new_of 4 65530 ≡ 10
  -- "Play, taken 10, none in work: index 266 works, 267 breaks; one in work: 265 works, 266 breaks."; in line, by order 8
  pub none-works : finds_one 266 0 (Ok (Some 256))
  pub none-breaks : finds_one 267 0 (Err Cause.Entries)
  pub one-works : finds_one 265 1 (Ok (Some 255))
  pub one-breaks : finds_one 266 1 (Err Cause.Entries)
  -- "Features 0x10000001, STATUS 0x0b reads 0x03; with 0x10000000 it reads 0x0b."
  pub refused-features : (c : Config) → read_of (negotiated 268435457) c 18 1 ≡ value_read (negotiated 268435457) 3
  pub agreed-features : (c : Config) → read_of (negotiated 268435456) c 18 1 ≡ value_read (negotiated 268435456) 11
  -- "PCM_INFO on one stream: (0, 1, 32) length 36": the status and the one item
  pub one-item :
      (p : Parts) (s : Stream) (room : ℕ) → p.streams ≡ s ∷ [] → 36 ≤ room
      → (served one_output p (asks 0 1 32) room ≡ Reply p (status s_ok ++ pcm_item_of 0 s)) × (length (status s_ok ++ pcm_item_of 0 s) ≡ 36)
  -- "(1, 0, 32) length 4, OK"
  pub no_item :
      (p : Parts) (s : Stream) (room : ℕ) → p.streams ≡ s ∷ [] → 4 ≤ room
      → (served one_output p (asks 1 0 32) room ≡ Reply p (status s_ok)) × (length (status s_ok) ≡ 4)
  -- "(0xffffffff, 1, 32) BAD_MSG"
  pub no_wrap :
      (p : Parts) (s : Stream) (room : ℕ) → p.streams ≡ s ∷ []
      → served one_output p (asks 4294967295 1 32) room ≡ Reply p (status s_bad_msg)
  -- "reply room 35 for one item: BAD_MSG"
  pub no_room : (p : Parts) (s : Stream) → p.streams ≡ s ∷ [] → served one_output p (asks 0 1 32) 35 ≡ Reply p (status s_bad_msg)
  -- "Defconf 0x0121401f, association 2, sequence 5: 0x01214025."
  pub remapped :
      (n : Streams) (p : Parts) (j : Jack) (js : List Jack) (room : ℕ) → p.jacks ≡ j ∷ js → j.info.features ≡ 1 → j.defconf ≡ 18956319
      → served n p (remaps 0 2 5) room
      ≡ Reply (record { jacks = with_defconf 18956325 j ∷ js; maps = p.maps; streams = p.streams }) (status s_ok)
