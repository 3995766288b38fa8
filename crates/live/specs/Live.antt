-- The small state of a card, what of a card it leaves to the parts and the words of the queues, and the register entries over it.
use Rattle.std.specs.Prelude.{◌≡◌, Bool, true, false, cond, ◌||◌, List, [], ◌∷◌, map, ℕ, ◌-◌, eqb, length, get_or, set, replicate}
use Rattle.registers.specs.Fit.{FitRegisters}
use Rattle.registers.specs.Rules.{read_of, write_of}
use Rattle.registers.specs.declared.Config.{Config}
use Rattle.registers.specs.declared.Effect.{Effect}
use Rattle.registers.specs.declared.Effect.TheVariants.{Nothing, Reset, Based, Rung}
use Rattle.registers.specs.declared.Read.{Read}
use Rattle.registers.specs.declared.Written.{Written}
use Rattle.card.specs.Card.{no_counters, no_params, no_stream, fresh_state}
use Rattle.card.specs.Fit.{FitParts}
use Rattle.card.specs.Rules.{powered_of, rung_of}
use Rattle.card.specs.declared.Card.{Card}
use Rattle.card.specs.declared.Jack.{Jack}
use Rattle.card.specs.declared.Parts.{Parts}
use Rattle.card.specs.declared.Stream.{Stream}
use Rattle.description.specs.declared.Description.{Description}
use Rattle.live.specs.declared.Board.{Board}
use Rattle.live.specs.Setters.{with_registers}
use Rattle.live.specs.declared.Live.{Live}
use Rattle.live.specs.declared.PoweredBoard.{PoweredBoard}
use Rattle.live.specs.declared.LiveRead.{LiveRead}
use Rattle.live.specs.declared.LiveWrite.{LiveWrite}

-- ---- the card of a small state, parts and words

-- a jack and a stream as they are: after a reset "remaps undone", and a Fresh stream has no parameters
abbrev pub jack_now : Bool → Jack → Jack
jack_now fresh j = record { info = j.info; defconf = cond fresh j.info.defconf j.defconf; connected = j.connected }

abbrev pub stream_now : Bool → ℕ → ℕ → Stream → Stream
stream_now fresh state backlog s =
    record { info = s.info; state = state; params = cond fresh no_params s.params; backlog = backlog }

abbrev pub stream_of : Live → List Stream → ℕ → Stream
stream_of l s i = stream_now l.fresh (get_or l.states i 0) (get_or l.backlogs i 0) (get_or s i no_stream)

abbrev pub stream_at : Live → Parts → ℕ → Stream
stream_at l p i = stream_of l p.streams i

abbrev pub streams_now : Live → List Stream → List Stream
streams_now l s = stream_of l s 0 ∷ stream_of l s 1 ∷ stream_of l s 2 ∷ stream_of l s 3 ∷ stream_of l s 4 ∷ stream_of l s 5 ∷ []

abbrev pub parts_now : Live → Parts → Parts
parts_now l p =
    record {
      jack_count = p.jack_count;
      map_count = p.map_count;
      stream_count = p.stream_count;
      output_count = p.output_count;
      jacks = map (jack_now l.fresh) p.jacks;
      maps = p.maps;
      streams = streams_now l p.streams;
    }

abbrev pub card_in : Live → Parts → List ℕ → List ℕ → Card
card_in l p pw cw =
    record {
      ram_len = l.ram_len;
      registers = l.registers;
      queues = l.queues;
      parts = parts_now l p;
      play_dropped = l.play_dropped;
      capture_dropped = l.capture_dropped;
      play_words = pw;
      capture_words = cw;
    }

-- the counts of the parts
abbrev pub config_in : Parts → Config
config_in p = record { jacks = p.jack_count; streams = p.stream_count; chmaps = p.map_count }

-- what the streams of parts have, one by one
abbrev pub of_six : (Stream → ℕ) → List Stream → List ℕ
of_six f l =
    f (get_or l 0 no_stream) ∷ f (get_or l 1 no_stream) ∷ f (get_or l 2 no_stream) ∷ f (get_or l 3 no_stream) ∷ f (get_or l 4 no_stream)
    ∷ f (get_or l 5 no_stream)
    ∷ []

abbrev pub states_of : List Stream → List ℕ
states_of = of_six (λ s. s.state)

abbrev pub backlogs_of : List Stream → List ℕ
backlogs_of = of_six (λ s. s.backlog)

-- ---- the small state of a card, and one beside parts that are as they are

abbrev pub live_of : Card → Live
live_of c =
    record {
      ram_len = c.ram_len;
      registers = c.registers;
      config = config_in c.parts;
      queues = c.queues;
      outputs = c.parts.output_count;
      inputs = c.parts.stream_count - c.parts.output_count;
      states = states_of c.parts.streams;
      fresh = false;
      play_dropped = c.play_dropped;
      capture_dropped = c.capture_dropped;
      backlogs = backlogs_of c.parts.streams;
    }

abbrev pub kept_live : Live → Parts → Live
kept_live l p =
    record {
      ram_len = l.ram_len;
      registers = l.registers;
      config = l.config;
      queues = l.queues;
      outputs = l.outputs;
      inputs = l.inputs;
      states = states_of p.streams;
      fresh = false;
      play_dropped = l.play_dropped;
      capture_dropped = l.capture_dropped;
      backlogs = backlogs_of p.streams;
    }

-- a card but for the words of its queues
abbrev pub board_of : Card → Board
board_of c = record { live = live_of c; parts = c.parts }

unfoldable pub powered_board : Description → ℕ → PoweredBoard
powered_board d len = record { answer = (powered_of d len).answer; board = board_of (powered_of d len).card }

-- ---- the register entries

-- "counters and messages in work are cleared, streams are Fresh, remaps undone"; order 8: "What drops 01's message in work drops the
-- lines."
unfoldable pub reset_live : Live → Live
reset_live l =
    record {
      ram_len = l.ram_len;
      registers = l.registers;
      config = l.config;
      queues = replicate 4 no_counters;
      outputs = l.outputs;
      inputs = l.inputs;
      states = replicate 6 fresh_state;
      fresh = true;
      play_dropped = true;
      capture_dropped = true;
      backlogs = replicate 6 0;
    }

-- a base write: "zero that queue's counters and drop its message in work", so its lines
unfoldable pub based_live : ℕ → Live → Live
based_live q l =
    record {
      ram_len = l.ram_len;
      registers = l.registers;
      config = l.config;
      queues = set l.queues q no_counters;
      outputs = l.outputs;
      inputs = l.inputs;
      states = l.states;
      fresh = l.fresh;
      play_dropped = eqb q 2 || l.play_dropped;
      capture_dropped = eqb q 3 || l.capture_dropped;
      backlogs = l.backlogs;
    }

abbrev pub affected_live : Effect → Live → Live
affected_live Nothing l = l
affected_live Reset l = reset_live l
affected_live (Based q) l = based_live q l
affected_live (Rung q) l = l

unfoldable pub read_live : Live → ℕ → ℕ → LiveRead
read_live l offset width =
    let r : Read = read_of l.registers l.config offset width in
    record { answer = r.answer; value = r.value; live = with_registers r.registers l }

unfoldable pub write_live : Live → ℕ → ℕ → ℕ → LiveWrite
write_live l offset width v =
    let w : Written = write_of l.registers offset width v in
    record { answer = w.answer; rung = rung_of w.effect; live = affected_live w.effect (with_registers w.registers l) }

-- ---- what holds of them

-- the small state alone
pub record FitLive (l : Live) : Type 0 where
  pub registers : FitRegisters l.registers
  pub four : length l.queues ≡ 4
  pub states : length l.states ≡ 6
  pub backlogs : length l.backlogs ≡ 6

-- all that a card is made of but the words of its queues
pub record FitBoard (l : Live) (p : Parts) : Type 0 where
  pub live : FitLive l
  pub parts : FitParts (parts_now l p)
  pub counts : l.config ≡ config_in p
  pub outputs : l.outputs ≡ p.output_count
  pub inputs : l.inputs ≡ p.stream_count - p.output_count
