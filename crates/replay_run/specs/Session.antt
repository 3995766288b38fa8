-- The replay program's session: what each line does to its state, to the card and to the memory lent, and what it prints; and the same
-- over all lines of a script, in order.
use Rattle.std.specs.Prelude.{Option, Some, None}
use Rattle.std.specs.Prelude.{◌≡◌, ℕ, ◌+◌, ◌-◌, ◌%◌, ◌^◌, ◌<◌, ◌≤◌, min, Bool, false, cond, List, [], ◌∷◌, ◌++◌, length, take, drop, ◌==◌}
use mathlib.Core.List.{foldl}
use Rattle.card.specs.Rules.{powered_of}
use Rattle.decimal.specs.Write.{Put}
use Rattle.description.specs.Nothing.{nothing_described}
use Rattle.description.specs.declared.Description.{Description}
use Rattle.lines.specs.Lines.{span_of, behind_of}
use Rattle.meaning.specs.Card.{device_of}
use Rattle.meaning.specs.Fit.{Fit}
use Rattle.replay_call.specs.Shown.{Left, left_by}
use Rattle.replay_description.specs.Parts.{with_part}
use Rattle.replay_call.specs.Asked.{asked_by}
use Rattle.replay_line.specs.Line.{line_of}
use Rattle.replay_line.specs.declared.Call.{Call}
use Rattle.replay_line.specs.declared.Guest.{Guest}
use Rattle.replay_line.specs.declared.Line.{Line}
use Rattle.replay_line.specs.declared.Line.TheVariants.{Skipped, Described, Power, Called, Lent}
use Rattle.replay_memory.specs.Lent.{filled, touched_length, touched_ram, touched_text}
use Rattle.replay_text.specs.Text.{answer_bytes}
use Rattle.device.specs.Device.{Device}
use Rattle.queue_lines.specs.Counters.{Queue}
use Rattle.replay_run.specs.Calls.{step_in, printed}
use Rattle.replay_run.specs.declared.State.{State}

-- ---- where a session stands

-- lines so far, bytes lent, whether there is a card, and what is described for the next power-up
pub record Desk : Type 0 where
  pub line : ℕ
  pub len : ℕ
  pub powered : Bool
  pub described : Description

-- with what the card stands for in the rules, and the array of which the first bytes are lent
pub record World : Type 0 where
  pub desk : Desk
  pub device : Device Queue
  pub ram : List ℕ

abbrev pub desk_of : State → Desk
desk_of s = record { line = s.line; len = s.len; powered = s.powered; described = s.described }

abbrev pub world_of : State → List ℕ → World
world_of s ram = record { desk = desk_of s; device = device_of s.card; ram = ram }

-- no line yet, no memory lent, no card: that of a power-up that was refused stands in its place
abbrev pub first_desk : Desk
first_desk = record { line = 0; len = 0; powered = false; described = nothing_described }

abbrev pub first_world : List ℕ → World
first_world ram = record { desk = first_desk; device = device_of (powered_of nothing_described 0).card; ram = ram }

-- ---- the parts of a line

-- "LINE counts from 1", as far as 64 bits count
abbrev pub numbered : World → World
numbered w =
    let d : Desk = w.desk in
    record {
      desk = record { line = (d.line + 1) % 2 ^ 64; len = d.len; powered = d.powered; described = d.described };
      device = w.device;
      ram = w.ram;
    }

-- "one more jack" ..
abbrev pub described_world : Description → World → World
described_world p w =
    let d : Desk = w.desk in
    record { desk = record { line = d.line; len = d.len; powered = d.powered; described = p }; device = w.device; ram = w.ram }

-- "power-up with the description so far and LEN bytes of RAM, all zero. The description is emptied for a later power"
abbrev pub powered_world : ℕ → World → World
powered_world n w =
    let d : Desk = w.desk in
    record {
      desk = record { line = d.line; len = n; powered = ((powered_of d.described n).answer == 0); described = nothing_described };
      device = device_of (powered_of d.described n).card;
      ram = filled 1048576 w.ram 0 0;
    }

-- the memory lent
abbrev pub lent_in : World → ℕ
lent_in w = min w.desk.len (length w.ram)

-- "a call before a successful power" does nothing and is answered 99; a call changes the memory lent to it, and not the array past it
abbrev pub after_call : Left → World → World
after_call l w = record { desk = w.desk; device = l.device; ram = l.memory ++ drop (lent_in w) w.ram }

unfoldable pub called_world : Call → List ℕ → World → World
called_world call s w =
    cond w.desk.powered (after_call (left_by (step_in w.device (asked_by call s) (take (lent_in w) w.ram))) w) w

unfoldable pub called_text : Call → List ℕ → World → List ℕ
called_text call s w =
    cond w.desk.powered
    (printed (asked_by call s) w.desk.line (step_in w.device (asked_by call s) (take (lent_in w) w.ram)))
    (answer_bytes w.desk.line 99)

-- the guest's lines
abbrev pub touched_world : Guest → List ℕ → World → World
touched_world g s w =
    let d : Desk = w.desk in
    record {
      desk = record { line = d.line; len = touched_length g (lent_in w); powered = d.powered; described = d.described };
      device = w.device;
      ram = touched_ram g s w.ram (lent_in w);
    }

-- ---- a line that reads so, whose bytes are s

abbrev pub world_after : Option Line → List ℕ → World → World
world_after (Some Skipped) s w = w
world_after None s w = w
world_after (Some (Described part)) s w = described_world (with_part w.desk.described part s) w
world_after (Some (Power n)) s w = powered_world (min n (length w.ram)) w
world_after (Some (Called call)) s w = called_world call s w
world_after (Some (Lent g)) s w = touched_world g s w

-- "one line for power, each call, d, and each line that can't be read": "power: LINE ANSWER"; "LINE 99"
abbrev pub text_after : Option Line → List ℕ → World → List ℕ
text_after (Some Skipped) s w = []
text_after None s w = answer_bytes w.desk.line 99
text_after (Some (Described part)) s w = []
text_after (Some (Power n)) s w = answer_bytes w.desk.line (powered_of w.desk.described (min n (length w.ram))).answer
text_after (Some (Called call)) s w = called_text call s w
text_after (Some (Lent g)) s w = touched_text g w.desk.line (take (lent_in w) w.ram)

unfoldable pub step_world : World → List ℕ → World
step_world w s = world_after (line_of s) s (numbered w)

unfoldable pub step_text : World → List ℕ → List ℕ
step_text w s = text_after (line_of s) s (numbered w)

-- ---- all lines of a script

abbrev pub session_world : World → List (List ℕ) → World
session_world w ls = foldl step_world w ls

-- what is printed
unfoldable pub session_text : World → List (List ℕ) → List ℕ
session_text w [] = []
session_text w (l ∷ ls) = step_text w l ++ session_text (step_world w l) ls

-- the turns of a session over the script s from a place on: a line is done, its text handed out, and the next one starts behind it
pub data Turns (s : List ℕ) : World → ℕ → List (List ℕ) → World → Type 0 where
  none : {w : World} {at : ℕ} → length s ≤ at → Turns s w at [] w
  next :
      {w last : World} {at end : ℕ} {ts : List (List ℕ)}
      → at < length s
      → end ≡ at + span_of 10 (drop at s)
      → Turns s (step_world w (take (end - at) (drop at s))) (behind_of (length s) end) ts last
      → Turns s w at (step_text w (take (end - at) (drop at s)) ∷ ts) last

-- ---- what is promised of a line

-- the world after it and its text are these, the text written to the start of a buffer; and the card is fit for the next line
pub record Steps (w : World) (t out ram' out' : List ℕ) (r : State) (end : ℕ) : Type 0 where
  pub world : world_of r ram' ≡ w
  pub text : Put t out 0 out' end
  pub room : end ≤ length out'
  pub fit : Fit r.card
