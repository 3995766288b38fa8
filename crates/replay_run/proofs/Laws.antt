-- Laws of the replay program: what a call prints and leaves is what the session says of it; lines in order.
use Rattle.std.proofs.Common.{◌≡◌, ℕ, ◌+◌, ◌-◌, ◌%◌, ◌^◌, ◌<◌, ◌≤◌, min, true, false, eqb, List, [], ◌++◌, length, take, drop, sym, ap}
use Rattle.std.proofs.Common.{Option, refl, ◌∙◌, drop_of_length-le}
use Rattle.calls.specs.Calls.{Powers}
use Rattle.calls.proofs.Whole.{powered-device}
use Rattle.card.specs.Rules.{powered_of}
use Rattle.card.specs.declared.Card.{Card}
use Rattle.card.specs.declared.Powered.{Powered}
use Rattle.decimal.proofs.Writing.{put_as}
use Rattle.description.specs.Nothing.{nothing_described}
use Rattle.description.specs.declared.Description.{Description}
use Rattle.lines.specs.Lines.{lines_of, joined, span_of, behind_of}
use Rattle.lines.proofs.Laws.{lines_next}
use Rattle.meaning.specs.Card.{step_of}
use Rattle.meaning.proofs.Streams.{streams-shown}
use Rattle.replay_call.specs.Shown.{shown_for, Left, left_by, left}
use Rattle.replay_call.specs.Asked.{asked_by}
use Rattle.replay_line.specs.Line.{line_of}
use Rattle.replay_line.specs.declared.Call.{Call}
use Rattle.replay_line.specs.declared.Guest.{Guest}
use Rattle.replay_line.specs.declared.Line.{Line}
use Rattle.replay_memory.specs.Lent.{filled, touched_length, touched_ram}
use Rattle.replay_text.specs.Text.{answer_bytes}
use Rattle.rules.specs.Calls.{Step}
use Rattle.device.specs.Device.{Device}
use Rattle.queue_lines.specs.Counters.{Queue}
use Rattle.line_calls.specs.Calls.{Request, ReadRegister, WriteRegister, Control, Play, Capture, Event}
use Rattle.replay_run.specs.Calls.{printed}
use Rattle.replay_run.specs.Session.{
  World,
  desk_of,
  world_of,
  first_world,
  numbered,
  powered_world,
  called_world,
  called_text,
  touched_world,
  world_after,
  text_after,
  step_world,
  step_text,
  session_world,
  session_text,
  Turns,
  none,
  next,
  Steps,
}
use Rattle.replay_run.specs.declared.State.{State}

-- ---- calls

-- the text of a call is all that is printed for it
called-text : (q : Request) (line : ℕ) (s : Step (Device Queue)) → shown_for q line s ≡ printed q line s
called-text (ReadRegister offset width) line s = refl
called-text (WriteRegister offset width v) line s = refl
called-text Control line s = refl
called-text (Play stream host backlog) line s = refl
called-text (Capture stream host backlog) line s = refl
called-text (Event code info) line s = refl

-- a line's call, on the first `lent` bytes of the array
module _ (st : State) (call : Call) (s ram : List ℕ) (lent : ℕ) (p : st.powered ≡ true) (e : lent ≡ min st.len (length ram)) where
  abbrev made-step : Step (Device Queue)
  made-step = step_of st.card (asked_by call s) (take lent ram)

  pub made-text : shown_for (asked_by call s) st.line made-step ≡ called_text call s (world_of st ram)
  unfolding called_text
  made-text = rw (p, ← e, streams-shown st.card) (called-text (asked_by call s) st.line made-step)

  abbrev after : Left → World
  after l = record { desk = desk_of st; device = l.device; ram = l.memory ++ drop lent ram }

  made : after (left_by made-step) ≡ called_world call s (world_of st ram)
  unfolding called_world
  made = rw (p, ← e, streams-shown st.card)

  pub made-world : (c : Card) (m : List ℕ) → left_by made-step ≡ left c m → after (left c m) ≡ called_world call s (world_of st ram)
  made-world c m h = ap after (sym h) ∙ made

-- with no card nothing is done
module _ (st : State) (call : Call) (s ram : List ℕ) (p : st.powered ≡ false) where
  pub unpowered-text : answer_bytes st.line 99 ≡ called_text call s (world_of st ram)
  unfolding called_text
  unpowered-text = rw p

  pub unpowered-world : world_of st ram ≡ called_world call s (world_of st ram)
  unfolding called_world
  unpowered-world = rw p

-- ---- power-up, with `lent` bytes

module _ (st : State) (n lent : ℕ) (ram : List ℕ) (p : Powered) (e : lent ≡ min n (length ram))
    (h : Powers st.described lent p) where
  pub powered-text : answer_bytes st.line p.answer ≡ answer_bytes st.line (powered_of st.described (min n (length ram))).answer
  powered-text = rw (h.answer, e)

  pub powered-world : (ram' : List ℕ) (d : Description) → ram' ≡ filled 1048576 ram 0 0 → d ≡ nothing_described
      → world_of (record { line = st.line; len = lent; powered = eqb p.answer 0; described = d; card = p.card }) ram'
      ≡ powered_world (min n (length ram)) (world_of st ram)
  powered-world ram' d f g = rw (h.answer, powered-device st.described lent p h, e, f, g)

-- ---- a line that reads so, from the state with its number

pub numbered-as : (st : State) (ram : List ℕ) (n : ℕ) → n ≡ (st.line + 1) % 2 ^ 64
    → world_of (record { line = n; len = st.len; powered = st.powered; described = st.described; card = st.card }) ram
    ≡ numbered (world_of st ram)
numbered-as st ram n e = rw e

pub touched-as : (st : State) (g : Guest) (s ram ram' : List ℕ) (len : ℕ) → len ≡ touched_length g (min st.len (length ram))
    → ram' ≡ touched_ram g s ram (min st.len (length ram))
    → world_of (record { line = st.line; len = len; powered = st.powered; described = st.described; card = st.card }) ram'
    ≡ touched_world g s (world_of st ram)
touched-as st g s ram ram' len e f = rw (e, f)

pub step-as : {l : Option Line} (w v : World) (s : List ℕ) → line_of s ≡ l → v ≡ numbered w
    → (world_after l s v ≡ step_world w s) × (text_after l s v ≡ step_text w s)
unfolding step_world step_text
step-as w v s e n = (rw (e, n), rw (e, n))

pub steps-as : {w v : World} {t u out ram out' : List ℕ} {r : State} {end : ℕ} → w ≡ v → t ≡ u
    → Steps w t out ram out' r end → Steps v u out ram out' r end
steps-as e d p = record { world = p.world ∙ e; text = put_as d p.text; room = p.room; fit = p.fit }

-- ---- lines in order

-- a line is done, and those behind it are left
pub session-next : (s : List ℕ) (at end : ℕ) (w : World) → at < length s → end ≡ at + span_of 10 (drop at s)
    → session_world w (lines_of (drop at s))
    ≡ session_world (step_world w (take (end - at) (drop at s))) (lines_of (drop (behind_of (length s) end) s))
session-next s at end w h e = rw (lines_next s at end h e)

pub session-end : (s : List ℕ) (at : ℕ) (w : World) → length s ≤ at → session_world w (lines_of (drop at s)) ≡ w
unfolding lines_of
session-end s at w h = rw (drop_of_length-le s h)

-- ---- the texts of all lines

text-next : (s : List ℕ) (at end : ℕ) (w : World) → at < length s → end ≡ at + span_of 10 (drop at s)
    → let l = take (end - at) (drop at s) in
    session_text w (lines_of (drop at s)) ≡ step_text w l ++ session_text (step_world w l) (lines_of (drop (behind_of (length s) end) s))
unfolding session_text
text-next s at end w h e = rw (lines_next s at end h e)

text-end : (s : List ℕ) (at : ℕ) (w : World) → length s ≤ at → session_text w (lines_of (drop at s)) ≡ []
unfolding session_text lines_of
text-end s at w h = rw (drop_of_length-le s h)

-- what the turns of a session hand out, joined, is the session's text
turns-text : {s : List ℕ} {w last : World} {at : ℕ} {ts : List (List ℕ)} → Turns s w at ts last
    → joined ts ≡ session_text w (lines_of (drop at s))
unfolding joined
turns-text {s} {w} {last} {at} (none h) = sym (text-end s at w h)
turns-text {s} {w} {last} {at} (next {end = end} h e r) =
    let l = take (end - at) (drop at s) in
    ap (λ t. step_text w l ++ t) (turns-text r) ∙ sym (text-next s at end w h e)

turns-world : {s : List ℕ} {w last : World} {at : ℕ} {ts : List (List ℕ)} → Turns s w at ts last
    → last ≡ session_world w (lines_of (drop at s))
turns-world {s} {w} {last} {at} (none h) = sym (session-end s at w h)
turns-world {s} {w} {last} {at} (next {end = end} h e r) = turns-world r ∙ sym (session-next s at end w h e)

pub session-turns : {s ram : List ℕ} {last : World} {ts : List (List ℕ)} → Turns s (first_world ram) 0 ts last
    → (joined ts ≡ session_text (first_world ram) (lines_of s)) × (last ≡ session_world (first_world ram) (lines_of s))
session-turns t = (turns-text t, turns-world t)
