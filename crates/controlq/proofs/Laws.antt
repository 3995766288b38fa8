-- What a completion on the control queue leaves of the card, and the control call by its tests.
use Rattle.std.specs.Prelude.{Result as Found, Option, Ok, Err, Some, None}
use Rattle.std.proofs.Common.{◌≡◌, ℕ, zero, suc, ◌+◌, ◌<◌, ◌≤◌, Bool, true, false, cond, eqb, ltb, List, [], length, get_or}
use Rattle.std.proofs.Common.{take, set, sym, refl, ap, ◌∙◌, arith, length-set, length-take, get_or-set_other, get_or-set_same}
use Rattle.std.proofs.Common.{ext_get_or, ltb-false, ltb-true}
use native.Mathlib.Decide.{ℕ_discrete}
use lib.Seq.{set_out, take-set-lt}
use Rattle.counts.specs.declared.DescriptorNumber.{DescriptorNumber}
use Rattle.counts.specs.declared.PageNumber.{PageNumber}
use Rattle.ranges.specs.Ranges.{no_ranges, ranges_of, places, bytes_at, total}
use Rattle.ranges.specs.declared.Range.{Range}
use Rattle.ranges.specs.declared.Ranges.{Ranges}
use Rattle.ranges.proofs.Laws.{put_at-nil}
use Rattle.registers.specs.Answers.{done, length_differs, not_live, plain}
use Rattle.registers.specs.Fit.{FitRegisters}
use Rattle.registers.specs.Map.{size_of}
use Rattle.registers.specs.Rules as registers
use Rattle.registers.specs.Rules.{broken, has_bit}
use Rattle.registers.specs.declared.Config.{Config}
use Rattle.registers.specs.declared.Registers.{Registers}
use Rattle.registers.proofs.Keeps.{broken-fit}
use Rattle.ring.specs.Rules as ring
use Rattle.ring.specs.Rules.{Completion, completion, check_of, post_of}
use Rattle.ring.specs.declared.Cause.{Cause}
use Rattle.ring.specs.declared.Posted.{Posted}
use Rattle.card.specs.Setters as card
use Rattle.card.specs.Card.{no_stream, released_state}
use Rattle.card.proofs.Setters.{fit-with-stream}
use Rattle.card.specs.Setters.{with_parts, with_stream_at}
use Rattle.card.specs.declared.Card.{Card}
use Rattle.card.specs.declared.Parts.{Parts}
use Rattle.card.specs.declared.Stream.{Stream}
use Rattle.live.proofs.Laws.{parts-kept, keep-board, board-with-registers}
use Rattle.live.proofs.Streams.{stream-now}
use Rattle.live.specs.Setters as live
use Rattle.live.specs.Live.{parts_now, card_in, config_in, kept_live}
use Rattle.live.specs.declared.Live.{Live}
use Rattle.line_calls.specs.Calls.{Control, order_of, release_by}
use Rattle.line_calls.specs.Claim as claim
use Rattle.line_calls.specs.Streams.{Streams, streams_in, direction_of}
use Rattle.meaning.specs.Card.{counters_at, rest_of, device_of, step_of, leaves}
use Rattle.meaning.specs.Fit.{Fits, streams_live}
use Rattle.queue_lines.specs.Counters.{Queue}
use Rattle.device.specs.Answers.{broken_answer}
use Rattle.rules.proofs.Parts.{stream_at_lem}
use Rattle.rules.specs.Parts.{parts_of}
use Rattle.rules.specs.Calls.{Result, Order, Pending, Step, step_by, ordered_by, released_on, acted, Done, ReleaseFirst}
use Rattle.rules.specs.Calls.{refused_with, broke, replied, with_rest, control_found_by, indirect}
use Rattle.rules.specs.Control as rules
use Rattle.rules.specs.Control.{status, with_state}
use Rattle.device.specs.Device.{Device, Rest, Direction, output, input, queue_number, queue_for, with_queue, with_registers}
use Rattle.device.specs.Device.{with_control, page_of, signalled_if, one_taken}
use Rattle.device.specs.Numbers.{control_queue, s_ok, s_bad_msg}
use Rattle.reply.specs.Reply.{Outcome, Serves, completion_of, closed_of, posted_by}
use Rattle.reply.specs.declared.Kind.{Kind}
use Rattle.reply.specs.declared.Kind.TheVariants as kinds
use Rattle.reply.specs.declared.Served.{Served}
use Rattle.stream.specs.declared.Emptied.{Emptied}
use Rattle.stream.proofs.Fits.{signal-fit}
use Rattle.meaning.proofs.Held.{held-device, held_fits}
use Rattle.stream.proofs.Released.{released-ordered}
use Rattle.controlq.specs.declared.Ending.TheVariants.{Broke, Completed}
use Rattle.controlq.specs.Control.{side_of, served_chain, pending_of, pending_in, ends_on, walked_at, next_order, taken_live, finish_of}
use Rattle.controlq.specs.Control.{Ends}
use Rattle.controlq.specs.Control.{served_on, ordered_on, EmptiesFor, marked_of, marked_live, released_live}

-- ---- the card

-- the base of the control queue
abbrev pub page_in : Card → PageNumber
page_in c = get_or c.registers.pages control_queue (record { 0 = 0 })

pub page-in : (c : Card) → page_of (rest_of c) control_queue ≡ page_in c
unfolding rest_of
page-in c = refl

pub indirect-in : (c : Card) → indirect (rest_of c) ≡ has_bit c.registers.features 28
unfolding rest_of
indirect-in c = refl

-- the result of a completion
result_on : Card → Completion → Result
result_on c k =
    record {
      rest =
          with_registers (signalled_if k.interrupt c.registers)
          (with_control (record { taken = (counters_at c control_queue).taken; completed = k.completed }) (rest_of c));
      answer = plain done;
      count = 1;
      mem = k.memory;
    }

-- a message without a reply
pub mute : (l : Live) (head : DescriptorNumber) (ws : List ℕ) (reply : Ranges) (m : List ℕ)
    → closed_of (pending_in l head no_ranges) 0 m ≡ completion_of ws (pending_in l head reply) [] m
unfolding closed_of
mute l head ws reply m = rw (put_at-nil m (places (ranges_of ws reply)))

-- ---- the card in pieces

-- a message completed on it, or a queue broken
module _ (l : Live) (p : Parts) (pw cw : List ℕ) (f : Fits l p pw cw) where
  abbrev own : Card
  own = card_in l p pw cw

  replied-by : (head : DescriptorNumber) (ws : List ℕ) (reply : Ranges) (bytes m : List ℕ)
      → replied (pending_of own head (ranges_of ws reply)) bytes m ≡ result_on own (completion_of ws (pending_in l head reply) bytes m)
  unfolding replied closed_of post_of result_on rest_of
  replied-by head ws reply bytes m = refl

  pub counted-ends : (head : DescriptorNumber) (ws : List ℕ) (reply : Ranges) (bytes m after : List ℕ) (t : Posted)
      → completion after t ≡ completion_of ws (pending_in l head reply) bytes m
      → Ends (ends_on own (replied (pending_of own head (ranges_of ws reply)) bytes m)) (finish_of (Completed t) l p) pw cw after
  unfolding result_on
  counted-ends head ws reply bytes m after t e =
      let g : Registers = signalled_if t.interrupt l.registers in (
        ap (ends_on own) (replied-by head ws reply bytes m ∙ ap (result_on own) (sym e))
            ∙ rw (held-device own f.board.live.four g _ control_queue (omega arith)),
        held_fits l p pw cw f g _ (signal-fit t.interrupt l.registers f.board.live.registers) control_queue (omega arith),
      )

  same_parts : rules.with_parts (parts_of (parts_now l p)) (rest_of own) ≡ rest_of own
  unfolding rest_of
  same_parts = refl

  -- a reply that leaves the parts as they are
  pub replied-ends : (head : DescriptorNumber) (ws : List ℕ) (reply : Ranges) (bytes m after : List ℕ) (t : Posted)
      → completion after t ≡ completion_of ws (pending_in l head reply) bytes m
      → Ends
      (ordered_on own (acted (rules.Reply (parts_of (parts_now l p)) bytes) (pending_of own head (ranges_of ws reply)) m) m)
      (finish_of (Completed t) l p) pw cw after
  replied-ends head ws reply bytes m after t e = rw same_parts (counted-ends head ws reply bytes m after t e)

  registers-fits : (g : Registers) → FitRegisters g → Fits (live.with_registers g l) p pw cw
  registers-fits g k = record { board = board-with-registers l p f.board g k; play = f.play; capture = f.capture }

  pub broken-fits : Fits (live.with_registers (broken l.registers) l) p pw cw
  broken-fits = registers-fits (broken l.registers) (broken-fit l.registers f.board.live.registers)

  broken-ends : (cause : Cause) (m : List ℕ)
      → Ends (ordered_on own (Done (broke control_queue cause (rest_of own) m)) m)
      (finish_of (Broke control_queue cause) l p) pw cw m
  unfolding rest_of device_of
  broken-ends cause m = (refl, broken-fits)

  signalled-fits : (wanted : Bool) → Fits (live.with_registers (signalled_if wanted l.registers) l) p pw cw
  signalled-fits wanted = registers-fits _ (signal-fit wanted l.registers f.board.live.registers)

-- ---- a stream Released

module _ (l : Live) (p : Parts) (pw cw : List ℕ) (f : Fits l p pw cw) where
  abbrev streams-counted : l.config.streams ≡ p.stream_count
  streams-counted = ap (λ (c : Config). c.streams) f.board.counts

  pub few-streams : l.config.streams ≤ 6
  few-streams = omega (arith, streams-counted, f.board.parts.streams)

  -- the outputs and the inputs are all streams
  pub all-streams : l.outputs + l.inputs ≡ p.stream_count
  all-streams = omega (arith, f.board.outputs, f.board.inputs, f.board.parts.some)

module _ (l : Live) (p : Parts) (pw cw : List ℕ) (f : Fits l p pw cw) (id : ℕ) where
  abbrev unmarked : Card
  unmarked = card_in l p pw cw

  abbrev counted : l.config.streams ≡ p.stream_count
  counted = streams-counted l p pw cw f

  marked-absent : l.config.streams ≤ id → device_of unmarked ≡ marked_of id (device_of unmarked)
  unfolding rest_of device_of
  marked-absent h =
      let those = take p.stream_count (parts_now l p).streams in
      let past : length those ≤ id = rw length-take (omega (arith, counted, f.board.parts.streams)) in
      rw (set_out those id _ past)

  -- the stream with its new state
  abbrev changed : Stream
  changed = with_state released_state (get_or (parts_now l p).streams id no_stream)

  -- one by one
  marked-streams : id < 6 → (parts_now (released_live id l) p).streams ≡ set (parts_now l p).streams id changed
  marked-streams h = ext_get_or no_stream _ _ (sym (length-set (parts_now l p).streams id changed)) (λ i b. by i b (ℕ_discrete i id)) where
    by : (i : ℕ) → i < 6 → Dec (i ≡ id)
        → get_or (parts_now (released_live id l) p).streams i no_stream ≡ get_or (set (parts_now l p).streams id changed) i no_stream
    by i b (yes q) =
        rw (
          q,
          stream-now (released_live id l) p id h,
          get_or-set_same l.states id released_state 0 (omega (arith, f.board.live.states)),
          get_or-set_same (parts_now l p).streams id changed no_stream h,
          stream-now l p id h,
        )
    by i b (no n) =
        rw (
          stream-now (released_live id l) p i b,
          get_or-set_other l.states id i released_state 0 n,
          get_or-set_other (parts_now l p).streams id i changed no_stream n,
          stream-now l p i b,
        )

  marked-parts : id < 6 → parts_now (released_live id l) p ≡ with_stream_at id changed (parts_now l p)
  marked-parts h = rw (marked-streams h)

  marked-there : id < l.config.streams
      → (device_of (card_in (released_live id l) p pw cw) ≡ marked_of id (device_of unmarked)) × Fits (released_live id l) p pw cw
  unfolding device_of rest_of
  marked-there h =
      let e = marked-parts (omega (arith, few-streams l p pw cw f)) in
      let there : id < p.stream_count = omega (arith, counted) in (
        ap (λ (q : Parts). device_of (with_parts q unmarked)) e
            ∙ rw (take-set-lt p.stream_count (parts_now l p).streams id changed there, stream_at_lem (parts_now l p) id there),
        record {
          board =
              record {
                live =
                    record {
                      registers = f.board.live.registers;
                      four = f.board.live.four;
                      states = length-set l.states id released_state ∙ f.board.live.states;
                      backlogs = f.board.live.backlogs;
                    };
                parts = rw e (fit-with-stream id changed (omega arith) (parts_now l p) f.board.parts);
                counts = f.board.counts;
                outputs = f.board.outputs;
                inputs = f.board.inputs;
              };
          play = f.play;
          capture = f.capture;
        },
      )

  pub marked-in : (device_of (card_in (marked_live id l) p pw cw) ≡ marked_of id (device_of unmarked)) × Fits (marked_live id l) p pw cw
  marked-in = by (ltb id l.config.streams) refl where
    by : (b : Bool) → ltb id l.config.streams ≡ b
        → (device_of (card_in (marked_live id l) p pw cw) ≡ marked_of id (device_of unmarked)) × Fits (marked_live id l) p pw cw
    by true e = rw e (marked-there (ltb-true id l.config.streams e))
    by false e = rw e (marked-absent (omega (arith, ltb-false id l.config.streams e)), f)

-- what a Release leaves to do, by what its queue's emptying left
module _ (c : Card) (head : DescriptorNumber) (reply : List Range) (d : Direction) (id : ℕ) (signal : Bool) (m : List ℕ) where
  -- the card with the signal
  abbrev signalled_card : Card
  signalled_card = card.with_registers (signalled_if signal c.registers) c

  end-broken : (cause : Cause)
      → ends_on c (released_on d id (pending_of c head reply) m (Some cause) signal)
      ≡ leaves (card.with_registers (broken signalled_card.registers) signalled_card)
      (broken_answer (queue_number d) cause) 0 [] [] m
  unfolding rest_of device_of
  end-broken cause = refl

  end-replied : (n : Card) → device_of n ≡ marked_of id (device_of signalled_card)
      → ends_on c (released_on d id (pending_of c head reply) m None signal)
      ≡ ends_on n (replied (pending_of n head reply) (status s_ok) m)
  unfolding rest_of device_of
  end-replied n e =
      ap (λ (b : Device Queue). step_by (replied (record { rest = b.rest; head = head.0; reply = reply }) (status s_ok) m) b) (sym e)

-- the rules' Release of a stream
module _ (l : Live) (p : Parts) (pw cw : List ℕ) (f : Fits l p pw cw) (id : ℕ) (m pw' cw' m' : List ℕ) (r : Emptied)
    (e : EmptiesFor id l pw cw m pw' cw' m' r) (head : DescriptorNumber) (ws : List ℕ) (reply : Ranges) where
  abbrev entered : Card
  entered = card_in l p pw cw

  abbrev emptied_card : Card
  emptied_card = card_in r.live p pw' cw'

  -- the stream's direction
  abbrev side : Direction
  side = direction_of (streams_in p) id

  abbrev pub released : Step (Device Queue)
  released = ordered_on entered (ReleaseFirst id (pending_of entered head (ranges_of ws reply))) m

  to_end : released ≡ ends_on emptied_card (released_on side id (pending_of emptied_card head (ranges_of ws reply)) m' r.stop r.signal)
  to_end =
      released-ordered entered emptied_card m m' r.stop r.signal id (pending_of entered head (ranges_of ws reply)) refl side refl
      (e p f).0

  by-stop : (stop : Option Cause) → r.stop ≡ stop
      → released ≡ ends_on emptied_card (released_on side id (pending_of emptied_card head (ranges_of ws reply)) m' stop r.signal)
  by-stop stop h = rw (← h) to_end

  -- the small state with its signal
  abbrev pub signalled_live : Live
  signalled_live = live.with_registers (signalled_if r.signal r.live.registers) r.live

  pub emptied-fits : Fits signalled_live p pw' cw'
  emptied-fits = signalled-fits r.live p pw' cw' (e p f).1 r.signal

  pub release-broken : (cause : Cause) (q : ℕ) → q ≡ queue_number (direction_of (streams_live l) id) → r.stop ≡ Some cause
      → Ends released (finish_of (Broke q cause) signalled_live p) pw' cw' m'
  release-broken cause q at h =
      let named : q ≡ queue_number side = at ∙ ap (λ (n : ℕ). queue_number (cond (ltb id n) output input)) f.board.outputs in
      rw named (
        by-stop (Some cause) h ∙ end-broken emptied_card head (ranges_of ws reply) side id r.signal m' cause,
        broken-fits signalled_live p pw' cw' emptied-fits,
      )

  pub release-going : (after : List ℕ) (t : Posted) → r.stop ≡ None
      → completion after t ≡ completion_of ws (pending_in (marked_live id signalled_live) head reply) (status s_ok) m'
      → Ends released (finish_of (Completed t) (marked_live id signalled_live) p) pw' cw' after
  release-going after t h k =
      let n = marked-in signalled_live p pw' cw' emptied-fits id in
      let o = counted-ends (marked_live id signalled_live) p pw' cw' n.1 head ws reply (status s_ok) m' after t k in
      (by-stop None h ∙ end-replied emptied_card head (ranges_of ws reply) side id r.signal m' _ n.0 ∙ o.0, o.1)

-- ---- a message that was walked whole

module _ (c : Card) (head : DescriptorNumber) (request reply : List Range) (m : List ℕ) where
  pub chain-mute : side_of (length m) reply ≡ false → served_chain c head request reply m ≡ Done (replied (pending_of c head reply) [] m)
  chain-mute h = rw h

  module _ (h : side_of (length m) reply ≡ true) where
    pub chain-bad : side_of (length m) request ≡ false
        → served_chain c head request reply m ≡ Done (replied (pending_of c head reply) (status s_bad_msg) m)
    chain-bad k = rw (h, k)

    pub chain-acted : side_of (length m) request ≡ true → (s : rules.Served)
        → s ≡ served_on c (parts_of c.parts) (bytes_at m (places request)) (total reply)
        → served_chain c head request reply m ≡ acted s (pending_of c head reply) m
    unfolding rest_of
    chain-acted k s e = rw (h, k, ← e)

-- two devices with the same stream queues
pub record SameQueues (b b' : Device Queue) : Type 0 where
  pub play : b.play ≡ b'.play
  pub capture : b.capture ≡ b'.capture

-- what a request comes to, ordered: by its kind
module _ (l : Live) (p : Parts) (pw cw : List ℕ) (f : Fits l p pw cw) (head : DescriptorNumber) (ws : List ℕ) (reply : Ranges) (r : Served)
    (m after : List ℕ) where
  abbrev asked : Card
  asked = card_in l p pw cw

  abbrev asks : Pending
  asks = pending_of asked head (ranges_of ws reply)

  -- the card after it
  abbrev served_live : Live
  served_live = kept_live l r.parts

  abbrev served_card : Card
  served_card = card_in served_live r.parts pw cw

  module _ (ps : rules.Parts) (bytes : List ℕ)
      (s : Serves ws (pending_in l head reply) (parts_now l p) (rules.Reply ps bytes) r m after) where
    kept-card : served_card ≡ with_parts r.parts asked
    kept-card = ap (λ (q : Parts). with_parts q asked) (parts-kept l r.parts s.fit.six-streams)

    -- as many of each kind
    counts-kept : config_in r.parts ≡ config_in p
    counts-kept = ap (λ (o : Outcome). config_in o.served.parts) s.whole

    outputs-kept : r.parts.output_count ≡ p.output_count
    outputs-kept = ap (λ (o : Outcome). o.served.parts.output_count) s.whole

    kept-fits : Fits served_live r.parts pw cw
    kept-fits =
        record { board = keep-board l p r.parts f.board s.fit counts-kept outputs-kept; play = f.play; capture = f.capture }

    served-rest : rest_of served_card ≡ rules.with_parts ps (rest_of asked)
    unfolding rest_of
    served-rest = ap rest_of kept-card ∙ rw (← s.stand)

    served-device : step_by (replied (with_rest (rules.with_parts ps (rest_of asked)) asks) bytes m) (device_of asked)
        ≡ ends_on served_card (replied (pending_of served_card head (ranges_of ws reply)) bytes m)
    unfolding device_of
    served-device = rw (served-rest, outputs-kept, ap (λ (c : Config). c.streams) counts-kept)

  posted-in : Kind → Posted → Posted
  posted-in (kinds.Completed t) d = t
  posted-in (kinds.Release id) d = d

  -- the message is completed
  pub served-completed : (rule : rules.Served) (t : Posted) → Serves ws (pending_in l head reply) (parts_now l p) rule r m after
      → r.kind ≡ kinds.Completed t
      → Ends (ordered_on asked (acted rule asks m) m) (finish_of (Completed t) served_live r.parts) pw cw after
  unfolding posted-in
  served-completed (rules.Reply ps bytes) t s k =
      let w = s.whole in
      let told : kinds.Completed t ≡ kinds.Completed (posted_by (completion_of ws (pending_in l head reply) bytes m)) =
      sym k ∙ ap (λ (o : Outcome). o.served.kind) w in
      let same : t ≡ posted_by (completion_of ws (pending_in l head reply) bytes m) = ap (λ (x : Kind). posted-in x t) told in
      let e : completion after t ≡ completion_of ws (pending_in l head reply) bytes m = rw (same, ap (λ (o : Outcome). o.memory) w) in
      let o = counted-ends served_live r.parts pw cw (kept-fits ps bytes s) head ws reply bytes m after t e in
      (served-device ps bytes s ∙ o.0, o.1)
  served-completed (rules.Release id) t s k =
      let told : kinds.Completed t ≡ kinds.Release id = sym k ∙ ap (λ (o : Outcome). o.served.kind) s.whole in
      let z : ◌≡◌ {A = ℕ} 0 1 = cc in
      absurd (omega arith)

-- ---- the next message

-- what is ordered needs the stream queues only
module _ (b b' : Device Queue) (e : SameQueues b b') where
  queue-same : (d : Direction) → queue_for d b ≡ queue_for d b'
  queue-same output = e.play
  queue-same input = e.capture

  with-same : (d : Direction) (r : Rest) (q : Queue) → with_queue d r q b ≡ with_queue d r q b'
  with-same output r q = rw e.capture
  with-same input r q = rw e.play

  ordered_same : (n : Streams) (o : Order) (m : List ℕ)
      → ordered_by (release_by n (claim.card n)) o b m ≡ ordered_by (release_by n (claim.card n)) o b' m
  unfolding release_by
  ordered_same n (Done o) m = rw (e.play, e.capture)
  ordered_same n (ReleaseFirst id p) m = let d = direction_of n id in rw (queue-same d, with-same d _ _)

module _ (l : Live) (p : Parts) (pw cw : List ℕ) (f : Fits l p pw cw) (m : List ℕ) where
  abbrev here : Card
  here = card_in l p pw cw

  abbrev taken_card : Card
  taken_card = card_in (taken_live l) p pw cw

  taken-device : device_of taken_card
      ≡ record {
        rest = with_control (one_taken (rest_of here).control) (rest_of here);
        play = (device_of here).play;
        capture = (device_of here).capture;
      }
  unfolding rest_of
  taken-device =
      held-device here f.board.live.four l.registers (one_taken (counters_at here control_queue)) control_queue (omega arith)

  taken-rest : rest_of taken_card ≡ with_control (one_taken (rest_of here).control) (rest_of here)
  unfolding device_of
  taken-rest = ap (λ (d : Device Queue). d.rest) taken-device

  taken-queues : SameQueues (device_of here) (device_of taken_card)
  taken-queues =
      let e = sym taken-device in
      record { play = ap (λ (d : Device Queue). d.play) e; capture = ap (λ (d : Device Queue). d.capture) e }

  pub taken-fits : Fits (taken_live l) p pw cw
  taken-fits = held_fits l p pw cw f l.registers _ f.board.live.registers control_queue (omega arith)

  -- the head that the ring has next
  abbrev pub next_head : Found DescriptorNumber Cause
  next_head = ring.head_of m (page_in here) (size_of control_queue) (counters_at here control_queue).taken

  pub next-broken : (cause : Cause) → next_head ≡ Err cause
      → Ends (ordered_on here (next_order here m) m) (finish_of (Broke control_queue cause) l p) pw cw m
  next-broken cause h = rw (page-in here, h) (broken-ends l p pw cw f cause m)

  pub next-at : (n : DescriptorNumber) → next_head ≡ Ok n
      → ordered_on here (next_order here m) m ≡ ordered_on taken_card (walked_at taken_card n m) m
  next-at n h =
      let e : next_order here m ≡ walked_at taken_card n m = rw (taken-rest, page-in here, h, page-in here) in
      ordered_same (device_of here) (device_of taken_card) taken-queues (streams_in p) (next_order here m) m
      ∙ ap (λ (o : Order). ordered_on taken_card o m) e

-- ---- the call

module _ (c : Card) (m : List ℕ) where
  -- what the check of the control queue finds
  abbrev pub check_in : Found (Option ℕ) Cause
  check_in = check_of m (page_in c) (size_of control_queue) (counters_at c control_queue).taken 0

  -- "Control: 1, 5, 9."
  abbrev pub by_tests : Bool → Bool → Order
  by_tests long is_live =
      cond long (cond is_live (control_found_by (served_on c) (rest_of c) m check_in) (Done (refused_with not_live (rest_of c) m)))
      (Done (refused_with length_differs (rest_of c) m))

  control-by : step_of c Control m
      ≡ ordered_on c (by_tests (eqb (length m) c.ram_len) (registers.live c.registers)) m
  unfolding order_of rest_of device_of
  control-by = refl

  pub control-long : eqb (length m) c.ram_len ≡ false → step_of c Control m ≡ leaves c (plain length_differs) 0 [] [] m
  unfolding device_of
  control-long h = rw (control-by, h)

  module _ (long : eqb (length m) c.ram_len ≡ true) where
    pub control-dead : registers.live c.registers ≡ false → step_of c Control m ≡ leaves c (plain not_live) 0 [] [] m
    unfolding device_of
    control-dead h = rw (control-by, long, h)

    module _ (lives : registers.live c.registers ≡ true) where
      pub control-idle : check_in ≡ (Ok None) → step_of c Control m ≡ leaves c (plain done) 0 [] [] m
      unfolding device_of
      control-idle h = rw (control-by, long, lives, h)

      pub control-none : (n : ℕ) → check_in ≡ Ok (Some n) → n ≡ 0 → step_of c Control m ≡ leaves c (plain done) 0 [] [] m
      unfolding device_of
      control-none n h z = rw (control-by, long, lives, h, z)

      pub control-broken : (cause : Cause) → check_in ≡ Err cause
          → step_of c Control m ≡ leaves (card.with_registers (broken c.registers) c) (broken_answer control_queue cause) 0 [] [] m
      unfolding rest_of device_of
      control-broken cause h = rw (control-by, long, lives, h)

      pub control-next : (n : ℕ) → check_in ≡ Ok (Some n) → (n ≡ 0 → ⊥)
          → step_of c Control m ≡ ordered_on c (next_order c m) m
      unfolding rest_of
      control-next zero h z = absurd (z refl)
      control-next (suc n) h z = rw (control-by, long, lives, h)
