-- What every call but a reset and a transfer keeps of streams and jacks: any property that the changes of control messages and events keep.
use Rattle.std.specs.Prelude.{Result as Found, Option, Ok, Err, Some, None}
use Rattle.ring.specs.declared.Cause.{Cause}
use Rattle.counts.specs.declared.DescriptorNumber.{DescriptorNumber}
use mathlib.Core.Path.{◌≡◌, refl, sym, ◌∙◌}
use mathlib.Core.Bool.{Bool, true, false, ◌&&◌}
use mathlib.Core.List.{List, []}
use Prim.Native.Nat.{ℕ, zero, suc, ◌≤◌}
use native.Mathlib.Omega.{arith}
use borrow.Author.Tests.{ne_eqb, leb-true, eqb-true}
use lib.Dec.{eqb, leb, ltb}
use lib.ListN.{length, get_or, set}
use Rattle.chain.specs.Walk.{Outcome, whole, faulted, walk_of}
use Rattle.ranges.specs.Ranges.{total, places, bytes_at, all_inside}
use Rattle.ranges.specs.declared.Range.{Range}
use Rattle.memory.specs.Bytes.{le}
use Rattle.registers.proofs.Keeps.{by_cond}
use Rattle.registers.specs.Map.{size_of}
use Rattle.registers.specs.Rules.{live}
use Rattle.ring.specs.Rules.{base_of, check_of, head_of}
use Rattle.card.specs.Card.{fresh_state, released_state, no_stream}
use Rattle.card.specs.declared.Jack.{Jack}
use Rattle.card.specs.declared.Params.{Params}
use Rattle.card.specs.declared.Stream.{Stream}
use Rattle.rules.specs.Calls.{Order, Done, ReleaseFirst, Pending, Result, Tried, Ended, Further, Sent, replied, acted}
use Rattle.rules.specs.Calls.{ended_on, ordered_by, read_message_by, control_head_by}
use Rattle.rules.specs.Calls.{control_found_by, order_by, released_on, Step, recorded, with_connected, event_posted, event_chain}
use Rattle.rules.specs.Calls.{event_head}
use Rattle.rules.specs.Calls.{tried, onward, event_run, event_found, event_of, indirect, event_room, event_allowed}
use Rattle.rules.specs.Control.{Parts, Served, Reply, Release, parts_in, passing, refusal, word, remapped_to, with_defconf, with_state}
use Rattle.rules.specs.Control.{with_params, jack_in, stream_in, no_jack, remap, remap_at, spaced, listed_in, roomy, four_bits}
use Rattle.rules.specs.Control.{layout_of, status, judged_params, set_params, params_of, set_by, moves, led, remappable, commanded}
use Rattle.rules.specs.Control.{decoded_of, informed, inform_by, answer_by, answered_by, served_by}
use Rattle.device.specs.Device.{Direction, output, input, Rest, Device, with_queue, with_jacks, with_control, page_of}
use Rattle.device.specs.Device.{one_taken, stream_at}
use Rattle.rules.specs.Lifecycle.{transition}
use Rattle.device.specs.Numbers.{control_queue, event_queue, jack_connected, jack_disconnected, s_ok, s_bad_msg, s_not_supp}
use Rattle.rules.specs.declared.Asked.{Asked}
use Rattle.rules.specs.declared.Asked.TheVariants.{Information, Remap, Pcm}
use Rattle.rules.specs.declared.Command.{Command}
use Rattle.rules.specs.declared.Command.TheVariants as command
use Rattle.rules.specs.declared.Listing.{Listing}
use Rattle.device.proofs.Cases.{none-some}

-- a property of streams and jacks, kept by each change that a message or an event makes
pub record Closed (P : List Stream → List Jack → Type 0) : Type 0 where
  pub remapped :
      (ss : List Stream) (js : List Jack) (id a s : ℕ)
      → remappable (get_or js id no_jack) ≡ true
      → a ≤ 15
      → s ≤ 15
      → P ss js
      → P ss (set js id (with_defconf (remapped_to (get_or js id no_jack).defconf a s) (get_or js id no_jack)))
  pub connected : (ss : List Stream) (js : List Jack) (id v : ℕ) → P ss js → P ss (set js id (with_connected v (get_or js id no_jack)))
  -- not from Fresh
  pub moved :
      (ss : List Stream) (js : List Jack) (id state : ℕ)
      → eqb (get_or ss id no_stream).state fresh_state ≡ false
      → P ss js
      → P (set ss id (with_state state (get_or ss id no_stream))) js
  pub accepted :
      (ss : List Stream) (js : List Jack) (id state : ℕ) (params : Params) (padding : ℕ)
      → judged_params (get_or ss id no_stream).info params padding ≡ s_ok
      → P ss js
      → P (set ss id (with_params state params (get_or ss id no_stream))) js

-- a command that does not start from Fresh
not-fresh : (c : Command) → transition c 0 ≡ None → (s t : ℕ) → transition c s ≡ Some t → eqb s fresh_state ≡ false
not-fresh c z zero t h = absurd (none-some t (sym z ∙ h))
not-fresh c z (suc s) t h = ne_eqb (suc s) 0 (λ e. omega (arith, e))

-- ---- a control request

-- a predicate at x, shut: its arguments can be found from its type
pub record Is {A : Type 0} (P : A → Type 0) (x : A) : Type 0 where
  pub is : P x

module _ (P : List Stream → List Jack → Type 0) (closed : Closed P) where
  abbrev PartsKept : Parts → Type 0
  PartsKept p = P p.streams p.jacks

  abbrev pub RestKept : Rest → Type 0
  RestKept r = P r.streams r.jacks

  abbrev ServedKept : Parts → Served → Type 0
  ServedKept p (Reply q bytes) = PartsKept q
  ServedKept p (Release id) = eqb (stream_in p id).state fresh_state ≡ false

  module _ (p : Parts) (k : PartsKept p) where
    abbrev Kept : Served → Type 0
    Kept s = Is (ServedKept p) s

    refused-kept : (code : ℕ) → Kept (refusal p code)
    refused-kept code = record { is = k }

    pass : (ok : Bool) (code : ℕ) (go : Served) → (ok ≡ true → Kept go) → Kept (passing p ok code go)
    pass ok code go h = by_cond Kept ok {x = go} {y = refusal p code} h (λ e. refused-kept code)

    informed-kept : (items : List (List ℕ)) (request : List ℕ) (room : ℕ) → Kept (informed p items request room)
    informed-kept items request room =
        let start = word request 1 in
        let count = word request 2 in
        let size = word request 3 in
        pass (spaced count size) s_bad_msg _
        (λ e. pass (listed_in items start count) s_bad_msg _ (λ e. pass (roomy count size room) s_bad_msg _ (λ e. record { is = k })))

    remap-at-kept : (id a s : ℕ) → remappable (jack_in p id) ≡ true → Kept (remap_at p id a s)
    remap-at-kept id a s f =
        pass (four_bits a) s_bad_msg _
        (λ h.
        pass (four_bits s) s_bad_msg _
        (λ i. record { is = closed.remapped p.streams p.jacks id a s f (leb-true a 15 h) (leb-true s 15 i) k }))

    remap-kept : (request : List ℕ) → Kept (remap p request)
    unfolding remap
    remap-kept request =
        let id = word request 1 in
        pass (ltb id (length p.jacks)) s_bad_msg _
        (λ e. pass (remappable (jack_in p id)) s_not_supp _ (λ f. remap-at-kept id (word request 2) (word request 3) f))

    moves-kept : (id state : ℕ) → eqb (stream_in p id).state fresh_state ≡ false → Kept (moves p id state)
    moves-kept id state n = record { is = closed.moved p.streams p.jacks id state n k }

    set-by-kept : (id state : ℕ) (params : Params) (padding : ℕ)
        → Kept (set_by p id state params (judged_params (stream_in p id).info params padding))
    set-by-kept id state params padding =
        by_cond Kept (eqb (judged_params (stream_in p id).info params padding) s_ok)
        (λ e. record { is = closed.accepted p.streams p.jacks id state params padding (eqb-true _ _ e) k }) (λ e. refused-kept _)

    set-kept : (id state : ℕ) (request : List ℕ) → Kept (set_params p id state request)
    unfolding set_params
    set-kept id state request = set-by-kept id state (params_of request) (le 1 request 23)

    led-kept : (c : Command) (id : ℕ) (request : List ℕ) (o : Option ℕ) → transition c (stream_in p id).state ≡ o
        → Kept (led p c id request o)
    unfolding transition
    led-kept c id request None e = refused-kept _
    led-kept command.SetParams id request (Some t) e = set-kept id t request
    led-kept command.Prepare id request (Some t) e = moves-kept id t (not-fresh command.Prepare refl (stream_in p id).state t e)
    led-kept command.Start id request (Some t) e = moves-kept id t (not-fresh command.Start refl (stream_in p id).state t e)
    led-kept command.Stop id request (Some t) e = moves-kept id t (not-fresh command.Stop refl (stream_in p id).state t e)
    led-kept command.Release id request (Some t) e = record { is = not-fresh command.Release refl (stream_in p id).state t e }

    commanded-kept : (c : Command) (request : List ℕ) → Kept (commanded p c request)
    unfolding commanded
    commanded-kept c request =
        let id = word request 1 in
        pass (ltb id (length p.streams)) s_bad_msg _ (λ e. led-kept c id request (transition c (stream_in p id).state) refl)

    module _ (items : Listing → Parts → List (List ℕ)) where
      answer-kept : (a : Asked) (request : List ℕ) (room : ℕ) → Kept (answer_by (inform_by items) a p request room)
      answer-kept (Information l) request room = informed-kept (items l p) request room
      answer-kept Remap request room = remap-kept request
      answer-kept (Pcm c) request room = commanded-kept c request

      answered-kept : (d : Option Asked) (request : List ℕ) (room : ℕ) → Kept (answered_by (inform_by items) d p request room)
      answered-kept None request room = refused-kept _
      answered-kept (Some a) request room = pass (leb (layout_of a) (length request)) s_bad_msg _ (λ e. answer-kept a request room)

      served-kept : (request : List ℕ) (room : ℕ) → Kept (served_by (inform_by items) p request room)
      served-kept request room = answered-kept (decoded_of (word request 0)) request room

  -- ---- the control call

  abbrev pub OrderKept : Order → Type 0
  OrderKept (Done o) = RestKept o.rest
  OrderKept (ReleaseFirst id p) = RestKept p.rest × (eqb (stream_at p.rest id).state fresh_state ≡ false)

  replied-kept : (p : Pending) (bytes m : List ℕ) → RestKept p.rest → Is OrderKept (Done (replied p bytes m))
  unfolding replied
  replied-kept p bytes m k = record { is = k }

  acted-kept : (s : Served) (p : Pending) (m : List ℕ) → RestKept p.rest → Is (ServedKept (parts_in p.rest)) s
      → Is OrderKept (acted s p m)
  unfolding replied
  acted-kept (Reply parts bytes) p m k h = record { is = h.is }
  acted-kept (Release id) p m k h = record { is = (k, h.is) }

  -- whatever the items of information requests
  module _ (items : Listing → Parts → List (List ℕ)) where
    abbrev serve : Parts → List ℕ → ℕ → Served
    serve = served_by (inform_by items)

    message-kept : (r : Rest) (m : List ℕ) (head : ℕ) (o : Outcome) → RestKept r → Is OrderKept (read_message_by serve r m head o)
    message-kept r m head (faulted f) k = replied-kept (record { rest = r; head = head; reply = [] }) [] m k
    message-kept r m head (whole request reply) k =
        let p : Pending = record { rest = r; head = head; reply = reply } in
        let asked = bytes_at m (places request) in
        by_cond (Is OrderKept) (all_inside (length m) reply && leb 4 (total reply))
        (λ e.
        by_cond (Is OrderKept) (all_inside (length m) request && leb 4 (total request))
        (λ e. acted-kept (serve (parts_in r) asked (total reply)) p m k (served-kept (parts_in r) k items asked (total reply)))
        (λ e. replied-kept p (status s_bad_msg) m k)) (λ e. replied-kept p [] m k)

    head-kept : (r : Rest) (m : List ℕ) (h : Found DescriptorNumber Cause) → RestKept r → Is OrderKept (control_head_by serve r m h)
    head-kept r m (Ok n) k =
        message-kept (with_control (one_taken r.control) r) m n.0
        (walk_of m (base_of (page_of r control_queue)) (size_of control_queue) n.0 (indirect r)) k
    head-kept r m (Err cause) k = record { is = k }

    found-kept : (r : Rest) (m : List ℕ) (c : Found (Option ℕ) Cause) → RestKept r
        → Is OrderKept (control_found_by serve r m c)
    found-kept r m (Ok None) k = record { is = k }
    found-kept r m (Err cause) k = record { is = k }
    found-kept r m (Ok (Some zero)) k = record { is = k }
    found-kept r m (Ok (Some (suc n))) k = head-kept r m (head_of m (page_of r control_queue) (size_of control_queue) r.control.taken) k

    pub order-kept : (r : Rest) (m : List ℕ) → RestKept r → Is OrderKept (order_by serve r m)
    order-kept r m k =
        by_cond (Is OrderKept) (eqb (length m) r.ram)
        (λ e.
        by_cond (Is OrderKept) (live r.registers)
        (λ e. found-kept r m (check_of m (page_of r control_queue) (size_of control_queue) r.control.taken 0) k) (λ e. record { is = k }))
        (λ e. record { is = k })

  released-kept : (d : Direction) (id : ℕ) (p : Pending) (m : List ℕ) (s : Option Cause) (signal : Bool) → OrderKept (ReleaseFirst id p)
      → RestKept (released_on d id p m s signal).rest
  unfolding replied
  released-kept d id p m None signal k = closed.moved p.rest.streams p.rest.jacks id released_state k.1 k.0
  released-kept d id p m (Some cause) signal k = k.0

  -- ---- events

  connected-kept : (r : Rest) (v i : ℕ) → RestKept r
      → Is RestKept (with_jacks (set r.jacks i (with_connected v (get_or r.jacks i no_jack))) r)
  connected-kept r v i k = record { is = closed.connected r.streams r.jacks i v k }

  recorded-kept : (r : Rest) (code data' : ℕ) → RestKept r → Is RestKept (recorded r code data')
  unfolding recorded
  recorded-kept r code data' k =
      by_cond (Is RestKept) (eqb code jack_connected) (λ e. connected-kept r 1 data' k)
      (λ e. by_cond (Is RestKept) (eqb code jack_disconnected) {y = r} (λ e. connected-kept r 0 data' k) (λ e. record { is = k }))

  abbrev TriedKept : Tried → Type 0
  TriedKept (Ended o) = RestKept o.rest
  TriedKept (Further o) = RestKept o.rest

  abbrev ResultKept : Result → Type 0
  ResultKept o = RestKept o.rest

  module _ (code data' : ℕ) where
    chain-kept : (r : Rest) (m : List ℕ) (head : ℕ) (o : Option (List Range)) → RestKept r
        → Is TriedKept (event_chain code data' r m head o)
    unfolding event_posted
    chain-kept r m head (Some reply) k = record { is = k }
    chain-kept r m head None k = record { is = k }

    event-head-kept : (r : Rest) (m : List ℕ) (h : Found DescriptorNumber Cause) → RestKept r → Is TriedKept (event_head code data' r m h)
    event-head-kept r m (Err cause) k = record { is = k }
    event-head-kept r m (Ok n) k =
        chain-kept r m n.0 (event_room m (walk_of m (base_of (page_of r event_queue)) (size_of event_queue) n.0 (indirect r))) k

    tried-kept : (r : Rest) (m : List ℕ) → RestKept r → Is TriedKept (tried code data' r m)
    unfolding tried
    tried-kept r m k = event-head-kept r m (head_of m (page_of r event_queue) (size_of event_queue) r.event.taken) k

    onward-kept : (t : Tried) (left : ℕ) (go : Rest → List ℕ → Sent) → Is TriedKept t
        → ((r : Rest) (m : List ℕ) → RestKept r → Is ResultKept (go r m).result)
        → Is ResultKept (onward code data' t left go).result
    onward-kept (Ended o) left go k h = record { is = k.is }
    onward-kept (Further o) left go k h = h o.rest o.mem k.is

    run-kept : (n : ℕ) (r : Rest) (m : List ℕ) → RestKept r → Is ResultKept (event_run code data' n r m).result
    unfolding event_run
    run-kept zero r m k = record { is = k }
    run-kept (suc n) r m k = onward-kept (tried code data' r m) n (event_run code data' n) (tried-kept r m k) (run-kept n)

    event-found-kept : (r : Rest) (m : List ℕ) (c : Found (Option ℕ) Cause) → RestKept r
        → Is ResultKept (event_found code data' r m c).result
    event-found-kept r m (Ok None) k = record { is = k }
    event-found-kept r m (Err cause) k = record { is = k }
    event-found-kept r m (Ok (Some n)) k = run-kept n r m k

    pub event-kept : (r : Rest) (m : List ℕ) → RestKept r → Is ResultKept (event_of r code data' m)
    unfolding event_of
    event-kept r m k =
        let found = check_of m (page_of r event_queue) (size_of event_queue) r.event.taken 0 in
        by_cond (Is ResultKept) (eqb (length m) r.ram)
        (λ e.
        by_cond (Is ResultKept) (live r.registers)
        (λ e.
        by_cond (Is ResultKept) (event_allowed r code data')
        (λ e. event-found-kept (recorded r code data') m found (recorded-kept r code data' k).is) (λ e. record { is = k }))
        (λ e. record { is = k })) (λ e. record { is = k })

  -- ---- whole calls

  module _ {Q : Type 0} where
    queue-kept : (d : Direction) (r : Rest) (q : Q) (b : Device Q) → RestKept r → RestKept (with_queue d r q b).rest
    queue-kept output r q b k = k
    queue-kept input r q b k = k

    pub ended-kept : (d : Direction) (id : ℕ) (p : Pending) (m : List ℕ) (s : Option Cause) (signal : Bool) (q : Q) (b : Device Q)
        → OrderKept (ReleaseFirst id p)
        → RestKept (ended_on d (released_on d id p m s signal) q b).state.rest
    ended-kept d id p m s signal q b k = queue-kept d (released_on d id p m s signal).rest q b (released-kept d id p m s signal k)

    pub ordered-kept : (release : ℕ → Pending → Device Q → List ℕ → Step (Device Q)) (b : Device Q) (m : List ℕ)
        → ((id : ℕ) (p : Pending) → OrderKept (ReleaseFirst id p) → RestKept (release id p b m).state.rest)
        → (o : Order)
        → Is OrderKept o
        → RestKept (ordered_by release o b m).state.rest
    ordered-kept release b m h (Done o) k = k.is
    ordered-kept release b m h (ReleaseFirst id p) k = h id p k.is
