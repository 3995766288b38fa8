-- Order 6: an answer is 9, 11 or 12 exactly where a live device comes to need a reset, for every call from every state, and names the
-- queue there and only there; and nothing but the answer goes by the cause.
use Rattle.std.specs.Prelude.{Result as Found, Option, Ok, Err, Some, None}
use Rattle.counts.specs.declared.DescriptorNumber.{DescriptorNumber}
use mathlib.Core.Path.{◌≡◌, refl, sym, ◌∙◌, ap}
use mathlib.Core.Bool.{Bool, true, false, cond, ◌&&◌, not, false≢true}
use mathlib.Core.List.{List, []}
use Prim.Native.Nat.{ℕ, zero, suc, ◌+◌, ◌*◌, ◌/◌, ◌%◌, ◌^◌, ◌<◌}
use native.Mathlib.Omega.{arith}
use borrow.Author.Tests.{eq-eqb, ne_eqb, eqb-false}
use lib.Dec.{eqb, leb, ltb}
use lib.ListN.{length}
use Rattle.chain.specs.Walk.{Outcome, whole, faulted, walk_of}
use Rattle.ranges.specs.Ranges.{total, places, bytes_at, all_inside}
use Rattle.ranges.specs.declared.Range.{Range}
use Rattle.register_map.specs.Map.{register_at}
use Rattle.register_map.specs.declared.Register.{Register}
use Rattle.register_map.specs.declared.Register.TheVariants.{HostFeatures, GuestFeatures, QueuePfn, QueueNum, QueueSel, QueueNotify}
use Rattle.register_map.specs.declared.Register.TheVariants.{Status, Isr, DeviceConfig, Absent}
use Rattle.registers.specs.Answers.{done, no_queue, plain}
use Rattle.registers.specs.Map.{size_of}
use Rattle.registers.specs.Rules.{read_of, write_of, read_register, write_register, live, has_bit, signalled, broken, isr_read}
use Rattle.registers.specs.Rules.{only_offered}
use Rattle.registers.specs.Rules.{wrote_features, wrote_page, wrote_selector, wrote_notify, wrote_status, fitting, stored_status}
use Rattle.registers.specs.Rules.{features_ok}
use Rattle.registers.specs.Rules.{driver_ok}
use Rattle.registers.specs.declared.Config.{Config}
use Rattle.registers.specs.declared.Effect.{Effect}
use Rattle.registers.specs.declared.Effect.TheVariants.{Nothing, Reset, Based, Rung}
use Rattle.registers.specs.declared.Registers.{Registers}
use Rattle.registers.specs.declared.Written.{Written}
use Rattle.registers.proofs.Keeps.{by_cond}
use Rattle.ring.specs.Rules.{base_of, check_of, head_of, interrupts}
use Rattle.ring.specs.declared.Cause.{Cause}
use Rattle.device.specs.Answers.{number_of, broken_answer, answer_by, broken_by}
use Rattle.rules.specs.Calls.{Step, Result, Order, Pending}
use Rattle.rules.specs.Calls.{replied, acted, indirect}
use Rattle.rules.specs.Calls.{event_allowed, recorded, event_posted, event_room, Tried, Ended, Further, Sent, event_chain, event_head}
use Rattle.rules.specs.Calls.{tried, onward, event_run, event_found, event_of, affected_rest, read_step}
use Rattle.rules.specs.Calls.{transfer_step, remembering, config_of, admitted_if, untouched, released_on, ended_on, ordered_by}
use Rattle.rules.specs.Calls.{read_message_by, control_head_by, control_found_by, order_by, write_by}
use Rattle.device.specs.Transfer.{Transferred, Run, transferred_by}
use Rattle.rules.specs.Causes.{says_broken, Split, Unchanged, order_queue_by}
use Rattle.rules.specs.Control.{Served, Reply, Release, parts_in, status, Parts}
use Rattle.device.specs.Device.{Direction, output, input, queue_number, Rest, Device, with_queue}
use Rattle.device.specs.Device.{with_control, one_taken, page_of, signalled_if}
use Rattle.device.specs.Numbers.{control_queue, event_queue, jack_connected, jack_disconnected, s_bad_msg}

-- ---- what a broken queue leaves, and what all else leaves

live-clear : (g : Registers) → live g ≡ true → has_bit g.status 6 ≡ false
unfolding live
live-clear g e = go (has_bit g.status 2) (has_bit g.status 3) (has_bit g.status 6) e
  where
    go : (x y z : Bool) → (x && y && not z && not (has_bit g.status 7)) ≡ true → z ≡ false
    go true true true e = absurd (false≢true e)
    go true true false e = refl
    go true false z e = absurd (false≢true e)
    go false y z e = absurd (false≢true e)

broken-bit : (h : Registers) → has_bit (broken h).status 6 ≡ true
unfolding broken
broken-bit h =
    by_cond (λ (x : ℕ). has_bit x 6 ≡ true) (has_bit h.status 6) (λ e. e)
    (λ e.
    let c = eqb-false (h.status / 64 % 2) 1 e in
    eq-eqb ((h.status + 64) / 64 % 2) 1 (bit-set h.status c))
  where
    bit-set : (x : ℕ) → (x / 64 % 2 ≡ 1 → ⊥) → (x + 64) / 64 % 2 ≡ 1
    bit-set x c = omega arith

signalled-status : (b : Bool) (h : Registers) → (signalled_if b h).status ≡ h.status
unfolding signalled
signalled-status true h = refl
signalled-status false h = refl

cause-says : (c : Cause) → says_broken (number_of c) ≡ true
cause-says Cause.Region = refl
cause-says Cause.Entries = refl
cause-says Cause.Head = refl

module _ (g : Registers) where
  -- NEEDS_RESET as it was, or clear: no queue is named
  quiet :
      (h : Registers) (met number : ℕ)
      → says_broken number ≡ false
      → (has_bit g.status 6 ≡ false → has_bit h.status 6 ≡ false)
      → Split g h met (plain number)
  quiet h met number s k = by (live g) refl
    where
      by : (x : Bool) → live g ≡ x → Split g h met (plain number)
      by true l = record { nine = rw (l, k (live-clear g l)) s; names = rw (l, k (live-clear g l)) }
      by false l = record { nine = rw l s; names = rw l }

  kept : (h : Registers) (met number : ℕ) → says_broken number ≡ false → h.status ≡ g.status → Split g h met (plain number)
  kept h met number s e = quiet h met number s (λ c. rw e c)

  loud : (h : Registers) (met : ℕ) (c : Cause) → live g ≡ true → Split g (broken h) met (broken_answer met c)
  loud h met c l = record { nine = rw (l, broken-bit h) (cause-says c); names = rw (l, broken-bit h) }

  -- a call on one queue, that went on or was stopped
  by-stop :
      (s : Option Cause) (h : Registers) (met : ℕ) → live g ≡ true → h.status ≡ g.status
      → Split g (broken_by s h) met (answer_by met s)
  by-stop None h met l e = kept h met 0 refl e
  by-stop (Some cause) h met l e = loud h met cause l

-- ---- registers

module _ (g : Registers) where
  read-split :
      (c : Config) (width : ℕ) (r : Register)
      → Split g (read_register g c width r).registers no_queue (plain (read_register g c width r).answer)
  unfolding isr_read
  read-split c width HostFeatures = kept g g no_queue 0 refl refl
  read-split c width GuestFeatures = kept g g no_queue 3 refl refl
  read-split c width QueuePfn = kept g g no_queue 0 refl refl
  read-split c width QueueNum = kept g g no_queue 0 refl refl
  read-split c width QueueSel = kept g g no_queue 0 refl refl
  read-split c width QueueNotify = kept g g no_queue 3 refl refl
  read-split c width Status = kept g g no_queue 0 refl refl
  read-split c width Isr = kept g _ no_queue 0 refl refl
  read-split c width (DeviceConfig at) = kept g g no_queue 0 refl refl
  read-split c width Absent = kept g g no_queue 2 refl refl

  abbrev Wrote : Written → Type 0
  Wrote w = Split g w.registers no_queue (plain w.answer)

  -- "NEEDS_RESET stays as it was."
  stored-bit : (old v : ℕ) (good : Bool) → has_bit old 6 ≡ false → has_bit (stored_status old good v) 6 ≡ false
  unfolding stored_status
  stored-bit old v good e = ne_eqb _ 1 (λ s. eqb-false (old / 64 % 2) 1 e (sym (apart good) ∙ s))
    where
      bits : (a b d e : ℕ) → a < 8 → b < 2 → d < 2 → e < 2 → (a + b * 8 + d * 64 + e * 128) / 64 % 2 ≡ d
      bits a b d e h i j k =
          let q : (a + b * 8 + d * 64 + e * 128) / 64 ≡ d + e * 2 = omega arith in
          rw q (omega arith)

      apart : (x : Bool) → (v % 8 + cond x (v / 8 % 2 * 8) 0 + old / 64 % 2 * 64 + v / 128 % 2 * 128) / 64 % 2 ≡ old / 64 % 2
      apart true = bits (v % 8) (v / 8 % 2) (old / 64 % 2) (v / 128 % 2) (omega arith) (omega arith) (omega arith) (omega arith)
      apart false = bits (v % 8) 0 (old / 64 % 2) (v / 128 % 2) (omega arith) (omega arith) (omega arith) (omega arith)

  fitting-split : (bytes v : ℕ) (w : Written) → Wrote w → Wrote (fitting g bytes v w)
  fitting-split bytes v w s = by_cond Wrote (ltb v (256 ^ bytes)) (λ e. s) (λ e. kept g g no_queue 4 refl refl)

  features-split : (v : ℕ) → Wrote (wrote_features g v)
  unfolding wrote_features
  features-split v =
      by_cond (λ (h : Registers). Split g h no_queue (plain 0)) (features_ok g) (λ e. kept g g no_queue 0 refl refl)
      (λ e. kept g _ no_queue 0 refl refl)

  page-split : (v : ℕ) → Wrote (wrote_page g v)
  unfolding wrote_page
  page-split v =
      by_cond Wrote (ltb g.selector 4 && not (driver_ok g)) (λ e. kept g _ no_queue 0 refl refl) (λ e. kept g g no_queue 0 refl refl)

  status-split : (v : ℕ) → Wrote (wrote_status g v)
  unfolding wrote_status
  status-split v =
      by_cond Wrote (eqb v 0) (λ e. quiet g _ no_queue 0 refl (λ c. refl))
      (λ e. quiet g _ no_queue 0 refl (stored-bit g.status v (only_offered g.features)))

  write-split : (v : ℕ) (r : Register) → Wrote (write_register g v r)
  unfolding wrote_selector wrote_notify
  write-split v HostFeatures = kept g g no_queue 3 refl refl
  write-split v GuestFeatures = fitting-split 4 v (wrote_features g v) (features-split v)
  write-split v QueuePfn = fitting-split 4 v (wrote_page g v) (page-split v)
  write-split v QueueNum = kept g g no_queue 3 refl refl
  write-split v QueueSel = fitting-split 2 v (wrote_selector g v) (kept g _ no_queue 0 refl refl)
  write-split v QueueNotify = fitting-split 2 v (wrote_notify g v) (kept g g no_queue 0 refl refl)
  write-split v Status = fitting-split 1 v (wrote_status g v) (status-split v)
  write-split v Isr = kept g g no_queue 3 refl refl
  write-split v (DeviceConfig at) = kept g g no_queue 3 refl refl
  write-split v Absent = kept g g no_queue 2 refl refl

affected-registers : (e : Effect) (r : Rest) → (affected_rest e r).registers ≡ r.registers
affected-registers Nothing r = refl
affected-registers Reset r = refl
affected-registers (Based q) r = refl
affected-registers (Rung q) r = refl

-- ---- events

module _ (g : Registers) (l : live g ≡ true) (code data' : ℕ) where
  abbrev Tells : Result → Type 0
  Tells o = Split g o.rest.registers event_queue o.answer

  -- an event that was sent or stopped; or its next try starts from such registers
  abbrev Tries : Tried → Type 0
  Tries (Ended o) = Tells o
  Tries (Further o) = o.rest.registers.status ≡ g.status

  posted-status :
      (r : Rest) (m : List ℕ) (head : ℕ) (reply : List Range) (bytes : List ℕ)
      → r.registers.status ≡ g.status
      → (event_posted r m head reply bytes).rest.registers.status ≡ g.status
  unfolding event_posted
  posted-status r m head reply bytes e =
      let after = (event_posted r m head reply bytes).mem in
      signalled-status (interrupts after (base_of (page_of r event_queue)) (size_of event_queue)) r.registers ∙ e

  posted-tells :
      (r : Rest) (m : List ℕ) (head : ℕ) (reply : List Range) (bytes : List ℕ)
      → r.registers.status ≡ g.status
      → Tells (event_posted r m head reply bytes)
  unfolding event_posted
  posted-tells r m head reply bytes e =
      kept g (event_posted r m head reply bytes).rest.registers event_queue 0 refl (posted-status r m head reply bytes e)

  module _ (r : Rest) (m : List ℕ) (e : r.registers.status ≡ g.status) where
    chain-tries : (head : ℕ) (o : Option (List Range)) → Tries (event_chain code data' r m head o)
    chain-tries head (Some reply) = posted-tells r m head reply _ e
    chain-tries head None = posted-status r m head [] [] e

    head-tries : (h : Found DescriptorNumber Cause) → Tries (event_head code data' r m h)
    head-tries (Err cause) = loud g r.registers event_queue cause l
    head-tries (Ok n) =
        chain-tries n.0 (event_room m (walk_of m (base_of (page_of r event_queue)) (size_of event_queue) n.0 (indirect r)))

    tries : Tries (tried code data' r m)
    unfolding tried
    tries = head-tries (head_of m (page_of r event_queue) (size_of event_queue) r.event.taken)

  onward-tells :
      (t : Tried) (left : ℕ) (go : Rest → List ℕ → Sent) → Tries t
      → ((r : Rest) (m : List ℕ) → r.registers.status ≡ g.status → Tells (go r m).result)
      → Tells (onward code data' t left go).result
  onward-tells (Ended o) left go s k = s
  onward-tells (Further o) left go s k = k o.rest o.mem s

  run-tells : (k : ℕ) (r : Rest) (m : List ℕ) → r.registers.status ≡ g.status → Tells (event_run code data' k r m).result
  unfolding event_run
  run-tells zero r m e = kept g r.registers event_queue 8 refl e
  run-tells (suc k) r m e = onward-tells (tried code data' r m) k (event_run code data' k) (tries r m e) (run-tells k)

  found-tells : (r : Rest) (m : List ℕ) (c : Found (Option ℕ) Cause) → r.registers.status ≡ g.status
      → Tells (event_found code data' r m c).result
  found-tells r m (Ok None) e = kept g r.registers event_queue 8 refl e
  found-tells r m (Err cause) e = loud g r.registers event_queue cause l
  found-tells r m (Ok (Some n)) e = run-tells n r m e

recorded-registers : (r : Rest) (code data' : ℕ) → (recorded r code data').registers ≡ r.registers
unfolding recorded
recorded-registers r code data' =
    by_cond (λ (x : Rest). x.registers ≡ r.registers) (eqb code jack_connected) (λ e. refl)
    (λ e. by_cond (λ (x : Rest). x.registers ≡ r.registers) (eqb code jack_disconnected) (λ e. refl) (λ e. refl))

pub event-split :
    (r : Rest) (code data' : ℕ) (m : List ℕ)
    → Split r.registers (event_of r code data' m).rest.registers event_queue (event_of r code data' m).answer
unfolding event_of
event-split r code data' m =
    let Tells : Result → Type 0 = λ o. Split r.registers o.rest.registers event_queue o.answer in
    by_cond Tells (eqb (length m) r.ram)
    (λ e.
    by_cond Tells (live r.registers)
    (λ l.
    by_cond Tells (event_allowed r code data')
    (λ e.
    found-tells r.registers l code data' (recorded r code data') m
    (check_of m (page_of r event_queue) (size_of event_queue) r.event.taken 0)
    (ap (λ (g : Registers). g.status) (recorded-registers r code data')))
    (λ e. kept r.registers r.registers event_queue 7 refl refl))
    (λ e. kept r.registers r.registers event_queue 5 refl refl))
    (λ e. kept r.registers r.registers event_queue 1 refl refl)

-- ---- play and capture

-- a transfer that is refused, or goes on
module _ {Q : Type 0} (d : Direction) (runs : Bool) (r : Rest) (q : Q) (m : List ℕ) (go : Transferred Q) where
  abbrev pub Moves : Transferred Q → Type 0
  Moves t = Split r.registers t.registers (queue_number d) t.answer

  pub admitted-split : (live r.registers ≡ true → Moves go)
      → Moves (admitted_if runs r m (λ (number : ℕ). untouched (plain number) r.registers q m) go)
  admitted-split moves =
      by_cond Moves (eqb (length m) r.ram)
      (λ e.
      by_cond Moves (live r.registers)
      (λ l. by_cond Moves runs (λ e. moves l) (λ e. kept r.registers r.registers (queue_number d) 6 refl refl))
      (λ e. kept r.registers r.registers (queue_number d) 5 refl refl))
      (λ e. kept r.registers r.registers (queue_number d) 1 refl refl)

-- by the run on its queue
pub run-split : {Q : Type 0} (d : Direction) (g : Registers) (run : Run Q) → live g ≡ true
    → Split g (transferred_by (queue_number d) g run).registers (queue_number d) (transferred_by (queue_number d) g run).answer
run-split d g run l = by-stop g run.stop (signalled_if run.signal g) (queue_number d) l (signalled-status run.signal g)

-- ---- control, and with it a Release

module _ {Q : Type 0} (b : Device Q) where
  abbrev g : Registers
  g = b.rest.registers

  with_rest : (d : Direction) (r : Rest) (q : Q) → (with_queue d r q b).rest ≡ r
  with_rest output r q = refl
  with_rest input r q = refl

  replied-split :
      (p : Pending) (bytes x : List ℕ) (met : ℕ) → p.rest.registers.status ≡ g.status
      → Split g (replied p bytes x).rest.registers met (replied p bytes x).answer
  unfolding replied
  replied-split p bytes x met e =
      let after = (replied p bytes x).mem in
      kept g (replied p bytes x).rest.registers met 0 refl
      (signalled-status (interrupts after (base_of (page_of p.rest control_queue)) (size_of control_queue)) p.rest.registers ∙ e)

  module _ (l : live g ≡ true) (d : Direction) (id : ℕ) (p : Pending) (h : p.rest.registers.status ≡ g.status) where
    released-split : (x : List ℕ) (stop : Option Cause) (signal : Bool)
        → Split g (released_on d id p x stop signal).rest.registers (queue_number d) (released_on d id p x stop signal).answer
    released-split x None signal = replied-split _ _ x (queue_number d) (signalled-status signal p.rest.registers ∙ h)
    released-split x (Some cause) signal = loud g _ (queue_number d) cause l

    -- a Release whose queue was emptied so
    pub ended-split : (x : List ℕ) (stop : Option Cause) (signal : Bool) (q : Q)
        → let s = ended_on d (released_on d id p x stop signal) q b in
        Split g s.state.rest.registers (queue_number d) s.told.answer
    ended-split x stop signal q = rw (with_rest d) (released-split x stop signal)

  -- by what a request comes to, the direction of a stream and what a Release does
  module _
      (serve : Parts → List ℕ → ℕ → Served) (direction : ℕ → Direction) (release : ℕ → Pending → Device Q → List ℕ → Step (Device Q))
      (m : List ℕ)
      (releases : (id : ℕ) (p : Pending) → live g ≡ true → p.rest.registers.status ≡ g.status
      → Split g (release id p b m).state.rest.registers (queue_number (direction id)) (release id p b m).told.answer) where
    abbrev Orders : Order → Type 0
    Orders o = Split g (ordered_by release o b m).state.rest.registers (order_queue_by direction o) (ordered_by release o b m).told.answer

    module _ (l : live g ≡ true) where
      acted-orders : (s : Served) (p : Pending) (x : List ℕ) → p.rest.registers.status ≡ g.status → Orders (acted s p x)
      acted-orders (Reply parts bytes) p x h = replied-split _ bytes x control_queue h
      acted-orders (Release id) p x h = releases id p l h

      message-orders : (r : Rest) (head : ℕ) (o : Outcome) → r.registers.status ≡ g.status → Orders (read_message_by serve r m head o)
      message-orders r head (faulted f) h = replied-split _ [] m control_queue h
      message-orders r head (whole request reply) h =
          let p : Pending = record { rest = r; head = head; reply = reply } in
          by_cond Orders (all_inside (length m) reply && leb 4 (total reply))
          (λ e.
          by_cond Orders (all_inside (length m) request && leb 4 (total request))
          (λ e. acted-orders (serve (parts_in r) (bytes_at m (places request)) (total reply)) p m h)
          (λ e. replied-split p (status s_bad_msg) m control_queue h))
          (λ e. replied-split p [] m control_queue h)

      head-orders : (h : Found DescriptorNumber Cause) → Orders (control_head_by serve b.rest m h)
      head-orders (Ok n) =
          let r : Rest = b.rest in
          message-orders (with_control (one_taken r.control) r) n.0
          (walk_of m (base_of (page_of r control_queue)) (size_of control_queue) n.0 (indirect r)) refl
      head-orders (Err cause) = loud g g control_queue cause l

      found-orders : (c : Found (Option ℕ) Cause) → Orders (control_found_by serve b.rest m c)
      found-orders (Ok None) = kept g g control_queue 0 refl refl
      found-orders (Err cause) = loud g g control_queue cause l
      found-orders (Ok (Some zero)) = kept g g control_queue 0 refl refl
      found-orders (Ok (Some (suc n))) =
          head-orders (head_of m (page_of b.rest control_queue) (size_of control_queue) b.rest.control.taken)

    pub control-split : Orders (order_by serve b.rest m)
    control-split =
        by_cond Orders (eqb (length m) b.rest.ram)
        (λ e.
        by_cond Orders (live g)
        (λ l. found-orders l (check_of m (page_of b.rest control_queue) (size_of control_queue) b.rest.control.taken 0))
        (λ e. kept g g control_queue 5 refl refl))
        (λ e. kept g g control_queue 1 refl refl)

  -- a transfer remembers its backlog beside the registers
  remembered-split :
      (id backlog : ℕ) (s : Step (Device Q)) (met : ℕ) → Split g s.state.rest.registers met s.told.answer
      → Split g (remembering id backlog s).state.rest.registers met (remembering id backlog s).told.answer
  unfolding remembering
  remembered-split id backlog s met h =
      by_cond (λ (r : Rest). Split g r.registers met s.told.answer) (eqb s.told.answer.number done) (λ e. h) (λ e. h)

  pub moved-split :
      (d : Direction) (id : ℕ) (host : List ℕ) (backlog : ℕ) (t : Transferred Q)
      → Split g t.registers (queue_number d) t.answer
      → let s = remembering id backlog (transfer_step d host b t) in
      Split g s.state.rest.registers (queue_number d) s.told.answer
  unfolding transfer_step
  moved-split d id host backlog t h =
      remembered-split id backlog (transfer_step d host b t) (queue_number d) (rw (with_rest d) h)

  -- ---- registers, as calls

  pub read-call : (offset width : ℕ) (m : List ℕ)
      → Split g (read_step offset width b m).state.rest.registers no_queue (read_step offset width b m).told.answer
  unfolding read_step read_of
  read-call offset width m = read-split g (config_of b.rest) width (register_at offset width)

  pub write-call : (empty : Direction → Q) (offset width v : ℕ) (m : List ℕ)
      → let s = write_by empty offset width v b m in
      Split g s.state.rest.registers no_queue s.told.answer
  unfolding write_of
  write-call empty offset width v m = rw (affected-registers _ _) (write-split g v (register_at offset width))

-- ---- every call

pub unchanged : (c c' : Cause) → Unchanged c c'
unchanged c c' = record { results = λ queue r m. refl }
