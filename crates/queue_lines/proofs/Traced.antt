-- A call on a stream queue over histories is its acts, one after the other, each as memory then shows it.
use Rattle.std.specs.Prelude.{Some, Result, Ok, Err}
use mathlib.Core.Path.{◌≡◌, refl, sym, ap, ◌∙◌, subst}
use mathlib.Core.Bool.{Bool, false, ◌||◌, true≢false}
use mathlib.Core.List.{List, []}
use Prim.Native.Nat.{ℕ, ◌-◌, ◌≤◌, ◌<◌}
use borrow.Author.Tests.{ltb-true}
use native.Mathlib.Omega.{arith}
use lib.Dec.{ltb}
use lib.ListN.{length, take, drop, length-drop}
use lib.Seq.{drop-drop, get_or-set_same}
use Rattle.registers.proofs.Keeps.{by_cond}
use Rattle.counts.specs.declared.DescriptorNumber.{DescriptorNumber}
use Rattle.ring.specs.declared.Cause.{Cause}
use Rattle.device.specs.Answers.{going}
use Rattle.device.specs.Claim.{work_of}
use Rattle.device.specs.Device.{Direction, well_formed, Taking, Ending, finished, released, ill_formed, Message}
use Rattle.device.specs.Histories.{with_entry}
use Rattle.device.specs.Transfer.{Run, is_nil, is_well, payload_of}
use Rattle.device.proofs.Cases.{none-some, some_same, well-of, released-not}
use Rattle.device.proofs.Histories.{entered-work}
use Rattle.device.proofs.Keeps.{done-le, ill-formed-none}
use Rattle.queue_lines.specs.Chains.{Virtqueue, Arrival, in_line, at_once, arrival_of, reading_of}
use Rattle.queue_lines.specs.Claim.{account, also}
use Rattle.queue_lines.specs.Histories.{Line, History, blank_line, line_at, with_joined, with_story, taking, joining, bounced, answer_to}
use Rattle.queue_lines.specs.Histories.{completing}
use Rattle.queue_lines.specs.Rules.{Ops, Front, vacant, unread, working, times, with_queue, stopped, fresh, onward, posted, met, next}
use Rattle.queue_lines.specs.Rules.{completed, opened, on_front, left_of, moved, worked, transfer_step, release_step, line_run, taking_run}
use Rattle.queue_lines.specs.Rules.{transfer_run, release_run}
use Rattle.queue_lines.specs.Turn.{written, wanted, Waits, Due, ill, ended, Takes, joins, bounces, Acts, Roomy, taken, reads, moves}
use Rattle.queue_lines.specs.Turn.{ends, next_head}
use Rattle.queue_lines.specs.Rules as rules
use Rattle.queue_lines.specs.Turn as turn
use Rattle.queue_lines.proofs.Fronts.{is-work, is-now, working-inside}
use Rattle.queue_lines.proofs.Histories.{pair}
use Rattle.queue_lines.proofs.Host.{stopped-past}
use Rattle.queue_lines.proofs.Lists.{times-keeps, changed-keeps, drop-taken}
use Rattle.queue_lines.proofs.Natural.{arrival-fits, reading-head, Fine, Begun, taken-keeps, completed-keeps, read-begun}
use Rattle.queue_lines.proofs.Natural.{moved-begun, nothing_left}

-- a message in work waits, line by line
abbrev pub Waiting : Direction → Line → Type 0
Waiting d l = (w : Message) → work_of l.story ≡ Some w → Waits d w

-- ---- taking

module _ (v : Virtqueue) (i : ℕ) (m₀ : List ℕ) (h₀ : History) (g : List ℕ → ℕ → List ℕ) (host : List ℕ) where
  abbrev Good' : Run History → Type 0
  Good' s = Fine v (pair v) g host s

  pub record Taking' (s : Run History) : Type 0 where
    pub fine : Good' s
    pub takes : Takes v m₀ h₀ s.mem s.queue s.signal
    pub mute : s.bytes ≡ []
    pub waits : Waiting v.direction (line_at s.queue i)

  joined-waits : (line head : ℕ) (h : History) → Waiting v.direction (line_at h i)
      → Waiting v.direction (line_at (joining line head h) i)
  unfolding joining
  joined-waits line head h k =
      changed-keeps (Waiting v.direction) blank_line (with_joined (taking head (in_line line) h)) (λ l p. p) h.lines line i k

  bounced-waits : (t : Taking) (latency : ℕ) (h : History) → Waiting v.direction (line_at h i)
      → Waiting v.direction (line_at (bounced v.direction t latency h) i)
  unfolding bounced
  bounced-waits t latency h k = k

  taken-told :
      (head : DescriptorNumber) (a : Arrival) (s : Run History)
      → next_head v m₀ h₀ s.mem s.queue ≡ Ok head
      → arrival_of v s.mem head.0 ≡ a
      → Taking' s
      → Taking' (rules.taken (account v) v head.0 a s)
  unfolding posted written
  taken-told head (in_line line) s e q p =
      record {
        fine =
            taken-keeps v (pair v) g host head.0 (in_line line) s
            (rw q at (arrival-fits v s.mem head.0)) p.fine;
        takes = joins p.takes e q;
        mute = p.mute;
        waits = joined-waits line head.0 s.queue p.waits;
      }
  taken-told head (at_once t) s e q p =
      record {
        fine =
            taken-keeps v (pair v) g host head.0 (at_once t) s
            (rw q at (arrival-fits v s.mem head.0)) p.fine;
        takes = bounces p.takes e q;
        mute = p.mute;
        waits = bounced-waits t v.latency s.queue p.waits;
      }

  pub stopped-told : (cause : Cause) (s : Run History) → Taking' s → Taking' (stopped cause s)
  stopped-told cause s p =
      record {
        fine = record { kept = p.fine.kept; past = stopped-past host cause s p.fine.past };
        takes = p.takes;
        mute = p.mute;
        waits = p.waits;
      }

  met-told : (x : Result DescriptorNumber Cause) (s : Run History) → next_head v m₀ h₀ s.mem s.queue ≡ x → Taking' s
      → Taking' (met (account v) v x s)
  met-told (Ok n) s e p = taken-told n (arrival_of v s.mem n.0) s e refl p
  met-told (Err cause) s e p = stopped-told cause s p

  next-told : (s : Run History) → Taking' s → Taking' (next (account v) v s)
  unfolding next
  next-told s p = by_cond Taking' (going s.stop) (λ e. met-told (next_head v m₀ h₀ s.mem s.queue) s refl p) (λ e. p)

  taking-told : (new : ℕ) (s : Run History) → Taking' s → Taking' (taking_run (account v) v new s)
  unfolding taking_run
  taking-told new s p = times-keeps Taking' (next (account v) v) next-told new s p

module _ (v : Virtqueue) (i : ℕ) (call : Ending) (m₀ : List ℕ) (h₀ : History) (g : List ℕ → ℕ → List ℕ) (host : List ℕ) where
  abbrev d : Direction
  d = v.direction

  abbrev ops : Ops History
  ops = account v

  abbrev Front' : Message → Run History → Type 0
  Front' w s = Begun v (pair v) g host i w s

  abbrev Acted : Run History → Type 0
  Acted s = Acts v m₀ h₀ i call host s.mem s.queue s.bytes s.signal

  -- between two messages
  pub record Told (s : Run History) : Type 0 where
    pub fine : Good' v i m₀ h₀ g host s
    pub acts : Acted s
    pub waits : Waiting d (line_at s.queue i)

  -- all is taken: line i is next
  taken-all : (s : Run History) → Taking' v i m₀ h₀ g host s → Told s
  taken-all s p = record { fine = p.fine; acts = rw p.mute (taken p.takes); waits = p.waits }

  -- after the call: where the queue broke, nothing but taking was done
  pub record Done (s : Run History) : Type 0 where
    pub told : Told s
    pub broke : going s.stop ≡ false → Takes v m₀ h₀ s.mem s.queue s.signal × (s.bytes ≡ [])

  pub taking-done : (s : Run History) → Taking' v i m₀ h₀ g host s → Done s
  taking-done s p = record { told = taken-all s p; broke = λ e. (p.takes, p.mute) }

  -- so many steps, once all is taken
  line_run-done :
      (step : Run History → Run History)
      → ((s : Run History) → Told s → Told (step s))
      → ((s : Run History) → (step s).stop ≡ s.stop)
      → (s : Run History)
      → Taking' v i m₀ h₀ g host s
      → Done (line_run ops v i step s)
  line_run-done step keeps still s p =
      by_cond Done (going s.stop)
      (λ e.
      record {
        told = times-keeps Told step keeps (ops.queued i s.queue) s (taken-all s p);
        broke = λ f.
            absurd (true≢false (sym e ∙ sym (ap going (stays (ops.queued i s.queue))) ∙ f));
      })
      (λ e. taking-done s p)
    where
      stays : (k : ℕ) → (times step k s).stop ≡ s.stop
      stays k = times-keeps (λ (u : Run History). u.stop ≡ s.stop) step (λ u q. still u ∙ q) k s refl

  -- ---- the front of line i

  module _ (e : Ending) (m : Message) (s : Run History) (p : Front' m s) where
    -- what a completion writes is its entry
    completed-written :
        (completed ops v i e m s).mem
        ≡ written v (length s.queue.entries) (answer_to d e v.latency (line_at s.queue i)) s.mem
    unfolding completed posted written
    completed-written = rw (← (is-now s.queue i m p.front))

    -- and no message is in work
    completed-none : Waiting d (line_at (completing d i e v.latency s.queue) i)
    unfolding completing
    completed-none w q =
        let l : Line = line_at s.queue i in
        absurd
        (none-some w
        (entered-work d (g s.bytes i) l.story (p.fine.kept.line i).story e v.latency
        ∙ rw (get_or-set_same s.queue.lines i (with_story (with_entry d e v.latency) l) blank_line
        (working-inside s.queue i m p.front)) at q))

    -- the same of memory, history and bytes as of the run
    completed-as :
        (P : List ℕ → History → List ℕ → Bool → Type 0)
        → P (completed ops v i e m s).mem (completing d i e v.latency s.queue) s.bytes
        (s.signal || wanted v (completed ops v i e m s).mem)
        → P (completed ops v i e m s).mem (completed ops v i e m s).queue (completed ops v i e m s).bytes
        (completed ops v i e m s).signal
    unfolding completed posted
    completed-as P k = k

    completed-told : Acted s → Due d call m e → ((e ≡ released → ⊥) → left_of ops v m ≡ []) → Told (completed ops v i e m s)
    completed-told k due all =
        record {
          fine = completed-keeps v (pair v) g host i e m s p all;
          acts = completed-as (Acts v m₀ h₀ i call host) (rw completed-written (ends k p.front due));
          waits = completed-as (λ x h y z. Waiting d (line_at h i)) completed-none;
        }

  -- room is left for a transfer
  abbrev Room : Run History → Type 0
  Room s = Roomy v m₀ h₀ i call host s.bytes

  -- what is done with a well-formed message that is begun
  module _ (go : Message → Run History → Run History)
      (go-told : (m : Message) (s : Run History) → Front' m s → Acted s → Room s → m.taking.form ≡ well_formed → Told (go m s)) where
    opened-told : (head : ℕ) (s : Run History) → ops.front i s.queue ≡ unread head → Room s → Told s
        → Told (opened ops v i go (reading_of v i s.mem head) s)
    unfolding opened
    opened-told head s e o p =
        let t : Taking = reading_of v i s.mem head in
        let u : Run History = with_queue (ops.begin i t s.queue) s in
        let k : Acted u = reads p.acts o e in
        let b : Front' (fresh t) u =
        read-begun v (pair v) g host i t s p.fine (rw (reading-head v i s.mem head) e) in
        by_cond Told (is_well t.form) (λ w. go-told (fresh t) u b k o (well-of t.form w))
        (λ w. completed-told ill_formed (fresh t) u b k (ill w refl) (λ n. ill-formed-none d t w))

    front-told : (x : Front) (s : Run History) → ops.front i s.queue ≡ x → Room s → Told s → Told (on_front ops v i go x s)
    front-told vacant s e o p = p
    front-told (unread head) s e o p = opened-told head s e o p
    front-told (working m) s e o p = go-told m s (record { fine = p.fine; front = e }) p.acts o
        (p.waits m (is-work s.queue i m e)).well

  -- no step breaks the queue
  completed-still : (e : Ending) (m : Message) (s : Run History) → (completed ops v i e m s).stop ≡ s.stop
  unfolding completed posted
  completed-still e m s = refl

  front-still :
      (go : Message → Run History → Run History) → ((m : Message) (s : Run History) → (go m s).stop ≡ s.stop)
      → (x : Front) (s : Run History) → (on_front ops v i go x s).stop ≡ s.stop
  unfolding opened
  front-still go k vacant s = refl
  front-still go k (unread head) s =
      let t : Taking = reading_of v i s.mem head in
      let u : Run History = with_queue (ops.begin i t s.queue) s in
      by_cond (λ (x : Run History). x.stop ≡ s.stop) (is_well t.form) {x = go (fresh t) u} {y = completed ops v i ill_formed (fresh t) u}
      (λ e. k (fresh t) u) (λ e. completed-still ill_formed (fresh t) u)
  front-still go k (working m) s = k m s

  -- ---- a Release

  module _ (gives : call ≡ released) where
    given-told : (m : Message) (s : Run History) → Front' m s → Acted s → Room s → m.taking.form ≡ well_formed
        → Told (completed ops v i released m s)
    given-told m s p k o w = completed-told released m s p k (rw gives (ended w)) (λ n. absurd (n refl))

    release-told : (s : Run History) → Told s → Told (release_step ops v i s)
    unfolding release_step
    release-told s p = front-told (completed ops v i released) given-told (ops.front i s.queue) s refl
        (λ c. absurd (released-not (sym gives ∙ c))) p

    release-still : (s : Run History) → (release_step ops v i s).stop ≡ s.stop
    unfolding release_step
    release-still s = front-still (completed ops v i released) (λ m u. completed-still released m u) (ops.front i s.queue) s

    pub release_run-done : (new : ℕ) (s : Run History) → Taking' v i m₀ h₀ g host s → Done (release_run ops v i new s)
    unfolding release_run
    release_run-done new s p =
        line_run-done (release_step ops v i) release-told release-still (taking_run ops v new s) (taking-told v i m₀ h₀ g host new s p)

-- ---- a transfer

module _ (v : Virtqueue) (i : ℕ) (m₀ : List ℕ) (h₀ : History) (w : ℕ → List ℕ) (host : List ℕ) where
  abbrev dir : Direction
  dir = v.direction

  abbrev acc : Ops History
  acc = account v

  abbrev Played : Run History → Type 0
  Played s = Told v i finished m₀ h₀ (also i w) host s

  module _ (m : Message) (s : Run History) (p : Front' v i finished m₀ h₀ (also i w) host m s)
      (k : Acted v i finished m₀ h₀ (also i w) host s) (o : Room v i finished m₀ h₀ (also i w) host s)
      (well : m.taking.form ≡ well_formed) where
    abbrev left : List ℕ
    left = left_of acc v m

    abbrev xs : List ℕ
    xs = take s.room left

    abbrev on : Run History
    on = moved acc v i xs s

    abbrev now : Message
    now = onward (length xs) m

    on-begun : Front' v i finished m₀ h₀ (also i w) host now on
    on-begun = moved-begun v (pair v) w i host m s p

    on-acts : Acted v i finished m₀ h₀ (also i w) host on
    unfolding moved
    on-acts = moves k refl (o refl) p.front p.fine.past.past (ap (λ (n : ℕ). take n left) p.fine.past.room)

    -- no more is moved than there is
    on_fits : now.done ≤ length (payload_of dir m.taking)
    on_fits =
        let story = (line_at on.queue i).story in
        subst (λ (x : Message). x.done ≤ length (payload_of dir x.taking)) (is-now on.queue i now on-begun.front)
        (done-le dir (also i w on.bytes i) story (on-begun.fine.kept.line i).story)

    all_moved : left_of acc v now ≡ [] → now.done ≡ length (payload_of dir m.taking)
    all_moved e = omega (arith, on_fits, simp length-drop at (ap length e))

    some-wait : is_nil (drop s.room left) ≡ false → (x : Message) → work_of (line_at on.queue i).story ≡ Some x → Waits dir x
    some-wait e x q =
        let y : now ≡ x = some_same now x (sym (is-work on.queue i now on-begun.front) ∙ q) in
        rw (← y) (record { well = well; some_left = rw (← drop-drop, drop-taken) e })

    worked-told : Played (worked acc v i m s)
    unfolding worked
    worked-told =
        by_cond Played (is_nil (drop s.room left))
        (λ e.
        let z : left_of acc v now ≡ [] =
        nothing_left v (pair v) w i host m s p e in
        completed-told v i finished m₀ h₀ (also i w) host finished now on on-begun on-acts (turn.moved well (all_moved z)) (λ n. z))
        (λ e. record { fine = on-begun.fine; acts = on-acts; waits = some-wait e })

  some-room : (s : Run History) → Played s → 0 < s.room → length s.bytes < length host
  some-room s p l =
      let r : s.room ≡ length host - length s.bytes = rw (p.fine.past.room, p.fine.past.past, length-drop) in
      omega arith

  transfer-told : (s : Run History) → Played s → Played (transfer_step acc v i s)
  unfolding transfer_step
  transfer-told s p =
      by_cond Played (ltb 0 s.room)
      (λ e.
      front-told v i finished m₀ h₀ (also i w) host (worked acc v i) worked-told (acc.front i s.queue) s refl
      (λ c. some-room s p (ltb-true 0 s.room e)) p)
      (λ e. p)

  worked-still : (m : Message) (s : Run History) → (worked acc v i m s).stop ≡ s.stop
  unfolding worked moved
  worked-still m s =
      let xs : List ℕ = take s.room (left_of acc v m) in
      by_cond (λ (u : Run History). u.stop ≡ s.stop) (is_nil (drop s.room (left_of acc v m)))
      {x = completed acc v i finished (onward (length xs) m) (moved acc v i xs s)} {y = moved acc v i xs s}
      (λ e. completed-still v i finished m₀ h₀ (also i w) host finished (onward (length xs) m) (moved acc v i xs s)) (λ e. refl)

  transfer-still : (s : Run History) → (transfer_step acc v i s).stop ≡ s.stop
  unfolding transfer_step
  transfer-still s =
      by_cond (λ (u : Run History). u.stop ≡ s.stop) (ltb 0 s.room)
      {x = on_front acc v i (worked acc v i) (acc.front i s.queue) s} {y = s}
      (λ e. front-still v i finished m₀ h₀ (also i w) host (worked acc v i) worked-still (acc.front i s.queue) s) (λ e. refl)

  pub transfer_run-done : (new : ℕ) (s : Run History) → Taking' v i m₀ h₀ (also i w) host s
      → Done v i finished m₀ h₀ (also i w) host (transfer_run acc v i new s)
  unfolding transfer_run
  transfer_run-done new s p =
      line_run-done v i finished m₀ h₀ (also i w) host (transfer_step acc v i) transfer-told transfer-still (taking_run acc v new s)
      (taking-told v i m₀ h₀ (also i w) host new s p)
