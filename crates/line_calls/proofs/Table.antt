-- The P cases are proved as one statement: the rules compute, once the tests that the hypotheses decide are in place.
use Rattle.std.specs.Prelude.{Result, Option, Ok, Err, Some}
use Rattle.counts.specs.declared.DescriptorNumber.{DescriptorNumber}
use mathlib.Core.Path.{◌≡◌, ◌∙◌, refl, ap}
use mathlib.Core.Bool.{true, false, ◌&&◌}
use mathlib.Core.List.{List, [], ◌∷◌}
use Prim.Native.Nat.{ℕ, zero, suc, ◌+◌, ◌-◌, ◌≤◌, ◌<◌, ◌^◌}
use native.Mathlib.Omega.{arith}
use borrow.Author.Tests.{eq-eqb, ne_eqb, le-ltb, lt-ltb, lt-leb, le-leb}
use lib.Dec.{leb, ltb}
use lib.ListN.{length}
use Rattle.memory.specs.Bytes.{le}
use Rattle.registers.specs.Answers.{not_running, plain}
use Rattle.registers.specs.Map.{size_of}
use Rattle.registers.specs.declared.answers.Answer.{Answer}
use Rattle.ring.specs.Rules.{entries_of, found_of, check_of, head_at, head_of}
use Rattle.ring.specs.declared.Cause.{Cause}
use Rattle.device.specs.Device.{Direction, output, input, Rest, Device, queue_for, page_of, stream_at, bytes_of}
use Rattle.device.specs.Numbers.{control_queue, play_queue}
use Rattle.device.specs.Transfer.{Shows, Run, begun}
use Rattle.device.proofs.Cases.{and-false}
use Rattle.rules.specs.Calls.{Order, ReleaseFirst, Pending, control_head_by, control_found_by, ordered_by, is_running, transfer_step}
use Rattle.rules.specs.Calls.{remembering}
use Rattle.rules.specs.Calls.{untouched, released_on}
use Rattle.rules.specs.Control.{decoded_of}
use Rattle.rules.specs.Table.{named}
use Rattle.queue_lines.specs.Chains.{Virtqueue, line_of, is_on}
use Rattle.queue_lines.specs.Counters.{Line, Queue, length_of}
use Rattle.queue_lines.specs.Rules.{on_found, release_run, found, transferred, emptied}
use Rattle.queue_lines.proofs.Table as lines
use Rattle.line_calls.specs.Account.{transfer_of}
use Rattle.line_calls.specs.Calls.{Play, virtqueue_of, served, order_of, runs_on, transferred_of, release_by, asked}
use Rattle.line_calls.specs.Claim.{card}
use Rattle.line_calls.specs.Streams.{Streams, direction_of}
use Rattle.line_calls.specs.Table.{streams, Ready, Controls, controlled, ends_at, new_for, head_for, Absent, Table}
use Rattle.rules.proofs.Anew.{clears-by}

-- a stream that does not run on the queue of a direction
module _ (n : Streams) (b : Device Queue) (m : List ℕ) (ready : Ready b m) (host : List ℕ) (id backlog : ℕ) where
  absent-untouched : (d : Direction) → runs_on n b.rest d id ≡ false
      → transferred_of n (card n) d id backlog b m host ≡ untouched (plain not_running) b.rest.registers (queue_for d b) m
  unfolding transferred_of
  absent-untouched d off = rw (eq-eqb (length m) b.rest.ram ready.lent, ready.is_live, off)

  absent : (d : Direction) → runs_on n b.rest d id ≡ false → Absent n (transfer_of d id host backlog) b m
  unfolding transfer_step remembering
  absent output off =
      let e = absent-untouched output off in
      record { answer = rw e; count = rw e; memory = rw e; state = rw e }
  absent input off =
      let e = absent-untouched input off in
      record { answer = rw e; count = rw e; memory = rw e; state = rw e }

  -- .. not being on it
  elsewhere : (d : Direction) → is_on (virtqueue_of n b.rest d 0) id ≡ false → Absent n (transfer_of d id host backlog) b m
  elsewhere d off = absent d (rw off)

  stopped : (d : Direction) → is_running b.rest id ≡ false → Absent n (transfer_of d id host backlog) b m
  stopped d off = absent d (rw off (and-false (is_on (virtqueue_of n b.rest d 0) id)))

-- past the last, or before the first
beyond : (first count id : ℕ) → count ≤ id - first → (leb first id && ltb (id - first) count) ≡ false
beyond first count id l = rw (le-ltb (id - first) count l) (and-false (leb first id))

below : (first count id : ℕ) → id < first → (leb first id && ltb (id - first) count) ≡ false
below first count id l = rw (lt-leb first id l)

-- a stream of two outputs that runs
runs-there : (r : Rest) (id : ℕ) → id < 2 → is_running r id ≡ true → runs_on (streams 2 0) r output id ≡ true
runs-there r id l e = rw (le-leb 0 id (omega arith), lt-ltb (id - 0) 2 (omega arith)) e

too_many :
    (b : Device Queue) (m host : List ℕ) (id backlog completed : ℕ) (x y : Line)
    → Ready b m
    → id < 2
    → is_running b.rest id ≡ true
    → Shows m (page_of b.rest play_queue) 257
    → length_of x ≡ 200
    → length_of y ≡ 56
    → b.play ≡ record { taken = 256; completed = completed; lines = x ∷ y ∷ [] }
    → (asked (streams 2 0) (card (streams 2 0)) (Play id host backlog) b m).told.answer ≡ named 11 2
unfolding transfer_step remembering transferred_of transferred
too_many b m host id backlog completed x y ready l runs shows p q e =
    rw (
      eq-eqb (length m) b.rest.ram ready.lent,
      ready.is_live,
      runs-there b.rest id l runs,
      e,
      (lines.table).one_more m (page_of b.rest play_queue) _ backlog completed x y shows p q,
    )

-- ---- order 6

module _ (n : Streams) (b : Device Queue) (m : List ℕ) where
  -- what a control message comes to, its Release included
  abbrev orders : Order → Answer
  orders o = (ordered_by (release_by n (card n)) o b m).told.answer

  module _ (c : Controls b m) where
    -- past 1 and 5 the answer is what the queue's check says
    checked :
        (k : Result (Option ℕ) Cause) → check_of m (page_of b.rest control_queue) (size_of control_queue) b.rest.control.taken 0 ≡ k
        → controlled n b m ≡ orders (control_found_by (served n) b.rest m k)
    unfolding order_of
    checked k e =
        let o : order_of n b.rest m ≡ control_found_by (served n) b.rest m k =
        rw (eq-eqb (length m) b.rest.ram c.ready.lent, c.ready.is_live, e) in
        ap orders o

    region-breaks : length m < ends_at b.rest control_queue → controlled n b m ≡ named 9 0
    unfolding found_of
    region-breaks h =
        checked (Err Cause.Region)
        (rw (
          ne_eqb (page_of b.rest control_queue).0 0 (λ e. omega (arith, c.based, e)),
          lt-ltb (length m) (ends_at b.rest control_queue) h,
        ))

    module _ (inside : ends_at b.rest control_queue ≤ length m) where
      inside-checked :
          (k : Result (Option ℕ) Cause) → entries_of 64 (new_for b.rest m) 0 ≡ k
          → controlled n b m ≡ orders (control_found_by (served n) b.rest m k)
      unfolding found_of size_of
      inside-checked k e =
          checked k
          (rw (
            ne_eqb (page_of b.rest control_queue).0 0 (λ e. omega (arith, c.based, e)),
            le-ltb (length m) (ends_at b.rest control_queue) inside,
          ) e)

      entries-break : 65 ≤ new_for b.rest m → controlled n b m ≡ named 11 0
      entries-break h = inside-checked (Err Cause.Entries) (rw (lt-ltb 64 (new_for b.rest m + 0) (omega (arith, h))))

      head-breaks : 1 ≤ new_for b.rest m → new_for b.rest m ≤ 64 → 64 ≤ head_for b.rest m → controlled n b m ≡ named 12 0
      unfolding head_at size_of
      head-breaks h i k =
          inside-checked (Ok (Some (new_for b.rest m))) (rw (le-ltb 64 (new_for b.rest m + 0) (omega (arith, i))))
          ∙ met (new_for b.rest m) h
        where
          met : (j : ℕ) → 1 ≤ j → orders (control_found_by (served n) b.rest m (Ok (Some j))) ≡ named 12 0
          met zero h = absurd (omega arith)
          met (suc j) h =
              let e : head_of m (page_of b.rest control_queue) (size_of control_queue) b.rest.control.taken ≡ Err Cause.Head =
              rw (le-ltb (head_for b.rest m) 64 k) in
              ap (λ (x : Result DescriptorNumber Cause). orders (control_head_by (served n) b.rest m x)) e

  -- a Release of output 0, once its queue was checked
  module _ (p : Pending) where
    abbrev lies : Virtqueue
    lies = virtqueue_of n p.rest output (stream_at p.rest 0).backlog

    abbrev released : Result (Option ℕ) Cause → Answer
    released k =
        let e : Run Queue = on_found (card n output) lies (release_run (card n output) lies (line_of lies 0)) (begun b.play m []) k in
        (released_on output 0 p e.mem e.stop e.signal).answer

    release-checked : 0 < n.outputs → orders (ReleaseFirst 0 p) ≡ released (found (card n output) lies b.play m)
    unfolding release_by emptied
    release-checked first =
        let d : direction_of n 0 ≡ output = rw (lt-ltb 0 n.outputs first) in
        ap (λ (d : Direction).
        let v : Virtqueue = virtqueue_of n p.rest d (stream_at p.rest 0).backlog in
        let e : Run Queue = emptied (card n d) v (line_of v 0) (queue_for d b) m in
        (released_on d 0 p e.mem e.stop e.signal).answer) d

    release-breaks :
        0 < n.outputs
        → order_of n b.rest m ≡ ReleaseFirst 0 p
        → 0 < (page_of p.rest play_queue).0
        → length m < ends_at p.rest play_queue
        → controlled n b m ≡ named 9 2
    unfolding found_of
    release-breaks first o based h =
        let f : found (card n output) lies b.play m ≡ Err Cause.Region =
        rw (ne_eqb (page_of p.rest play_queue).0 0 (λ e. omega (arith, based, e)), lt-ltb (length m) (ends_at p.rest play_queue) h) in
        ap orders o ∙ release-checked first ∙ ap released f

pub table : Table
unfolding served decoded_of bytes_of le
table =
    record {
      longer-item = λ r s room e h. (rw (e, le-leb 44 room h), refl);
      shorter-item = λ r s room e h. (rw (e, le-leb 12 room h), refl);
      no_size = λ r s room e. rw e;
      no-size-no-item = λ r s room e h. (rw (e, le-leb 4 room h), refl);
      no-room-longer = λ r s e. rw e;
      region-first = region-breaks;
      then-entries = entries-break;
      then-head = head-breaks;
      release-names = release-breaks;
      fewest = refl;
      most = refl;
      no_output = refl;
      five-outputs = refl;
      three-inputs = refl;
      second-output = refl;
      first-input = refl;
      pcm-info = λ p x y z e. rw e;
      not-running = λ n b m host d id backlog r e. stopped n b m r host id backlog d e;
      play-of-input = λ n b m host id backlog r l. elsewhere n b m r host id backlog output (beyond 0 n.outputs id (omega arith));
      capture-of-output = λ n b m host id backlog r l. elsewhere n b m r host id backlog input (below n.outputs n.inputs id l);
      capture-of-none = λ n b m host id backlog r l.
          elsewhere n b m r host id backlog input (beyond n.outputs n.inputs id (omega arith));
      too_many = too_many;
      reset = λ n b m. rw (clears-by output b.rest.registers 0 18 1, clears-by input b.rest.registers 0 18 1) (refl, refl);
      base-write = λ n b m page l s k.
          rw (clears-by output b.rest.registers page 8 4, clears-by input b.rest.registers page 8 4, lt-ltb page (2 ^ 32) l, s, k)
          (refl, refl);
    }
