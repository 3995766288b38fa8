-- A call that breaks nothing takes every new entry; a Release then leaves its line empty, and so does a transfer that ends with room left:
-- each step completes the front, or leaves no room.
use Rattle.std.specs.Prelude.{Result, Option, Ok, Err}
use Rattle.ring.specs.declared.Cause.{Cause}
use Rattle.counts.specs.declared.DescriptorNumber.{DescriptorNumber}
use mathlib.Core.Path.{◌≡◌, refl, sym, ap, ◌∙◌}
use mathlib.Core.Bool.{Bool, true, false, cond, false≢true, true≢false}
use mathlib.Core.List.{List, [], ◌∷◌}
use Prim.Native.Nat.{ℕ, zero, suc, ◌+◌, ◌-◌, ◌≤◌, ◌<◌}
use native.Mathlib.Omega.{arith}
use borrow.Author.Tests.{ltb-false}
use lib.Dec.{ltb}
use lib.ListN.{length, take, drop, length-append, length-take, length-drop}
use lib.Seq.{get_or-set_same}
use Rattle.registers.proofs.Keeps.{by_cond}
use Rattle.ring.specs.Rules.{head_at, index_of}
use Rattle.device.specs.Answers.{going}
use Rattle.device.specs.Device.{Taking, Ending, finished, released, ill_formed, Message}
use Rattle.device.specs.Histories.{number, took, noted, with_entry}
use Rattle.device.specs.Transfer.{Run, begun, is_nil, is_well, bytes_moved}
use Rattle.device.proofs.Found.{new-reaches, found-based}
use Rattle.device.proofs.Lists.{some_of}
use Rattle.queue_lines.specs.Chains.{Virtqueue, queue_size, Arrival, in_line, at_once, arrival_of, reading_of}
use Rattle.queue_lines.specs.Claim.{account, Good, also, TakenAll, Drained}
use Rattle.queue_lines.specs.Histories.{Line, History, blank_line, line_at, standing, with_story, joining, bounced, beginning, handing}
use Rattle.queue_lines.specs.Histories.{completing}
use Rattle.queue_lines.specs.Rules.{Ops, Front, vacant, unread, working, times, with_queue, fresh, onward, posted, taken, met, next}
use Rattle.queue_lines.specs.Rules.{completed, opened, on_front, left_of, moved, worked, transfer_step, release_step, line_run, taking_run}
use Rattle.queue_lines.specs.Rules.{transfer_run, release_run, on_found, transferred, emptied}
use Rattle.queue_lines.proofs.Fronts.{is-busy, working-inside, unread-inside, none-stands}
use Rattle.queue_lines.proofs.Histories.{pair}
use Rattle.queue_lines.proofs.Keeps.{some-standing}
use Rattle.queue_lines.proofs.Lists.{times-fixed}
use Rattle.queue_lines.proofs.Natural.{reading-head, Fine, Begun, taking-keeps, release-keeps, transfer-keeps, read-begun}
use Rattle.queue_lines.proofs.Natural.{moved-begun, begun-right, begun-fine, transferred-keeps}

-- ---- all is taken

abbrev pub size : Run History → ℕ
size s = length s.queue.takings

-- the next entry is taken, unless its head is bad
record One (s u : Run History) : Type 0 where
  one-is : going u.stop ≡ true → size u ≡ size s + 1

module _ (v : Virtqueue) where
  abbrev pub ops : Ops History
  ops = account v

  taken-one : (head : ℕ) (a : Arrival) (s : Run History) → One s (taken ops v head a s)
  unfolding joining bounced posted
  taken-one head (in_line i) s = record { one-is = λ e. rw length-append }
  taken-one head (at_once t) s = record { one-is = λ e. rw length-append }

  met-one : (x : Result DescriptorNumber Cause) (s : Run History) → One s (met ops v x s)
  met-one (Ok n) s = taken-one n.0 (arrival_of v s.mem n.0) s
  met-one (Err cause) s = record { one-is = λ e. absurd (false≢true e) }

  next_one : (s : Run History) → going s.stop ≡ true → One s (next ops v s)
  unfolding next
  next_one s e = rw e (met-one (head_at s.mem v.page (queue_size v) (ops.place s.queue)) s)

  next-stays : (s : Run History) → going s.stop ≡ false → next ops v s ≡ s
  unfolding next
  next-stays s e = rw e

  takes_all : (k : ℕ) (s : Run History) → going s.stop ≡ true → going (times (next ops v) k s).stop ≡ true
      → size (times (next ops v) k s) ≡ size s + k
  unfolding times
  takes_all zero s e r = omega arith
  takes_all (suc k) s e r = go (going (next ops v s).stop) refl (λ q. takes_all k (next ops v s) q r)
    where
      go :
          (b : Bool)
          → going (next ops v s).stop ≡ b
          → (going (next ops v s).stop ≡ true → size (times (next ops v) k (next ops v s)) ≡ size (next ops v s) + k)
          → size (times (next ops v) k (next ops v s)) ≡ size s + suc k
      go true q ih = omega (arith, ih q, (next_one s e).one-is q)
      go false q ih =
          absurd (true≢false (sym r ∙ ap (λ (u : Run History). going u.stop)
          (times-fixed (next ops v) k (next ops v s) (next-stays (next ops v s) q)) ∙ q))

  pub taking-takes-all :
      (k : ℕ) (s : Run History) → going s.stop ≡ true → going (taking_run ops v k s).stop ≡ true
      → size (taking_run ops v k s) ≡ size s + k
  unfolding taking_run
  taking-takes-all = takes_all

  -- no more are taken than are new
  taken-few : (head : ℕ) (a : Arrival) (s : Run History) → size (taken ops v head a s) ≤ size s + 1
  unfolding joining bounced posted
  taken-few head (in_line i) s = rw length-append (omega arith)
  taken-few head (at_once t) s = rw length-append (omega arith)

  met-few : (x : Result DescriptorNumber Cause) (s : Run History) → size (met ops v x s) ≤ size s + 1
  met-few (Ok n) s = taken-few n.0 (arrival_of v s.mem n.0) s
  met-few (Err cause) s = omega arith

  next-few : (s : Run History) → size (next ops v s) ≤ size s + 1
  unfolding next
  next-few s =
      by_cond (λ (u : Run History). size u ≤ size s + 1) (going s.stop)
      (λ e. met-few (head_at s.mem v.page (queue_size v) (ops.place s.queue)) s) (λ e. omega arith)

  taking-few : (k : ℕ) (s : Run History) → size (taking_run ops v k s) ≤ size s + k
  unfolding taking_run times
  taking-few zero s = omega arith
  taking-few (suc k) s = omega (arith, taking-few k (next ops v s), next-few s)

  -- ---- line i is emptied

  module _ (i : ℕ) where
    abbrev stands : Run History → ℕ
    stands s = length (standing (line_at s.queue i))

    -- a step of a call whose takings are done; where `C` holds of the room after it, the line is one shorter
    record Step (C : ℕ → Type 0) (s u : Run History) : Type 0 where
      size_is : size u ≡ size s
      stop_is : u.stop ≡ s.stop
      room-le : u.room ≤ s.room
      fewer : C u.room → stands u ≡ stands s - 1

    module _ (g : List ℕ → ℕ → List ℕ) (host : List ℕ) where
      abbrev pub Well : Run History → Type 0
      Well s = Fine v (pair v) g host s

      abbrev Front' : Message → Run History → Type 0
      Front' w s = Begun v (pair v) g host i w s

      completed-step : (C : ℕ → Type 0) (e : Ending) (m : Message) (s : Run History) → Front' m s → Step C s (completed ops v i e m s)
      unfolding completed posted completing with_entry
      completed-step C e m s p =
          let l : Line = line_at s.queue i in
          let k : number l.story < length l.joined =
          some-standing v.direction (g s.bytes i) i l s.queue.takings s.queue.entries (p.fine.kept.line i)
          (is-busy s.queue i m p.front) in
          record {
            size_is = refl;
            stop_is = refl;
            room-le = omega arith;
            fewer = λ c.
                rw (
                  get_or-set_same s.queue.lines i (with_story (with_entry v.direction e v.latency) l) blank_line
                      (working-inside s.queue i m p.front),
                  length-drop (number (with_entry v.direction e v.latency l.story)),
                  length-append,
                  length-drop (number l.story),
                )
                (omega arith);
          }

      module _ (C : ℕ → Type 0) (go : Message → Run History → Run History)
          (go_step : (m : Message) (s : Run History) → Front' m s → Step C s (go m s)) where
        -- reading the front leaves the line as long
        read-step : (t : Taking) (s u : Run History) → i < length s.queue.lines → Step C (with_queue (ops.begin i t s.queue) s) u
            → Step C s u
        unfolding beginning took
        read-step t s u l p =
            record {
              size_is = p.size_is;
              stop_is = p.stop_is;
              room-le = p.room-le;
              fewer = λ c.
                  p.fewer c
                  ∙ rw (get_or-set_same s.queue.lines i (with_story (took v.direction t) (line_at s.queue i)) blank_line l);
            }

        front-step : (x : Front) (s : Run History) → ops.front i s.queue ≡ x → Well s → Step C s (on_front ops v i go x s)
        unfolding opened
        front-step vacant s e p =
            record {
              size_is = refl;
              stop_is = refl;
              room-le = omega arith;
              fewer = λ c. rw length-drop (omega (arith, none-stands s.queue i e));
            }
        front-step (unread head) s e p =
            let t : Taking = reading_of v i s.mem head in
            let u : Run History = with_queue (ops.begin i t s.queue) s in
            let b : Front' (fresh t) u =
            read-begun v (pair v) g host i t s p
            (rw (reading-head v i s.mem head) e) in
            by_cond (Step C s) (is_well t.form) (λ w. read-step t s (go (fresh t) u) (unread-inside s.queue i head e)
            (go_step (fresh t) u b))
            (λ w. read-step t s (completed ops v i ill_formed (fresh t) u) (unread-inside s.queue i head e)
            (completed-step C ill_formed (fresh t) u b))
        front-step (working m) s e p = go_step m s (record { fine = p; front = e })

      -- ---- so many steps

      module _ (C : ℕ → Type 0) (up : (a b : ℕ) → a ≤ b → C a → C b) (step : Run History → Run History)
          (one : (s : Run History) → Well s → Step C s (step s)) (keeps : (s : Run History) → Well s → Well (step s)) where
        steps-same :
            (k : ℕ) (s : Run History) → Well s
            → (size (times step k s) ≡ size s) × ((times step k s).stop ≡ s.stop) × ((times step k s).room ≤ s.room)
        unfolding times
        steps-same zero s p = (refl, refl, omega arith)
        steps-same (suc k) s p =
            let r = steps-same k (step s) (keeps s p) in
            (r.0 ∙ (one s p).size_is, r.1 ∙ (one s p).stop_is, omega (arith, r.2, (one s p).room-le))

        steps-end : (k : ℕ) (s : Run History) → Well s → stands s ≤ k → C (times step k s).room → stands (times step k s) ≡ 0
        unfolding times
        steps-end zero s p l c = omega arith
        steps-end (suc k) s p l c =
            let f : stands (step s) ≡ stands s - 1 =
            (one s p).fewer (up (times step k (step s)).room (step s).room (steps-same k (step s) (keeps s p)).2 c) in
            steps-end k (step s) (keeps s p) (omega arith) c

        line-few : (s : Run History) → Well s → size (line_run ops v i step s) ≡ size s
        line-few s p = by_cond (λ (u : Run History). size u ≡ size s) (going s.stop) (λ e. (steps-same (stands s) s p).0) (λ e. refl)

        -- all taken, and the line empty
        module _ (k : ℕ) (s : Run History) (e : going s.stop ≡ true) (p : Well (taking_run ops v k s)) where
          abbrev u : Run History
          u = taking_run ops v k s

          line-takes : going (line_run ops v i step u).stop ≡ true → size (line_run ops v i step u) ≡ size s + k
          line-takes = go (going u.stop) refl
            where
              go : (b : Bool) → going u.stop ≡ b → going (cond b (times step (stands u) u) u).stop ≡ true
                  → size (cond b (times step (stands u) u) u) ≡ size s + k
              go true x r = (steps-same (stands u) u p).0 ∙ taking-takes-all k s e x
              go false x r = absurd (true≢false (sym r ∙ x))

          line-empties : going (line_run ops v i step u).stop ≡ true → C (line_run ops v i step u).room
              → stands (line_run ops v i step u) ≡ 0
          line-empties = go (going u.stop) refl
            where
              go :
                  (b : Bool) → going u.stop ≡ b → going (cond b (times step (stands u) u) u).stop ≡ true
                  → C (cond b (times step (stands u) u) u).room → stands (cond b (times step (stands u) u) u) ≡ 0
              go true x r c = steps-end (stands u) u p (omega arith) c
              go false x r c = absurd (true≢false (sym r ∙ x))

    -- ---- a Release

    module _ (w : ℕ → List ℕ) where
      abbrev pub Kept : Run History → Type 0
      Kept s = Well (λ bytes. w) [] s

      abbrev Always : ℕ → Type 0
      Always n = Unit {0}

      release-step : (s : Run History) → Kept s → Step Always s (release_step ops v i s)
      unfolding release_step
      release-step s p =
          front-step (λ bytes. w) [] Always (completed ops v i released) (completed-step (λ bytes. w) [] Always released)
          (ops.front i s.queue) s refl p

      release-keeps' : (s : Run History) → Kept s → Kept (release_step ops v i s)
      release-keeps' = release-keeps v (pair v) (λ bytes. w) [] i

      release_run-ends :
          (k : ℕ) (s : Run History) → Kept s → going s.stop ≡ true → going (release_run ops v i k s).stop ≡ true
          → (size (release_run ops v i k s) ≡ size s + k) × (stands (release_run ops v i k s) ≡ 0)
      unfolding release_run
      release_run-ends k s p e r =
          let q : Kept (taking_run ops v k s) =
          taking-keeps v (pair v) (λ bytes. w) [] k s p in (
            line-takes (λ bytes. w) [] Always (λ a b l c. tt) (release_step ops v i) release-step release-keeps' k s e q r,
            line-empties (λ bytes. w) [] Always (λ a b l c. tt) (release_step ops v i) release-step release-keeps' k s e q r tt,
          )

      pub release_run-few : (k : ℕ) (s : Run History) → Kept s → size (release_run ops v i k s) ≤ size s + k
      unfolding release_run
      release_run-few k s p =
          let q : Kept (taking_run ops v k s) =
          taking-keeps v (pair v) (λ bytes. w) [] k s p in
          omega (
            arith,
            taking-few k s,
            line-few (λ bytes. w) [] Always (λ a b l c. tt) (release_step ops v i) release-step release-keeps' (taking_run ops v k s) q,
          )

    -- ---- a transfer

    module _ (w : ℕ → List ℕ) (host : List ℕ) where
      abbrev pub Played : Run History → Type 0
      Played s = Well (also i w) host s

      abbrev Roomy : ℕ → Type 0
      Roomy n = 0 < n

      module _ (m : Message) (s : Run History) (p : Front' (also i w) host m s) where
        abbrev left : List ℕ
        left = left_of ops v m

        abbrev xs : List ℕ
        xs = take s.room left

        abbrev on : Run History
        on = moved ops v i xs s

        -- moving bytes leaves the line as long
        on_step : (x : Run History) → Step Roomy on x → Step Roomy s x
        unfolding moved handing noted
        on_step x q =
            record {
              size_is = q.size_is;
              stop_is = q.stop_is;
              room-le = omega (arith, q.room-le);
              fewer = λ c.
                  q.fewer c
                  ∙ rw (get_or-set_same s.queue.lines i
                  (with_story (noted v.direction (bytes_moved v.direction xs s.host s.mem) xs) (line_at s.queue i))
                  blank_line (working-inside s.queue i m p.front));
            }

        -- without room, the front may wait
        full-step : is_nil (drop s.room left) ≡ false → Step Roomy on on
        unfolding moved
        full-step e =
            record {
              size_is = refl;
              stop_is = refl;
              room-le = omega arith;
              fewer = λ c.
                  absurd (omega (
                    arith,
                    c,
                    length-take s.room left,
                    rw (length-drop s.room left) at
                        (some_of (drop s.room left) e),
                  ));
            }

        worked-step : Step Roomy s (worked ops v i m s)
        unfolding worked
        worked-step =
            by_cond (Step Roomy s) (is_nil (drop s.room left))
            (λ e.
            on_step (completed ops v i finished (onward (length xs) m) on)
            (completed-step (also i w) host Roomy finished (onward (length xs) m) on
            (moved-begun v (pair v) w i host m s p)))
            (λ e. on_step on (full-step e))

      transfer-step : (s : Run History) → Played s → Step Roomy s (transfer_step ops v i s)
      unfolding transfer_step
      transfer-step s p =
          by_cond (Step Roomy s) (ltb 0 s.room)
          (λ e. front-step (also i w) host Roomy (worked ops v i) worked-step (ops.front i s.queue) s refl p)
          (λ e.
          record {
            size_is = refl;
            stop_is = refl;
            room-le = omega arith;
            fewer = λ c. absurd (omega (arith, c, ltb-false 0 s.room e));
          })

      transfer-keeps' : (s : Run History) → Played s → Played (transfer_step ops v i s)
      transfer-keeps' = transfer-keeps v (pair v) w i host

      transfer_run-ends :
          (k : ℕ) (s : Run History) → Played s → going s.stop ≡ true → going (transfer_run ops v i k s).stop ≡ true
          → (size (transfer_run ops v i k s) ≡ size s + k) × (0 < (transfer_run ops v i k s).room → stands (transfer_run ops v i k s) ≡ 0)
      unfolding transfer_run
      transfer_run-ends k s p e r =
          let q : Played (taking_run ops v k s) =
          taking-keeps v (pair v) (also i w) host k s p in (
            line-takes (also i w) host Roomy (λ a b l c. omega arith) (transfer_step ops v i) transfer-step transfer-keeps' k s e q r,
            line-empties (also i w) host Roomy (λ a b l c. omega arith) (transfer_step ops v i) transfer-step transfer-keeps' k s e q r,
          )

      pub transfer_run-few : (k : ℕ) (s : Run History) → Played s → size (transfer_run ops v i k s) ≤ size s + k
      unfolding transfer_run
      transfer_run-few k s p =
          let q : Played (taking_run ops v k s) =
          taking-keeps v (pair v) (also i w) host k s p in
          omega (
            arith,
            taking-few k s,
            line-few (also i w) host Roomy (λ a b l c. omega arith) (transfer_step ops v i) transfer-step transfer-keeps'
                (taking_run ops v k s) q,
          )

  -- ---- whole calls, on a queue that has a base

  -- the available index of the queue
  abbrev pub index_in : List ℕ → ℕ
  index_in m = index_of m v.page (queue_size v)

  none_left : {A : Type 0} (l : List A) → length l ≡ 0 → l ≡ []
  none_left [] e = refl
  none_left (x ∷ l) e = absurd (omega arith)

  module _ (i : ℕ) (w : ℕ → List ℕ) (q : History) (m : List ℕ) (g : Good v.direction v.streams w q) (based : v.page.0 ≡ 0 → ⊥) where
    abbrev new : ℕ
    new = ops.new q (index_in m)

    reached : (u : Run History) → size u ≡ length q.takings + new → TakenAll (index_in m) u.queue
    reached u e = rw (e, new-reaches)

    -- a Release that broke nothing took all and left its line empty
    pub release-drains : going (emptied ops v i q m).stop ≡ true → Drained (index_in m) i (emptied ops v i q m).queue
    unfolding emptied
    release-drains =
        found-based
        (λ (c : Result (Option ℕ) Cause). going (on_found ops v (release_run ops v i) (begun q m []) c).stop ≡ true
        → Drained (index_in m) i (on_found ops v (release_run ops v i) (begun q m []) c).queue)
        m v.page (queue_size v) (ops.new q (index_in m)) (ops.in_work q) based (λ c e. absurd (false≢true e))
        (λ e.
        let r : Run History = release_run ops v i new (begun q m []) in
        let x =
        release_run-ends i w new (begun q m [])
        (begun-fine v (pair v) w i q m g) refl e in
        record { taken-all = reached r x.0; none-standing = none_left (standing (line_at r.queue i)) x.1 })

    module _ (host : List ℕ) where
      transfer-ends :
          going (transferred ops v i q m host).stop ≡ true
          → TakenAll (index_in m) (transferred ops v i q m host).queue
          × (0 < (transferred ops v i q m host).room → standing (line_at (transferred ops v i q m host).queue i) ≡ [])
      unfolding transferred
      transfer-ends =
          found-based
          (λ (c : Result (Option ℕ) Cause).
          let r : Run History = on_found ops v (transfer_run ops v i) (begun q m host) c in
          going r.stop ≡ true → TakenAll (index_in m) r.queue × (0 < r.room → standing (line_at r.queue i) ≡ []))
          m v.page (queue_size v) (ops.new q (index_in m)) (ops.in_work q) based (λ c e. absurd (false≢true e))
          (λ e.
          let r : Run History = transfer_run ops v i new (begun q m host) in
          let x =
          transfer_run-ends i w host new (begun q m host)
          (begun-right v (pair v) w i q m g host) refl e in
          (reached r x.0, λ c. none_left (standing (line_at r.queue i)) (x.1 c)))

      -- a transfer that broke nothing took all, also with no room
      pub transfer-takes : going (transferred ops v i q m host).stop ≡ true → TakenAll (index_in m) (transferred ops v i q m host).queue
      transfer-takes e = (transfer-ends e).0

      -- .. and one that moved fewer bytes than the host lent left its line empty
      pub transfer-drains :
          going (transferred ops v i q m host).stop ≡ true
          → length (transferred ops v i q m host).bytes < length host
          → Drained (index_in m) i (transferred ops v i q m host).queue
      transfer-drains e l =
          let p = transferred-keeps v (pair v) w i q m g host in
          let room : (transferred ops v i q m host).room ≡ length host - length (transferred ops v i q m host).bytes =
          rw (p.past.room, p.past.past, length-drop) in
          record { taken-all = transfer-takes e; none-standing = (transfer-ends e).1 (omega arith) }
