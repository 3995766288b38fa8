-- A queue with lines, seen at line i, steps as a queue with one message does.
use Rattle.std.specs.Prelude.{Option, None, Some}
use mathlib.Core.Path.{◌≡◌, ◌∙◌, refl, sym, ap}
use mathlib.Core.Bool.{Bool, true, false, cond, true≢false}
use mathlib.Core.List.{List, [], ◌∷◌}
use Prim.Native.Nat.{ℕ, ◌<◌}
use lib.Dec.{ltb}
use lib.ListN.{length, take, drop, get_or, set}
use lib.Seq.{get_or-set_same, set-set, drop-drop}
use Rattle.flow.specs.Flow.{job_worked}
use Rattle.flow.specs.declared.Job.{Job}
use Rattle.flow.specs.declared.Job.TheVariants.{Transfer, Release}
use Rattle.device.specs.Counters as one
use Rattle.device.specs.Device as device
use Rattle.device.specs.Transfer as single-rules
use Rattle.device.specs.Transfer.{Run, is_nil, is_well, payload_of}
use Rattle.device.proofs.Cases.{map-cond}
use Rattle.queue_lines.specs.Chains.{Virtqueue, reading_of}
use Rattle.queue_lines.specs.Claim.{card}
use Rattle.queue_lines.specs.Counters.{Line, Queue, no_line, front_of}
use Rattle.queue_lines.specs.Rules.{with_queue, fresh, onward, posted, completed, opened as opened_by, on_front, left_of, moved, worked}
use Rattle.queue_lines.specs.Rules.{transfer_step, release_step}
use Rattle.queue_lines.proofs.Lists.{drop-taken}
use Rattle.line_chains.specs.Queue.{single}
use Rattle.line_work.specs.Work.{Station, lifted, job_step, begun_run, read_run, open_by, opened}

-- a job can go on
abbrev pub reachable : Job → ℕ → Bool
reachable Transfer room = ltb 0 room
reachable Release room = true

module _ (v : Virtqueue) (lines : List Line) (i : ℕ) (there : i < length lines) where
  abbrev ops : single-rules.Ops device.Queue
  ops = one.counters_of v.direction

  abbrev up : List ℕ → Run device.Queue → Run Queue
  up heads r = lifted lines i (record { heads = heads; run = r })

  -- the line itself, and another in its place
  here : (l : Line) → get_or (set lines i l) i no_line ≡ l
  here l = get_or-set_same lines i l no_line there

  module _ (heads : List ℕ) (w : device.Message) (r : Run device.Queue) (busy : r.queue.work ≡ Some w) where
    completed-up : (e : device.Ending) → completed (card v) v i e w (up heads r) ≡ up heads (single-rules.completed ops (single v) e r)
    unfolding lifted completed posted single-rules.completed
    completed-up e =
        let l : Line = record { begun = r.queue.work; heads = heads } in
        rw (here l, set-set lines i l (record { begun = None; heads = heads }), busy)

    moved_up : moved (card v) v i (take r.room (left_of (card v) v w)) (up heads r) ≡ up heads (single-rules.moved ops (single v) r)
    unfolding lifted moved single-rules.moved
    moved_up =
        let l : Line = record { begun = r.queue.work; heads = heads } in
        rw (
          here l,
          set-set lines i l (record {
            begun = one.further (length (take r.room (left_of (card v) v w))) r.queue.work;
            heads = heads;
          }),
          busy,
        )

    -- what waits once these are moved
    left-moved : ops.left (single-rules.moved ops (single v) r).queue ≡ drop r.room (left_of (card v) v w)
    unfolding single-rules.moved
    left-moved =
        rw busy
        (sym (drop-drop (length (take r.room (left_of (card v) v w))) w.done (payload_of v.direction w.taking))
        ∙ drop-taken r.room (left_of (card v) v w))

    still-busy : (single-rules.moved ops (single v) r).queue.work ≡ Some (onward (length (take r.room (left_of (card v) v w))) w)
    unfolding single-rules.moved
    still-busy = rw busy

  -- what a job does with a message in work
  abbrev job_on : Job → device.Message → Run Queue → Run Queue
  job_on Transfer w s = worked (card v) v i w s
  job_on Release w s = completed (card v) v i device.released w s

  module _ (heads : List ℕ) (w : device.Message) (r : Run device.Queue) (busy : r.queue.work ≡ Some w) where
    settled_up : worked (card v) v i w (up heads r) ≡ up heads (single-rules.settled ops (single v) (single-rules.moved ops (single v) r))
    unfolding worked lifted
    settled_up =
        let m : Run device.Queue = single-rules.moved ops (single v) r in
        let u = moved_up heads w r busy in
        rw (left-moved heads w r busy)
        (map-cond (up heads) (is_nil (drop r.room (left_of (card v) v w)))
        (λ e. rw u (completed-up heads (onward (length (take r.room (left_of (card v) v w))) w) m
        (still-busy heads w r busy) device.finished))
        (λ e. u))

    worked-up : (job : Job) → reachable job r.room ≡ true → job_on job w (up heads r) ≡ up heads (job_worked job (single v) r)
    worked-up Transfer reach = settled_up ∙ ap (up heads) (rw (reach, busy))
    worked-up Release reach = completed-up heads w r busy device.released ∙ ap (up heads) (rw busy)

  idle-up : (job : Job) (r : Run device.Queue) → reachable job r.room ≡ true → r.queue.work ≡ None → r ≡ job_worked job (single v) r
  idle-up Transfer r reach idle = rw (reach, idle)
  idle-up Release r reach idle = rw idle

  -- a front that is read
  begun-up : (head : ℕ) (heads : List ℕ) (t : device.Taking) (r : Run device.Queue)
      → with_queue ((card v).begin i t (up (head ∷ heads) r).queue) (up (head ∷ heads) r) ≡ up heads (begun_run t r)
  unfolding lifted
  begun-up head heads t r =
      let l : Line = record { begun = r.queue.work; heads = head ∷ heads } in
      rw (here l, set-set lines i l (record { begun = Some (fresh t); heads = heads }))

  read-idle : (job : Job) (t : device.Taking) (r : Run device.Queue) → reachable job r.room ≡ true
      → single-rules.completed ops (single v) device.ill_formed (begun_run t r)
      ≡ job_worked job (single v) (single-rules.completed ops (single v) device.ill_formed (begun_run t r))
  unfolding single-rules.completed
  read-idle job t r reach = idle-up job (single-rules.completed ops (single v) device.ill_formed (begun_run t r)) reach refl

  read_up : (job : Job) (head : ℕ) (heads : List ℕ) (t : device.Taking) (r : Run device.Queue) → reachable job r.room ≡ true
      → opened_by (card v) v i (job_on job) t (up (head ∷ heads) r) ≡ up heads (job_worked job (single v) (read_run v t r))
  unfolding opened_by read_run
  read_up job head heads t r reach = rw (begun-up head heads t r) (by (is_well t.form)) where
    by : (b : Bool)
        → cond b (job_on job (fresh t) (up heads (begun_run t r)))
        (completed (card v) v i device.ill_formed (fresh t) (up heads (begun_run t r)))
        ≡ up heads (job_worked job (single v) (cond b (begun_run t r)
        (single-rules.completed ops (single v) device.ill_formed (begun_run t r))))
    by true = worked-up heads (fresh t) (begun_run t r) refl job reach
    by false = completed-up heads (fresh t) (begun_run t r) refl device.ill_formed ∙ ap (up heads) (read-idle job t r reach)

  -- the front by what there is
  front-up : (job : Job) (r : Run device.Queue) → reachable job r.room ≡ true → (work : Option device.Message) (heads : List ℕ)
      → r.queue.work ≡ work
      → on_front (card v) v i (job_on job) (front_of work heads) (up heads r)
      ≡ (let s = open_by v i work heads r in up s.heads (job_worked job (single v) s.run))
  unfolding lifted
  front-up job r reach (Some w) heads busy = worked-up heads w r busy job reach
  front-up job r reach None [] idle = ap (up []) (idle-up job r reach idle)
  front-up job r reach None (head ∷ heads) idle = read_up job head heads (reading_of v i r.mem head) r reach

  step-front : (job : Job) (s : Station) → reachable job s.run.room ≡ true
      → job_step job v i (lifted lines i s) ≡ on_front (card v) v i (job_on job) (front_of s.run.queue.work s.heads) (lifted lines i s)
  unfolding lifted transfer_step release_step
  step-front Transfer s reach = rw (reach, here (record { begun = s.run.queue.work; heads = s.heads }))
  step-front Release s reach = rw (here (record { begun = s.run.queue.work; heads = s.heads }))

  -- a step of a job where it can go on, and where it can't
  pub step-up : (job : Job) (s : Station) → reachable job s.run.room ≡ true
      → job_step job v i (lifted lines i s)
      ≡ lifted lines i (record { heads = (opened v i s).heads; run = job_worked job (single v) (opened v i s).run })
  unfolding opened
  step-up job s reach = step-front job s reach ∙ front-up job s.run reach s.run.queue.work s.heads refl

  pub step-none : (job : Job) (s : Station) → reachable job s.run.room ≡ false → job_step job v i (lifted lines i s) ≡ lifted lines i s
  unfolding lifted transfer_step
  step-none Transfer s e = rw e
  step-none Release s e = absurd (true≢false e)
