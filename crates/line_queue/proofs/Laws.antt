-- The line of a slot and the queue of the words, as a job finds and leaves them.
use Rattle.std.specs.Prelude.{Result, Option, Ok, Err, Some, None}
use Rattle.std.proofs.Common.{◌≡◌, ℕ, ◌+◌, ◌-◌, ◌%◌, ◌<◌, ◌≤◌, Bool, true, false, cond, eqb, List, length, get_or, set, sym, refl, ap}
use Rattle.std.proofs.Common.{◌∙◌, arith, eqb-true}
use native.Mathlib.Nat.{sub-zero}
use borrow.Author.Tests.{eqb-false}
use lib.Seq.{set-get_or}
use Rattle.card.specs.declared.Counters.{Counters}
use Rattle.card.specs.declared.Message.{Message}
use Rattle.flow.specs.Flow.{run_of}
use Rattle.flow.specs.declared.Job.{Job}
use Rattle.flow.specs.declared.Job.TheVariants.{Transfer, Release}
use Rattle.marks.specs.Marks.{message_in, line_in}
use Rattle.message.specs.Work.{taking_of_message, message_of}
use Rattle.ring.specs.Rules.{check_of}
use Rattle.ring.specs.declared.Cause.{Cause}
use Rattle.device.specs.Answers.{going}
use Rattle.device.specs.Device as device
use Rattle.device.specs.Transfer.{Run, begun}
use Rattle.queue_lines.specs.Chains.{Virtqueue, queue_size}
use Rattle.queue_lines.specs.Claim.{card}
use Rattle.queue_lines.specs.Counters.{Line, Queue, no_line, sum_of, length_of, if_begun}
use Rattle.queue_lines.specs.Rules.{times, line_run, taking_run, transfer_run, release_run, stopped, found, on_found, transferred}
use Rattle.queue_lines.specs.Rules.{emptied}
use Rattle.line_taking.specs.Progress.{run_with, run_in, fresh, halted, Takes}
use Rattle.line_taking.specs.declared.Progress.{Progress}
use Rattle.line_taking.proofs.Laws.{heads-long}
use Rattle.line_words.specs.Slots.{slot_words, slot_of, chain_in, marks_in, ring_in, line_of, lines_of, queue_in, FitSlot, FitSlots}
use Rattle.line_words.proofs.Lines.{lines_long, line_at, line_set, slots-fit, slot-inside}
use Rattle.line_words.proofs.Parts.{with_slot}
use Rattle.line_work.specs.Work.{lifted, job_step, station_of, in_front, Works}
use Rattle.line_work.specs.declared.Front.{Front}
use Rattle.line_queue.specs.Between.{Between, FitLines}
use Rattle.line_queue.specs.Runs.{front_in, progress_of, ran_of, WorksSlot, WorksLine, Ran}
use Rattle.line_queue.proofs.Counted.{room-found}
use Rattle.line_queue.proofs.Between.{ran-between}
use Rattle.line_queue.proofs.Lent.{found-lent}

-- ---- a slot

begun-count : (ws : List ℕ) (message : Message) → message.count ≤ 1 → if_begun (message_of ws message) ≡ message.count
begun-count ws message h = by (eqb message.count 0) refl where
  by : (b : Bool) → eqb message.count 0 ≡ b
      → if_begun (cond b None (Some (record { taking = taking_of_message ws message; done = message.done }))) ≡ message.count
  by true e = sym (eqb-true message.count 0 e)
  by false e = let n = eqb-false message.count 0 e in omega (arith, n)

module _ (s : List ℕ) (p : Progress) where
  -- the front that the marks of a slot tell
  abbrev pub front_at : Front
  front_at = front_in p (message_in (marks_in s)) (line_in (marks_in s))

  line-count : (len : ℕ) → FitSlot len s → length_of (line_of s) ≡ in_front front_at
  unfolding line_of
  line-count len fit =
      rw (
        begun-count (chain_in s) (message_in (marks_in s)) fit.message.one,
        heads-long (length (ring_in s)) (ring_in s) (line_in (marks_in s)).start (line_in (marks_in s)).count,
      )

  line-run : (lines : List Line) (i : ℕ) (m host : List ℕ) → get_or lines i no_line ≡ line_of s
      → lifted lines i (station_of s front_at m host) ≡ run_with lines p m host
  unfolding lifted run_with run_of line_of
  line-run lines i m host e =
      let same : set lines i (line_of s) ≡ lines = rw (← e) (set-get_or lines i no_line) in
      rw same

-- the marks tell the front again
pub record Marked (s s' : List ℕ) (t : Front) : Type 0 where
  pub chain : chain_in s' ≡ chain_in s
  pub ring : ring_in s' ≡ ring_in s
  pub message : message_in (marks_in s') ≡ t.flow.message
  pub line : line_in (marks_in s') ≡ t.line

module _ (s s' : List ℕ) (t : Front) (k : Marked s s' t) where
  marked-run : (lines : List Line) (i : ℕ) (m host : List ℕ)
      → run_with (set lines i (line_of s')) (progress_of t.flow) m host ≡ lifted lines i (station_of s t m host)
  unfolding lifted run_with run_of line_of
  marked-run lines i m host = rw (k.chain, k.ring, k.message, k.line)

module _ (v : Virtqueue) (i : ℕ) (job : Job) (s m host : List ℕ) (p : Progress) (fit : FitSlot (length m) s) where
  pub works-slot : (t : Front) → t ≡ front_at s p → (s₁ s' m' host' : List ℕ) (r : Front)
      → Works v i job s m host t s₁ m' host' r → Marked s₁ s' r
      → WorksSlot v i job s m host p s' m' host' (progress_of r.flow)
  works-slot t told s₁ s' m' host' r w k =
      record {
        run = λ lines there e.
            marked-run s₁ s' r k lines i m' host'
            ∙ w.run lines there
            ∙ ap (λ (x : Front). times (job_step job v i) (in_front x) (lifted lines i (station_of s x m host))) told
            ∙ ap (times (job_step job v i) (in_front (front_at s p))) (line-run s p lines i m host e)
            ∙ ap (λ n. times (job_step job v i) n (run_with lines p m host)) (sym (line-count s p (length m) fit));
        fit = record {
          message = rw (k.chain, k.message) w.fit.flow.message;
          line = rw (k.ring, k.line) w.fit.line;
        };
        inside = w.fit.flow.inside;
        long = w.long;
        host-long = w.host-long;
        read = w.read;
      }

-- ---- all words

module _ (v : Virtqueue) (i : ℕ) (job : Job) (ws m host : List ℕ) (p : Progress) (fit : FitSlots v (length m) ws) where
  pub gone-line : p.moved ≤ length host → going p.stop ≡ false → WorksLine v i job ws m host p ws m host p
  unfolding run_with
  gone-line inside h = record { run = rw h; fit = fit; inside = inside; long = refl; host-long = refl; read = λ e. refl }

  module _ (there : i < v.streams) where
    abbrev slot : List ℕ
    slot = slot_of (slot_words (queue_size v)) ws i

    going-line : p.stop ≡ None
        → times (job_step job v i) (length_of (line_of slot)) (run_in v ws p m host)
        ≡ line_run (card v) v i (job_step job v i) (run_in v ws p m host)
    unfolding run_with
    going-line h = rw (h, line_at (queue_size v) v.streams ws i there)

    pub works-line : p.stop ≡ None → (ys m' host' : List ℕ) (r : Progress) → length ys ≡ slot_words (queue_size v)
        → WorksSlot v i job slot m host p ys m' host' r
        → WorksLine v i job ws m host p (with_slot (slot_words (queue_size v)) i ws ys) m' host' r
    works-line h ys m' host' r l w =
        record {
          run =
              ap (λ lines. run_with lines r m' host')
              (line_set (queue_size v) v.streams ws i ys (slot-inside v (length m) i ws fit there) l)
              ∙ w.run (lines_of (queue_size v) v.streams ws) (rw (lines_long (queue_size v) v.streams ws) there)
              (line_at (queue_size v) v.streams ws i there)
              ∙ going-line h;
          fit = slots-fit v (length m) i ws fit there ys l w.fit;
          inside = w.inside;
          long = w.long;
          host-long = w.host-long;
          read = w.read;
        }

-- ---- a whole job

-- all new entries taken, then the line worked
abbrev pub job_run : Job → Virtqueue → ℕ → ℕ → Run Queue → Run Queue
job_run job v i n r = line_run (card v) v i (job_step job v i) (taking_run (card v) v n r)

module _ (v : Virtqueue) (i : ℕ) (ws m host : List ℕ) (c : Counters) where
  begun-run : run_in v ws (fresh c) m host ≡ begun (queue_in v ws c) m host
  unfolding run_with queue_in
  begun-run = rw sub-zero

  pub ran-found : (job : Job) (k : Result (Option ℕ) Cause) → found (card v) v (queue_in v ws c) m ≡ k
      → on_found (card v) v (job_run job v i) (run_in v ws (fresh c) m host) k ≡ ran_of job v i (queue_in v ws c) m host
  unfolding transferred transfer_run emptied release_run
  ran-found Transfer k e = rw (begun-run, e)
  ran-found Release k e =
      rw (begun-run, e) (found-lent v host i k (begun (queue_in v ws c) m _))

  halted-run : (cause : Cause) → run_in v ws (halted cause (fresh c)) m host ≡ stopped cause (run_in v ws (fresh c) m host)
  unfolding run_with
  halted-run cause = refl

  -- the code's number in line is the rules'
  pub found-by : (n : ℕ) → Between v (queue_in v ws c) → n ≡ (c.taken + (65536 - c.completed)) % 65536
      → check_of m v.page (queue_size v) c.taken n ≡ found (card v) v (queue_in v ws c) m
  unfolding queue_in
  found-by n b e = rw (e, b.balanced)

  pub room-new : (n : ℕ) → found (card v) v (queue_in v ws c) m ≡ Ok (Some n)
      → sum_of length_of (lines_of (queue_size v) v.streams ws) + n ≤ queue_size v
  unfolding queue_in
  room-new n e = rw e at (room-found v (queue_in v ws c) m)

  -- ---- what a job leaves, by what the check finds

  module _ (there : i < v.streams) (fit : FitLines v (length m) ws c) (job : Job) where
    -- the rules keep what holds between calls
    left-between : (ws' m' host' : List ℕ) (r : Progress) → run_in v ws' r m' host' ≡ ran_of job v i (queue_in v ws c) m host
        → Between v (queue_in v ws' r.counters)
    unfolding run_with queue_in
    left-between ws' m' host' r e =
        rw (ap (λ (x : Run Queue). x.queue) e)
        (ran-between v i there (queue_in v ws c) (lines_long (queue_size v) v.streams ws) fit.between job m host)

    pub ran-idle : found (card v) v (queue_in v ws c) m ≡ (Ok None) → Ran v i job ws m host c ws m host (fresh c)
    ran-idle e =
        record { run = ran-found job (Ok None) e; fit = fit; inside = omega arith; long = refl; host-long = refl; read = λ d. refl }

    pub ran-broken : (cause : Cause) → found (card v) v (queue_in v ws c) m ≡ Err cause
        → Ran v i job ws m host c ws m host (halted cause (fresh c))
    ran-broken cause e =
        record {
          run = halted-run cause ∙ ran-found job (Err cause) e;
          fit = fit;
          inside = omega arith;
          long = refl;
          host-long = refl;
          read = λ d. refl;
        }

    pub ran-new : (n : ℕ) → found (card v) v (queue_in v ws c) m ≡ Ok (Some n) → (ws₁ m₁ : List ℕ) (p : Progress)
        → Takes v (taking_run (card v) v n) ws m (fresh c) ws₁ m₁ p → (ws' m' host' : List ℕ) (r : Progress)
        → WorksLine v i job ws₁ m₁ host p ws' m' host' r
        → Ran v i job ws m host c ws' m' host' r
    ran-new n e ws₁ m₁ p t ws' m' host' r w =
        let same : run_in v ws' r m' host' ≡ ran_of job v i (queue_in v ws c) m host =
        w.run ∙ ap (line_run (card v) v i (job_step job v i)) (t.run host) ∙ ran-found job (Ok (Some n)) e in
        record {
          run = same;
          fit = record { slots = rw t.long at w.fit; between = left-between ws' m' host' r same };
          inside = w.inside;
          long = w.long ∙ t.long;
          host-long = w.host-long;
          read = w.read;
        }
