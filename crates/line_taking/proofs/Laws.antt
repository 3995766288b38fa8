-- An entry taken, in the rules' terms; the lines that it can join, and how many are then in line.
use Rattle.std.specs.Prelude.{Result, Ok, Err, None}
use Rattle.std.proofs.Common.{◌≡◌, ℕ, zero, suc, ◌+◌, ◌-◌, ◌<◌, ◌≤◌, false, List, [], ◌∷◌, ◌++◌, length, get_or, take, drop, set, refl}
use Rattle.std.proofs.Common.{ap, arith, length-append, length-drop, length-take}
use Rattle.ring.specs.Rules.{head_at, head_of}
use Rattle.ring.specs.declared.Cause.{Cause}
use Rattle.counts.specs.declared.DescriptorNumber.{DescriptorNumber}
use Rattle.marks.specs.Marks as marks
use Rattle.message.specs.Message.{answered_of}
use Rattle.waiting.specs.Waiting.{heads_from, place_behind}
use Rattle.device.specs.Answers.{going}
use Rattle.device.specs.Device.{Taking}
use Rattle.device.specs.Transfer.{Run}
use Rattle.queue_lines.specs.Chains.{Virtqueue, queue_size, Arrival, in_line, at_once, arrival_of}
use Rattle.queue_lines.specs.Claim.{card}
use Rattle.queue_lines.specs.Counters.{Queue, no_line, sum_of, length_of}
use Rattle.queue_lines.specs.Rules.{posted, taken, met, next, taking_run}
use Rattle.queue_lines.proofs.Lists.{times_none, times_more}
use Rattle.queue_lines.proofs.Natural.{arrival-fits}
use Rattle.registers.proofs.Keeps.{by_cond}
use Rattle.line_chains.specs.Queue.{refused_of}
use Rattle.line_words.specs.Joined.{Open, Joined}
use Rattle.line_words.specs.Slots.{slot_words, slot_of, marks_in, ring_in, line_of, lines_of, queue_in, FitSlots}
use Rattle.line_words.proofs.Lines.{lines_long, line_at, slot-inside}
use Rattle.line_words.proofs.Parts.{slot-long}
use Rattle.line_taking.specs.Progress.{run_with, run_in, halted, joined, bounced_by, Space, Takes}
use Rattle.line_taking.specs.declared.Progress.{Progress}

-- ---- an entry

module _ (v : Virtqueue) (ws m host : List ℕ) (p : Progress) where
  pub bounced-run : (head : ℕ) (t : Taking)
      → run_in v ws (bounced_by (refused_of v m p.counters.completed t) p) (refused_of v m p.counters.completed t).memory host
      ≡ taken (card v) v head (at_once t) (run_in v ws p m host)
  unfolding run_with posted answered_of
  bounced-run head t = refl

  pub joined-run : (i head : ℕ) (ws' : List ℕ) → Joined v i head ws ws'
      → run_in v ws' (joined p) m host ≡ taken (card v) v head (in_line i) (run_in v ws p m host)
  unfolding run_with queue_in
  joined-run i head ws' j =
      ap (λ (q : Queue). record {
        queue = q;
        mem = m;
        bytes = take p.moved host;
        host = drop p.moved host;
        room = length host - p.moved;
        stop = p.stop;
        signal = p.signal;
      }) (j.queue p.counters)

  -- the next one, by where the call stands and by the head
  pub next-none : going p.stop ≡ false → run_in v ws p m host ≡ next (card v) v (run_in v ws p m host)
  unfolding run_with next
  next-none h = rw h

  module _ (h : p.stop ≡ None) where
    pub next-taken : (n : DescriptorNumber) → head_of m v.page (queue_size v) p.counters.taken ≡ Ok n
        → next (card v) v (run_in v ws p m host) ≡ taken (card v) v n.0 (arrival_of v m n.0) (run_in v ws p m host)
    unfolding run_with next
    next-taken n e = rw (h, e)

    pub next-broken : (cause : Cause) → head_of m v.page (queue_size v) p.counters.taken ≡ Err cause
        → run_in v ws (halted cause p) m host ≡ next (card v) v (run_in v ws p m host)
    unfolding run_with next
    next-broken cause e = rw (h, e)

-- ---- how many are in line

sum-member : {A : Type 0} (f : A → ℕ) (l : List A) (i : ℕ) (d : A) → i < length l → f (get_or l i d) ≤ sum_of f l
unfolding sum_of
sum-member f [] i d h = absurd (omega arith)
sum-member f (x ∷ l) zero d h = omega arith
sum-member f (x ∷ l) (suc i) d h = let e = sum-member f l i d (omega arith) in omega (arith, e)

sum-changed : {A : Type 0} (f : A → ℕ) (l : List A) (i : ℕ) (x d : A) → f x ≤ f (get_or l i d) + 1 → sum_of f (set l i x) ≤ sum_of f l + 1
unfolding sum_of
sum-changed f [] i x d h = omega arith
sum-changed f (y ∷ l) zero x d h = omega arith
sum-changed f (y ∷ l) (suc i) x d h = let e = sum-changed f l i x d h in omega (arith, e)

pub heads-long : (size : ℕ) (ring : List ℕ) (s n : ℕ) → length (heads_from size ring s n) ≡ n
unfolding heads_from
heads-long size ring s zero = refl
heads-long size ring s (suc n) = rw (heads-long size ring (place_behind size s 1) n) (omega arith)

module _ (v : Virtqueue) where
  abbrev pub in_lines : Run Queue → ℕ
  in_lines r = sum_of length_of r.queue.lines

  taken-sum : (head : ℕ) (a : Arrival) (r : Run Queue) → in_lines (taken (card v) v head a r) ≤ in_lines r + 1
  unfolding posted
  taken-sum head (in_line i) r =
      let l = get_or r.queue.lines i no_line in
      let more : length (l.heads ++ head ∷ []) ≡ length l.heads + 1 = rw length-append in
      sum-changed length_of r.queue.lines i (record { begun = l.begun; heads = l.heads ++ head ∷ [] }) no_line
      (rw more (omega arith))
  taken-sum head (at_once t) r = omega arith

  met-sum : (h : Result DescriptorNumber Cause) (r : Run Queue) → in_lines (met (card v) v h r) ≤ in_lines r + 1
  met-sum (Ok n) r = taken-sum n.0 (arrival_of v r.mem n.0) r
  met-sum (Err cause) r = omega arith

  -- an entry taken is at most one more
  pub next-sum : (r : Run Queue) → in_lines (next (card v) v r) ≤ in_lines r + 1
  unfolding next
  next-sum r =
      by_cond (λ (s : Run Queue). in_lines s ≤ in_lines r + 1) (going r.stop)
      (λ e. met-sum (head_at r.mem v.page (queue_size v) ((card v).place r.queue)) r) (λ e. omega arith)

-- ---- a line that can be joined

pub joins-there : (v : Virtqueue) (m : List ℕ) (head i : ℕ) → in_line i ≡ arrival_of v m head → i < v.streams
joins-there v m head i e = rw (← e) at (arrival-fits v m head)

module _ (v : Virtqueue) (len i : ℕ) (ws : List ℕ) (fit : FitSlots v len ws) (there : i < v.streams) where
  abbrev size : ℕ
  size = slot_words (queue_size v)

  abbrev slot : List ℕ
  slot = slot_of size ws i

  long : length slot ≡ size
  long = slot-long size i ws (slot-inside v len i ws fit there)

  ring_long : length (ring_in slot) ≡ queue_size v
  ring_long = rw (length-take, length-drop, long) (omega arith)

  few : (marks.line_in (marks_in slot)).count ≤ sum_of length_of (lines_of (queue_size v) v.streams ws)
  unfolding line_of
  few =
      let member = sum-member length_of (lines_of (queue_size v) v.streams ws) i no_line
      (rw (lines_long (queue_size v) v.streams ws) there) in
      let l = rw (line_at (queue_size v) v.streams ws i there) at member in
      let line = marks.line_in (marks_in slot) in
      let heads = heads-long (length (ring_in slot)) (ring_in slot) line.start line.count in
      omega (arith, l, heads)

  pub open-line : Space v ws → Open v i ws
  open-line space =
      record {
        words = fit.words;
        there = there;
        slot = record {
          long = rw long (omega arith);
          line = (fit.slot i there).line;
          room = rw ring_long (omega (arith, few, space));
        };
      }

-- ---- all of them

module _ (v : Virtqueue) where
  pub taking-none : (n : ℕ) (r : Run Queue) → n ≡ 0 → taking_run (card v) v n r ≡ r
  unfolding taking_run
  taking-none n r e = times_none (next (card v) v) n r e

  pub taking-more : (n k : ℕ) (r : Run Queue) → n ≡ k + 1 → taking_run (card v) v n r ≡ taking_run (card v) v k (next (card v) v r)
  unfolding taking_run
  taking-more n k r e = times_more (next (card v) v) n k r e

  pub one_more : (ws m : List ℕ) (p : Progress) (ws' m' : List ℕ) (r : Progress) → Takes v (next (card v) v) ws m p ws' m' r
      → sum_of length_of (lines_of (queue_size v) v.streams ws') ≤ sum_of length_of (lines_of (queue_size v) v.streams ws) + 1
  unfolding run_with
  one_more ws m p ws' m' r t = rw (ap (λ (x : Run Queue). sum_of length_of x.queue.lines) (t.run [])) (next-sum v (run_in v ws p m []))
