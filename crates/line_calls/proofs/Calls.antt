-- Each call of the card is the account's, shown; and on each queue it does what its part does.
use Rattle.std.specs.Prelude.{Option, None, Some}
use mathlib.Core.Path.{◌≡◌, refl, sym, fun_ext, subst}
use mathlib.Core.Bool.{Bool, true, false, cond}
use mathlib.Core.List.{List, [], ◌++◌, append-nil}
use Prim.Native.Nat.{ℕ, ◌+◌, ◌-◌, ◌≤◌}
use native.Mathlib.Decide.{ℕ_discrete}
use native.Mathlib.Omega.{arith}
use borrow.Author.Tests.{eq-eqb, ne_eqb, leb-true}
use lib.Dec.{eqb, ltb}
use lib.ListN.{length}
use Rattle.registers.specs.Answers.{plain}
use Rattle.registers.specs.Rules.{live, write_of}
use Rattle.registers.specs.declared.Registers.{Registers}
use Rattle.device.specs.Device.{Direction, output, input, queue_number, Rest, Device, queue_for, with_queue, stream_at}
use Rattle.device.specs.Transfer.{Run, Transferred, transferred_by}
use Rattle.device.proofs.Cases.{by-cond₂}
use Rattle.rules.specs.Calls.{Pending, Order, Done, ReleaseFirst, untouched, is_running, admitted_if, read_step, ordered_by, ended_on}
use Rattle.rules.specs.Calls.{released_on, transfer_step, remembering, clears_queue}
use Rattle.rules.specs.Claim.{shown_as}
use Rattle.rules.proofs.Calls.{low, low_transferred, shown-queue, ended_on-same, transfer_step-same, write_by-same, remembering-same}
use Rattle.queue_lines.specs.Chains.{Virtqueue, line_of, is_on}
use Rattle.queue_lines.specs.Claim.{shown_run, queue_of}
use Rattle.queue_lines.specs.Counters.{Queue}
use Rattle.queue_lines.specs.Histories.{History}
use Rattle.queue_lines.specs.Parts.{Lay, Part, transfers, releases, part_of, said_by}
use Rattle.queue_lines.specs.Rules.{transferred, emptied}
use Rattle.queue_lines.proofs.Histories.{alike}
use Rattle.queue_lines.proofs.Holds.{Kept, part-turn, part-keeps}
use Rattle.line_calls.specs.Account.{is_direction, transfer_part, release_part, write_part, part_in}
use Rattle.line_calls.specs.Calls.{Request, ReadRegister, WriteRegister, Control, Play, Capture, Event, Call, lay_of, virtqueue_of}
use Rattle.line_calls.specs.Calls.{release_queue, order_of, runs_on, transferred_of, transfer_by, release_by, asked, step}
use Rattle.line_calls.specs.Claim.{clears_on, bytes_of, card, account}
use Rattle.line_calls.specs.Streams.{Streams, direction_of, first_of, count_of}
use Rattle.rules.proofs.Backlog.{both}
use Rattle.rules.specs.Account.{writes_anew}
use Rattle.rules.proofs.Anew.{clears-by}

-- a call that is refused or goes on, beside another by the same checks
pub by-admitted :
    {A B : Type 0} (R : A → B → Type 0) (runs : Bool) (r : Rest) (m : List ℕ) {f : ℕ → A} {x : A} {g : ℕ → B} {y : B}
    → ((k : ℕ) → R (f k) (g k))
    → (runs ≡ true → R x y)
    → R (admitted_if runs r m f x) (admitted_if runs r m g y)
by-admitted R runs r m h k =
    by-cond₂ R (eqb (length m) r.ram)
    (λ e. by-cond₂ R (live r.registers) (λ e. by-cond₂ R runs k (λ e. h _)) (λ e. h _))
    (λ e. h _)

-- ---- the card's call is the account's, shown

-- a run of the card that is the account's, shown, makes of the queue and the registers what the account's does
moved_same : (queue : ℕ) (g : Registers) (c : Run Queue) (r : Run History) → c ≡ shown_run queue_of r
    → transferred_by queue g c ≡ low_transferred queue_of (transferred_by queue g r)
unfolding shown_run low_transferred
moved_same queue g c r e = rw e

ended_same : (d : Direction) (id : ℕ) (p : Pending) (b : Device History) (c : Run Queue) (r : Run History) → c ≡ shown_run queue_of r
    → ended_on d (released_on d id p c.mem c.stop c.signal) c.queue (shown_as queue_of b)
    ≡ low queue_of (ended_on d (released_on d id p r.mem r.stop r.signal) r.queue b)
unfolding shown_run
ended_same d id p b c r e = rw e (ended_on-same queue_of b d (released_on d id p r.mem r.stop r.signal) r.queue)

module _ (n : Streams) where
  -- both queues' histories are such as calls leave
  abbrev pub Kepts : (Direction → ℕ → List ℕ) → Device History → Type 0
  Kepts w b = (d : Direction) → Kept d (first_of n d) (count_of n d) (w d) (queue_for d b)

  module _ (w : Direction → ℕ → List ℕ) (b : Device History) (m : List ℕ) (k : Kepts w b) where
    transferred-same : (d : Direction) (id backlog : ℕ) (host : List ℕ)
        → transferred_of n (card n) d id backlog (shown_as queue_of b) m host
        ≡ low_transferred queue_of (transferred_of n (account n) d id backlog b m host)
    unfolding transferred_of low_transferred
    transferred-same d id backlog host =
        let v : Virtqueue = virtqueue_of n b.rest d backlog in
        let i : ℕ = line_of v id in
        rw (shown-queue queue_of b d)
        (by-admitted (λ (c : Transferred Queue) (t : Transferred History). c ≡ low_transferred queue_of t)
        (runs_on n b.rest d id) b.rest m
        {g = λ (number : ℕ). untouched (plain number) b.rest.registers (queue_for d b) m}
        (λ number. refl)
        (λ e.
        moved_same (queue_number d) b.rest.registers (transferred (card n d) v i (queue_of (queue_for d b)) m host)
        (transferred (account n d) v i (queue_for d b) m host)
        (part-turn d (first_of n d) (count_of n d) (w d) (queue_for d b) (k d) (transfers (lay_of b.rest d backlog) i m host)).same))

    transfer_by-same : (d : Direction) (id : ℕ) (host : List ℕ) (backlog : ℕ)
        → transfer_by n (card n) d id host backlog (shown_as queue_of b) m ≡ low queue_of (transfer_by n (account n) d id host backlog b m)
    transfer_by-same d id host backlog =
        let t : Transferred History = transferred_of n (account n) d id backlog b m host in
        rw (transferred-same d id backlog host)
        (rw (transfer_step-same queue_of b d host t) (remembering-same queue_of id backlog (transfer_step d host b t)))

    release_by-same : (id : ℕ) (p : Pending)
        → release_by n (card n) id p (shown_as queue_of b) m ≡ low queue_of (release_by n (account n) id p b m)
    unfolding release_by
    release_by-same id p =
        let d : Direction = direction_of n id in
        let v : Virtqueue = release_queue n id p.rest in
        let i : ℕ = line_of v id in
        rw (shown-queue queue_of b d)
        (ended_same d id p b (emptied (card n d) v i (queue_of (queue_for d b)) m) (emptied (account n d) v i (queue_for d b) m)
        (part-turn d (first_of n d) (count_of n d) (w d) (queue_for d b) (k d)
        (releases (lay_of p.rest d (stream_at p.rest id).backlog) i m)).same)

    ordered_same : (o : Order)
        → ordered_by (release_by n (card n)) o (shown_as queue_of b) m ≡ low queue_of (ordered_by (release_by n (account n)) o b m)
    unfolding low
    ordered_same (Done o) = refl
    ordered_same (ReleaseFirst id p) = release_by-same id p

    pub asked-same : (q : Request) → asked n (card n) q (shown_as queue_of b) m ≡ low queue_of (asked n (account n) q b m)
    unfolding read_step low
    asked-same (ReadRegister offset width) = refl
    asked-same (WriteRegister offset width v) =
        write_by-same queue_of b (λ (d : Direction). (account n d).empty) (λ (d : Direction). (card n d).empty)
        (λ d. (alike d (count_of n d)).empty-same) offset width v m
    asked-same Control = ordered_same (order_of n b.rest m)
    asked-same (Play id host backlog) = transfer_by-same output id host backlog
    asked-same (Capture id host backlog) = transfer_by-same input id host backlog
    asked-same (Event code data') = refl

  -- ---- what a call does to a queue is what its part does

  -- the history, and what was said, after a part
  abbrev pub ran : Direction → Option Part → History → History
  ran d None h = h
  ran d (Some p) h = (part_of d (first_of n d) (count_of n d) (account n d) p h).queue

  abbrev pub said_after : Direction → (ℕ → List ℕ) → Option Part → History → ℕ → List ℕ
  said_after d said None h = said
  said_after d said (Some p) h = said_by d (first_of n d) (count_of n d) (account n d) said p h

  pub ran-kept : (d : Direction) (said : ℕ → List ℕ) (h : History) → Kept d (first_of n d) (count_of n d) said h → (o : Option Part)
      → Kept d (first_of n d) (count_of n d) (said_after d said o h) (ran d o h)
  ran-kept d said h k None = k
  ran-kept d said h k (Some p) = part-keeps d (first_of n d) (count_of n d) said h k p

  -- a line by its stream
  same_line : (first id j : ℕ) → first ≤ id → eqb j (id - first) ≡ eqb id (first + j)
  same_line first id j l = go (ℕ_discrete id (first + j))
    where
      go : Dec (id ≡ first + j) → eqb j (id - first) ≡ eqb id (first + j)
      go (yes e) = rw (eq-eqb id (first + j) e, eq-eqb j (id - first) (omega arith))
      go (no e) = rw (ne_eqb id (first + j) e, ne_eqb j (id - first) (λ z. omega (arith, e)))

  module _ (said : ℕ → List ℕ) (b : Device History) (m : List ℕ) where
    -- a transfer, beside its part
    record Fits (d : Direction) (id : ℕ) (t : Transferred History) (o : Option Part) : Type 0 where
      queue : t.queue ≡ ran d o (queue_for d b)
      heard : (j : ℕ) → said_after d said o (queue_for d b) j ≡ said j ++ cond (eqb id (first_of n d + j)) t.bytes []

    nothing-more : (x : Bool) (l : List ℕ) → l ≡ l ++ cond x [] []
    nothing-more true l = sym (append-nil l)
    nothing-more false l = sym (append-nil l)

    transfer-fits : (d : Direction) (id backlog : ℕ) (host : List ℕ)
        → Fits d id (transferred_of n (account n) d id backlog b m host) (transfer_part n d id host backlog b.rest m)
    unfolding transferred_of part_of
    transfer-fits d id backlog host =
        by-admitted (Fits d id) (runs_on n b.rest d id) b.rest m
        {f = λ (number : ℕ). untouched (plain number) b.rest.registers (queue_for d b) m} {g = λ (number : ℕ). None}
        (λ number. record { queue = refl; heard = λ j. nothing-more (eqb id (first_of n d + j)) (said j) })
        (λ e.
        let on : is_on (virtqueue_of n b.rest d 0) id ≡ true = both _ (is_running b.rest id) e in
        let l : first_of n d ≤ id = leb-true (first_of n d) id (both _ (ltb (id - first_of n d) (count_of n d)) on) in
        record { queue = refl; heard = λ j. rw (same_line (first_of n d) id j l) })

    own-queue : (d : Direction) (id : ℕ) (host : List ℕ) (backlog : ℕ)
        → queue_for d (transfer_by n (account n) d id host backlog b m).state ≡ (transferred_of n (account n) d id backlog b m host).queue
    unfolding transfer_step remembering
    own-queue output id host backlog = refl
    own-queue input id host backlog = refl

    -- the queue that a Release ends a line of, and the other
    release-queue : (e d : Direction) (r : Rest) (id : ℕ) (rest : Rest) (latency : ℕ)
        → let v : Virtqueue = virtqueue_of n rest e latency in
        queue_for d (with_queue e r (emptied (account n e) v (line_of v id) (queue_for e b) m).queue b)
        ≡ ran d (cond (is_direction e d) (Some (releases (lay_of rest d latency) (line_of v id) m)) None) (queue_for d b)
    unfolding part_of
    release-queue output output r id rest latency = refl
    release-queue output input r id rest latency = refl
    release-queue input output r id rest latency = refl
    release-queue input input r id rest latency = refl

    ordered-queue : (d : Direction) (o : Order)
        → queue_for d (ordered_by (release_by n (account n)) o b m).state ≡ ran d (release_part n d o m) (queue_for d b)
    unfolding release_by
    ordered-queue output (Done o) = refl
    ordered-queue input (Done o) = refl
    ordered-queue d (ReleaseFirst id p) = release-queue (direction_of n id) d _ id p.rest (stream_at p.rest id).backlog

    written-queue : (d : Direction) (x : Bool) → cond x (account n d).empty (queue_for d b) ≡ ran d (write_part n x) (queue_for d b)
    unfolding part_of
    written-queue d true = refl
    written-queue d false = refl

    wrote-queue : (d : Direction) (offset width v : ℕ)
        → cond (clears_queue d (write_of b.rest.registers offset width v).effect) (account n d).empty (queue_for d b)
        ≡ ran d (write_part n (writes_anew (queue_number d) offset width v b.rest.registers)) (queue_for d b)
    wrote-queue d offset width v =
        rw (clears-by d b.rest.registers v offset width)
        (written-queue d (writes_anew (queue_number d) offset width v b.rest.registers))

    pub asked-queue : (d : Direction) (q : Request)
        → queue_for d (asked n (account n) q b m).state ≡ ran d (part_in n d q b.rest m) (queue_for d b)
    unfolding read_step transfer_step remembering
    asked-queue output (ReadRegister offset width) = refl
    asked-queue input (ReadRegister offset width) = refl
    asked-queue output (WriteRegister offset width v) = wrote-queue output offset width v
    asked-queue input (WriteRegister offset width v) = wrote-queue input offset width v
    asked-queue d Control = ordered-queue d (order_of n b.rest m)
    asked-queue output (Play id host backlog) = (transfer-fits output id backlog host).queue
    asked-queue input (Play id host backlog) = refl
    asked-queue output (Capture id host backlog) = refl
    asked-queue input (Capture id host backlog) = (transfer-fits input id backlog host).queue
    asked-queue output (Event code data') = refl
    asked-queue input (Event code data') = refl

    -- ---- what is said of each line

    released-said : (d : Direction) (x : Bool) (lay : Lay) (i j : ℕ)
        → said_after d said (cond x (Some (releases lay i m)) None) (queue_for d b) j ≡ said j ++ []
    released-said d true lay i j = sym (append-nil (said j))
    released-said d false lay i j = sym (append-nil (said j))

    ordered-said : (d : Direction) (o : Order) (j : ℕ) → said_after d said (release_part n d o m) (queue_for d b) j ≡ said j ++ []
    ordered-said d (Done o) j = sym (append-nil (said j))
    ordered-said d (ReleaseFirst id p) j =
        released-said d (is_direction (direction_of n id) d) (lay_of p.rest d (stream_at p.rest id).backlog)
        (line_of (release_queue n id p.rest) id) j

    written-said : (d : Direction) (x : Bool) (j : ℕ) → said_after d said (write_part n x) (queue_for d b) j ≡ cond x [] (said j ++ [])
    written-said d true j = refl
    written-said d false j = sym (append-nil (said j))

    pub asked-said : (d : Direction) (q : Request) (j : ℕ)
        → said_after d said (part_in n d q b.rest m) (queue_for d b) j
        ≡ cond (clears_on d q b.rest) [] (said j ++ bytes_of d (first_of n d + j) q (asked n (account n) q b m).told)
    unfolding transfer_step remembering
    asked-said d (ReadRegister offset width) j = sym (append-nil (said j))
    asked-said d (WriteRegister offset width v) j = written-said d (clears_on d (WriteRegister offset width v) b.rest) j
    asked-said d Control j = ordered-said d (order_of n b.rest m) j
    asked-said output (Play id host backlog) j = (transfer-fits output id backlog host).heard j
    asked-said input (Play id host backlog) j = sym (append-nil (said j))
    asked-said output (Capture id host backlog) j = sym (append-nil (said j))
    asked-said input (Capture id host backlog) j = (transfer-fits input id backlog host).heard j
    asked-said d (Event code data') j = sym (append-nil (said j))

  -- ---- what is kept over a call

  -- what was said of each line after it
  abbrev pub then : (Direction → ℕ → List ℕ) → Device History → Call → Direction → ℕ → List ℕ
  then w b c d j =
      cond (clears_on d c.asked b.rest) [] (w d j ++ bytes_of d (first_of n d + j) c.asked (step n (account n) b c).told)

  module _ (w : Direction → ℕ → List ℕ) (b : Device History) (c : Call) (k : Kepts w b) where
    pub step_same : step n (card n) (shown_as queue_of b) c ≡ low queue_of (step n (account n) b c)
    step_same = asked-same w b c.lent k c.asked

    pub step_keeps : Kepts (then w b c) (step n (account n) b c).state
    step_keeps d =
        let o : Option Part = part_in n d c.asked b.rest c.lent in
        let s : said_after d (w d) o (queue_for d b) ≡ then w b c d = fun_ext (asked-said (w d) b c.lent d c.asked) in
        subst (λ (h : History). Kept d (first_of n d) (count_of n d) (then w b c d) h) (sym (asked-queue (w d) b c.lent d c.asked))
        (subst (λ (said : ℕ → List ℕ). Kept d (first_of n d) (count_of n d) said (ran d o (queue_for d b))) s
        (ran-kept d (w d) (queue_for d b) (k d) o))
