-- For every list of calls the card's answers, counts, bytes, host buffers and memories are the account's, and what is claimed of the
-- account's histories holds. The laws about runs start from any histories such as calls leave.
use mathlib.Core.Path.{◌≡◌, refl, subst, fun_ext}
use mathlib.Core.Bool.{Bool, true, false, cond}
use mathlib.Core.List.{List, [], ◌++◌}
use Prim.Native.Nat.{ℕ, ◌+◌}
use lib.Dec.{eqb}
use lib.ListN.{length}
use Rattle.description.specs.declared.Description.{Description}
use Rattle.device.specs.Device.{Direction, output, input, Device, queue_for}
use Rattle.rules.specs.Calls.{transfer_step, remembering, Told}
use Rattle.rules.specs.Claim.{shown_as}
use Rattle.rules.proofs.Calls.{low}
use Rattle.queue_lines.specs.Claim.{queue_of}
use Rattle.queue_lines.specs.Counters.{Queue}
use Rattle.queue_lines.specs.Histories.{History, line_at}
use Rattle.queue_lines.proofs.Histories.{alike}
use Rattle.queue_lines.proofs.Holds.{empty-kept, Kept}
use Rattle.queue_lines.proofs.Reading.{bytes_count}
use Rattle.line_calls.specs.Calls.{Request, ReadRegister, WriteRegister, Control, Play, Capture, Event, Call, asked, step}
use Rattle.line_calls.specs.Claim.{clears_on, bytes_of, count_of_call, card, account, start, told_by, after, heard, counted, Holds}
use Rattle.line_calls.specs.Streams.{Streams, streams_of, first_of, count_of}
use Rattle.line_calls.proofs.Calls.{Kepts, then, step_same, step_keeps}
use Rattle.rules.proofs.Along.{told-alike, after-alike, then_along, keeps-along, gathered-then, gathered-count}

-- a transfer's count is the number of its bytes
some-counts : (x : Bool) (bytes : List ℕ) → cond x (length bytes) 0 ≡ length (cond x bytes [])
some-counts true bytes = refl
some-counts false bytes = refl

module _ (n : Streams) where
  asked-counts :
      (d : Direction) (stream : ℕ) (q : Request) (b : Device Queue) (m : List ℕ)
      → count_of_call d stream q (asked n (card n) q b m).told ≡ length (bytes_of d stream q (asked n (card n) q b m).told)
  unfolding transfer_step remembering
  asked-counts d stream (ReadRegister offset width) b m = refl
  asked-counts d stream (WriteRegister offset width v) b m = refl
  asked-counts d stream Control b m = refl
  asked-counts output stream (Play id host backlog) b m =
      some-counts (eqb id stream) (asked n (card n) (Play id host backlog) b m).told.bytes
  asked-counts input stream (Play id host backlog) b m = refl
  asked-counts output stream (Capture id host backlog) b m = refl
  asked-counts input stream (Capture id host backlog) b m =
      some-counts (eqb id stream) (asked n (card n) (Capture id host backlog) b m).told.bytes
  asked-counts d stream (Event code data') b m = refl

  -- ---- any list of calls

  shown-same : (w : Direction → ℕ → List ℕ) (b : Device History) (c : Call) → Kepts n w b
      → step n (card n) (shown_as queue_of b) c
      ≡ record { state = shown_as queue_of (step n (account n) b c).state; told = (step n (account n) b c).told }
  unfolding low
  shown-same w b c k = step_same n w b c k

  module _ (cs : List Call) (w : Direction → ℕ → List ℕ) (b : Device History) (k : Kepts n w b) where
    pub run-told : told_by n (card n) (shown_as queue_of b) cs ≡ told_by n (account n) b cs
    run-told =
        told-alike (step n (account n)) (step n (card n)) (shown_as queue_of) (Kepts n) (then n) shown-same (step_keeps n) cs w b k

    pub run-stands : after n (card n) (shown_as queue_of b) cs ≡ shown_as queue_of (after n (account n) b cs)
    run-stands =
        after-alike (step n (account n)) (step n (card n)) (shown_as queue_of) (Kepts n) (then n) shown-same (step_keeps n) cs w b k

    said-heard : (d : Direction) (i : ℕ)
        → then_along (step n (account n)) (step n (card n)) (shown_as queue_of) (Kepts n) (then n) shown-same (step_keeps n) w b cs d i
        ≡ heard n (card n) d (first_of n d + i) (w d i) (shown_as queue_of b) cs
    said-heard d i =
        gathered-then (step n (account n)) (step n (card n)) (shown_as queue_of) (Kepts n) (then n) shown-same (step_keeps n)
        (λ (w : Direction → ℕ → List ℕ). w d i) (λ (b : Device Queue) (c : Call). clears_on d c.asked b.rest) []
        (λ (h : List ℕ) (c : Call) (t : Told). h ++ bytes_of d (first_of n d + i) c.asked t) (λ w b c. refl) cs w b k

    pub run-keeps : Kepts n (λ (d : Direction) (i : ℕ). heard n (card n) d (first_of n d + i) (w d i) (shown_as queue_of b) cs)
        (after n (account n) b cs)
    run-keeps d =
        subst (λ (said : ℕ → List ℕ). Kept d (first_of n d) (count_of n d) said (queue_for d (after n (account n) b cs)))
        (fun_ext (said-heard d))
        (keeps-along (step n (account n)) (step n (card n)) (shown_as queue_of) (Kepts n) (then n) shown-same (step_keeps n) cs w b k d)

  pub run-count : (cs : List Call) (b : Device Queue) (d : Direction) (stream : ℕ) (w : List ℕ)
      → counted n (card n) d stream (length w) b cs ≡ length (heard n (card n) d stream w b cs)
  run-count cs b d stream w =
      gathered-count (step n (card n)) (λ (b : Device Queue) (c : Call). clears_on d c.asked b.rest)
      (λ (c : Call). count_of_call d stream c.asked) (λ (c : Call). bytes_of d stream c.asked)
      (λ b c. asked-counts d stream c.asked b c.lent) cs w b

  -- ---- from power-up

  -- nothing was said at the start
  abbrev pub unsaid : Direction → ℕ → List ℕ
  unsaid d i = []

  module _ (d : Description) (len : ℕ) where
    pub start-kept : Kepts n unsaid (start n (account n) d len)
    start-kept output = empty-kept output (first_of n output) (count_of n output)
    start-kept input = empty-kept input (first_of n input) (count_of n input)

    pub start-shown : shown_as queue_of (start n (account n) d len) ≡ start n (card n) d len
    start-shown =
        rw (← (alike output (count_of n output)).empty-same, ← (alike input (count_of n input)).empty-same)

-- ---- THE THEOREM

pub holds : (d : Description) (len : ℕ) (cs : List Call) → Holds d len cs
holds d len cs =
    let n : Streams = streams_of d in
    let b : Device History = start n (account n) d len in
    let k = start-kept n d len in
    let e = start-shown n d len in
    let kept = run-keeps n cs (unsaid n) b k in
    let w : Device Queue → Direction → ℕ → List ℕ = λ s q i. heard n (card n) q (first_of n q + i) [] s cs in
    record {
      same = subst (λ (s : Device Queue). told_by n (card n) s cs ≡ told_by n (account n) b cs) e (run-told n cs (unsaid n) b k);
      stands =
          subst (λ (s : Device Queue). after n (card n) s cs ≡ shown_as queue_of (after n (account n) b cs)) e
          (run-stands n cs (unsaid n) b k);
      good = λ q. (subst (λ (s : Device Queue). Kepts n (w s) (after n (account n) b cs)) e kept q).good;
      book = λ q. (kept q).book;
      within = λ q. (kept q).within;
      adds = λ q i.
          subst
          (λ (s : Device Queue).
          counted n (card n) q (first_of n q + i) 0 s cs ≡ length (line_at (queue_for q (after n (account n) b cs)) i).story.notes)
          e
          (rw (run-count n cs (shown_as queue_of b) q (first_of n q + i) [])
          (bytes_count q (count_of n q) (w (shown_as queue_of b) q) (queue_for q (after n (account n) b cs)) (kept q).good i));
    }
