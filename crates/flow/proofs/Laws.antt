-- A flow's steps as the rules have them: moving bytes on both sides.
use Rattle.std.specs.Prelude.{Some}
use mathlib.Core.Path.{◌≡◌, refl, sym, ◌∙◌, ap}
use mathlib.Core.List.{List, [], ◌∷◌, ◌++◌}
use mathlib.Core.Bool.{Bool, true, false, cond, ◌&&◌, not, true≢false}
use Prim.Native.Nat.{ℕ, zero, suc, ◌+◌, ◌-◌, ◌≤◌, ◌<◌, min}
use native.Mathlib.Nat.{sub-zero, min-eq_left}
use native.Mathlib.Omega.{arith}
use lib.Dec.{eqb, ltb}
use borrow.Author.Tests.{lt-ltb, ltb-true, ltb-false, eqb-true, eqb-false}
use lib.ListN.{length, take, drop, length-take, length-drop, length-map, length-append}
use lib.Seq.{sets, sets-eq, length-sets, drop-drop, take_all, take_at, drop_at, take-nil, take-add}
use Rattle.ranges.specs.Ranges.{Sound, ranges_of, total, places, bytes_at, put_at}
use Rattle.ranges.proofs.Laws.{length-places, take_min}
use Rattle.card.specs.Fit.{FitMessage}
use Rattle.card.specs.declared.Message.{Message}
use Rattle.card.proofs.Keeps.{no-message-fit}
use Rattle.device.specs.Counters.{counters_of, is_none}
use Rattle.device.specs.Device as rules
use Rattle.device.specs.Transfer.{worked, moved, payload_of, status_of, completed, settled, given_up, is_nil}
use Rattle.message.specs.Work.{taking_of_message, message_of}
use Rattle.message.specs.Message.{virtqueue_as, answered_of}
use Rattle.message.specs.declared.Virtqueue.{Virtqueue}
use Rattle.flow.specs.Flow.{payload_bytes, run_of, advanced_by, ended_by, Busy, FitFlow, ending_of, reaches_of, over_of, job_moved}
use Rattle.flow.specs.Flow.{job_worked}
use Rattle.flow.specs.declared.Flow.{Flow}
use Rattle.flow.specs.declared.Job.{Job}
use Rattle.flow.specs.declared.Job.TheVariants.{Transfer, Release}

-- ---- parts of lists

module _ {A : Type 0} where
  -- no more can be taken than there are
  pub take-least : (room : ℕ) (l : List A) → take room l ≡ take (min room (length l)) l
  take-least room l = sym (take_min room (length l) l ∙ take_all (length l) (take room l) (rw length-take (omega arith)))

  -- the first part of a list in which some places were written
  pub take-sets : (l vs : List A) (k : ℕ) → k + length vs ≤ length l → take (k + length vs) (sets l k vs) ≡ take k l ++ vs
  take-sets l vs k h =
      rw (sets-eq vs l k h)
      (take_at (take k l ++ vs) (drop (k + length vs) l) (k + length vs) (rw (length-append, length-take) (omega arith)))

  pub drop-sets : (l vs : List A) (k : ℕ) → k + length vs ≤ length l → drop (k + length vs) (sets l k vs) ≡ drop (k + length vs) l
  drop-sets l vs k h =
      rw (sets-eq vs l k h)
      (drop_at (take k l ++ vs) (drop (k + length vs) l) (k + length vs) (rw (length-append, length-take) (omega arith)))

  -- what is dropped and taken changes places
  pub drop-take : (n k : ℕ) (l : List A) → drop n (take k l) ≡ take (k - n) (drop n l)
  drop-take zero k l = rw sub-zero
  drop-take (suc n) zero l = let e : 0 - suc n ≡ 0 = omega arith in rw e
  drop-take (suc n) (suc k) [] = rw take-nil
  drop-take (suc n) (suc k) (x ∷ l) = let e : suc k - suc n ≡ k - n = omega arith in rw (e, drop-take n k l)

at_most : (n a b : ℕ) → n ≡ min a b → n ≤ b
at_most n a b e = omega arith

sub-both : (a b c : ℕ) → a - (b + c) ≡ a - b - c
sub-both a b c = omega arith

reaches : (n bytes framing done : ℕ) → n ≤ bytes - framing - done → n ≤ bytes - (framing + done)
reaches n bytes framing done h = omega arith

reaches-past : (n bytes framing done : ℕ) → n ≤ bytes - framing - done → n ≤ bytes - done
reaches-past n bytes framing done h = omega arith

module _ (q : Virtqueue) (ws m host : List ℕ) (f : Flow) (n : ℕ) (busy : Busy f) (inside : f.moved ≤ length host) where
  -- handing on, in the rules' terms
  pub handed-on : Sound ws f.message.request → n ≡ min (length host - f.moved) (f.message.request.bytes - 4 - f.message.done)
      → run_of ws (advanced_by n f) m
      (sets host f.moved (bytes_at m (take n (drop (4 + f.message.done) (places (ranges_of ws f.message.request))))))
      ≡ moved (counters_of rules.output) (virtqueue_as rules.output q) (run_of ws f m host)
  unfolding run_of moved payload_of
  handed-on s e =
      let P = places (ranges_of ws f.message.request) in
      let done = f.message.done in
      let xs = take n (drop (4 + done) P) in
      let long : length P ≡ f.message.request.bytes = length-places (ranges_of ws f.message.request) ∙ sym s in
      let k : min (length host - f.moved) (length P - (4 + done)) ≡ n = omega arith in
      let same : take (length host - f.moved) (drop done (drop 4 P)) ≡ xs =
      rw (drop-drop, take-least (length host - f.moved) (drop (4 + done) P), length-drop, k) in
      let few : n ≤ f.message.request.bytes - 4 - done = at_most n _ _ e in
      let size : length xs ≡ n = rw (length-take, length-drop, long) (min-eq_left (reaches n f.message.request.bytes 4 done few)) in
      let bytes : length (bytes_at m xs) ≡ n = length-map xs _ ∙ size in
      let a : take (f.moved + n) (sets host f.moved (bytes_at m xs)) ≡ take f.moved host ++ bytes_at m xs =
      rw bytes at (take-sets host (bytes_at m xs) f.moved (omega arith)) in
      let b : drop (f.moved + n) (sets host f.moved (bytes_at m xs)) ≡ drop n (drop f.moved host) =
      rw bytes at (drop-sets host (bytes_at m xs) f.moved (omega arith)) ∙ sym (drop-drop n f.moved host) in
      let c : length (sets host f.moved (bytes_at m xs)) - (f.moved + n) ≡ length host - f.moved - n =
      rw length-sets (sub-both (length host) f.moved n) in
      rw (busy, same, size, a, b, c)

  -- filling, in the rules' terms
  pub filled : Sound ws f.message.reply → n ≡ min (length host - f.moved) (f.message.reply.bytes - 8 - f.message.done)
      → run_of ws (advanced_by n f) (put_at m (take n (drop f.message.done (places (ranges_of ws f.message.reply))))
      (drop f.moved host)) host
      ≡ moved (counters_of rules.input) (virtqueue_as rules.input q) (run_of ws f m host)
  unfolding run_of moved payload_of
  filled s e =
      let P = places (ranges_of ws f.message.reply) in
      let done = f.message.done in
      let xs = take n (drop done P) in
      let long : length P ≡ f.message.reply.bytes = length-places (ranges_of ws f.message.reply) ∙ sym s in
      let t : total (ranges_of ws f.message.reply) ≡ f.message.reply.bytes = sym s in
      let k : min (f.message.reply.bytes - 8 - done) (length host - f.moved) ≡ n = omega arith in
      let same : take (length host - f.moved) (drop done (take (total (ranges_of ws f.message.reply) - 8) P)) ≡ xs =
      rw (t, drop-take, ← (take_min (f.message.reply.bytes - 8 - done) (length host - f.moved) (drop done P)), k) in
      let few : n ≤ f.message.reply.bytes - 8 - done = at_most n _ _ e in
      let size : length xs ≡ n = rw (length-take, length-drop, long) (min-eq_left (reaches-past n f.message.reply.bytes 8 done few)) in
      let a : take f.moved host ++ take n (drop f.moved host) ≡ take (f.moved + n) host = sym (take-add f.moved n host) in
      let b : drop n (drop f.moved host) ≡ drop (f.moved + n) host = drop-drop n f.moved host in
      let c : length host - f.moved - n ≡ length host - (f.moved + n) = sym (sub-both (length host) f.moved n) in
      rw (busy, same, size, a, b, c)

-- what a message moved keeps
stays-short : (done bytes framing n : ℕ) → done ≤ 1048576 → bytes ≤ 1048576 → n ≤ bytes - framing - done → done + n ≤ 1048576
stays-short done bytes framing n h k l = omega arith

stays-inside : (moved room n b : ℕ) → moved ≤ room → n ≡ min (room - moved) b → moved + n ≤ room
stays-inside moved room n b h e = omega arith

advanced-fit : (len room : ℕ) (ws : List ℕ) (f : Flow) (n bytes framing : ℕ) → Busy f → FitFlow len room ws f → bytes ≤ 1048576
    → n ≡ min (room - f.moved) (bytes - framing - f.message.done) → FitFlow len room ws (advanced_by n f)
advanced-fit len room ws f n bytes framing busy t b e =
    let g = t.message in
    let h = stays-short f.message.done bytes framing n g.moved b (at_most n _ _ e) in
    let k = stays-inside f.moved room n _ t.inside e in
    record {
      message =
          record {
            one = g.one;
            idle = λ z. absurd (omega (arith, busy, z));
            request = g.request;
            reply = g.reply;
            few = g.few;
            short-request = g.short-request;
            short-reply = g.short-reply;
            moved = h;
            request-inside = g.request-inside;
            reply-inside = g.reply-inside;
          };
      inside = k;
    }

-- the bytes moved by a transfer
pub moved_fit : (d : rules.Direction) (len room : ℕ) (ws : List ℕ) (f : Flow) (n : ℕ) → Busy f → FitFlow len room ws f
    → n ≡ min (room - f.moved) (payload_bytes d f.message - f.message.done) → FitFlow len room ws (advanced_by n f)
moved_fit rules.output len room ws f n busy t e = advanced-fit len room ws f n _ 4 busy t t.message.short-request e
moved_fit rules.input len room ws f n busy t e = advanced-fit len room ws f n _ 8 busy t t.message.short-reply e

pub no-input : rules.output ≡ rules.input → ⊥
no-input e = let n : ◌≡◌ {A = ℕ} 2 3 = ap rules.queue_number e in omega (arith, n)

-- ---- a completion

-- the message's count gone, with the counters and the interrupt of a completion
pub ended-run : (v : rules.Virtqueue) (e : rules.Ending) (code : ℕ) (ws m host : List ℕ) (f : Flow) → Busy f
    → Some code ≡ status_of v.direction e rules.well_formed
    → run_of ws (ended_by (answered_of v.direction m v.page f.counters.completed f.message.head.0
    (ranges_of ws f.message.reply) (Some code) v.latency f.message.done) f)
    (answered_of v.direction m v.page f.counters.completed f.message.head.0 (ranges_of ws f.message.reply) (Some code)
    v.latency f.message.done).memory host
    ≡ completed (counters_of v.direction) v e (run_of ws f m host)
unfolding run_of completed answered_of
ended-run v e code ws m host f busy s = rw (busy, ← s)

-- without a message in work the words mean nothing
module _ (ws ws' : List ℕ) where
  pub idle-run : (f : Flow) (m host : List ℕ) → f.message.count ≡ 0 → run_of ws f m host ≡ run_of ws' f m host
  unfolding run_of
  idle-run f m host h = rw h

  pub idle-fit : (len : ℕ) (message : Message) → message.count ≡ 0 → FitMessage len ws message → FitMessage len ws' message
  idle-fit len message h g = rw (g.idle h) (no-message-fit len ws')

-- what waits of a message in work
pub left-length : (d : rules.Direction) (ws : List ℕ) (message : Message) → Sound ws message.request → Sound ws message.reply
    → length (drop message.done (payload_of d (taking_of_message ws message))) ≡ payload_bytes d message - message.done
unfolding payload_of
left-length rules.output ws message s t = rw (length-drop, length-drop, length-places, ← s)
left-length rules.input ws message s t = rw (length-drop, length-take, length-places, ← t) (omega arith)

nil-of : (l : List ℕ) → length l ≡ 0 → is_nil l ≡ true
nil-of [] h = refl
nil-of (x ∷ l) h = absurd (omega arith)

pub not-nil : (l : List ℕ) → 0 < length l → is_nil l ≡ false
not-nil [] h = absurd (omega arith)
not-nil (x ∷ l) h = refl

some_of : (n : ℕ) → eqb n 0 ≡ false → 0 < n
some_of n h = let e = eqb-false n 0 h in omega (arith, e)

module _ (v : rules.Virtqueue) (ws m host : List ℕ) (f : Flow) (busy : Busy f) (g : FitMessage (length m) ws f.message) where
  settled-now : payload_bytes v.direction f.message - f.message.done ≡ 0
      → settled (counters_of v.direction) v (run_of ws f m host) ≡ completed (counters_of v.direction) v rules.finished
      (run_of ws f m host)
  unfolding run_of
  settled-now h = rw (
    busy,
    nil-of (drop f.message.done (payload_of v.direction (taking_of_message ws f.message)))
        (left-length v.direction ws f.message g.request g.reply ∙ h),
  )

  settled-later : 0 < payload_bytes v.direction f.message - f.message.done
      → settled (counters_of v.direction) v (run_of ws f m host) ≡ run_of ws f m host
  unfolding run_of
  settled-later h = rw (
    busy,
    not-nil (drop f.message.done (payload_of v.direction (taking_of_message ws f.message)))
        (rw (left-length v.direction ws f.message g.request g.reply) h),
  )

-- a Release of the message in work
module _ (v : rules.Virtqueue) (ws m host : List ℕ) (f : Flow) where
  given-none : f.message.count ≡ 0 → given_up (counters_of v.direction) v (run_of ws f m host) ≡ run_of ws f m host
  unfolding run_of
  given-none h = rw h

  given-one : f.message.count ≡ 1
      → given_up (counters_of v.direction) v (run_of ws f m host) ≡ completed (counters_of v.direction) v rules.released
      (run_of ws f m host)
  unfolding run_of
  given-one h = rw h

-- work by what there is: no room, no message, or both
module _ (v : rules.Virtqueue) (ws m host : List ℕ) (f : Flow) where
  worked-full : length host ≤ f.moved → worked (counters_of v.direction) v (run_of ws f m host) ≡ run_of ws f m host
  unfolding run_of
  worked-full h = let z : length host - f.moved ≡ 0 = omega arith in rw z

  worked-idle : f.message.count ≡ 0 → worked (counters_of v.direction) v (run_of ws f m host) ≡ run_of ws f m host
  unfolding run_of
  worked-idle h = by (ltb 0 (length host - f.moved)) where
    by : (b : Bool) → cond (b && not (is_none (message_of ws f.message)))
        (settled (counters_of v.direction) v (moved (counters_of v.direction) v (run_of ws f m host))) (run_of ws f m host)
        ≡ run_of ws f m host
    by true = rw h
    by false = refl

  worked-busy : f.moved < length host → f.message.count ≡ 1
      → worked (counters_of v.direction) v (run_of ws f m host) ≡ settled (counters_of v.direction) v
      (moved (counters_of v.direction) v (run_of ws f m host))
  unfolding run_of
  worked-busy h b = rw (lt-ltb 0 (length host - f.moved) (omega arith), b)

-- ---- a job's work on the message in work, by what there is

module _ (job : Job) (v : rules.Virtqueue) (ws m host : List ℕ) (f : Flow) where
  -- no message
  pub job-idle : f.message.count ≡ 0 → job_worked job v (run_of ws f m host) ≡ run_of ws f m host
  job-idle h = by job where
    by : (j : Job) → job_worked j v (run_of ws f m host) ≡ run_of ws f m host
    by Transfer = worked-idle v ws m host f h
    by Release = given-none v ws m host f h

  -- a message that the host does not reach
  pub job-full : reaches_of job f.moved (length host) ≡ false → job_worked job v (run_of ws f m host) ≡ run_of ws f m host
  job-full h = by job h where
    by : (j : Job) → reaches_of j f.moved (length host) ≡ false → job_worked j v (run_of ws f m host) ≡ run_of ws f m host
    by Transfer e = worked-full v ws m host f (ltb-false f.moved (length host) e)
    by Release e = absurd (true≢false e)

  -- a message that is moved: the flow after that
  module _ (reached : reaches_of job f.moved (length host) ≡ true) (busy : Busy f) (m' host' : List ℕ) (g : Flow)
      (run : run_of ws g m' host' ≡ job_moved job v (run_of ws f m host)) (busy' : Busy g) (fit : FitMessage (length m') ws g.message) where
    -- .. something of it waits
    pub job-later : over_of job v.direction g.message ≡ false → run_of ws g m' host' ≡ job_worked job v (run_of ws f m host)
    job-later h = by job reached run h where
      by : (j : Job) → reaches_of j f.moved (length host) ≡ true → run_of ws g m' host' ≡ job_moved j v (run_of ws f m host)
          → over_of j v.direction g.message ≡ false → run_of ws g m' host' ≡ job_worked j v (run_of ws f m host)
      by Transfer r e o =
          sym (settled-later v ws m' host' g busy' fit (some_of _ o))
          ∙ ap (settled (counters_of v.direction) v) e
          ∙ sym (worked-busy v ws m host f (ltb-true f.moved (length host) r) busy)
      by Release r e o = absurd (true≢false o)

    -- .. or it is completed
    pub job-over : over_of job v.direction g.message ≡ true
        → completed (counters_of v.direction) v (ending_of job) (run_of ws g m' host') ≡ job_worked job v (run_of ws f m host)
    job-over h = by job reached run h where
      by : (j : Job) → reaches_of j f.moved (length host) ≡ true → run_of ws g m' host' ≡ job_moved j v (run_of ws f m host)
          → over_of j v.direction g.message ≡ true
          → completed (counters_of v.direction) v (ending_of j) (run_of ws g m' host') ≡ job_worked j v (run_of ws f m host)
      by Transfer r e o =
          sym (settled-now v ws m' host' g busy' fit (eqb-true _ 0 o))
          ∙ ap (settled (counters_of v.direction) v) e
          ∙ sym (worked-busy v ws m host f (ltb-true f.moved (length host) r) busy)
      by Release r e o = ap (completed (counters_of v.direction) v rules.released) e ∙ sym (given-one v ws m host f busy)

-- a count of at most one that is not none
pub one_left : (n : ℕ) → n ≤ 1 → (n ≡ 0 → ⊥) → n ≡ 1
one_left n h k = omega arith

-- a flow after a step beside the host
pub fit-beside : (len room moved : ℕ) (ws : List ℕ) (r : Flow) → FitMessage len ws r.message → r.moved ≡ moved → moved ≤ room
    → FitFlow len room ws r
fit-beside len room moved ws r g e h = record { message = g; inside = rw e h }
