-- Demand 3 on a card of several streams: `demand-3`.
use mathlib.Core.Path.{◌≡◌, refl, sym, ap, subst, ◌∙◌}
use mathlib.Core.Bool.{Bool, true, false, cond}
use mathlib.Core.List.{List, [], ◌∷◌}
use Prim.Native.Nat.{ℕ, ◌+◌, ◌-◌, ◌%◌, ◌≤◌, ◌<◌}
use native.Mathlib.Omega.{arith}
use borrow.Author.Tests.{ltb-false}
use lib.Dec.{ltb}
use lib.ListN.{length}
use Rattle.description.specs.declared.Description.{Description}
use Rattle.registers.specs.Map.{size_of}
use Rattle.ring.specs.Rules.{new_of}
use Rattle.device.specs.Device.{Direction, output, input, queue_number, Device, queue_for}
use Rattle.device.proofs.Reading.{lost-by-release}
use Rattle.rules.specs.Claim.{shown_as}
use Rattle.rules.proofs.Calls.{low, shown-queue}
use Rattle.queue_lines.specs.Claim.{queue_of, Good}
use Rattle.queue_lines.specs.Counters.{Queue}
use Rattle.queue_lines.specs.Histories.{History, line_at, histories_of}
use Rattle.queue_lines.specs.Turn.{Book}
use Rattle.queue_lines.proofs.Reading.{answered-or-standing, taken-count, in_order, heads-in-order, unread-waits}
use Rattle.queue_lines.proofs.Said.{said, written_out_lem}
use Rattle.line_calls.specs.Calls.{Call, step}
use Rattle.line_calls.specs.Claim.{card, account, start, after, heard, counted}
use Rattle.line_calls.specs.Demand3.{EachCall, OfQueue, OfStream, Demand3}
use Rattle.line_calls.specs.Streams.{Streams, streams_of, direction_of, first_of, count_of}
use Rattle.line_calls.proofs.Backlog.{remembers}
use Rattle.line_calls.proofs.Calls.{Kepts, then, step_same, step_keeps}
use Rattle.line_calls.proofs.Theorem.{unsaid, start-kept, start-shown, holds}
use Rattle.line_calls.proofs.Turns.{accounted}

-- ---- each call

each-call : (n : Streams) (cs : List Call) (w : Direction → ℕ → List ℕ) (b : Device History) → Kepts n w b
    → EachCall n w (shown_as queue_of b) b cs
unfolding low
each-call n [] w b k = tt
each-call n (c ∷ cs) w b k =
    (accounted n w b k c, rw (step_same n w b c k) (each-call n cs (then n w b c) (step n (account n) b c).state (step_keeps n w b c k)))

-- ---- of a queue

module _ (d : Direction) (n : ℕ) (w : ℕ → List ℕ) (h : History) (g : Good d n w h) (b : Book d h) where
  of-queue : (q : Queue) → q ≡ queue_of h → (histories_of d n).in_work h ≤ size_of (queue_number d) → OfQueue d h q
  unfolding queue_of size_of
  of-queue q e l =
      record {
        numbered = g.numbered;
        once = answered-or-standing d n w h g;
        answers = b.answers;
        says = said d h.entries b.answers;
        within = omega (arith, taken-count d n w h g);
        rollover = λ made below above. rw e (rolls made (length h.takings) (size_of (queue_number d)) below above (small d));
      }
    where
      small : (d : Direction) → size_of (queue_number d) < 65536
      small output = omega arith
      small input = omega arith

      rolls : (made taken size : ℕ) → taken ≤ made → made ≤ taken + size → size < 65536
          → new_of (made % 65536) (taken % 65536) ≡ made - taken
      rolls made taken size below above s = omega arith

  -- ---- of a stream

  of-stream : (i : ℕ) (bytes : List ℕ) (count : ℕ) → w i ≡ bytes → count ≡ length (line_at h i).story.notes → OfStream d i h bytes count
  of-stream i bytes count e c =
      let l = g.line i in
      record {
        order = in_order d n w h g i;
        entries = l.entries;
        heads = rw (← l.joined) (heads-in-order d n w h g i);
        read = rw (← l.joined) l.read;
        chains = l.chains;
        few = l.story.few;
        one = l.story.one;
        in-work = b.in-work i;
        places = l.story.once;
        addresses = l.story.read;
        in_order = b.in_order i;
        given-up = λ t. lost-by-release d (w i) (line_at h i).story l.story t;
        unread = unread-waits d n w h g i;
        told = l.story.bytes ∙ e;
        counts = c;
      }

-- a stream and its line
of-line : (n : Streams) (id : ℕ) → first_of n (direction_of n id) + (id - first_of n (direction_of n id)) ≡ id
of-line n id = go (ltb id n.outputs) refl
  where
    go : (x : Bool) → ltb id n.outputs ≡ x → first_of n (cond x output input) + (id - first_of n (cond x output input)) ≡ id
    go true e = omega arith
    go false e = omega (arith, ltb-false id n.outputs e)

pub demand-3 : (d : Description) (len : ℕ) (cs : List Call) → Demand3 d len cs
demand-3 d len cs =
    let n : Streams = streams_of d in
    let all = holds d len cs in
    let h : Direction → History = λ q. queue_for q (after n (account n) (start n (account n) d len) cs) in
    let w : Direction → ℕ → List ℕ = λ q i. heard n (card n) q (first_of n q + i) [] (start n (card n) d len) cs in
    record {
      calls =
          subst (λ (k : Device Queue). EachCall n (unsaid n) k (start n (account n) d len) cs) (start-shown n d len)
          (each-call n cs (unsaid n) (start n (account n) d len) (start-kept n d len));
      queue = λ q.
          of-queue q (count_of n q) (w q) (h q) (all.good q) (all.book q) (queue_for q (after n (card n) (start n (card n) d len) cs))
          (ap (queue_for q) all.stands ∙ shown-queue queue_of (after n (account n) (start n (account n) d len) cs) q) (all.within q);
      stream = λ id.
          let q = direction_of n id in
          let i = id - first_of n q in
          let e : first_of n q + i ≡ id = of-line n id in
          of-stream q (count_of n q) (w q) (h q) (all.good q) (all.book q) i (heard n (card n) q id [] (start n (card n) d len) cs)
          (counted n (card n) q id 0 (start n (card n) d len) cs)
          (ap (λ (s : ℕ). heard n (card n) q s [] (start n (card n) d len) cs) e)
          (ap (λ (s : ℕ). counted n (card n) q s 0 (start n (card n) d len) cs) (sym e) ∙ all.adds q i);
      written_out_lem = written_out_lem;
      remembered = remembers n (card n) d len cs;
    }
