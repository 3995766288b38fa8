-- In all lines together are as many messages as were taken and not completed: the rules keep it.
use Rattle.std.specs.Prelude.{Option, Result, Ok, Err, Some, None}
use Rattle.ring.specs.declared.Cause.{Cause}
use Rattle.counts.specs.declared.DescriptorNumber.{DescriptorNumber}
use Rattle.std.proofs.Common.{◌≡◌, ℕ, zero, suc, ◌+◌, ◌-◌, ◌%◌, ◌<◌, ◌≤◌, eqb, ltb, List, [], ◌∷◌, ◌++◌, length, get_or, take, drop, set}
use Rattle.std.proofs.Common.{refl, ◌∙◌, arith, length-append, length-set, get_or-set_same, ltb-false}
use Rattle.registers.proofs.Keeps.{by_cond}
use Rattle.ring.specs.Layout.{end_at}
use Rattle.ring.specs.Rules.{base_of, index_of, found_of, head_at, new_of}
use Rattle.device.specs.Answers.{going}
use Rattle.device.specs.Counters.{further}
use Rattle.device.specs.Device.{Direction, output, input, queue_number, Taking, Message, Ending, released, finished, ill_formed}
use Rattle.device.specs.Transfer.{Run, is_nil, is_well}
use Rattle.registers.specs.Map.{size_of}
use Rattle.queue_lines.specs.Chains.{Virtqueue, queue_size, Arrival, in_line, at_once, arrival_of, reading_of}
use Rattle.queue_lines.specs.Claim.{card}
use Rattle.queue_lines.specs.Counters.{Line, Queue, no_line, front_of, sum_of, length_of, line_in}
use Rattle.queue_lines.specs.Rules.{times, fresh, onward, posted, taken, met, next, completed, opened, on_front, left_of, moved, worked}
use Rattle.queue_lines.specs.Rules.{transfer_step, release_step, taking_run, found}
use Rattle.queue_lines.proofs.Lists.{sum_of-set}
use Rattle.queue_lines.proofs.Natural.{Fits, arrival-fits}

small : (d : Direction) → size_of (queue_number d) ≤ 256
unfolding size_of
small output = omega arith
small input = omega arith

one-taken : (t c n : ℕ) → c < 65536 → (t + (65536 - c)) % 65536 ≡ n → n + 1 ≤ 256 → ((t + 1) % 65536 + (65536 - c)) % 65536 ≡ n + 1
one-taken t c n w e h = omega arith

one-completed : (t c n : ℕ) → c < 65536 → (t + (65536 - c)) % 65536 ≡ n + 1 → (t + (65536 - (c + 1) % 65536)) % 65536 ≡ n
one-completed t c n w e = omega arith

both-counted : (t c n : ℕ) → c < 65536 → (t + (65536 - c)) % 65536 ≡ n → ((t + 1) % 65536 + (65536 - (c + 1) % 65536)) % 65536 ≡ n
both-counted t c n w e = omega arith

module _ (v : Virtqueue) where
  abbrev pub total : Queue → ℕ
  total q = sum_of length_of q.lines

  -- where so many more may still be taken
  pub record Counted (left : ℕ) (q : Queue) : Type 0 where
    pub wraps : q.completed < 65536
    pub balanced : (q.taken + (65536 - q.completed)) % 65536 ≡ total q
    pub few : total q + left ≤ queue_size v
    pub lines : length q.lines ≡ v.streams

  fewer : (n : ℕ) (q : Queue) → Counted (suc n) q → Counted n q
  fewer n q k = record { wraps = k.wraps; balanced = k.balanced; few = omega (arith, k.few); lines = k.lines }

  -- ---- another line in the place of one

  module _ (n i : ℕ) (q : Queue) (there : i < v.streams) (x : Line) where
    set-total : (k : Counted n q) → sum_of length_of (set q.lines i x) + length_of (line_in i q) ≡ total q + length_of x
    set-total k = sum_of-set length_of q.lines i x no_line (rw k.lines there)

    altered : Counted n q → length_of x ≡ length_of (line_in i q)
        → Counted n (record { taken = q.taken; completed = q.completed; lines = set q.lines i x })
    altered k e =
        let same : sum_of length_of (set q.lines i x) ≡ total q = omega (arith, set-total k, e) in
        record { wraps = k.wraps; balanced = rw same k.balanced; few = rw same k.few; lines = length-set q.lines i x ∙ k.lines }

    ended : Counted n q → length_of x + 1 ≡ length_of (line_in i q)
        → Counted n (record { taken = q.taken; completed = (q.completed + 1) % 65536; lines = set q.lines i x })
    ended k e =
        let less : total q ≡ sum_of length_of (set q.lines i x) + 1 = omega (arith, set-total k, e) in
        record {
          wraps = omega arith;
          balanced = one-completed q.taken q.completed _ k.wraps (k.balanced ∙ less);
          few = omega (arith, k.few, less);
          lines = length-set q.lines i x ∙ k.lines;
        }

    grown : Counted (suc n) q → length_of x ≡ length_of (line_in i q) + 1
        → Counted n (record { taken = (q.taken + 1) % 65536; completed = q.completed; lines = set q.lines i x })
    grown k e =
        let k' = fewer n q k in
        let more : sum_of length_of (set q.lines i x) ≡ total q + 1 = omega (arith, set-total k', e) in
        record {
          wraps = k.wraps;
          balanced = rw more (one-taken q.taken q.completed _ k.wraps k.balanced (omega (arith, k.few, small v.direction)));
          few = rw more (omega (arith, k.few));
          lines = length-set q.lines i x ∙ k.lines;
        }

  -- ---- taking

  taken-counted : (n head : ℕ) (a : Arrival) (r : Run Queue) → Fits v a → Counted (suc n) r.queue
      → Counted n (taken (card v) v head a r).queue
  unfolding posted
  taken-counted n head (in_line i) r there k =
      let l = line_in i r.queue in
      grown n i r.queue there (record { begun = l.begun; heads = l.heads ++ head ∷ [] }) k (rw length-append (omega arith))
  taken-counted n head (at_once t) r ill k =
      let q = r.queue in
      record {
        wraps = omega arith;
        balanced = both-counted q.taken q.completed _ k.wraps k.balanced;
        few = omega (arith, k.few);
        lines = k.lines;
      }

  met-counted : (n : ℕ) (h : Result DescriptorNumber Cause) (r : Run Queue) → Counted (suc n) r.queue → Counted n (met (card v) v h r).queue
  met-counted n (Ok d) r k = taken-counted n d.0 (arrival_of v r.mem d.0) r (arrival-fits v r.mem d.0) k
  met-counted n (Err cause) r k = fewer n r.queue k

  next-counted : (n : ℕ) (r : Run Queue) → Counted (suc n) r.queue → Counted n (next (card v) v r).queue
  unfolding next
  next-counted n r k =
      by_cond (λ (s : Run Queue). Counted n s.queue) (going r.stop)
      (λ e. met-counted n (head_at r.mem v.page (queue_size v) ((card v).place r.queue)) r k) (λ e. fewer n r.queue k)

  pub taking-counted : (n : ℕ) (r : Run Queue) → Counted n r.queue → Counted 0 (taking_run (card v) v n r).queue
  unfolding taking_run times
  taking-counted zero r k = k
  taking-counted (suc n) r k = taking-counted n (next (card v) v r) (next-counted n r k)

  -- the check lets no more be taken than there is room for
  abbrev pub Room : Queue → Result (Option ℕ) Cause → Type 0
  Room q (Ok None) = Unit {0}
  Room q (Err cause) = Unit {0}
  Room q (Ok (Some n)) = total q + n ≤ queue_size v

  pub room-found : (q : Queue) (m : List ℕ) → Room q (found (card v) v q m)
  unfolding found_of
  room-found q m =
      let new = new_of (index_of m v.page (queue_size v)) q.taken in
      by_cond (Room q) (eqb v.page.0 0) (λ e. tt)
      (λ e.
      by_cond (Room q) (ltb (length m) (base_of v.page + end_at (queue_size v))) (λ e. tt)
      (λ e. by_cond (Room q) (ltb (queue_size v) (new + total q)) (λ e. tt)
      (λ e. omega (arith, ltb-false (queue_size v) (new + total q) e))))

  -- ---- the line of one stream

  module _ (i : ℕ) (there : i < v.streams) where
    here : (q : Queue) (x : Line) → Counted 0 q → get_or (set q.lines i x) i no_line ≡ x
    here q x k = get_or-set_same q.lines i x no_line (rw k.lines there)

    completed-counted : (e : Ending) (w : Message) (r : Run Queue) → (line_in i r.queue).begun ≡ Some w → Counted 0 r.queue
        → Counted 0 (completed (card v) v i e w r).queue
    unfolding completed posted
    completed-counted e w r busy k =
        let l = line_in i r.queue in
        ended 0 i r.queue there (record { begun = None; heads = l.heads }) k (rw busy (omega arith))

    moved-counted : (w : Message) (xs : List ℕ) (r : Run Queue) → (line_in i r.queue).begun ≡ Some w → Counted 0 r.queue
        → Counted 0 (moved (card v) v i xs r).queue
    unfolding moved
    moved-counted w xs r busy k =
        let l = line_in i r.queue in
        altered 0 i r.queue there (record { begun = further (length xs) l.begun; heads = l.heads }) k (rw busy)

    moved-busy : (w : Message) (xs : List ℕ) (r : Run Queue) → (line_in i r.queue).begun ≡ Some w → Counted 0 r.queue
        → (line_in i (moved (card v) v i xs r).queue).begun ≡ Some (onward (length xs) w)
    unfolding moved
    moved-busy w xs r busy k =
        let l = line_in i r.queue in
        rw (here r.queue (record { begun = further (length xs) l.begun; heads = l.heads }) k, busy)

    worked-counted : (w : Message) (r : Run Queue) → (line_in i r.queue).begun ≡ Some w → Counted 0 r.queue
        → Counted 0 (worked (card v) v i w r).queue
    unfolding worked
    worked-counted w r busy k =
        let xs = take r.room (left_of (card v) v w) in
        let u = moved-counted w xs r busy k in
        by_cond (λ (s : Run Queue). Counted 0 s.queue) (is_nil (drop r.room (left_of (card v) v w)))
        (λ e. completed-counted finished (onward (length xs) w) (moved (card v) v i xs r) (moved-busy w xs r busy k) u) (λ e. u)

    -- what is done with a message in work keeps the count
    module _ (go : Message → Run Queue → Run Queue)
        (keeps : (w : Message) (r : Run Queue) → (line_in i r.queue).begun ≡ Some w → Counted 0 r.queue
        → Counted 0 (go w r).queue) where
      opened-counted : (head : ℕ) (heads : List ℕ) (t : Taking) (r : Run Queue) → (line_in i r.queue).begun ≡ None
          → (line_in i r.queue).heads ≡ head ∷ heads → Counted 0 r.queue → Counted 0 (opened (card v) v i go t r).queue
      unfolding opened
      opened-counted head heads t r idle e k =
          let q = r.queue in
          let x : Line = record { begun = Some (fresh t); heads = drop 1 (line_in i q).heads } in
          let u = altered 0 i q there x k (rw (idle, e) (omega arith)) in
          let busy : (get_or (set q.lines i x) i no_line).begun ≡ Some (fresh t) = rw (here q x k) in
          by_cond (λ (s : Run Queue). Counted 0 s.queue) (is_well t.form) (λ w. keeps (fresh t) _ busy u)
          (λ w. completed-counted ill_formed (fresh t) _ busy u)

      front-counted : (b : Option Message) (heads : List ℕ) (r : Run Queue) → (line_in i r.queue).begun ≡ b
          → (line_in i r.queue).heads ≡ heads → Counted 0 r.queue
          → Counted 0 (on_front (card v) v i go (front_of b heads) r).queue
      front-counted (Some w) heads r busy e k = keeps w r busy k
      front-counted None [] r idle e k = k
      front-counted None (head ∷ heads) r idle e k = opened-counted head heads (reading_of v i r.mem head) r idle e k

    pub transfer-counted : (r : Run Queue) → Counted 0 r.queue → Counted 0 (transfer_step (card v) v i r).queue
    unfolding transfer_step
    transfer-counted r k =
        by_cond (λ (s : Run Queue). Counted 0 s.queue) (ltb 0 r.room)
        (λ e. front-counted (worked (card v) v i) worked-counted (line_in i r.queue).begun (line_in i r.queue).heads r refl refl k)
        (λ e. k)

    pub release-counted : (r : Run Queue) → Counted 0 r.queue → Counted 0 (release_step (card v) v i r).queue
    unfolding release_step
    release-counted r k =
        front-counted (completed (card v) v i released) (completed-counted released)
        (line_in i r.queue).begun (line_in i r.queue).heads r
        refl refl k
