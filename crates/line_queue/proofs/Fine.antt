-- The messages of all lines have heads of the table, and something of each message in work waits: the rules keep it.
use Rattle.std.specs.Prelude.{Option, None, Some, Result, Ok, Err}
use Rattle.ring.specs.declared.Cause.{Cause}
use Rattle.counts.specs.declared.DescriptorNumber.{DescriptorNumber}
use Rattle.std.proofs.Common.{◌≡◌, ℕ, ◌+◌, ◌<◌, false, ltb, List, [], ◌∷◌, ◌++◌, length, get_or, take, drop, set, sym, refl, ap, ◌∙◌}
use Rattle.std.proofs.Common.{length-set, get_or-set_same, drop-drop, set-set, ltb-true}
use Rattle.counts.specs.declared.PageNumber.{PageNumber}
use Rattle.memory.specs.Bytes.{le}
use Rattle.registers.proofs.Keeps.{by_cond}
use Rattle.ring.specs.Layout.{ring_place_at}
use Rattle.ring.specs.Rules.{base_of, head_at}
use Rattle.device.specs.Account.{Each}
use Rattle.device.specs.Answers.{going}
use Rattle.device.specs.Counters.{further}
use Rattle.device.specs.Device.{well_formed, Taking, Message, Ending, released, finished, ill_formed}
use Rattle.device.specs.Transfer.{Run, is_nil, is_well, payload_of}
use Rattle.device.proofs.Cases.{none-some, some_same, well-of}
use Rattle.queue_lines.specs.Chains.{Virtqueue, queue_size, Arrival, in_line, at_once, arrival_of, reading_of}
use Rattle.queue_lines.specs.Claim.{card}
use Rattle.queue_lines.specs.Counters.{Line, Queue, no_line, front_of, line_in}
use Rattle.queue_lines.specs.Rules.{fresh, onward, posted, taken, met, next, completed, opened, on_front, left_of, moved, worked}
use Rattle.queue_lines.specs.Rules.{transfer_step, release_step, taking_run}
use Rattle.queue_lines.specs.Turn.{Waits}
use Rattle.queue_lines.proofs.Lists.{times-keeps, changed-keeps, drop-taken}
use Rattle.queue_lines.proofs.Natural.{reading-head}
use Rattle.line_queue.specs.Between.{FitIn}

each_more : (P : ℕ → Type 0) (l : List ℕ) (x : ℕ) → Each P l → P x → Each P (l ++ x ∷ [])
each_more P [] x e p = (p, tt)
each_more P (y ∷ l) x e p = (e.0, each_more P l x e.1 p)

-- a head that is met is one of the table
abbrev Below : ℕ → Result DescriptorNumber Cause → Type 0
Below N (Ok n) = n.0 < N
Below N (Err cause) = Unit {0}

head-below : (m : List ℕ) (page : PageNumber) (N place : ℕ) → Below N (head_at m page N place)
unfolding head_at
head-below m page N place =
    let number = le 2 m (base_of page + ring_place_at N place) in
    by_cond (Below N) (ltb number N) (λ e. ltb-true number N e) (λ e. tt)

module _ (v : Virtqueue) where
  abbrev InTable : ℕ → Type 0
  InTable head = head < queue_size v

  -- the lines of a queue
  abbrev pub Fine : Queue → Type 0
  Fine q = (j : ℕ) → FitIn v (line_in j q)

  -- ---- taking

  taken_fine : (head : ℕ) (a : Arrival) (r : Run Queue) → InTable head → Fine r.queue → Fine (taken (card v) v head a r).queue
  unfolding posted
  taken_fine head (in_line i) r h f j =
      changed-keeps (FitIn v) no_line (λ (l : Line). record { begun = l.begun; heads = l.heads ++ head ∷ [] })
      (λ l p. record { begun = p.begun; heads = each_more InTable l.heads head p.heads h }) r.queue.lines i j (f j)
  taken_fine head (at_once t) r h f j = f j

  met-fine : (h : Result DescriptorNumber Cause) (r : Run Queue) → Below (queue_size v) h → Fine r.queue → Fine (met (card v) v h r).queue
  met-fine (Ok n) r h f = taken_fine n.0 (arrival_of v r.mem n.0) r h f
  met-fine (Err cause) r h f = f

  next-fine : (r : Run Queue) → Fine r.queue → Fine (next (card v) v r).queue
  unfolding next
  next-fine r f =
      let place = (card v).place r.queue in
      by_cond (λ (s : Run Queue). Fine s.queue) (going r.stop)
      (λ e. met-fine (head_at r.mem v.page (queue_size v) place) r (head-below r.mem v.page (queue_size v) place) f) (λ e. f)

  pub taking-fine : (n : ℕ) (r : Run Queue) → Fine r.queue → Fine (taking_run (card v) v n r).queue
  unfolding taking_run
  taking-fine n r f = times-keeps (λ (s : Run Queue). Fine s.queue) (next (card v) v) next-fine n r f

  -- ---- the line of one stream

  module _ (i : ℕ) where
    -- all lines but this one: whatever fit line comes in its place
    record Near (q : Queue) : Type 0 where
      there : i < length q.lines
      others : (x : Line) → FitIn v x → (j : ℕ) → FitIn v (get_or (set q.lines i x) j no_line)

    fine-near : (q : Queue) → i < length q.lines → Fine q → Near q
    fine-near q there f =
        record { there = there; others = λ x p j. changed-keeps (FitIn v) no_line (λ (l : Line). x) (λ l e. p) q.lines i j (f j) }

    near-set : (t c : ℕ) (q : Queue) (x : Line) → Near q → Near (record { taken = t; completed = c; lines = set q.lines i x })
    near-set t c q x n =
        record { there = rw length-set n.there; others = λ y p j. rw (set-set q.lines i x y) (n.others y p j) }

    here : (q : Queue) (x : Line) → Near q → get_or (set q.lines i x) i no_line ≡ x
    here q x n = get_or-set_same q.lines i x no_line n.there

    -- a message in work on this line, and those behind it
    record Busy (w : Message) (q : Queue) : Type 0 where
      near : Near q
      begun : (line_in i q).begun ≡ Some w
      heads : Each InTable (line_in i q).heads
      well : w.taking.form ≡ well_formed
      head : InTable w.taking.head

    ended-fit : (heads : List ℕ) → Each InTable heads → FitIn v (record { begun = None; heads = heads })
    ended-fit heads e = record { begun = λ w b. absurd (none-some w b); heads = e }

    completed-fine : (e : Ending) (w : Message) (r : Run Queue) → Near r.queue → Each InTable (line_in i r.queue).heads
        → Fine (completed (card v) v i e w r).queue
    unfolding completed posted
    completed-fine e w r n heads = n.others _ (ended-fit (line_in i r.queue).heads heads)

    module _ (w : Message) (r : Run Queue) (b : Busy w r.queue) where
      abbrev xs : List ℕ
      xs = take r.room (left_of (card v) v w)

      -- the line once these bytes are moved
      abbrev further-line : Line
      further-line = record { begun = further (length xs) (line_in i r.queue).begun; heads = (line_in i r.queue).heads }

      moved-near : Near (moved (card v) v i xs r).queue
      unfolding moved
      moved-near = near-set _ _ r.queue further-line b.near

      moved-heads : Each InTable (line_in i (moved (card v) v i xs r).queue).heads
      unfolding moved
      moved-heads = rw (here r.queue further-line b.near) b.heads

      left_over : is_nil (drop r.room (left_of (card v) v w)) ≡ false → Waits v.direction (onward (length xs) w)
      left_over e =
          record {
            well = b.well;
            some_left =
                ap is_nil (sym (drop-drop (length xs) w.done (payload_of v.direction w.taking))
                ∙ drop-taken r.room (left_of (card v) v w))
                ∙ e;
          }

      further-fit : is_nil (drop r.room (left_of (card v) v w)) ≡ false → FitIn v further-line
      further-fit e =
          rw b.begun
          (record { begun = λ u s. rw (← (some_same (onward (length xs) w) u s)) (b.head, left_over e); heads = b.heads })

      moved-fine : is_nil (drop r.room (left_of (card v) v w)) ≡ false → Fine (moved (card v) v i xs r).queue
      unfolding moved
      moved-fine e = b.near.others further-line (further-fit e)

      worked-fine : Fine (worked (card v) v i w r).queue
      unfolding worked
      worked-fine =
          by_cond (λ (s : Run Queue). Fine s.queue) (is_nil (drop r.room (left_of (card v) v w)))
          (λ e. completed-fine finished (onward (length xs) w) (moved (card v) v i xs r) moved-near moved-heads) moved-fine

    -- what is done with a message in work
    module _ (go : Message → Run Queue → Run Queue) (keeps : (w : Message) (r : Run Queue) → Busy w r.queue → Fine (go w r).queue) where
      opened-fine : (head : ℕ) (heads : List ℕ) (t : Taking) (r : Run Queue) → i < length r.queue.lines → t.head ≡ head
          → (line_in i r.queue).heads ≡ head ∷ heads → Fine r.queue → Fine (opened (card v) v i go t r).queue
      unfolding opened
      opened-fine head heads t r there named e f =
          let q = r.queue in
          let x : Line = record { begun = Some (fresh t); heads = drop 1 (line_in i q).heads } in
          let n = fine-near q there f in
          let all : Each InTable (head ∷ heads) = rw e at (f i).heads in
          let behind : Each InTable (drop 1 (line_in i q).heads) = rw e all.1 in
          let still : Each InTable (get_or (set q.lines i x) i no_line).heads = rw (here q x n) behind in
          let after = near-set q.taken q.completed q x n in
          by_cond (λ (s : Run Queue). Fine s.queue) (is_well t.form)
          (λ w. keeps (fresh t) _ (record {
            near = after;
            begun = rw (here q x n);
            heads = still;
            well = well-of t.form w;
            head = rw named all.0;
          }))
          (λ w. completed-fine ill_formed (fresh t) _ after still)

      front-fine : (b : Option Message) (heads : List ℕ) (r : Run Queue) → i < length r.queue.lines → (line_in i r.queue).begun ≡ b
          → (line_in i r.queue).heads ≡ heads → Fine r.queue → Fine (on_front (card v) v i go (front_of b heads) r).queue
      front-fine (Some w) heads r there busy e f =
          let g = (f i).begun w busy in
          keeps w r (record { near = fine-near r.queue there f; begun = busy; heads = (f i).heads; well = g.1.well; head = g.0 })
      front-fine None [] r there idle e f = f
      front-fine None (head ∷ heads) r there idle e f =
          opened-fine head heads (reading_of v i r.mem head) r there (reading-head v i r.mem head) e f

    pub transfer-fine : (r : Run Queue) → i < length r.queue.lines → Fine r.queue → Fine (transfer_step (card v) v i r).queue
    unfolding transfer_step
    transfer-fine r there f =
        let l = line_in i r.queue in
        by_cond (λ (s : Run Queue). Fine s.queue) (ltb 0 r.room)
        (λ e. front-fine (worked (card v) v i) worked-fine l.begun l.heads r there refl refl f) (λ e. f)

    pub release-fine : (r : Run Queue) → i < length r.queue.lines → Fine r.queue → Fine (release_step (card v) v i r).queue
    unfolding release_step
    release-fine r there f =
        let l = line_in i r.queue in
        front-fine (completed (card v) v i released) (λ w r b. completed-fine released w r b.near b.heads) l.begun l.heads r
        there refl refl f
