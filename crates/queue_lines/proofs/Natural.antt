-- The rules run alike over two ways of keeping a stream queue, where each operation does: nothing here knows counters or histories.
use Rattle.std.specs.Prelude.{Result, Option, Ok, Err, Some, None}
use Rattle.ring.specs.declared.Cause.{Cause}
use Rattle.counts.specs.declared.DescriptorNumber.{DescriptorNumber}
use mathlib.Core.Path.{◌≡◌, refl}
use mathlib.Core.Bool.{Bool, true, false, cond, ◌&&◌, and-eq-true_iff}
use mathlib.Core.List.{List, [], ◌++◌}
use Prim.Native.Nat.{ℕ, ◌-◌, ◌<◌}
use borrow.Author.Tests.{ltb-true}
use lib.Dec.{leb, ltb}
use lib.ListN.{length, take, drop}
use lib.Seq.{drop-drop}
use Rattle.registers.proofs.Keeps.{by_cond}
use Rattle.chain.specs.Walk.{Outcome, whole, faulted}
use Rattle.ranges.specs.Ranges.{total, all_inside}
use Rattle.ring.specs.Rules.{head_at, index_of}
use Rattle.device.specs.Answers.{going}
use Rattle.device.specs.Device.{Direction, Taking, Form, well_formed, Ending, finished, released, ill_formed, Message}
use Rattle.device.specs.Transfer.{Run, begun, is_nil, is_well, payload_of, id_of, bytes_moved}
use Rattle.device.proofs.Cases.{map-cond}
use Rattle.device.proofs.Lists.{nil-true}
use Rattle.device.proofs.Keeps.{ill-formed-none}
use Rattle.queue_lines.specs.Chains.{Virtqueue, queue_size, walked, is_on, Arrival, in_line, at_once, arrival, arrival_of, reading}
use Rattle.queue_lines.specs.Chains.{reading_of}
use Rattle.queue_lines.specs.Claim.{shown_run, also}
use Rattle.queue_lines.specs.Rules.{Ops, Front, vacant, unread, working, with_queue, fresh, onward, posted, taken, met, next}
use Rattle.queue_lines.specs.Rules.{completed, opened, on_front, left_of, moved, worked, transfer_step, release_step, line_run, taking_run}
use Rattle.queue_lines.specs.Rules.{transfer_run, release_run, found, on_found, transferred, emptied}
use Rattle.queue_lines.proofs.Host.{Past, begun-past, queue-past, stopped-past, posted-past, all-bytes, moved-past}
use Rattle.queue_lines.proofs.Lists.{times-keeps, times-alike, drop-taken}

-- ---- what memory can show

-- an entry joins a line of the queue, or is ill-formed
abbrev pub Fits : Virtqueue → Arrival → Type 0
Fits v (in_line i) = i < v.streams
Fits v (at_once t) = is_well t.form ≡ false

pub judged-ill : (m : List ℕ) (x : Bool) → is_well (cond x (cond false well_formed Form.refused) Form.silent) ≡ false
judged-ill m true = refl
judged-ill m false = refl

pub arrival-fits : (v : Virtqueue) (m : List ℕ) (head : ℕ) → Fits v (arrival_of v m head)
unfolding arrival_of
arrival-fits v m head = go (walked v m head)
  where
    go : (o : Outcome) → Fits v (arrival v m head o)
    go (faulted f) = refl
    go (whole request reply) =
        by_cond (Fits v) (all_inside (length m) request && leb 4 (total request) && is_on v (id_of m request))
        (λ e.
        ltb-true _ _ ((and-eq-true_iff (leb v.first (id_of m request)) (ltb (id_of m request - v.first) v.streams)).0
        ((and-eq-true_iff (all_inside (length m) request && leb 4 (total request)) (is_on v (id_of m request))).0 e).1).1)
        (λ e. judged-ill m (all_inside (length m) reply && leb 8 (total reply)))

-- a reading names its head
pub reading-head : (v : Virtqueue) (i : ℕ) (m : List ℕ) (head : ℕ) → (reading_of v i m head).head ≡ head
unfolding reading_of
reading-head v i m head = go (walked v m head)
  where
    go : (o : Outcome) → (reading v i m head o).head ≡ head
    go (faulted f) = refl
    go (whole request reply) = refl

-- ---- two ways of keeping a queue that are alike

-- `f` shows a queue kept one way as one kept the other, where `I` holds; `I` tells of the bytes moved so far, of each line
pub record Alike {H Q : Type 0} (A : Ops H) (D : Ops Q) (d : Direction) (n : ℕ) (f : H → Q) (I : (ℕ → List ℕ) → H → Type 0) : Type 0 where
  pub empty-same : D.empty ≡ f A.empty
  pub empty-keeps : I (λ i. []) A.empty
  pub none-keeps : (w : ℕ → List ℕ) (h : H) (i : ℕ) → I w h → I (also i w []) h
  pub new-same : (h : H) (index : ℕ) → D.new (f h) index ≡ A.new h index
  pub place_same : (h : H) → D.place (f h) ≡ A.place h
  pub used_place-same : (h : H) → D.used_place (f h) ≡ A.used_place h
  pub used_index-same : (h : H) → D.used_index (f h) ≡ A.used_index h
  pub in_work-same : (w : ℕ → List ℕ) (h : H) → I w h → D.in_work (f h) ≡ A.in_work h
  pub queued-same : (w : ℕ → List ℕ) (h : H) (i : ℕ) → I w h → D.queued i (f h) ≡ A.queued i h
  pub front_same : (h : H) (i : ℕ) → D.front i (f h) ≡ A.front i h
  pub join-same : (w : ℕ → List ℕ) (h : H) (i head : ℕ) → I w h → D.join i head (f h) ≡ f (A.join i head h)
  pub join-keeps : (w : ℕ → List ℕ) (h : H) (i head : ℕ) → I w h → i < n → I w (A.join i head h)
  pub bounce-same : (h : H) (t : Taking) (latency : ℕ) → D.bounce t latency (f h) ≡ f (A.bounce t latency h)
  pub bounce-keeps : (w : ℕ → List ℕ) (h : H) (t : Taking) (latency : ℕ) → I w h → I w (A.bounce t latency h)
  pub begin-same :
      (w : ℕ → List ℕ) (h : H) (i : ℕ) (t : Taking) → I w h → A.front i h ≡ unread t.head → D.begin i t (f h) ≡ f (A.begin i t h)
  pub begin-keeps : (w : ℕ → List ℕ) (h : H) (i : ℕ) (t : Taking) → I w h → A.front i h ≡ unread t.head → I w (A.begin i t h)
  pub begin-front :
      (w : ℕ → List ℕ) (h : H) (i : ℕ) (t : Taking) → I w h → A.front i h ≡ unread t.head
      → A.front i (A.begin i t h) ≡ working (fresh t)
  pub hand-same :
      (h : H) (i : ℕ) (m : Message) (bytes xs : List ℕ) → A.front i h ≡ working m → D.hand i bytes xs (f h) ≡ f (A.hand i bytes xs h)
  pub hand-keeps :
      (w : ℕ → List ℕ) (h : H) (i : ℕ) (m : Message) (room : ℕ) (before bytes : List ℕ)
      → I (also i w before) h
      → A.front i h ≡ working m
      → length bytes ≡ length (take room (drop m.done (payload_of d m.taking)))
      → I (also i w (before ++ bytes)) (A.hand i bytes (take room (drop m.done (payload_of d m.taking))) h)
  pub hand-front :
      (h : H) (i : ℕ) (m : Message) (bytes xs : List ℕ) → A.front i h ≡ working m
      → A.front i (A.hand i bytes xs h) ≡ working (onward (length xs) m)
  pub complete-same :
      (w : ℕ → List ℕ) (h : H) (i : ℕ) (m : Message) (e : Ending) (latency : ℕ) → I w h → A.front i h ≡ working m
      → D.complete i e latency (f h) ≡ f (A.complete i e latency h)
  pub complete-keeps :
      (w : ℕ → List ℕ) (h : H) (i : ℕ) (m : Message) (e : Ending) (latency : ℕ) → I w h → A.front i h ≡ working m
      → ((e ≡ released → ⊥) → drop m.done (payload_of d m.taking) ≡ [])
      → I w (A.complete i e latency h)

-- ---- the rules over two such

-- two such, of a queue
pub record Pair (H Q : Type 0) (d : Direction) (n : ℕ) : Type 1 where
  pub one : Ops H
  pub other : Ops Q
  pub shown : H → Q
  pub kept : (ℕ → List ℕ) → H → Type 0
  pub alike : Alike one other d n shown kept

module _ {H Q : Type 0} (v : Virtqueue) (two : Pair H Q v.direction v.streams) where
  abbrev A : Ops H
  A = two.one

  abbrev D : Ops Q
  D = two.other

  abbrev f : H → Q
  f = two.shown

  abbrev I : (ℕ → List ℕ) → H → Type 0
  I = two.kept

  abbrev L : Alike A D v.direction v.streams f I
  L = two.alike

  abbrev lower : Run H → Run Q
  lower r = shown_run f r

  posted-same : (e : Ending) (w : Message) (q : H) (s : Run H) → posted D v e w (f q) (lower s) ≡ lower (posted A v e w q s)
  unfolding shown_run posted
  posted-same e w q s = rw (L.used_place-same s.queue, L.used_index-same s.queue)

  -- `g`: what was said of each line, by the bytes of this call
  module _ (g : List ℕ → ℕ → List ℕ) (host : List ℕ) where
    -- what a call keeps, beside what is left of the host's bytes
    pub record Fine (s : Run H) : Type 0 where
      pub kept : I (g s.bytes) s.queue
      pub past : Past host s

    -- ---- taking

    taken-same : (head : ℕ) (a : Arrival) (s : Run H) → Fine s → taken D v head a (lower s) ≡ lower (taken A v head a s)
    unfolding shown_run
    taken-same head (in_line i) s p = rw (L.join-same (g s.bytes) s.queue i head p.kept)
    taken-same head (at_once t) s p =
        rw (L.bounce-same s.queue t v.latency) (posted-same ill_formed (fresh t) (A.bounce t v.latency s.queue) s)

    pub taken-keeps : (head : ℕ) (a : Arrival) (s : Run H) → Fits v a → Fine s → Fine (taken A v head a s)
    unfolding posted
    taken-keeps head (in_line i) s l p =
        record {
          kept = L.join-keeps (g s.bytes) s.queue i head p.kept l;
          past = queue-past host (A.join i head s.queue) s p.past;
        }
    taken-keeps head (at_once t) s l p =
        record {
          kept = L.bounce-keeps (g s.bytes) s.queue t v.latency p.kept;
          past = posted-past host A v ill_formed (fresh t) (A.bounce t v.latency s.queue) s p.past;
        }

    met-same : (x : Result DescriptorNumber Cause) (s : Run H) → Fine s → met D v x (lower s) ≡ lower (met A v x s)
    unfolding shown_run
    met-same (Ok n) s p = taken-same n.0 (arrival_of v s.mem n.0) s p
    met-same (Err cause) s p = refl

    met-keeps : (x : Result DescriptorNumber Cause) (s : Run H) → Fine s → Fine (met A v x s)
    met-keeps (Ok n) s p = taken-keeps n.0 (arrival_of v s.mem n.0) s (arrival-fits v s.mem n.0) p
    met-keeps (Err cause) s p = record { kept = p.kept; past = stopped-past host cause s p.past }

    abbrev head_now : Run H → Result DescriptorNumber Cause
    head_now s = head_at s.mem v.page (queue_size v) (A.place s.queue)

    next-same : (s : Run H) → Fine s → next D v (lower s) ≡ lower (next A v s)
    unfolding next shown_run
    next-same s p = rw (L.place_same s.queue) (map-cond lower (going s.stop) (λ e. met-same (head_now s) s p) (λ e. refl))

    pub next-keeps : (s : Run H) → Fine s → Fine (next A v s)
    unfolding next
    next-keeps s p = by_cond Fine (going s.stop) (λ e. met-keeps (head_now s) s p) (λ e. p)

    pub taking-keeps : (new : ℕ) (s : Run H) → Fine s → Fine (taking_run A v new s)
    unfolding taking_run
    taking-keeps new s p = times-keeps Fine (next A v) next-keeps new s p

    pub taking-same : (new : ℕ) (s : Run H) → Fine s → taking_run D v new (lower s) ≡ lower (taking_run A v new s)
    unfolding taking_run
    taking-same new s p = times-alike lower Fine (next A v) (next D v) next-same next-keeps new s p

    -- ---- the front of line i

    module _ (i : ℕ) where
      -- with this message begun
      pub record Begun (m : Message) (s : Run H) : Type 0 where
        pub fine : Fine s
        pub front : A.front i s.queue ≡ working m

      completed-same : (e : Ending) (m : Message) (s : Run H) → Begun m s → completed D v i e m (lower s) ≡ lower (completed A v i e m s)
      unfolding completed shown_run
      completed-same e m s p =
          rw (L.complete-same (g s.bytes) s.queue i m e v.latency p.fine.kept p.front)
          (posted-same e m (A.complete i e v.latency s.queue) s)

      pub completed-keeps :
          (e : Ending) (m : Message) (s : Run H)
          → Begun m s
          → ((e ≡ released → ⊥) → left_of A v m ≡ [])
          → Fine (completed A v i e m s)
      unfolding completed posted
      completed-keeps e m s p all =
          record {
            kept = L.complete-keeps (g s.bytes) s.queue i m e v.latency p.fine.kept p.front all;
            past = posted-past host A v e m (A.complete i e v.latency s.queue) s p.fine.past;
          }

      -- the front is read
      module _ (t : Taking) (s : Run H) (p : Fine s) (e : A.front i s.queue ≡ unread t.head) where
        abbrev pub read : Run H
        read = with_queue (A.begin i t s.queue) s

        pub read-begun : Begun (fresh t) read
        read-begun =
            record {
              fine =
                  record {
                    kept = L.begin-keeps (g s.bytes) s.queue i t p.kept e;
                    past = queue-past host (A.begin i t s.queue) s p.past;
                  };
              front = L.begin-front (g s.bytes) s.queue i t p.kept e;
            }

        read_same : with_queue (D.begin i t (lower s).queue) (lower s) ≡ lower read
        unfolding shown_run
        read_same = rw (L.begin-same (g s.bytes) s.queue i t p.kept e)

      -- what is done with a message that is begun
      module _ (go_a : Message → Run H → Run H) (go_d : Message → Run Q → Run Q)
          (go_same : (m : Message) (s : Run H) → Begun m s → go_d m (lower s) ≡ lower (go_a m s))
          (go-keeps : (m : Message) (s : Run H) → Begun m s → Fine (go_a m s)) where
        module _ (t : Taking) (s : Run H) (p : Fine s) (e : A.front i s.queue ≡ unread t.head) where
          opened-same : opened D v i go_d t (lower s) ≡ lower (opened A v i go_a t s)
          unfolding opened
          opened-same =
              rw (read_same t s p e)
              (map-cond lower (is_well t.form) (λ w. go_same (fresh t) (read t s p e) (read-begun t s p e))
              (λ w. completed-same ill_formed (fresh t) (read t s p e) (read-begun t s p e)))

          pub opened-keeps : Fine (opened A v i go_a t s)
          unfolding opened
          opened-keeps =
              by_cond Fine (is_well t.form) (λ w. go-keeps (fresh t) (read t s p e) (read-begun t s p e))
              (λ w. completed-keeps ill_formed (fresh t) (read t s p e) (read-begun t s p e) (λ n. ill-formed-none v.direction t w))

        front_same : (x : Front) (s : Run H) → Fine s → A.front i s.queue ≡ x
            → on_front D v i go_d x (lower s) ≡ lower (on_front A v i go_a x s)
        unfolding shown_run
        front_same vacant s p e = refl
        front_same (unread head) s p e =
            let t : Taking = reading_of v i s.mem head in
            opened-same t s p (rw (reading-head v i s.mem head) e)
        front_same (working m) s p e = go_same m s (record { fine = p; front = e })

        front-keeps : (x : Front) (s : Run H) → Fine s → A.front i s.queue ≡ x → Fine (on_front A v i go_a x s)
        front-keeps vacant s p e = p
        front-keeps (unread head) s p e =
            let t : Taking = reading_of v i s.mem head in
            opened-keeps t s p (rw (reading-head v i s.mem head) e)
        front-keeps (working m) s p e = go-keeps m s (record { fine = p; front = e })

        pub on-front-same :
            (s : Run H) → Fine s → on_front D v i go_d (D.front i (lower s).queue) (lower s) ≡ lower
            (on_front A v i go_a (A.front i s.queue) s)
        unfolding shown_run
        on-front-same s p = rw (L.front_same s.queue i) (front_same (A.front i s.queue) s p refl)

        pub on-front-keeps : (s : Run H) → Fine s → Fine (on_front A v i go_a (A.front i s.queue) s)
        on-front-keeps s p = front-keeps (A.front i s.queue) s p refl

      -- ---- a Release

      release-same : (s : Run H) → Fine s → release_step D v i (lower s) ≡ lower (release_step A v i s)
      unfolding release_step
      release-same =
          on-front-same (completed A v i released) (completed D v i released)
          (completed-same released) (λ m s p. completed-keeps released m s p (λ n. absurd (n refl)))

      pub release-keeps : (s : Run H) → Fine s → Fine (release_step A v i s)
      unfolding release_step
      release-keeps =
          on-front-keeps (completed A v i released) (completed D v i released)
          (completed-same released) (λ m s p. completed-keeps released m s p (λ n. absurd (n refl)))

      -- ---- any steps, once all is taken

      module _ (step_a : Run H → Run H) (step_d : Run Q → Run Q)
          (same : (s : Run H) → Fine s → step_d (lower s) ≡ lower (step_a s)) (keeps : (s : Run H) → Fine s → Fine (step_a s)) where
        line_run-same : (s : Run H) → Fine s → line_run D v i step_d (lower s) ≡ lower (line_run A v i step_a s)
        unfolding shown_run
        line_run-same s p =
            rw (L.queued-same (g s.bytes) s.queue i p.kept)
            (map-cond lower (going s.stop) (λ e. times-alike lower Fine step_a step_d same keeps (A.queued i s.queue) s p) (λ e. refl))

        line_run-keeps : (s : Run H) → Fine s → Fine (line_run A v i step_a s)
        line_run-keeps s p = by_cond Fine (going s.stop) (λ e. times-keeps Fine step_a keeps (A.queued i s.queue) s p) (λ e. p)

      pub release_run-same : (new : ℕ) (s : Run H) → Fine s → release_run D v i new (lower s) ≡ lower (release_run A v i new s)
      unfolding release_run
      release_run-same new s p =
          rw (taking-same new s p)
          (line_run-same (release_step A v i) (release_step D v i) release-same release-keeps (taking_run A v new s) (taking-keeps new s p))

      pub release_run-keeps : (new : ℕ) (s : Run H) → Fine s → Fine (release_run A v i new s)
      unfolding release_run
      release_run-keeps new s p =
          line_run-keeps (release_step A v i) (release_step D v i) release-same release-keeps (taking_run A v new s) (taking-keeps new s p)

  -- ---- a transfer of line i

  module _ (w : ℕ → List ℕ) (i : ℕ) (host : List ℕ) where
    abbrev pub Right : Run H → Type 0
    Right s = Fine (also i w) host s

    module _ (m : Message) (s : Run H) (p : Begun (also i w) host i m s) where
      abbrev xs : List ℕ
      xs = take s.room (left_of A v m)

      abbrev bytes : List ℕ
      bytes = bytes_moved v.direction xs s.host s.mem

      moved_same : moved D v i xs (lower s) ≡ lower (moved A v i xs s)
      unfolding shown_run moved
      moved_same = rw (L.hand-same s.queue i m bytes xs p.front)

      pub moved-begun : Begun (also i w) host i (onward (length xs) m) (moved A v i xs s)
      unfolding moved
      moved-begun =
          record {
            fine =
                record {
                  kept =
                      L.hand-keeps w s.queue i m s.room s.bytes bytes p.fine.kept p.front
                      (all-bytes host A v i (left_of A v m) s p.fine.past);
                  past = moved-past host A v i (left_of A v m) s p.fine.past;
                };
            front = L.hand-front s.queue i m bytes xs p.front;
          }

      pub nothing_left : is_nil (drop s.room (left_of A v m)) ≡ true → left_of A v (onward (length xs) m) ≡ []
      nothing_left e = rw (← drop-drop, drop-taken) (nil-true (drop s.room (left_of A v m)) e)

      worked_same : worked D v i m (lower s) ≡ lower (worked A v i m s)
      unfolding worked shown_run
      worked_same =
          rw moved_same
          (map-cond lower (is_nil (drop s.room (left_of A v m)))
          (λ e. completed-same (also i w) host i finished (onward (length xs) m) (moved A v i xs s) moved-begun) (λ e. refl))

      pub worked-keeps : Right (worked A v i m s)
      unfolding worked
      worked-keeps =
          by_cond Right (is_nil (drop s.room (left_of A v m)))
          (λ e.
          completed-keeps (also i w) host i finished (onward (length xs) m) (moved A v i xs s) moved-begun (λ n. nothing_left e))
          (λ e. moved-begun.fine)

    transfer-same : (s : Run H) → Right s → transfer_step D v i (lower s) ≡ lower (transfer_step A v i s)
    unfolding transfer_step shown_run
    transfer-same s p =
        map-cond lower (ltb 0 s.room)
        (λ e. on-front-same (also i w) host i (worked A v i) (worked D v i) worked_same worked-keeps s p) (λ e. refl)

    pub transfer-keeps : (s : Run H) → Right s → Right (transfer_step A v i s)
    unfolding transfer_step
    transfer-keeps s p =
        by_cond Right (ltb 0 s.room)
        (λ e. on-front-keeps (also i w) host i (worked A v i) (worked D v i) worked_same worked-keeps s p) (λ e. p)

    pub transfer_run-same : (new : ℕ) (s : Run H) → Right s → transfer_run D v i new (lower s) ≡ lower (transfer_run A v i new s)
    unfolding transfer_run
    transfer_run-same new s p =
        rw (taking-same (also i w) host new s p)
        (line_run-same (also i w) host i (transfer_step A v i) (transfer_step D v i) transfer-same transfer-keeps (taking_run A v new s)
        (taking-keeps (also i w) host new s p))

    pub transfer_run-keeps : (new : ℕ) (s : Run H) → Right s → Right (transfer_run A v i new s)
    unfolding transfer_run
    transfer_run-keeps new s p =
        line_run-keeps (also i w) host i (transfer_step A v i) (transfer_step D v i) transfer-same transfer-keeps (taking_run A v new s)
        (taking-keeps (also i w) host new s p)

  -- ---- a call's part on the queue

  module _ (w : ℕ → List ℕ) (i : ℕ) (q : H) (m : List ℕ) (k : I w q) where
    pub found-same : found D v (f q) m ≡ found A v q m
    found-same = rw (L.new-same q (index_of m v.page (queue_size v)), L.in_work-same w q k)

    -- by what its check finds
    module _ (P : Run H → Type 0) (run_a : ℕ → Run H → Run H) (run_d : ℕ → Run Q → Run Q)
        (same : (new : ℕ) (s : Run H) → P s → run_d new (lower s) ≡ lower (run_a new s)) where
      on_found-same : (c : Result (Option ℕ) Cause) (s : Run H) → P s → on_found D v run_d (lower s) c ≡ lower (on_found A v run_a s c)
      unfolding shown_run
      on_found-same (Ok None) s p = refl
      on_found-same (Err cause) s p = refl
      on_found-same (Ok (Some n)) s p = same n s p

    begun-same : (host : List ℕ) → begun (f q) m host ≡ lower (begun q m host)
    unfolding shown_run
    begun-same host = refl

    pub begun-right : (host : List ℕ) → Right w i host (begun q m host)
    begun-right host = record { kept = L.none-keeps w q i k; past = begun-past host q m }

    pub begun-fine : Fine (λ bytes. w) [] (begun q m [])
    begun-fine = record { kept = k; past = begun-past [] q m }

    pub transferred-same : (host : List ℕ) → transferred D v i (f q) m host ≡ lower (transferred A v i q m host)
    unfolding transferred
    transferred-same host =
        rw (found-same, begun-same host)
        (on_found-same (Right w i host) (transfer_run A v i) (transfer_run D v i) (transfer_run-same w i host) (found A v q m)
        (begun q m host)
        (begun-right host))

    pub emptied-same : emptied D v i (f q) m ≡ lower (emptied A v i q m)
    unfolding emptied
    emptied-same =
        rw (found-same, begun-same [])
        (on_found-same (Fine (λ bytes. w) []) (release_run A v i) (release_run D v i) (release_run-same (λ bytes. w) [] i) (found A v q m)
        (begun q m [])
        begun-fine)

    module _ (g : List ℕ → ℕ → List ℕ) (host : List ℕ) (run : ℕ → Run H → Run H)
        (keeps : (new : ℕ) (s : Run H) → Fine g host s → Fine g host (run new s)) where
      on_found-keeps : (c : Result (Option ℕ) Cause) (s : Run H) → Fine g host s → Fine g host (on_found A v run s c)
      on_found-keeps (Ok None) s p = p
      on_found-keeps (Err cause) s p = record { kept = p.kept; past = stopped-past host cause s p.past }
      on_found-keeps (Ok (Some n)) s p = keeps n s p

    pub transferred-keeps : (host : List ℕ) → Right w i host (transferred A v i q m host)
    unfolding transferred
    transferred-keeps host =
        on_found-keeps (also i w) host (transfer_run A v i) (transfer_run-keeps w i host) (found A v q m) (begun q m host)
        (begun-right host)

    pub emptied-keeps : Fine (λ bytes. w) [] (emptied A v i q m)
    unfolding emptied
    emptied-keeps =
        on_found-keeps (λ bytes. w) [] (release_run A v i) (release_run-keeps (λ bytes. w) [] i) (found A v q m) (begun q m []) begun-fine
