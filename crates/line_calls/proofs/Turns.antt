-- What one call does to the queues' histories, to memory and to the count: by the part that it has on each.
use Rattle.std.specs.Prelude.{Option, None, Some}
use mathlib.Core.Path.{◌≡◌, refl, sym, ap, subst, ◌∙◌}
use mathlib.Core.Bool.{false, cond, true≢false}
use mathlib.Core.List.{List, []}
use mathlib.Core.Logic.{inl, inr}
use Prim.Native.Nat.{ℕ, suc, ◌≤◌, ◌<◌}
use borrow.Author.Tests.{eqb-false}
use lib.Dec.{eqb}
use lib.ListN.{length, take}
use Rattle.registers.specs.Answers.{done, plain}
use Rattle.device.specs.Device.{Direction, output, input, queue_number, finished, released, Device, queue_for, page_of, with_queue, Rest}
use Rattle.device.specs.Histories.{number}
use Rattle.device.specs.Transfer.{Run, Transferred, transferred_by}
use Rattle.device.proofs.Cases.{none-some}
use Rattle.device.proofs.Grown.{grows_none}
use Rattle.rules.specs.Account.{release_replied}
use Rattle.rules.specs.Calls.{Told, Pending, untouched, transfer_step, remembering}
use Rattle.rules.specs.Claim.{shown_as}
use Rattle.rules.proofs.Calls.{low}
use Rattle.rules.proofs.Answered.{going_done, released-going, release-memory}
use Rattle.queue_lines.specs.Chains.{Virtqueue, line_of}
use Rattle.queue_lines.specs.Claim.{queue_of, Beside, TakenAll, Drained}
use Rattle.queue_lines.specs.Histories.{History, line_at}
use Rattle.queue_lines.specs.Parts.{Part, clears, transfers, releases, lies, part_of}
use Rattle.queue_lines.specs.Rules.{transferred, emptied}
use Rattle.queue_lines.proofs.Holds.{Kept, part-turn}
use Rattle.queue_lines.proofs.Read.{acts-held}
use Rattle.queue_lines.proofs.Reading.{beside-untouched}
use Rattle.queue_lines.proofs.Shown.{acts-took}
use Rattle.queue_lines.proofs.Writes.{acts-wrote, acts-host}
use Rattle.line_calls.specs.Account.{transfer_of, transfer_part, part_in, ShownIn, Acted, Moved, Turn}
use Rattle.line_calls.specs.Calls.{Call, lay_of, virtqueue_of, release_queue, runs_on, transferred_of, release_by, asked, step}
use Rattle.line_calls.specs.Claim.{card, account}
use Rattle.line_calls.specs.Demand3.{touches, Alone, Accounted, available_in}
use Rattle.line_calls.specs.Streams.{Streams, direction_of, first_of, count_of}
use Rattle.line_calls.proofs.Calls.{by-admitted, Kepts, ran, asked-queue, step_same}
use Rattle.queue_lines.proofs.Drained.{transfer-takes, transfer-drains, release-drains}
use Rattle.rules.proofs.Backlog.{done-admitted}

module _ (n : Streams) (d : Direction) (said : ℕ → List ℕ) (h : History) (k : Kept d (first_of n d) (count_of n d) said h) where
  few : (i : ℕ) → number (line_at h i).story ≤ length (line_at h i).story.takings
  few i = (k.good.line i).story.few

  one : (i : ℕ) → length (line_at h i).story.takings ≤ suc (number (line_at h i).story)
  one i = (k.good.line i).story.one

  -- as memory then showed it
  part-shown : (p : Part) → ShownIn n d p h (part_of d (first_of n d) (count_of n d) (account n d) p h)
  unfolding part_of
  part-shown clears = tt
  part-shown (transfers lay i m host) =
      let a = (part-turn d (first_of n d) (count_of n d) said h k (transfers lay i m host)).acts in
      let v : Virtqueue = lies d (first_of n d) (count_of n d) lay in
      record {
        wrote = acts-wrote v i finished host m h (few i) (one i) a;
        took = acts-took v m h i finished host a;
        held = λ o. acts-held v m h i finished host (inl o) (few i) (one i) a o;
      }
  part-shown (releases lay i m) =
      let a = (part-turn d (first_of n d) (count_of n d) said h k (releases lay i m)).acts in
      let v : Virtqueue = lies d (first_of n d) (count_of n d) lay in
      record {
        wrote = acts-wrote v i released [] m h (few i) (one i) a;
        took = acts-took v m h i released [] a;
        held = λ o. acts-held v m h i released [] (inr refl) (few i) (one i) a o;
      }

  part-acted : (p : Part) (a : History) → a ≡ (part_of d (first_of n d) (count_of n d) (account n d) p h).queue → Acted n d said p h a
  part-acted p a e =
      record {
        turn = part-turn d (first_of n d) (count_of n d) said h k p;
        leads = e;
        shown = part-shown p;
      }

  -- a line that the part does not touch
  part-beside : (o : Option Part) (j : ℕ) → touches j o ≡ false → Beside (line_at h j) (line_at (ran n d o h) j)
  unfolding part_of
  part-beside None j e = record { story = refl; joined = grows_none (line_at h j).joined }
  part-beside (Some clears) j e = absurd (true≢false e)
  part-beside (Some (transfers lay i m host)) j e =
      (part-turn d (first_of n d) (count_of n d) said h k (transfers lay i m host)).adds.others j (eqb-false j i e)
  part-beside (Some (releases lay i m)) j e =
      (part-turn d (first_of n d) (count_of n d) said h k (releases lay i m)).adds.others j (eqb-false j i e)

  part-alone : (o : Option Part) (j : ℕ) (a : History) → a ≡ ran n d o h → touches j o ≡ false → Alone n j h a
  part-alone o j a e z =
      let b : Beside (line_at h j) (line_at a j) =
      subst (λ (x : History). Beside (line_at h j) (line_at x j)) (sym e) (part-beside o j z) in
      record { account = b; card = beside-untouched d (count_of n d) said h k.good a j b }

-- ---- one call

-- a transfer past its checks is told by its run
transfer-runs : (n : Streams) (b : Device History) (m : List ℕ) (d : Direction) (id : ℕ) (host : List ℕ) (backlog : ℕ)
    → let v : Virtqueue = virtqueue_of n b.rest d backlog in
    transfer_part n d id host backlog b.rest m ≡ Some (transfers (lay_of b.rest d backlog) (line_of v id) m host)
    → transferred_of n (account n) d id backlog b m host
    ≡ transferred_by (queue_number d) b.rest.registers (transferred (account n d) v (line_of v id) (queue_for d b) m host)
unfolding transferred_of
transfer-runs n b m d id host backlog =
    let v : Virtqueue = virtqueue_of n b.rest d backlog in
    let p : Part = transfers (lay_of b.rest d backlog) (line_of v id) m host in
    let run = transferred_by (queue_number d) b.rest.registers (transferred (account n d) v (line_of v id) (queue_for d b) m host) in
    by-admitted (λ (t : Transferred History) (o : Option Part). o ≡ Some p → t ≡ run) (runs_on n b.rest d id) b.rest m
    {f = λ (number : ℕ). untouched (plain number) b.rest.registers (queue_for d b) m} {g = λ (number : ℕ). None}
    (λ number e. absurd (none-some p e)) (λ r e. refl)

-- .. and one that is refused moves nothing
transfer-refused : (n : Streams) (b : Device History) (m : List ℕ) (d : Direction) (id : ℕ) (host : List ℕ) (backlog : ℕ)
    → transfer_part n d id host backlog b.rest m ≡ None
    → let t : Transferred History = transferred_of n (account n) d id backlog b m host in
    (t.mem ≡ m) × (t.bytes ≡ [])
unfolding transferred_of
transfer-refused n b m d id host backlog =
    let p : Part = transfers (lay_of b.rest d backlog) (line_of (virtqueue_of n b.rest d backlog) id) m host in
    by-admitted (λ (t : Transferred History) (o : Option Part). o ≡ None → (t.mem ≡ m) × (t.bytes ≡ [])) (runs_on n b.rest d id)
    b.rest m
    {f = λ (number : ℕ). untouched (plain number) b.rest.registers (queue_for d b) m} {g = λ (number : ℕ). None}
    (λ number e. (refl, refl)) (λ r e. absurd (none-some p (sym e)))

module _ (n : Streams) (w : Direction → ℕ → List ℕ) (b : Device History) (k : Kepts n w b) (c : Call) where
  abbrev after : Device History
  after = (step n (account n) b c).state

  leads : (d : Direction) → queue_for d after ≡ ran n d (part_in n d c.asked b.rest c.lent) (queue_for d b)
  leads d = asked-queue n (w d) b c.lent d c.asked

  -- by its arguments and the memory lent
  module _ (m : List ℕ) (d : Direction) (id : ℕ) (host : List ℕ) (backlog : ℕ) where
    abbrev v : Virtqueue
    v = virtqueue_of n b.rest d backlog

    abbrev run : Run History
    run = transferred (account n d) v (line_of v id) (queue_for d b) m host

    -- the bytes of a capture
    run-captured : d ≡ input → run.bytes ≡ take (length run.bytes) host
    run-captured e =
        let p : Part = transfers (lay_of b.rest d backlog) (line_of v id) m host in
        acts-host v (line_of v id) finished host m (queue_for d b) e
        (part-turn d (first_of n d) (count_of n d) (w d) (queue_for d b) (k d) p).acts

    run_moved : (t : Transferred History) → t ≡ transferred_by (queue_number d) b.rest.registers run → (told : Told)
        → told.memory ≡ t.mem
        → told.bytes ≡ t.bytes
        → told.count ≡ length t.bytes
        → Moved n d host told run
    run_moved t e told memory bytes count =
        record {
          memory = memory ∙ ap (λ (t : Transferred History). t.mem) e;
          bytes = bytes ∙ ap (λ (t : Transferred History). t.bytes) e;
          count = count ∙ ap (λ (t : Transferred History). length t.bytes) e;
          captured = λ z. rw (bytes, count, e) (run-captured z);
        }

  moved_told : (m : List ℕ) (d : Direction) (id : ℕ) (host : List ℕ) (backlog : ℕ)
      → let v : Virtqueue = virtqueue_of n b.rest d backlog in
      part_in n d (transfer_of d id host backlog) b.rest m ≡ Some (transfers (lay_of b.rest d backlog) (line_of v id) m host)
      → Moved n d host (asked n (account n) (transfer_of d id host backlog) b m).told
      (transferred (account n d) v (line_of v id) (queue_for d b) m host)
  unfolding transfer_step remembering
  moved_told m output id host backlog e =
      run_moved m output id host backlog (transferred_of n (account n) output id backlog b m host)
      (transfer-runs n b m output id host backlog e) _ refl refl refl
  moved_told m input id host backlog e =
      run_moved m input id host backlog (transferred_of n (account n) input id backlog b m host)
      (transfer-runs n b m input id host backlog e) _ refl refl refl

  refused-told : (m : List ℕ) (d : Direction) (id : ℕ) (host : List ℕ) (backlog : ℕ)
      → part_in n d (transfer_of d id host backlog) b.rest m ≡ None
      → let t : Told = (asked n (account n) (transfer_of d id host backlog) b m).told in
      (t.memory ≡ m) × (t.bytes ≡ []) × (t.count ≡ 0)
  unfolding transfer_step remembering
  refused-told m output id host backlog e =
      let r = transfer-refused n b m output id host backlog e in
      (r.0, r.1, ap length r.1)
  refused-told m input id host backlog e =
      let r = transfer-refused n b m input id host backlog e in
      (r.0, r.1, ap length r.1)

  released-told : (id : ℕ) (p : Pending) (m : List ℕ)
      → let d : Direction = direction_of n id in
      let v : Virtqueue = release_queue n id p.rest in
      let r : Run History = emptied (account n d) v (line_of v id) (queue_for d b) m in
      let t : Told = (release_by n (account n) id p b m).told in
      t.memory ≡ cond (eqb t.answer.number done) (release_replied p r.mem) r.mem
  unfolding release_by
  released-told id p m =
      let d : Direction = direction_of n id in
      let v : Virtqueue = release_queue n id p.rest in
      let r : Run History = emptied (account n d) v (line_of v id) (queue_for d b) m in
      release-memory d id p r.mem r.stop r.signal

  turn : (d : Direction) → Turn n d (w d) b c (step n (account n) b c).told after
  turn d =
      record {
        nothing = λ e. leads d ∙ ap (λ (o : Option Part). ran n d o (queue_for d b)) e;
        part = λ p e.
            part-acted n d (w d) (queue_for d b) (k d) p (queue_for d after)
            (leads d ∙ ap (λ (o : Option Part). ran n d o (queue_for d b)) e);
        moved = λ id host backlog q e. rw q (moved_told c.lent d id host backlog (rw q at e));
        refused = λ id host backlog q e. rw q (refused-told c.lent d id host backlog (rw q at e));
        released = λ id p q o e. rw (q, o, ← e) (released-told id p c.lent);
      }

  -- ---- what is taken, and what is left in line

  abbrev lies_in : Direction → ℕ → Virtqueue
  lies_in d backlog = virtqueue_of n b.rest d backlog

  -- a transfer that answers 0, by its run
  abbrev Ends : (d : Direction) (id : ℕ) (host : List ℕ) (backlog : ℕ) → Device History → Told → Type 0
  Ends d id host backlog a t =
      TakenAll (available_in (lies_in d backlog) c.lent) (queue_for d a)
      × (t.count < length host → Drained (available_in (lies_in d backlog) c.lent) (line_of (lies_in d backlog) id) (queue_for d a))

  run_ends : (d : Direction) (id : ℕ) (host : List ℕ) (backlog : ℕ) → ((page_of b.rest (queue_number d)).0 ≡ 0 → ⊥)
      → let t : Transferred History = transferred_of n (account n) d id backlog b c.lent host in
      let v : Virtqueue = lies_in d backlog in
      t.answer.number ≡ done
      → TakenAll (available_in v c.lent) t.queue
      × (length t.bytes < length host → Drained (available_in v c.lent) (line_of v id) t.queue)
  unfolding transferred_of
  run_ends d id host backlog based =
      let v : Virtqueue = lies_in d backlog in
      let h : History = queue_for d b in
      let r : Run History = transferred (account n d) v (line_of v id) h c.lent host in
      done-admitted (runs_on n b.rest d id) b.rest h c.lent (transferred_by (queue_number d) b.rest.registers r)
      (λ (t : Transferred History).
      TakenAll (available_in v c.lent) t.queue
      × (length t.bytes < length host → Drained (available_in v c.lent) (line_of v id) t.queue))
      (λ e a.
      let Going-on = going_done (queue_number d) r.stop a in (
        transfer-takes v (line_of v id) (w d) h c.lent (k d).good based host Going-on,
        λ l. transfer-drains v (line_of v id) (w d) h c.lent (k d).good based host Going-on l,
      ))

  asked-ends : (d : Direction) (id : ℕ) (host : List ℕ) (backlog : ℕ) → ((page_of b.rest (queue_number d)).0 ≡ 0 → ⊥)
      → let s = asked n (account n) (transfer_of d id host backlog) b c.lent in
      s.told.answer.number ≡ done
      → Ends d id host backlog s.state s.told
  unfolding transfer_step remembering
  asked-ends output id host backlog based a = run_ends output id host backlog based a
  asked-ends input id host backlog based a = run_ends input id host backlog based a

  ends : (d : Direction) (id : ℕ) (host : List ℕ) (backlog : ℕ) → c.asked ≡ transfer_of d id host backlog
      → (step n (account n) b c).told.answer.number ≡ done
      → ((page_of b.rest (queue_number d)).0 ≡ 0 → ⊥)
      → Ends d id host backlog after (step n (account n) b c).told
  ends d id host backlog q a based = rw q (asked-ends d id host backlog based (rw q at a))

  own_put : (d : Direction) (r : Rest) (q : History) → queue_for d (with_queue d r q b) ≡ q
  own_put output r q = refl
  own_put input r q = refl

  released-ends : (id : ℕ) (p : Pending)
      → let d : Direction = direction_of n id in
      let v : Virtqueue = release_queue n id p.rest in
      let s = release_by n (account n) id p b c.lent in
      (v.page.0 ≡ 0 → ⊥)
      → s.told.answer.number ≡ done
      → Drained (available_in v c.lent) (line_of v id) (queue_for d s.state)
  unfolding release_by
  released-ends id p based a =
      let d : Direction = direction_of n id in
      let v : Virtqueue = release_queue n id p.rest in
      let h : History = queue_for d b in
      let r : Run History = emptied (account n d) v (line_of v id) h c.lent in
      rw (own_put d)
      (release-drains v (line_of v id) (w d) h c.lent (k d).good based
      (released-going d id p r.mem r.stop r.signal a))

  pub accounted : Accounted n w (shown_as queue_of b) b c
  unfolding low
  accounted =
      let e = step_same n w b c k in
      record {
        takes = λ d id host backlog q a based. (ends d id host backlog q (rw e at a) based).0;
        transfer-drains = λ d id host backlog q a l based. (ends d id host backlog q (rw e at a) based).1 (rw e at l);
        release-drains = λ id p q o a based. rw (q, o) (released-ends id p based (rw (e, q, o) at a));
        told = ap (λ s. s.told) e;
        stands = ap (λ s. s.state) e;
        turn = λ d. rw e (turn d);
        alone = λ d j z.
            part-alone n d (w d) (queue_for d b) (k d) (part_in n d c.asked b.rest c.lent) j (queue_for d after) (leads d) z;
      }
