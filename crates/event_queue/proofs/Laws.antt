-- What a completion on the event queue leaves, and the turns of the loop over its entries.
use Rattle.std.specs.Prelude.{Result as Found, Ok, Err}
use Rattle.std.proofs.Common.{Option, None, Some, ◌≡◌, ℕ, ◌+◌, Bool, true, false, List, [], get_or}
use Rattle.std.proofs.Common.{replicate, sym, refl, ap, ◌∙◌, add-one, arith}
use Rattle.chain.specs.Walk.{walk_of}
use Rattle.counts.specs.declared.DescriptorNumber.{DescriptorNumber}
use Rattle.counts.specs.declared.PageNumber.{PageNumber}
use Rattle.memory.specs.Bytes.{put}
use Rattle.ranges.specs.Ranges.{places, put_at}
use Rattle.ranges.specs.declared.Range.{Range}
use Rattle.ranges.proofs.Laws.{put_at-take}
use Rattle.registers.specs.Answers.{done, no_event_buffer, plain}
use Rattle.registers.specs.Map.{size_of}
use Rattle.registers.specs.declared.Registers.{Registers}
use Rattle.registers.specs.Rules.{has_bit}
use Rattle.ring.specs.Rules.{Completion, completion, base_of, head_of, post_of, completed_of}
use Rattle.ring.specs.declared.Cause.{Cause}
use Rattle.ring.specs.declared.Posted.{Posted}
use Rattle.card.specs.declared.Counters.{Counters}
use Rattle.rules.specs.Calls.{Result, Ended, Further, refused_with, broke, event_bytes, event_posted, event_room, event_chain, tried}
use Rattle.rules.specs.Calls.{onward}
use Rattle.rules.specs.Calls.{event_run}
use Rattle.device.specs.Device.{Rest, bytes_of, signalled_if, one_taken}
use Rattle.device.specs.Numbers.{event_queue}
use Rattle.event_queue.specs.Attempts.{holding, result_in, sent_in, tried_in, posting_of, attempt_of}
use Rattle.event_queue.specs.declared.Attempt.{Attempt}

-- ---- completing

-- an event is its code, then its data
pub event-put : (code data' : ℕ) → put 4 (put 4 (replicate 8 0) 0 code) 4 data' ≡ event_bytes code data'
unfolding put bytes_of
event-put code data' = refl

module _ (m : List ℕ) (page : PageNumber) (completed : ℕ) (head : DescriptorNumber) where
  pub delivered : (reply : List Range) (code data' : ℕ)
      → completed_of m page (size_of event_queue) completed head 8 reply 0 (event_bytes code data') 8
      ≡ posting_of m page completed head.0 reply (event_bytes code data')
  unfolding completed_of post_of posting_of bytes_of
  delivered reply code data' = rw (put_at-take 8 m (places reply) (event_bytes code data') (omega arith))

  pub passed_over : post_of m page (size_of event_queue) completed head 0 ≡ posting_of m page completed head.0 [] []
  unfolding post_of posting_of places put_at
  passed_over = refl

-- the result of a completion
result_on : Rest → Registers → Counters → Completion → Result
result_on r g q k =
    record {
      rest = holding (signalled_if k.interrupt g) (record { taken = (one_taken q).taken; completed = k.completed }) r;
      answer = plain done;
      count = 0;
      mem = k.memory;
    }

pub posted-result : (over : Bool) (left : ℕ) (r : Rest) (g : Registers) (q : Counters) (m after : List ℕ) (head : ℕ) (reply : List Range)
    (bytes : List ℕ) (p : Posted)
    → completion after p ≡ posting_of m (get_or g.pages event_queue (record { 0 = 0 })) q.completed head reply bytes
    → event_posted (holding g q r) m head reply bytes ≡ result_in r (attempt_of over left g q p) after
unfolding event_posted posting_of result_on
posted-result over left r g q m after head reply bytes p h = ap (result_on r g q) (sym h)

-- ---- one entry

module _ (code data' left : ℕ) (g : Registers) (q : Counters) (m : List ℕ) where
  -- the next head of the event queue
  abbrev pub next_head : Found DescriptorNumber Cause
  next_head = head_of m (get_or g.pages event_queue (record { 0 = 0 })) (size_of event_queue) q.taken

  pub tried-broken : (cause : Cause) → next_head ≡ Err cause → (r : Rest)
      → tried code data' (holding g q r) m ≡ Ended (broke event_queue cause (holding g q r) m)
  unfolding tried
  tried-broken cause h r = rw h

  -- the chain at `n` is walked, and its room is as found
  abbrev pub Roomed : DescriptorNumber → Option (List Range) → Type 0
  Roomed n o =
      (next_head ≡ Ok n)
      × (o ≡ event_room m (walk_of m (base_of (get_or g.pages event_queue (record { 0 = 0 }))) (size_of event_queue) n.0
      (has_bit g.features 28)))

  tried-at : (n : DescriptorNumber) (o : Option (List Range)) → Roomed n o → (r : Rest)
      → tried code data' (holding g q r) m ≡ event_chain code data' (holding g q r) m n.0 o
  unfolding tried
  tried-at n o f r = rw (f.0, ← f.1)

  module _ (n : DescriptorNumber) (p : Posted) (after : List ℕ) where
    -- the completion posted for that chain
    abbrev pub Posts : List Range → List ℕ → Type 0
    Posts reply bytes = completion after p ≡ posting_of m (get_or g.pages event_queue (record { 0 = 0 })) q.completed n.0 reply bytes

    pub tried-delivered : (reply : List Range) → Roomed n (Some reply) → Posts reply (event_bytes code data') → (r : Rest)
        → tried code data' (holding g q r) m ≡ tried_in r (attempt_of true left g q p) after
    tried-delivered reply f h r =
        tried-at n (Some reply) f r ∙ ap Ended (posted-result true left r g q m after n.0 reply (event_bytes code data') p h)

    pub tried-passed : Roomed n None → Posts [] [] → (r : Rest) → tried code data' (holding g q r) m
        ≡ tried_in r (attempt_of false left g q p) after
    tried-passed f h r = tried-at n None f r ∙ ap Further (posted-result false left r g q m after n.0 [] [] p h)

-- ---- the entries, one after the other

module _ (code data' n : ℕ) (r : Rest) (m : List ℕ) where
  pub run_none : n ≡ 0 → event_run code data' n r m ≡ record { result = refused_with no_event_buffer r m; left = 0 }
  unfolding event_run
  run_none h = rw h

  run_more : (k : ℕ) → n ≡ k + 1 → event_run code data' n r m ≡ onward code data' (tried code data' r m) k (event_run code data' k)
  unfolding event_run
  run_more k h = rw (h, add-one)

  module _ (r' : Rest) (a : Attempt) (after : List ℕ) (h : tried code data' r m ≡ tried_in r' a after) where
    -- an attempt that ended ends the run
    pub run-ended : (k : ℕ) → n ≡ k + 1 → a.left ≡ k → a.ended ≡ true → event_run code data' n r m ≡ sent_in r' a after
    run-ended k e l t = run_more k e ∙ rw (h, t, l)

    -- else the run goes on from what it left
    pub run-further : (k : ℕ) → n ≡ k + 1 → a.ended ≡ false
        → event_run code data' n r m ≡ event_run code data' k (holding a.registers a.counters r') after
    run-further k e t = run_more k e ∙ rw (h, t)
