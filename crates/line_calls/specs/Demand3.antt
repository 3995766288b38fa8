-- Demand 3 on a card of several streams, in plain words. Power a card up, and make any calls on it: register accesses, control, play,
-- capture and event calls, refused ones included; between two calls the guest rewrites memory as it likes, and the monitor may lend memory
-- of another length. Then, of what the calls returned, since the last reset or base write of a stream queue:
--   of the queue: memory after each call is memory before it with the entries written in order (for a capture also the bytes recorded);
--   every used entry answers one chain that was taken from the available ring, no chain is answered twice, and only messages in line are
--   not answered yet; what was taken, and what was read when its turn came, is what memory then showed;
--   of each stream: its entries name the heads taken for it, in order (bad ones taken out of turn have their own entries); each payload
--   position of each message read is handed on, given up by a Release or waiting, once and in order; a message not read yet waits as a
--   whole; the bytes that its transfers told are those noted, in order, and their counts add up to the positions handed on;
--   a call moves, gives up or completes nothing of another stream's line; the latency that a Release tells is that of the last transfer of
--   its stream that was answered 0, since reset.
-- The account is fed what power-up is given, then each call's arguments and the memory lent to it. `Demand3` is the claim; the theorem is
-- `demand-3` of proofs/Demand3.
use Rattle.std.specs.Prelude.{Option, None, Some, ◌≡◌, Bool, true, false, cond, List, [], ◌∷◌, ◌++◌, map, ℕ, suc}
use Rattle.std.specs.Prelude.{◌+◌, ◌-◌, ◌%◌, ◌≤◌, ◌<◌, eqb, length, take}
use Rattle.std.specs.Prelude.{get_or}
use Rattle.description.specs.declared.Description.{Description}
use Rattle.ranges.specs.Ranges.{up_from}
use Rattle.registers.specs.Map.{size_of}
use Rattle.ring.specs.Rules.{new_of, index_of}
use Rattle.device.specs.Account.{Each}
use Rattle.device.specs.Claim.{waiting_of, payload_at, work_of}
use Rattle.device.specs.Device.{Direction, queue_number, Taking, released, Message, Device, queue_for, stream_at, page_of}
use Rattle.device.specs.Histories.{Entry, Note, unanswered, handed_of, addresses_of, lost_of, number}
use Rattle.rules.specs.Calls.{Told, Pending, ReleaseFirst}
use Rattle.rules.specs.Claim.{shown_as}
use Rattle.queue_lines.specs.Claim.{queue_of, heads_of, joined_to, answers_of, is_taking, Beside, Untouched, TakenAll, Drained}
use Rattle.queue_lines.specs.Counters.{Queue, sum_of, line_in}
use Rattle.queue_lines.specs.Histories.{Taken, Answer, Line, History, line_at, standing}
use Rattle.queue_lines.specs.Parts.{Part, clears, transfers, releases}
use Rattle.queue_lines.specs.Said.{Says, written_out}
use Rattle.queue_lines.specs.Turn.{Answers, Waits, Ordered, written}
use Rattle.line_calls.specs.Account.{part_in, Turn, transfer_of}
use Rattle.line_calls.specs.Backlog.{last_backlog}
use Rattle.line_calls.specs.Calls.{Call, step, Control, order_of, virtqueue_of, release_queue}
use Rattle.line_calls.specs.Claim.{clears_on, bytes_of, card, account, start, told_by, after, heard, counted}
use Rattle.line_calls.specs.Streams.{Streams, streams_of, direction_of, first_of}
use Rattle.registers.specs.Answers.{done}
use Rattle.queue_lines.specs.Chains.{Virtqueue, queue_size, line_of}

-- ---- one call

-- the available index of a queue
abbrev pub available_in : Virtqueue → List ℕ → ℕ
available_in v m = index_of m v.page (queue_size v)

-- whether a part of a call touches line j: a transfer or a Release of its stream, or one that drops all lines
abbrev pub touches : ℕ → Option Part → Bool
touches j None = false
touches j (Some clears) = true
touches j (Some (transfers lay i m host)) = eqb j i
touches j (Some (releases lay i m)) = eqb j i

module _ (n : Streams) where
  -- "A play or capture works, and a Release ends, its own stream's line only": line j, of the account and of the card
  pub record Alone (j : ℕ) (h a : History) : Type 0 where
    pub account : Beside (line_at h j) (line_at a j)
    pub card : Untouched (line_in j (queue_of h)) (line_in j (queue_of a))

  -- one call, of the card in state k and of the account in state b; `said` of each line before it
  pub record Accounted (said : Direction → ℕ → List ℕ) (k : Device Queue) (b : Device History) (c : Call) : Type 0 where
    -- "Each play count, the bytes it counts and the lent memory as each call leaves it equal the account's."
    pub told : (step n (card n) k c).told ≡ (step n (account n) b c).told
    -- the card is what the account stands for: the counts modulo 65,536, and each line
    pub stands : (step n (card n) k c).state ≡ shown_as queue_of (step n (account n) b c).state
    -- what the call adds to each queue's histories: takings as memory showed them, entries written where memory now has them, bytes as
    -- memory held them; which calls add what
    pub turn : (d : Direction) → Turn n d (said d) b c (step n (card n) k c).told (step n (account n) b c).state
    pub alone :
        (d : Direction) (j : ℕ) → touches j (part_in n d c.asked b.rest c.lent) ≡ false
        → Alone j (queue_for d b) (queue_for d (step n (account n) b c).state)
    -- "first takes all new entries": a transfer that answers 0, on a queue with a base, took every entry up to the available index; one
    -- that moved fewer bytes than the host lent, and a Release that answers 0, left nothing in its line
    pub takes :
        (d : Direction) (id : ℕ) (host : List ℕ) (backlog : ℕ)
        → c.asked ≡ transfer_of d id host backlog
        → (step n (card n) k c).told.answer.number ≡ done
        → ((page_of b.rest (queue_number d)).0 ≡ 0 → ⊥)
        → TakenAll (available_in (virtqueue_of n b.rest d backlog) c.lent) (queue_for d (step n (account n) b c).state)
    pub transfer-drains :
        (d : Direction) (id : ℕ) (host : List ℕ) (backlog : ℕ)
        → c.asked ≡ transfer_of d id host backlog
        → (step n (card n) k c).told.answer.number ≡ done
        → (step n (card n) k c).told.count < length host
        → ((page_of b.rest (queue_number d)).0 ≡ 0 → ⊥)
        → let v : Virtqueue = virtqueue_of n b.rest d backlog in
        Drained (available_in v c.lent) (line_of v id) (queue_for d (step n (account n) b c).state)
    pub release-drains :
        (id : ℕ) (p : Pending)
        → c.asked ≡ Control
        → order_of n b.rest c.lent ≡ ReleaseFirst id p
        → (step n (card n) k c).told.answer.number ≡ done
        → let d : Direction = direction_of n id in
        let v : Virtqueue = release_queue n id p.rest in
        (v.page.0 ≡ 0 → ⊥)
        → Drained (available_in v c.lent) (line_of v id) (queue_for d (step n (account n) b c).state)

  -- what was said of each line after a call that told so
  abbrev pub said_then : (Direction → ℕ → List ℕ) → Device History → Call → Told → Direction → ℕ → List ℕ
  said_then said b c t d j = cond (clears_on d c.asked b.rest) [] (said d j ++ bytes_of d (first_of n d + j) c.asked t)

  -- .. and each call of a list
  abbrev pub EachCall : (Direction → ℕ → List ℕ) → Device Queue → Device History → List Call → Type 0
  EachCall said k b [] = Unit {0}
  EachCall said k b (c ∷ cs) =
      Accounted said k b c
      × EachCall (said_then said b c (step n (card n) k c).told) (step n (card n) k c).state (step n (account n) b c).state cs

-- ---- after any calls

-- a queue with these histories
pub record OfQueue (d : Direction) (h : History) (q : Queue) : Type 0 where
  -- "every entry answers one taking, no taking has two; only messages in line lack one"
  pub numbered : map (λ (x : Taken). x.of) h.takings ≡ up_from 0 (length h.takings)
  pub once :
      (t : ℕ) → t < length h.takings
      → sum_of (λ (a : Answer). is_taking t a.taken) h.entries + sum_of (λ (l : Line). sum_of (is_taking t) (standing l)) h.lines ≡ 1
  -- each by the chain that was read, in one of three ways
  pub answers : Each (λ (a : Answer). Answers d a.chain a.entry) h.entries
  -- .. which in 01's own numbers are four
  pub says : Each (Says d) h.entries
  -- no more than N are in line
  pub within : length h.takings ≤ length h.entries + size_of (queue_number d)
  -- of a driver that has made `made` buffers available in all, the card sees exactly those not taken yet
  pub rollover :
      (made : ℕ) → length h.takings ≤ made → made ≤ length h.takings + size_of (queue_number d)
      → new_of (made % 65536) q.taken ≡ made - length h.takings

-- the stream of line i; its transfers told these bytes, and counts that add up to this
pub record OfStream (d : Direction) (i : ℕ) (h : History) (bytes : List ℕ) (count : ℕ) : Type 0 where
  -- those answered, then those in line, are all that were taken for the stream, in order
  pub order : map (λ (a : Answer). a.taken) (answers_of i h.entries) ++ standing (line_at h i) ≡ joined_to i h.takings
  -- its entries, in order, name their heads
  pub entries : map (λ (a : Answer). a.entry) (answers_of i h.entries) ≡ (line_at h i).story.entries
  pub heads :
      map (λ (e : Entry). e.head) (line_at h i).story.entries
      ≡ take (number (line_at h i).story) (heads_of (joined_to i h.takings))
  -- they are read in that order, from the heads noted at their takings; only the one in work lacks an entry
  pub read :
      map (λ (t : Taking). t.head) (line_at h i).story.takings
      ≡ take (length (line_at h i).story.takings) (heads_of (joined_to i h.takings))
  pub chains : map (λ (a : Answer). a.chain) (answers_of i h.entries) ≡ take (number (line_at h i).story) (line_at h i).story.takings
  pub few : number (line_at h i).story ≤ length (line_at h i).story.takings
  pub one : length (line_at h i).story.takings ≤ suc (number (line_at h i).story)
  -- a message in work is well-formed, and something of it waits
  pub in-work : (w : Message) → work_of (line_at h i).story ≡ Some w → Waits d w
  -- each position of each message read is in exactly one place, once and in order: handed on, given up or waiting
  pub places :
      (t : ℕ)
      → handed_of t (line_at h i).story.notes ++ (lost_of t (line_at h i).story.losses ++ waiting_of d t (line_at h i).story)
      ≡ up_from 0 (length (payload_at d t (line_at h i).story))
  -- .. read (for capture, recorded) at the payload's own addresses, message by message
  pub addresses :
      (t : ℕ)
      → addresses_of t (line_at h i).story.notes
      ≡ take (length (handed_of t (line_at h i).story.notes)) (payload_at d t (line_at h i).story)
  pub in_order : Ordered (line_at h i).story
  -- given up by a Release alone
  pub given-up :
      (t : ℕ) → 0 < length (lost_of t (line_at h i).story.losses) → (get_or (line_at h i).story.entries t unanswered).ending ≡ released
  -- "each as a whole until its chain is read": of one not read nothing is handed on or given up
  pub unread :
      (t : ℕ) → length (line_at h i).story.takings ≤ t
      → (handed_of t (line_at h i).story.notes ≡ []) × (lost_of t (line_at h i).story.losses ≡ [])
  -- the bytes told are those noted, in order, and the counts add up to the positions handed on
  pub told : map (λ (x : Note). x.byte) (line_at h i).story.notes ≡ bytes
  pub counts : count ≡ length (line_at h i).story.notes

-- ---- the claim: "Demand 3 is one claim about the whole list, with the calls on the card that orders add, not one for each call."

pub record Demand3 (d : Description) (len : ℕ) (cs : List Call) : Type 0 where
  pub calls :
      let n = streams_of d in
      EachCall n (λ (q : Direction) (i : ℕ). []) (start n (card n) d len) (start n (account n) d len) cs
  pub queue :
      (q : Direction)
      → let n = streams_of d in
      OfQueue q (queue_for q (after n (account n) (start n (account n) d len) cs))
      (queue_for q (after n (card n) (start n (card n) d len) cs))
  pub stream :
      (id : ℕ)
      → let n = streams_of d in
      let q = direction_of n id in
      let k = start n (card n) d len in
      OfStream q (id - first_of n q) (queue_for q (after n (account n) (start n (account n) d len) cs)) (heard n (card n) q id [] k cs)
      (counted n (card n) q id 0 k cs)
  -- what an entry's writing leaves in memory (`Turn`), in 01's own numbers
  pub written_out_lem : (v : Virtqueue) (k : ℕ) (a : Answer) (m : List ℕ) → written v k a m ≡ written_out v k a m
  -- order 5: the backlog that a Release's statuses carry
  pub remembered :
      (id : ℕ)
      → let n = streams_of d in
      let k = start n (card n) d len in
      (stream_at (after n (card n) k cs).rest id).backlog ≡ last_backlog id 0 cs (told_by n (card n) k cs)
