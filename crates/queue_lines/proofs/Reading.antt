-- What is good of a history with lines, in a reader's words: each taking is answered once or stands in line, once; the counters' difference
-- is the number in line; the entries of a line name its heads in order; a message not read waits as a whole.
use mathlib.Core.Path.{◌≡◌, refl, sym, ap, ◌∙◌}
use mathlib.Core.List.{List, [], ◌∷◌, ◌++◌, map, map-append}
use Prim.Native.Nat.{ℕ, ◌+◌, ◌≤◌, ◌<◌}
use native.Mathlib.Omega.{arith}
use native.Mathlib.Decide.{ℕ_discrete}
use borrow.Author.Tests.{eq-eqb, ne_eqb}
use lib.ListN.{length, take, drop, get_or, length-map, take-append-drop, get_or-eq_default}
use lib.Seq.{take-take, drop-append-le}
use Rattle.ranges.specs.Ranges.{up_from}
use Rattle.ring.specs.Rules.{new_of}
use Rattle.device.specs.Claim.{waiting_of}
use Rattle.device.specs.Device.{Direction, nobody, Ending}
use Rattle.device.specs.Histories.{Entry, handed_of, lost_of, number}
use Rattle.device.specs.Transfer.{Run}
use Rattle.device.proofs.Keeps.{nobody-none}
use Rattle.device.proofs.Lists.{nil-left}
use Rattle.queue_lines.specs.Chains.{Virtqueue}
use Rattle.queue_lines.specs.Claim.{heads_of, shown_line, queue_of, shown_run, joined_to, answers_of, Good, Beside, Untouched, is_taking}
use Rattle.queue_lines.specs.Counters.{Queue, sum_of, line_in, counters_of}
use Rattle.queue_lines.specs.Histories.{Taken, Answer, Line, History, line_at, standing, histories_of}
use Rattle.queue_lines.specs.Turn.{Turn}
use Rattle.queue_lines.proofs.Histories.{shown-at, alike}
use Rattle.queue_lines.proofs.Keeps.{few-read}
use Rattle.queue_lines.proofs.Lists.{sum_of-ones, sum_of-same}

-- ---- how often taking t stands among takings

numbers-above : (t a : ℕ) (l : List Taken) → map (λ (x : Taken). x.of) l ≡ up_from a (length l) → t < a → sum_of (is_taking t) l ≡ 0
unfolding sum_of up_from
numbers-above t a [] e h = refl
numbers-above t a (x ∷ l) e h =
    let of-a : x.of ≡ a = ap (λ (l : List ℕ). get_or l 0 0) e in
    rw (ne_eqb x.of t (λ z. omega arith), numbers-above t (a + 1) l (ap (drop 1) e) (omega arith))

numbers-once : (t a : ℕ) (l : List Taken) → map (λ (x : Taken). x.of) l ≡ up_from a (length l) → a ≤ t → t < a + length l
    → sum_of (is_taking t) l ≡ 1
unfolding sum_of up_from
numbers-once t a [] e h k = absurd (omega arith)
numbers-once t a (x ∷ l) e h k = go (ℕ_discrete x.of t) (λ n. numbers-once t (a + 1) l (ap (drop 1) e) (omega (arith, n)) (omega arith))
  where
    of-a : x.of ≡ a
    of-a = ap (λ (l : List ℕ). get_or l 0 0) e

    go : Dec (x.of ≡ t) → ((a ≡ t → ⊥) → sum_of (is_taking t) l ≡ 1) → is_taking t x + sum_of (is_taking t) l ≡ 1
    go (yes z) ih = rw (eq-eqb x.of t z, numbers-above t (a + 1) l (ap (drop 1) e) (omega (arith, of-a)))
    go (no z) ih = rw (ne_eqb x.of t z, ih (λ q. z (of-a ∙ q)))

-- ---- of a good history

module _ (d : Direction) (n : ℕ) (w : ℕ → List ℕ) (h : History) (g : Good d n w h) where
  -- "every entry answers one taking, no taking has two; only messages in line lack one"
  pub answered-or-standing :
      (t : ℕ)
      → t < length h.takings
      → sum_of (λ (a : Answer). is_taking t a.taken) h.entries + sum_of (λ (l : Line). sum_of (is_taking t) (standing l)) h.lines ≡ 1
  answered-or-standing t l = g.once (is_taking t) ∙ numbers-once t 0 h.takings g.numbered (omega arith) (omega arith)

  -- as many are taken as are completed and in line
  pub taken-count : length h.takings ≡ length h.entries + (histories_of d n).in_work h
  taken-count =
      let e = g.once (λ x. 1) in
      sym (sum_of-ones h.takings) ∙ sym e
      ∙ ap (λ k. k + sum_of (λ (l : Line). sum_of (λ (x : Taken). 1) (standing l)) h.lines) (sum_of-ones h.entries)
      ∙ ap (λ k. length h.entries + k)
      (sum_of-same (λ (l : Line). sum_of (λ (x : Taken). 1) (standing l)) (λ (l : Line). length (standing l))
      (λ l. sum_of-ones (standing l))
      h.lines)

  -- of the card: taken − completed modulo 65,536 is the number in line, where that fits
  pub counters-tell :
      (counters_of d n).in_work (queue_of h) < 65536
      → new_of (queue_of h).taken (queue_of h).completed ≡ (counters_of d n).in_work (queue_of h)
  unfolding queue_of
  counters-tell l =
      let e : (counters_of d n).in_work (queue_of h) ≡ (histories_of d n).in_work h = (alike d n).in_work-same w h g in
      omega (arith, e, taken-count)

  module _ (i : ℕ) where
    abbrev l : Line
    l = line_at h i

    -- those answered, then those that stand in line, are all that joined, in order
    pub in_order : map (λ (a : Answer). a.taken) (answers_of i h.entries) ++ standing l ≡ joined_to i h.takings
    in_order = rw ((g.line i).answers, ← (g.line i).joined) (take-append-drop (number l.story) l.joined)

    -- the entries of the line name the heads that joined it, in order
    pub heads-in-order : map (λ (e : Entry). e.head) l.story.entries ≡ take (number l.story) (heads_of l.joined)
    heads-in-order =
        rw ((g.line i).story.heads, (g.line i).read) (take-take (number l.story) (length l.story.takings) (heads_of l.joined)
        (g.line i).story.few)

    -- a message not read since it was taken waits as a whole: nothing of it is handed on or given up
    pub unread-waits : (k : ℕ) → length l.story.takings ≤ k → (handed_of k l.story.notes ≡ []) × (lost_of k l.story.losses ≡ [])
    unfolding up_from
    unread-waits k b =
        let all : handed_of k l.story.notes ++ (lost_of k l.story.losses ++ waiting_of d k l.story) ≡ [] =
        rw (get_or-eq_default l.story.takings nobody b, nobody-none d) at ((g.line i).story.once k) in
        let none : handed_of k l.story.notes ≡ [] = nil-left (handed_of k l.story.notes)
        (lost_of k l.story.losses ++ waiting_of d k l.story) all in
        (none, nil-left (lost_of k l.story.losses) (waiting_of d k l.story) (rw none at all))

    -- the bytes said of the line are as many as the positions handed on
    pub bytes_count : length (w i) ≡ length l.story.notes
    bytes_count = rw (← (g.line i).story.bytes, length-map)

-- ---- of a call

-- a line that is left alone is shown so
module _ (d : Direction) (n : ℕ) (said : ℕ → List ℕ) (h : History) (good : Good d n said h) (a : History) (j : ℕ) where
  abbrev before : Line
  before = line_at h j

  abbrev after : Line
  after = line_at a j

  line-untouched : Beside before after → Untouched (shown_line before) (shown_line after)
  unfolding shown_line
  line-untouched b =
      record {
        begun = rw b.story;
        heads =
            record {
              added = heads_of b.joined.added;
              is =
                  rw (
                    b.story,
                    b.joined.is,
                    drop-append-le (length before.story.takings) before.joined b.joined.added
                        (few-read d (said j) j before h.takings h.entries (good.line j)),
                    map-append,
                  );
            };
      }

  pub beside-untouched : Beside before after → Untouched (line_in j (queue_of h)) (line_in j (queue_of a))
  unfolding queue_of
  beside-untouched b = rw (shown-at h.lines j, shown-at a.lines j) (line-untouched b)

module _
    (v : Virtqueue) (i : ℕ) (call : Ending) (said : ℕ → List ℕ) (m host : List ℕ) (h : History) (c : Run Queue) (r : Run History)
    (good : Good v.direction v.streams said h) (t : Turn v i call said m host h c r) (j : ℕ) (other : j ≡ i → ⊥) where
  -- "A play or capture works, and a Release ends, its own stream's line only": of the card
  pub card-others : Untouched (line_in j (queue_of h)) (line_in j c.queue)
  unfolding shown_run
  card-others =
      rw t.same (beside-untouched v.direction v.streams said h good r.queue j (t.adds.others j other))
