-- Memory after a call is memory before it with what the call wrote, in order.
use mathlib.Core.Path.{◌≡◌, refl, sym, ap, ◌∙◌}
use mathlib.Core.Bool.{Bool}
use mathlib.Core.List.{List, [], ◌∷◌, ◌++◌, map, append-nil, append_assoc}
use Prim.Native.Nat.{ℕ, suc, ◌+◌, ◌≤◌, ◌<◌}
use native.Mathlib.Omega.{arith}
use lib.ListN.{length, take, drop, length-append, length-take, get_or, get_or-append}
use lib.Seq.{drop-length, drop-append-le, get_or-append_seam, take-add}
use Rattle.ranges.specs.Ranges.{put_at}
use Rattle.device.specs.Device.{Direction, output, input, Ending, Taking, nobody}
use Rattle.device.specs.Histories.{Note, number, handed_now, notes_of, took, noted, with_entry}
use Rattle.device.specs.Transfer.{memory_moved, bytes_moved}
use Rattle.queue_lines.specs.Chains.{Virtqueue, reading_of}
use Rattle.queue_lines.specs.Histories.{Answer, Line, History, line_at, beginning, handing, answer_to, completing}
use Rattle.queue_lines.specs.Turn.{Acts, taken, reads, moves, ends, entries_written}
use Rattle.queue_lines.specs.Writes.{Work, recorded, answered, answers_in, records_in, works_written, InTurn, recorded_of, Wrote}
use Rattle.queue_lines.specs.Writes.{works_before}
use Rattle.queue_lines.proofs.Fronts.{own_read, own-moved, own-ended, front_at, is_free, is-busy, is-next}
use Rattle.queue_lines.proofs.Read.{takes-story}
use Rattle.queue_lines.proofs.Shown.{takes-now}
use native.Mathlib.Decide.{ℕ_discrete}
use native.Mathlib.Numerals.{add-one}
use borrow.Author.Tests.{lt-ltb, le-ltb, leb-true, leb-false}
use Rattle.queue_lines.specs.Claim.{heads_of}
use Rattle.queue_lines.specs.Rules.{unread}

-- ---- works one behind the other

answers_in-append : (ws us : List Work) → answers_in (ws ++ us) ≡ answers_in ws ++ answers_in us
answers_in-append [] us = refl
answers_in-append (recorded x ∷ ws) us = answers_in-append ws us
answers_in-append (answered a ∷ ws) us = rw (answers_in-append ws us)

records_in-append : (ws us : List Work) → records_in (ws ++ us) ≡ records_in ws ++ records_in us
records_in-append [] us = refl
records_in-append (recorded x ∷ ws) us = rw (records_in-append ws us)
records_in-append (answered a ∷ ws) us = records_in-append ws us

turn-append : (t u x : ℕ) (ws us : List Work) → InTurn t ws u → InTurn u us x → InTurn t (ws ++ us) x
turn-append t u x [] us p q = rw p q
turn-append t u x (recorded y ∷ ws) us p q = (p.0, turn-append t u x ws us p.1 q)
turn-append t u x (answered a ∷ ws) us p q = turn-append (suc t) u x ws us p q

works_written-append : (v : Virtqueue) (k : ℕ) (ws us : List Work) (m : List ℕ)
    → works_written v k (ws ++ us) m ≡ works_written v (k + length (answers_in ws)) us (works_written v k ws m)
works_written-append v k [] us m = let e : k + 0 ≡ k = omega arith in rw e
works_written-append v k (recorded x ∷ ws) us m = works_written-append v k ws us _
works_written-append v k (answered a ∷ ws) us m =
    let e : k + suc (length (answers_in ws)) ≡ k + 1 + length (answers_in ws) = omega arith in
    rw e (works_written-append v (k + 1) ws us _)

turn_on : (t u : ℕ) (ws : List Work) → InTurn t ws u → t ≤ u
turn_on t u [] p = omega (arith, p)
turn_on t u (recorded x ∷ ws) p = turn_on t u ws p.1
turn_on t u (answered a ∷ ws) p = omega (arith, turn_on (suc t) u ws p)

-- of those behind message k's turn none is before it
before-none : (t k : ℕ) (ws : List Work) → k ≤ t → works_before t k ws ≡ []
before-none t k [] l = refl
before-none t k (recorded x ∷ ws) l = rw (le-ltb t k l)
before-none t k (answered a ∷ ws) l = rw (le-ltb t k l)

before_more : (t u k : ℕ) (ws us : List Work) → InTurn t ws u → k ≤ u → works_before t k (ws ++ us) ≡ works_before t k ws
before_more t u k [] us p l = before-none t k us (omega (arith, p))
before_more t u k (recorded x ∷ ws) us p l = rw (before_more t u k ws us p.1 l)
before_more t u k (answered a ∷ ws) us p l = rw (before_more (suc t) u k ws us p l)

-- the last entry ends its message's turn: all stand before the next one's
before-ended : (t u : ℕ) (ws : List Work) (a : Answer) → InTurn t ws u
    → works_before t (suc u) (ws ++ answered a ∷ []) ≡ ws ++ answered a ∷ []
before-ended t u [] a p = rw (lt-ltb t (suc u) (omega (arith, p)))
before-ended t u (recorded x ∷ ws) a p = rw (lt-ltb t (suc u) (omega (arith, turn_on t u ws p.1)), before-ended t u ws a p.1)
before-ended t u (answered b ∷ ws) a p = rw (lt-ltb t (suc u) (omega (arith, turn_on (suc t) u ws p)), before-ended (suc t) u ws a p)

one-behind : (all as₀ bs cs ds : List Answer) → all ≡ as₀ ++ (bs ++ cs) → all ++ ds ≡ as₀ ++ (bs ++ (cs ++ ds))
one-behind all as₀ bs cs ds e = rw (e, append_assoc, append_assoc)

-- ---- bytes recorded

abbrev recording : Direction → List Note → List Work
recording d ns = map recorded (recorded_of d ns)

recording-answers : (ns : List Note) → answers_in (map recorded ns) ≡ []
recording-answers [] = refl
recording-answers (x ∷ ns) = recording-answers ns

recording-records : (ns : List Note) → records_in (map recorded ns) ≡ ns
recording-records [] = refl
recording-records (x ∷ ns) = rw (recording-records ns)

recorded-none : (d : Direction) → recorded_of d [] ≡ []
recorded-none output = refl
recorded-none input = refl

recorded-append : (d : Direction) (xs ys : List Note) → recorded_of d (xs ++ ys) ≡ recorded_of d xs ++ recorded_of d ys
recorded-append output xs ys = refl
recorded-append input xs ys = refl

recording-turn : (d : Direction) (t p : ℕ) (bytes xs : List ℕ) → InTurn t (recording d (notes_of t p bytes xs)) t
recording-turn output t p bytes xs = refl
recording-turn input t p bytes [] = refl
recording-turn input t p bytes (x ∷ xs) = (refl, recording-turn input t (p + 1) (drop 1 bytes) xs)

put-recorded : (v : Virtqueue) (k t p : ℕ) (xs rest m : List ℕ) → length xs ≤ length rest
    → put_at m xs rest ≡ works_written v k (map recorded (notes_of t p (take (length xs) rest) xs)) m
unfolding put_at
put-recorded v k t p [] rest m l = refl
put-recorded v k t p (x ∷ xs) [] m l = absurd (omega arith)
put-recorded v k t p (x ∷ xs) (b ∷ rest) m l = put-recorded v k t (p + 1) xs rest _ (omega arith)

moved-written : (v : Virtqueue) (d : Direction) (k t p : ℕ) (xs rest m : List ℕ) → length xs ≤ length rest
    → memory_moved d xs rest m ≡ works_written v k (recording d (notes_of t p (bytes_moved d xs rest m) xs)) m
moved-written v output k t p xs rest m l = refl
moved-written v input k t p xs rest m l = put-recorded v k t p xs rest m l

-- ---- a call

module _
    (v : Virtqueue) (i : ℕ) (call : Ending) (host m₀ : List ℕ) (h₀ : History)
    (few₀ : number (line_at h₀ i).story ≤ length (line_at h₀ i).story.takings)
    (one₀ : length (line_at h₀ i).story.takings ≤ suc (number (line_at h₀ i).story)) where
  abbrev d : Direction
  d = v.direction

  abbrev base : ℕ
  base = length h₀.entries

  abbrev notes₀ : ℕ
  notes₀ = length (line_at h₀ i).story.notes

  abbrev turn₀ : ℕ
  turn₀ = number (line_at h₀ i).story

  -- memory when message k's turn came
  abbrev turn_memory : List Answer → List Work → ℕ → List ℕ
  turn_memory bounced works k = works_written v (base + length bounced) (works_before turn₀ k works) (entries_written v base bounced m₀)

  record Sofar (m : List ℕ) (h : History) : Type 0 where
    wrote : Wrote v i m₀ h₀ h m
    noted-from : notes₀ ≤ length (line_at h i).story.notes
    few : number (line_at h i).story ≤ length (line_at h i).story.takings
    one : length (line_at h i).story.takings ≤ suc (number (line_at h i).story)
    -- with no message in work all that is written stands before the next one's turn
    clean : length (line_at h i).story.takings ≤ number (line_at h i).story
        → works_before turn₀ (number (line_at h i).story) wrote.works ≡ wrote.works

  -- a chain that was read, whatever is written behind
  module _ (m : List ℕ) (h : History) (p : Sofar m h) (us : List Work) (k : ℕ)
      (a : length (line_at h₀ i).story.takings ≤ k) (b : k < length (line_at h i).story.takings) where
    read-still :
        get_or (line_at h i).story.takings k nobody
        ≡ reading_of v i (turn_memory p.wrote.bounced (p.wrote.works ++ us) k) (get_or (heads_of (line_at h i).joined) k 0)
    read-still =
        rw (before_more turn₀ (number (line_at h i).story) k p.wrote.works us p.wrote.in-turn (omega (arith, p.one)))
        (p.wrote.read k a b)

  -- the front is read, in memory as it is now
  module _ (m : List ℕ) (h : History) (p : Sofar m h) (head : ℕ) (e : front_at h i ≡ unread head) where
    abbrev own : Line
    own = line_at h i

    abbrev t : Taking
    t = reading_of v i m head

    all-answered : length own.story.takings ≤ number own.story
    all-answered = leb-true (length own.story.takings) (number own.story) (is_free h i head e)

    now-turn : turn_memory p.wrote.bounced p.wrote.works (length own.story.takings) ≡ m
    now-turn =
        let z : length own.story.takings ≡ number own.story = omega (arith, p.few, all-answered) in
        rw (z, p.clean all-answered) (sym p.wrote.memory)

    read_next : (k : ℕ) → length (line_at h₀ i).story.takings ≤ k → k < length (own.story.takings ++ t ∷ [])
        → get_or (own.story.takings ++ t ∷ []) k nobody
        ≡ reading_of v i (turn_memory p.wrote.bounced p.wrote.works k) (get_or (heads_of own.joined) k 0)
    read_next k a b = go (ℕ_discrete k (length own.story.takings))
      where
        go : Dec (k ≡ length own.story.takings)
            → get_or (own.story.takings ++ t ∷ []) k nobody
            ≡ reading_of v i (turn_memory p.wrote.bounced p.wrote.works k) (get_or (heads_of own.joined) k 0)
        go (yes z) = rw (z, get_or-append_seam own.story.takings t [] nobody, now-turn, (is-next h i head e).1)
        go (no z) =
            let l : k < length own.story.takings = omega (arith, z, rw length-append at b) in
            rw (get_or-append own.story.takings (t ∷ []) nobody k l) (p.wrote.read k a l)

  -- the next entry's number
  next-number : (h : History) (bounced : List Answer) (ws : List Work) → h.entries ≡ h₀.entries ++ (bounced ++ answers_in ws)
      → base + length bounced + length (answers_in ws) ≡ length h.entries
  next-number h bounced ws e = rw (e, length-append, length-append) (omega arith)

  acts-sofar : {m : List ℕ} {h : History} {bytes : List ℕ} {signal : Bool} → Acts v m₀ h₀ i call host m h bytes signal → Sofar m h
  unfolding beginning handing completing took noted with_entry
  acts-sofar {h = h} (taken s) =
      let p = takes-now v m₀ h₀ s in
      let e = takes-story v m₀ h₀ i s in
      record {
        wrote =
            record {
              bounced = p.sofar.entries.added;
              works = [];
              memory = p.memory;
              entries = p.sofar.entries.is ∙ ap (λ (l : List Answer). h₀.entries ++ l) (sym (append-nil p.sofar.entries.added));
              records = rw (e, drop-length (line_at h₀ i).story.notes) (sym (recorded-none d));
              in-turn = rw e;
              read = λ k a b. absurd (omega (arith, rw e at b));
            };
        noted-from = rw e (omega arith);
        few = rw e few₀;
        one = rw e one₀;
        clean = λ l. refl;
      }
  acts-sofar (reads {m = m} {h = h} {head = head} s o e) =
      let p = acts-sofar s in
      let z = own_read d i h (reading_of v i m head) head e in
      record {
        wrote =
            record {
              bounced = p.wrote.bounced;
              works = p.wrote.works;
              memory = p.wrote.memory;
              entries = p.wrote.entries;
              records = rw z p.wrote.records;
              in-turn = rw z p.wrote.in-turn;
              read = λ k a b. rw z (read_next m h p head e k a (rw z at b));
            };
        noted-from = rw z p.noted-from;
        few = rw (z, length-append) (omega (arith, p.few));
        one = rw (z, length-append) (omega (arith, all-answered m h p head e));
        clean = λ l. absurd (omega (arith, p.few, rw (z, length-append) at l));
      }
  acts-sofar (moves {m = m} {h = h} {w = w} {xs = xs} {rest = rest} s c o e z q) =
      let p = acts-sofar s in
      let a = p.wrote in
      let own : Line = line_at h i in
      let bytes : List ℕ = bytes_moved d xs rest m in
      let ns : List Note = notes_of (number own.story) (handed_now own.story) bytes xs in
      let us : List Work = recording d ns in
      let there = own-moved d i h w e bytes xs in
      let short : length xs ≤ length rest = rw (q, length-take) (omega arith) in
      let none : answers_in us ≡ [] = recording-answers (recorded_of d ns) in
      let busy = leb-false (length own.story.takings) (number own.story) (is-busy h i w e) in
      record {
        wrote =
            record {
              bounced = a.bounced;
              works = a.works ++ us;
              memory =
                  rw (works_written-append v (base + length a.bounced) a.works us, ← a.memory)
                  (moved-written v d _ (number own.story) (handed_now own.story) xs rest m short);
              entries = rw (answers_in-append a.works us, none, append-nil) a.entries;
              records =
                  rw (
                    there,
                    records_in-append a.works us,
                    drop-append-le notes₀ own.story.notes ns p.noted-from,
                    recorded-append d,
                    recording-records (recorded_of d ns),
                    a.records,
                  );
              in-turn =
                  rw there
                  (turn-append _ (number own.story) _ a.works us a.in-turn
                  (recording-turn d (number own.story) (handed_now own.story) bytes xs));
              read = λ k a b. rw there (read-still m h p us k a (rw there at b));
            };
        noted-from = rw (there, length-append) (omega (arith, p.noted-from));
        few = rw there p.few;
        one = rw there p.one;
        clean = λ l. absurd (omega (arith, busy, rw there at l));
      }
  acts-sofar (ends {m = m} {h = h} {w = w} {e = x} s f due) =
      let p = acts-sofar s in
      let a = p.wrote in
      let own : Line = line_at h i in
      let r : Answer = answer_to d x v.latency own in
      let us : List Work = answered r ∷ [] in
      let there = own-ended d i h w f x v.latency in
      let busy = leb-false (length own.story.takings) (number own.story) (is-busy h i w f) in
      record {
        wrote =
            record {
              bounced = a.bounced;
              works = a.works ++ us;
              memory =
                  rw (
                    works_written-append v (base + length a.bounced) a.works us,
                    ← a.memory,
                    next-number h a.bounced a.works a.entries,
                  );
              entries =
                  rw (answers_in-append a.works us)
                  (one-behind h.entries h₀.entries a.bounced (answers_in a.works) (r ∷ []) a.entries);
              records = rw (there, records_in-append a.works us, append-nil) a.records;
              in-turn =
                  rw (there, length-append)
                  (turn-append _ (number own.story) _ a.works us a.in-turn (omega arith));
              read = λ k x y. rw there (read-still m h p us k x (rw there at y));
            };
        noted-from = rw there p.noted-from;
        few = rw (there, length-append) (omega (arith, busy));
        one = rw (there, length-append) (omega (arith, p.one));
        clean = λ l. rw (there, length-append, add-one) (before-ended turn₀ (number own.story) a.works r a.in-turn);
      }

  pub acts-wrote : {m : List ℕ} {h : History} {bytes : List ℕ} {signal : Bool} → Acts v m₀ h₀ i call host m h bytes signal
      → Wrote v i m₀ h₀ h m
  acts-wrote s = (acts-sofar s).wrote

-- ---- a capture

-- the bytes that it moved are the host's first
module _ (v : Virtqueue) (i : ℕ) (call : Ending) (host m₀ : List ℕ) (h₀ : History) (capture : v.direction ≡ input) where
  moved-host : (bytes xs rest : List ℕ) → bytes ≡ take (length bytes) host → rest ≡ drop (length bytes) host → length xs ≤ length rest
      → bytes ++ take (length xs) rest ≡ take (length (bytes ++ take (length xs) rest)) host
  moved-host bytes xs rest e z short =
      let k : length (take (length xs) rest) ≡ length xs = rw length-take (omega arith) in
      rw (length-append, k, take-add (length bytes) (length xs) host, ← z, ← e)

  pub acts-host : {m : List ℕ} {h : History} {bytes : List ℕ} {signal : Bool} → Acts v m₀ h₀ i call host m h bytes signal
      → bytes ≡ take (length bytes) host
  acts-host (taken s) = refl
  acts-host (reads s o e) = acts-host s
  acts-host (moves {bytes = bytes} {xs = xs} {rest = rest} s c o e z q) =
      rw capture (moved-host bytes xs rest (acts-host s) z (rw (q, length-take) (omega arith)))
  acts-host (ends s f due) = acts-host s
