-- Each chain that a play or a Release reads is as memory then shows it: one entry of the line is written before each next reading.
use mathlib.Core.Path.{◌≡◌, refl, sym, ◌∙◌}
use mathlib.Core.Bool.{Bool}
use mathlib.Core.List.{List, [], ◌∷◌, ◌++◌}
use mathlib.Core.Logic.{◌⊎◌}
use Prim.Native.Nat.{ℕ, suc, ◌+◌, ◌-◌, ◌≤◌, ◌<◌}
use native.Mathlib.Decide.{ℕ_discrete}
use native.Mathlib.Omega.{arith}
use borrow.Author.Tests.{leb-true, leb-false}
use lib.ListN.{length, drop, get_or, length-append, get_or-append}
use lib.Seq.{take-length, drop-length, take-append-le, drop-append-le, drop-append_seam, get_or-append_seam}
use Rattle.ranges.specs.Ranges.{bytes_at}
use Rattle.device.specs.Account.{Each}
use Rattle.device.specs.Device.{Direction, output, Taking, nobody, Ending, released, Message}
use Rattle.device.specs.Histories.{Note, number, handed_now, notes_of, took, noted, with_entry}
use Rattle.device.specs.Transfer.{memory_moved, bytes_moved}
use Rattle.device.proofs.Grown.{grows-length, each_append, each_map}
use Rattle.queue_lines.specs.Chains.{Virtqueue, in_line, reading_of}
use Rattle.queue_lines.specs.Claim.{account}
use Rattle.queue_lines.specs.Histories.{Answer, Line, History, blank_line, line_at, with_joined, with_story, taking, joining, bounced}
use Rattle.queue_lines.specs.Histories.{beginning, handing, answer_to, completing}
use Rattle.queue_lines.specs.Rules.{unread, working}
use Rattle.queue_lines.specs.Shown.{answered_below, work_memory, Read, Held}
use Rattle.queue_lines.specs.Turn.{entries_written, Takes, start, joins, bounces, Acts, taken, reads, moves, ends}
use Rattle.queue_lines.proofs.Added.{moved_same, acts-add}
use Rattle.queue_lines.proofs.Fronts.{is-busy, is_free, is-next, own_read, own-moved, own-ended}
use Rattle.queue_lines.proofs.Lists.{changed-keeps}
use Rattle.queue_lines.proofs.Shown.{since-entries, since-takings, takes-now}

-- notes of message t, of the bytes that memory `w t` holds
notes-held :
    (w : ℕ → List ℕ) (t p : ℕ) (m xs : List ℕ)
    → w t ≡ m
    → Each (λ (x : Note). (x.of ≤ t) × (x.byte ≡ get_or (w x.of) x.from 0)) (notes_of t p (bytes_at m xs) xs)
notes-held w t p m [] e = tt
notes-held w t p m (x ∷ xs) e = ((omega arith, rw e), notes-held w t (p + 1) m xs e)

module _ (v : Virtqueue) (m₀ : List ℕ) (h₀ : History) (i : ℕ) where
  abbrev from : ℕ
  from = number (line_at h₀ i).story

  -- taking leaves the line's story alone
  pub takes-story : {m : List ℕ} {h : History} {signal : Bool} → Takes v m₀ h₀ m h signal → (line_at h i).story ≡ (line_at h₀ i).story
  unfolding joining bounced
  takes-story start = refl
  takes-story (joins {h = h} {head = head} {line = line} s e q) =
      changed-keeps (λ (l : Line). l.story ≡ (line_at h₀ i).story) blank_line (with_joined (taking head.0 (in_line line) h)) (λ l k. k)
      h.lines line i
      (takes-story s)
  takes-story (bounces s e q) = takes-story s

  -- of a message up to the one in work, and as memory then held it
  abbrev Right : ℕ → History → Note → Type 0
  Right t h x = (x.of ≤ t) × Held v m₀ h₀ i h x

  -- the line so far, and the entries beside it
  record Along (m : List ℕ) (h : History) : Type 0 where
    few : number (line_at h i).story ≤ length (line_at h i).story.takings
    one : length (line_at h i).story.takings ≤ suc (number (line_at h i).story)
    grew : from ≤ number (line_at h i).story
    based : length h₀.entries ≤ length h.entries
    count :
        length (drop (length h₀.entries) h.entries)
        ≡ answered_below v m₀ h₀ (length h.takings) h + (number (line_at h i).story - from)
    memory : m ≡ entries_written v (length h₀.entries) (drop (length h₀.entries) h.entries) m₀
    read : (k : ℕ) → length (line_at h₀ i).story.takings ≤ k → k < length (line_at h i).story.takings → Read v m₀ h₀ i k h
    noted-from : length (line_at h₀ i).story.notes ≤ length (line_at h i).story.notes
    held : v.direction ≡ output → Each (Right (number (line_at h i).story) h)
        (drop (length (line_at h₀ i).story.notes) (line_at h i).story.notes)

  -- memory of work on the message in work, or on the next, is memory now
  work-now : (m : List ℕ) (h : History) (p : Along m h) (k : ℕ) → k ≡ number (line_at h i).story → work_memory v m₀ h₀ i k h ≡ m
  work-now m h p k e = rw (e, ← p.count, take-length) (sym p.memory)

  -- memory of work on an earlier one is as it was
  module _ (m : List ℕ) (h n : History) (p : Along m h) (zs : List Answer) (ts : n.takings ≡ h.takings)
      (es : n.entries ≡ h.entries ++ zs) where
    work-same : (k : ℕ) → k ≤ number (line_at h i).story → work_memory v m₀ h₀ i k n ≡ work_memory v m₀ h₀ i k h
    work-same k l =
        rw (
          ts,
          es,
          drop-append-le (length h₀.entries) h.entries zs p.based,
          take-append-le (answered_below v m₀ h₀ (length h.takings) h + (k - from)) (drop (length h₀.entries) h.entries) zs
              (omega (arith, p.count, p.grew)),
        )

  module _ (call : Ending) (host : List ℕ) (play : (v.direction ≡ output) ⊎ (call ≡ released))
      (few₀ : number (line_at h₀ i).story ≤ length (line_at h₀ i).story.takings)
      (one₀ : length (line_at h₀ i).story.takings ≤ suc (number (line_at h₀ i).story)) where
    abbrev d : Direction
    d = v.direction

    -- memory is that of the entries since
    acts-memory :
        {m : List ℕ} {h : History} {bytes : List ℕ} {signal : Bool}
        → Acts v m₀ h₀ i call host m h bytes signal
        → m ≡ entries_written v (length h₀.entries) (drop (length h₀.entries) h.entries) m₀
    acts-memory {h = h} s =
        let a = acts-add v i call host m₀ h₀ s in
        rw (a.entries.is, drop-append_seam h₀.entries a.entries.added) (a.memory play)

    acts-based : {m : List ℕ} {h : History} {bytes : List ℕ} {signal : Bool} → Acts v m₀ h₀ i call host m h bytes signal
        → length h₀.entries ≤ length h.entries
    acts-based {h = h} s = grows-length h₀.entries h.entries (acts-add v i call host m₀ h₀ s).entries

    taken-along : {m : List ℕ} {h : History} {signal : Bool} → Takes v m₀ h₀ m h signal → Along m h
    taken-along {m = m} {h = h} s =
        let p = takes-now v m₀ h₀ s in
        let e : (line_at h i).story ≡ (line_at h₀ i).story = takes-story s in
        let z : from - from ≡ 0 = omega arith in
        record {
          few = rw e few₀;
          one = rw e one₀;
          grew = rw e (omega arith);
          based = acts-based (taken s);
          count =
              rw (e, z, take-length, since-takings v m₀ h₀ h p.sofar, since-entries v m₀ h₀ h p.sofar) (omega (arith, p.count));
          memory = acts-memory (taken s);
          read = λ k a b. absurd (omega (arith, rw e at b));
          noted-from = rw e (omega arith);
          held = λ o. rw (e, drop-length (line_at h₀ i).story.notes) tt;
        }

    module _ (m : List ℕ) (h : History) (p : Along m h) where
      abbrev own : Line
      own = line_at h i

      -- the front is read
      module _ (head : ℕ) (e : (account v).front i h ≡ unread head) where
        abbrev t : Taking
        t = reading_of v i m head

        abbrev n : History
        n = beginning d i t h

        own-begun : line_at n i ≡ with_story (took d t) own
        own-begun = own_read d i h t head e

        all-answered : length own.story.takings ≡ number own.story
        all-answered = omega (arith, p.few, leb-true (length own.story.takings) (number own.story) (is_free h i head e))

        read-new : Read v m₀ h₀ i (length own.story.takings) n
        unfolding beginning took
        read-new =
            record {
              is =
                  rw (
                    own-begun,
                    get_or-append_seam own.story.takings t [] nobody,
                    work-now m h p (length own.story.takings)
                        all-answered,
                    (is-next h i head e).1,
                  );
            }

        read-old : (k : ℕ) → length (line_at h₀ i).story.takings ≤ k → k < length own.story.takings → Read v m₀ h₀ i k n
        unfolding beginning took
        read-old k a b =
            record { is = rw (own-begun, get_or-append own.story.takings (t ∷ []) nobody k b) (p.read k a b).is }

        read_all : (k : ℕ) → length (line_at h₀ i).story.takings ≤ k → k < length own.story.takings + 1 → Read v m₀ h₀ i k n
        read_all k a b = go (ℕ_discrete k (length own.story.takings))
          where
            go : Dec (k ≡ length own.story.takings) → Read v m₀ h₀ i k n
            go (yes z) = rw z read-new
            go (no z) = read-old k a (omega (arith, z))

        read-along : Along m n
        unfolding beginning took
        read-along =
            record {
              few = rw (own-begun, length-append) (omega (arith, p.few));
              one = rw (own-begun, length-append) (omega (arith, all-answered));
              grew = rw own-begun p.grew;
              based = p.based;
              count = rw own-begun p.count;
              memory = p.memory;
              read = λ k a b. read_all k a (rw (own-begun, length-append) at b);
              noted-from = rw own-begun p.noted-from;
              held = λ o. rw own-begun (p.held o);
            }

      -- bytes of the message in work are moved
      module _ (w : Message) (e : (account v).front i h ≡ working w) where
        moved-along : (bytes xs m' : List ℕ) → m' ≡ m → (v.direction ≡ output → bytes ≡ bytes_at m xs) → Along m' (handing d i bytes xs h)
        unfolding handing noted
        moved-along bytes xs m' q read_at =
            let o = own-moved d i h w e bytes xs in
            record {
              few = rw o p.few;
              one = rw o p.one;
              grew = rw o p.grew;
              based = p.based;
              count = rw o p.count;
              memory = q ∙ p.memory;
              read = λ k a b. record { is = rw o (p.read k a (rw o at b)).is };
              noted-from = rw (o, length-append) (omega (arith, p.noted-from));
              held = λ out.
                  rw (
                    o,
                    drop-append-le (length (line_at h₀ i).story.notes) own.story.notes
                        (notes_of (number own.story) (handed_now own.story) bytes xs)
                        p.noted-from,
                    read_at out,
                  )
                  (each_append (Right (number own.story) h) (drop (length (line_at h₀ i).story.notes) own.story.notes)
                  (notes_of (number own.story) (handed_now own.story) (bytes_at m xs) xs) (p.held out)
                  (notes-held (λ (k : ℕ). work_memory v m₀ h₀ i k h) (number own.story) (handed_now own.story) m xs
                  (work-now m h p (number own.story) refl)));
            }

        -- .. it is completed
        module _ (x : Ending) (m' : List ℕ) where
          abbrev ended : History
          ended = completing d i x v.latency h

          own-after : line_at ended i ≡ with_story (with_entry d x v.latency) own
          own-after = own-ended d i h w e x v.latency

          busy : number own.story < length own.story.takings
          busy = leb-false (length own.story.takings) (number own.story) (is-busy h i w e)

          ended-along : m' ≡ entries_written v (length h₀.entries) (drop (length h₀.entries) ended.entries) m₀ → Along m' ended
          unfolding completing with_entry
          ended-along q =
              let a : Answer = answer_to d x v.latency own in
              record {
                few = rw (own-after, length-append) (omega (arith, busy));
                one = rw (own-after, length-append) (omega (arith, p.one));
                grew = rw (own-after, length-append) (omega (arith, p.grew));
                based = rw length-append (omega (arith, p.based));
                count =
                    rw (own-after, length-append, drop-append-le (length h₀.entries) h.entries (a ∷ []) p.based, length-append)
                    (omega (arith, p.count, p.grew));
                memory = q;
                noted-from = rw own-after p.noted-from;
                held = λ o.
                    rw own-after
                    (each_map (Right (number own.story) h) (Right (length (own.story.entries ++ a.entry ∷ [])) ended)
                    (drop (length (line_at h₀ i).story.notes) own.story.notes)
                    (λ y r. (rw length-append (omega (arith, r.0)), rw (work-same m h ended p (a ∷ []) refl refl y.of r.0) r.1))
                    (p.held o));
                read = λ k c b.
                    record {
                      is =
                          rw (own-after, work-same m h ended p (a ∷ []) refl refl k (omega (arith, p.one, rw own-after at b)))
                          (p.read k c (rw own-after at b)).is;
                    };
              }

    acts-along : {m : List ℕ} {h : History} {bytes : List ℕ} {signal : Bool} → Acts v m₀ h₀ i call host m h bytes signal → Along m h
    acts-along (taken s) = taken-along s
    acts-along (reads {m = m} {h = h} {head = head} s o e) = read-along m h (acts-along s) head e
    acts-along (moves {m = m} {h = h} {w = w} {xs = xs} {rest = rest} s c o e z q) =
        moved-along m h (acts-along s) w e (bytes_moved d xs rest m) xs (memory_moved d xs rest m)
        (moved_same v i call host m₀ h₀ xs rest m c play) (λ o. rw o)
    acts-along (ends {m = m} {h = h} {w = w} {e = e} s f due) =
        ended-along m h (acts-along s) w f e _ (acts-memory (ends s f due))

    -- every chain that the call read, as memory then showed it
    pub acts-read :
        {m : List ℕ} {h : History} {bytes : List ℕ} {signal : Bool}
        → Acts v m₀ h₀ i call host m h bytes signal
        → (k : ℕ)
        → length (line_at h₀ i).story.takings ≤ k
        → k < length (line_at h i).story.takings
        → Read v m₀ h₀ i k h
    acts-read s = (acts-along s).read

    -- every byte that a play handed on, as memory then held it
    pub acts-held :
        {m : List ℕ} {h : History} {bytes : List ℕ} {signal : Bool}
        → Acts v m₀ h₀ i call host m h bytes signal
        → v.direction ≡ output
        → Each (Held v m₀ h₀ i h) (drop (length (line_at h₀ i).story.notes) (line_at h i).story.notes)
    acts-held {h = h} s o =
        each_map (Right (number (line_at h i).story) h) (Held v m₀ h₀ i h)
        (drop (length (line_at h₀ i).story.notes) (line_at h i).story.notes) (λ x r. r.1) ((acts-along s).held o)
