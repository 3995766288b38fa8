-- Each change of a history with lines keeps what is claimed of it: of the line that it changes, by what 01's account keeps; of the
-- others, as nothing of theirs is added.
use mathlib.Core.Path.{◌≡◌, refl, sym, ap, ◌∙◌}
use mathlib.Core.Bool.{true, false}
use mathlib.Core.List.{List, [], ◌∷◌, ◌++◌, map, append-nil, append_assoc, map-append}
use Prim.Native.Nat.{ℕ, ◌+◌, ◌≤◌, ◌<◌}
use native.Mathlib.Nat.{zero-add}
use native.Mathlib.Numerals.{add-one}
use native.Mathlib.Omega.{arith}
use native.Mathlib.Decide.{ℕ_discrete}
use borrow.Author.Tests.{eq-eqb, ne_eqb, eqb-true, leb-false}
use lib.Dec.{eqb}
use lib.ListN.{length, take, drop, get_or, set, length-append, length-take, length-map, length-replicate, length-set}
use lib.Seq.{take-suc, take-append-le, drop-append-le, drop-cons, get_or-set_same, get_or-set_other}
use Rattle.ranges.specs.Ranges.{up_from}
use Rattle.ranges.proofs.Laws.{up_from-add}
use Rattle.device.specs.Device.{Direction, Taking, nobody, Ending, released, ill_formed, Message}
use Rattle.device.specs.Histories.{number, current, handed_now, waiting, took, noted, with_entry}
use Rattle.device.specs.Transfer.{payload_of}
use Rattle.device.proofs.Cases.{cond_same}
use Rattle.device.proofs.Histories.{free, nothing_left}
use Rattle.device.proofs.Keeps.{blank-good, took-good, noted-good, with-entry-good}
use Rattle.queue_lines.specs.Chains.{Arrival, in_line, at_once}
use Rattle.queue_lines.specs.Claim.{heads_of, those, joins, answers_of, GoodLine, Good, also}
use Rattle.queue_lines.specs.Counters.{sum_of}
use Rattle.queue_lines.specs.Histories.{Taken, untaken, Answer, Line, History, blank_line, line_at, standing, entry_of, with_joined}
use Rattle.queue_lines.specs.Histories.{with_story, taking, joining, bounced, beginning, handing, answer_to, completing, histories_of}
use Rattle.queue_lines.specs.Rules.{unread, working}
use Rattle.queue_lines.proofs.Fronts.{front_at, working-inside, is-busy, is-now, unread-inside, is_free, is-next}
use Rattle.queue_lines.proofs.Lists.{get_d-replicate-same, sum_of-append, sum_of-set, sum_of-none, those-more, those-same, those-pass}

-- no taking joins two lines
joins-other : (i j : ℕ) (a : Arrival) → (j ≡ i → ⊥) → joins i a ≡ true → joins j a ≡ false
joins-other i j (in_line k) n e = ne_eqb k j (λ z. n (sym z ∙ eqb-true k i e))
joins-other i j (at_once t) n e = refl

module _ (d : Direction) where
  -- ---- one line

  module _ (said : List ℕ) (i : ℕ) (l : Line) (ts : List Taken) (es : List Answer) (g : GoodLine d said i l ts es) where
    -- no more are read than joined, no more answered than read
    pub few-read : length l.story.takings ≤ length l.joined
    few-read = omega (arith, simp (length-map, length-take) at (ap length g.read))

    pub few-answered : number l.story ≤ length l.joined
    few-answered = omega (arith, few-read, g.story.few)

    joined_line : (x : Taken) → joins i x.arrival ≡ true → GoodLine d said i (with_joined x l) (ts ++ x ∷ []) es
    joined_line x e =
        record {
          joined = rw (g.joined, those-more (λ (x : Taken). joins i x.arrival) ts x e);
          read =
              rw (map-append, take-append-le (length l.story.takings) (heads_of l.joined) (x.head ∷ []) (rw length-map few-read))
              g.read;
          answers = rw (take-append-le (number l.story) l.joined (x ∷ []) few-answered) g.answers;
          chains = g.chains;
          entries = g.entries;
          story = g.story;
        }

    -- a taking of another line, or one answered at once
    beside-line : (x : Taken) → joins i x.arrival ≡ false → GoodLine d said i l (ts ++ x ∷ []) es
    beside-line x e =
        record {
          joined = rw (those-same (λ (x : Taken). joins i x.arrival) ts x e) g.joined;
          read = g.read;
          answers = g.answers;
          chains = g.chains;
          entries = g.entries;
          story = g.story;
        }

    -- an entry of another line, or of one answered at once
    other-answer : (x : Answer) → joins i x.taken.arrival ≡ false → GoodLine d said i l ts (es ++ x ∷ [])
    other-answer x e =
        let s : answers_of i (es ++ x ∷ []) ≡ answers_of i es = those-same (λ (x : Answer). joins i x.taken.arrival) es x e in
        record {
          joined = g.joined;
          read = g.read;
          answers = rw s g.answers;
          chains = rw s g.chains;
          entries = rw s g.entries;
          story = g.story;
        }

    begun-line :
        (t : Taking)
        → free l.story ≡ true
        → length l.story.takings < length l.joined
        → get_or (heads_of l.joined) (length l.story.takings) 0 ≡ t.head
        → GoodLine d said i (with_story (took d t) l) ts es
    unfolding took
    begun-line t f n e =
        record {
          joined = g.joined;
          read =
              rw (
                map-append,
                g.read,
                length-append,
                add-one,
                take-suc (heads_of l.joined) (length l.story.takings) 0 (rw length-map n),
                e,
              );
          answers = g.answers;
          chains = rw (take-append-le (number l.story) l.story.takings (t ∷ []) g.story.few) g.chains;
          entries = g.entries;
          story = took-good d said l.story g.story f t;
        }

    handed-line :
        (room : ℕ) (bytes : List ℕ)
        → let xs = take room (drop (handed_now l.story) (payload_of d (current l.story))) in
        length bytes ≡ length xs
        → GoodLine d (said ++ bytes) i (with_story (noted d bytes xs) l) ts es
    unfolding noted
    handed-line room bytes e =
        record {
          joined = g.joined;
          read = g.read;
          answers = g.answers;
          chains = g.chains;
          entries = g.entries;
          story = noted-good d said l.story g.story bytes room e;
        }

    module _ (busy : free l.story ≡ false) where
      pub some-standing : number l.story < length l.joined
      some-standing = omega (arith, few-read, leb-false (length l.story.takings) (number l.story) busy)

      pub answer-joins : (e : Ending) (latency : ℕ) → joins i (answer_to d e latency l).taken.arrival ≡ true
      answer-joins e latency =
          rw g.joined
          (those-pass (λ (x : Taken). joins i x.arrival) ts (number l.story) untaken (rw (← g.joined) some-standing))

      completed-line :
          (e : Ending) (latency : ℕ)
          → ((e ≡ released → ⊥) → waiting d l.story ≡ [])
          → GoodLine d said i (with_story (with_entry d e latency) l) ts (es ++ answer_to d e latency l ∷ [])
      unfolding with_entry
      completed-line e latency all =
          let x : Answer = answer_to d e latency l in
          let s : answers_of i (es ++ x ∷ []) ≡ answers_of i es ++ x ∷ [] =
          those-more (λ (x : Answer). joins i x.taken.arrival) es x (answer-joins e latency) in
          let n : number l.story < length l.story.takings = leb-false (length l.story.takings) (number l.story) busy in
          record {
            joined = g.joined;
            read = g.read;
            answers = rw (
              s,
              map-append,
              g.answers,
              length-append,
              add-one,
              take-suc l.joined (number l.story) untaken
                  some-standing,
            );
            chains = rw (s, map-append, g.chains, length-append, add-one, take-suc l.story.takings (number l.story) nobody n);
            entries = rw (s, map-append, g.entries);
            story = with-entry-good d said l.story g.story e latency busy all;
          }

  -- ---- the whole queue

  blank-line : (i : ℕ) → GoodLine d [] i blank_line [] []
  unfolding those
  blank-line i = record { joined = refl; read = refl; answers = refl; chains = refl; entries = refl; story = blank-good d }

  module _ (n : ℕ) where
    pub empty-good : Good d n (λ i. []) (histories_of d n).empty
    unfolding up_from sum_of
    empty-good =
        record {
          numbered = refl;
          lines = length-replicate n blank_line;
          line = λ i. rw (get_d-replicate-same n i blank_line) (blank-line i);
          once = λ count. rw (sum_of-none (λ (l : Line). sum_of count (standing l)) n blank_line refl);
        }

    module _ (said : ℕ → List ℕ) (h : History) (g : Good d n said h) where
      -- the lines after a change of line i
      changed-lines :
          (i : ℕ) (y : Line) (said' : ℕ → List ℕ) (ts : List Taken) (es : List Answer)
          → i < length h.lines
          → GoodLine d (said' i) i y ts es
          → ((j : ℕ) → (j ≡ i → ⊥) → GoodLine d (said' j) j (line_at h j) ts es)
          → (j : ℕ)
          → GoodLine d (said' j) j (get_or (set h.lines i y) j blank_line) ts es
      changed-lines i y said' ts es l own others j = go (ℕ_discrete j i)
        where
          go : Dec (j ≡ i) → GoodLine d (said' j) j (get_or (set h.lines i y) j blank_line) ts es
          go (yes e) = rw (e, get_or-set_same h.lines i y blank_line l) own
          go (no e) = rw (get_or-set_other h.lines i j y blank_line e) (others j e)

      -- the takings, with one more
      numbered_more : (head : ℕ) (a : Arrival)
          → map (λ (x : Taken). x.of) (h.takings ++ taking head a h ∷ []) ≡ up_from 0 (length (h.takings ++ taking head a h ∷ []))
      unfolding up_from
      numbered_more head a = rw (map-append, g.numbered, length-append, up_from-add, zero-add)

      -- what is counted of the messages in line, after a change of line i
      changed-count :
          (count : Taken → ℕ) (i : ℕ) (y : Line)
          → i < length h.lines
          → sum_of (λ (l : Line). sum_of count (standing l)) (set h.lines i y) + sum_of count (standing (line_at h i))
          ≡ sum_of (λ (l : Line). sum_of count (standing l)) h.lines + sum_of count (standing y)
      changed-count count i y l = sum_of-set (λ (l : Line). sum_of count (standing l)) h.lines i y blank_line l

      -- ---- a taking

      joined-count :
          (count : Taken → ℕ) (i : ℕ) (x : Taken)
          → sum_of count (standing (with_joined x (line_at h i))) ≡ sum_of count (standing (line_at h i)) + count x
      unfolding sum_of
      joined-count count i x =
          rw (
            drop-append-le (number (line_at h i).story) (line_at h i).joined (x ∷ [])
                (few-answered (said i) i (line_at h i) h.takings h.entries (g.line i)),
            sum_of-append,
          )
          (omega arith)

      pub joining-good : (i head : ℕ) → i < n → Good d n said (joining i head h)
      unfolding joining sum_of
      joining-good i head less =
          let x : Taken = taking head (in_line i) h in
          let l : i < length h.lines = rw g.lines less in
          record {
            numbered = numbered_more head (in_line i);
            lines = rw length-set g.lines;
            line =
                changed-lines i (with_joined x (line_at h i)) said (h.takings ++ x ∷ []) h.entries l
                (joined_line (said i) i (line_at h i) h.takings h.entries (g.line i) x (eq-eqb i i refl))
                (λ j e. beside-line (said j) j (line_at h j) h.takings h.entries (g.line j) x (ne_eqb i j (λ z. e (sym z))));
            once = λ count.
                rw (sum_of-append)
                (omega (arith, g.once count, changed-count count i (with_joined x (line_at h i)) l, joined-count count i x));
          }

      pub bounced-good : (t : Taking) (latency : ℕ) → Good d n said (bounced d t latency h)
      unfolding bounced sum_of
      bounced-good t latency =
          let x : Taken = taking t.head (at_once t) h in
          let a : Answer = record { taken = x; chain = t; entry = entry_of d ill_formed latency t 0 } in
          record {
            numbered = numbered_more t.head (at_once t);
            lines = g.lines;
            line = λ i.
                other-answer (said i) i (line_at h i) (h.takings ++ x ∷ []) h.entries
                (beside-line (said i) i (line_at h i) h.takings h.entries (g.line i) x refl) a refl;
            once = λ count. rw (sum_of-append (λ (x : Answer). count x.taken), sum_of-append count) (omega (arith, g.once count));
          }

      -- ---- the front of line i is read

      pub beginning-good : (i : ℕ) (t : Taking) → front_at h i ≡ unread t.head → Good d n said (beginning d i t h)
      unfolding beginning took
      beginning-good i t e =
          let l = unread-inside h i t.head e in
          let m = is-next h i t.head e in
          let y : Line = with_story (took d t) (line_at h i) in
          record {
            numbered = g.numbered;
            lines = rw length-set g.lines;
            line =
                changed-lines i y said h.takings h.entries l
                (begun-line (said i) i (line_at h i) h.takings h.entries (g.line i) t (is_free h i t.head e) m.0 m.1)
                (λ j k. g.line j);
            once = λ count. omega (arith, g.once count, changed-count count i y l);
          }

      -- ---- the front of line i is completed

      module _ (i : ℕ) (m : Message) (front : front_at h i ≡ working m) where
        abbrev own : Line
        own = line_at h i

        completed-count :
            (count : Taken → ℕ) (e : Ending) (latency : ℕ)
            → sum_of count (standing own)
            ≡ count (answer_to d e latency own).taken + sum_of count (standing (with_story (with_entry d e latency) own))
        unfolding with_entry sum_of
        completed-count count e latency =
            rw (
              drop-cons own.joined (number own.story) untaken
                  (some-standing (said i) i own h.takings h.entries (g.line i) (is-busy h i m front)),
              length-append,
              add-one,
            )

        pub completing-good :
            (e : Ending) (latency : ℕ)
            → ((e ≡ released → ⊥) → drop m.done (payload_of d m.taking) ≡ [])
            → Good d n said (completing d i e latency h)
        unfolding completing sum_of
        completing-good e latency all =
            let l = working-inside h i m front in
            let busy = is-busy h i m front in
            let a : Answer = answer_to d e latency own in
            let y : Line = with_story (with_entry d e latency) own in
            record {
              numbered = g.numbered;
              lines = rw length-set g.lines;
              line =
                  changed-lines i y said h.takings (h.entries ++ a ∷ []) l
                  (completed-line (said i) i own h.takings h.entries (g.line i) busy e latency
                  (λ k. nothing_left d own.story (rw (← (is-now h i m front)) at (all k))))
                  (λ j k.
                  other-answer (said j) j (line_at h j) h.takings h.entries (g.line j) a
                  (joins-other i j a.taken.arrival k
                  (answer-joins (said i) i own h.takings h.entries (g.line i) busy e latency)));
              once = λ count.
                  rw sum_of-append
                  (omega (arith, g.once count, changed-count count i y l, completed-count count e latency));
            }

    -- ---- bytes of the front of line i are moved

    module _ (w : ℕ → List ℕ) (h : History) (i : ℕ) (m : Message) (room : ℕ) (before bytes : List ℕ)
        (g : Good d n (also i w before) h) (front : front_at h i ≡ working m) where
      abbrev xs : List ℕ
      xs = take room (drop m.done (payload_of d m.taking))

      also-same : also i w before i ++ bytes ≡ also i w (before ++ bytes) i
      also-same = rw (eq-eqb i i refl, append_assoc)

      also-other : (j : ℕ) → (j ≡ i → ⊥) → also i w before j ≡ also i w (before ++ bytes) j
      also-other j k = rw (ne_eqb j i k)

      pub handing-good : length bytes ≡ length xs → Good d n (also i w (before ++ bytes)) (handing d i bytes xs h)
      unfolding handing noted
      handing-good e =
          let l = working-inside h i m front in
          let y : Line = with_story (noted d bytes xs) (line_at h i) in
          record {
            numbered = g.numbered;
            lines = rw length-set g.lines;
            line =
                changed-lines (also i w before) h g i y (also i w (before ++ bytes)) h.takings h.entries l
                (rw (← also-same)
                (rw (← (is-now h i m front))
                (handed-line (also i w before i) i (line_at h i) h.takings h.entries (g.line i) room bytes
                (rw (← (is-now h i m front)) at e))))
                (λ j k. rw (← (also-other j k)) (g.line j));
            once = λ count. omega (arith, g.once count, changed-count (also i w before) h g count i y l);
          }

    -- nothing said is nothing more
    pub also-none : (w : ℕ → List ℕ) (h : History) (i : ℕ) → Good d n w h → Good d n (also i w []) h
    also-none w h i g =
        record {
          numbered = g.numbered;
          lines = g.lines;
          line = λ j. rw (cond_same {A = List ℕ} (eqb j i) [], append-nil) (g.line j);
          once = g.once;
        }
