-- What follows from the acts of a call: it adds to the histories, leaves the other lines alone, and what it wrote are its entries.
use mathlib.Core.Path.{◌≡◌, refl, sym, ap, ◌∙◌, subst}
use mathlib.Core.Bool.{Bool}
use mathlib.Core.List.{List, [], ◌∷◌, ◌++◌, append-nil}
use mathlib.Core.Logic.{◌⊎◌, inl, inr}
use Prim.Native.Nat.{ℕ, suc, ◌+◌, ◌≤◌, ◌<◌}
use native.Mathlib.Omega.{arith}
use lib.ListN.{length, get_or, set, length-append}
use lib.Seq.{get_or-set_same, get_or-set_other}
use Rattle.device.specs.Account.{Each, Grows}
use Rattle.device.specs.Device.{Direction, output, Taking, Ending, finished, released, ill_formed, Message}
use Rattle.device.specs.Histories.{History as Story, number, current, handed_now, waiting, notes_of, losses_of, took, noted, with_entry}
use Rattle.device.specs.Transfer.{payload_of, memory_moved, bytes_moved}
use Rattle.device.proofs.Keeps.{none_left}
use Rattle.device.proofs.Grown.{grows_none, grows-more, each_append, order-higher, order-append, order-notes}
use Rattle.device.proofs.Cases.{released-not}
use Rattle.queue_lines.specs.Chains.{Virtqueue, in_line, at_once, reading_of}
use Rattle.queue_lines.specs.Claim.{Beside}
use Rattle.queue_lines.specs.Histories.{Taken, Answer, Line, History, blank_line, line_at, entry_of, with_joined, with_story, taking}
use Rattle.queue_lines.specs.Histories.{joining, bounced, beginning, handing, answer_to, completing}
use Rattle.queue_lines.specs.Turn.{written, answer_at_once, entries_written, Takes, start, joins, bounces, Acts, taken, reads, moves}
use Rattle.queue_lines.specs.Turn.{ends, Answers, whole, cut, bad, Due, moved, ended, ill, Ordered, Further, Adds}
use Rattle.queue_lines.proofs.Fronts.{is-now, working-inside, unread-inside}
use Rattle.queue_lines.proofs.Lists.{changed-keeps}
use Rattle.queue_lines.proofs.Natural.{arrival-fits}

-- ---- entries written

written-more :
    (v : Virtqueue) (k : ℕ) (as' : List Answer) (a : Answer) (m : List ℕ)
    → entries_written v k (as' ++ a ∷ []) m ≡ written v (k + length as') a (entries_written v k as' m)
unfolding entries_written
written-more v k [] a m = let e : k + 0 ≡ k = omega arith in rw e
written-more v k (x ∷ as') a m =
    let e : k + 1 + length as' ≡ k + suc (length as') = omega arith in rw (written-more v (k + 1) as' a (written v k x m), e)

-- what an entry more writes
pub entry-written :
    (v : Virtqueue) (m₀ : List ℕ) (h₀ : History) (m : List ℕ) (h : History) (a : Answer) (g : Grows h₀.entries h.entries)
    → m ≡ entries_written v (length h₀.entries) g.added m₀
    → written v (length h.entries) a m ≡ entries_written v (length h₀.entries) (g.added ++ a ∷ []) m₀
entry-written v m₀ h₀ m h a g q = rw (written-more v (length h₀.entries) g.added a m₀, ← q, ap length g.is, length-append)

-- ---- a line that is not touched

module _ (l : Line) (j : ℕ) where
  joined-still : (i head : ℕ) (q : History) → Beside l (line_at q j) → Beside l (line_at (joining i head q) j)
  unfolding joining
  joined-still i head q p =
      let x : Taken = taking head (in_line i) q in
      changed-keeps (Beside l) blank_line (with_joined x)
      (λ k b. record { story = b.story; joined = grows-more l.joined k.joined (x ∷ []) b.joined }) q.lines i j p

  other-still : (i : ℕ) (q : History) (y : Line) → (j ≡ i → ⊥) → Beside l (line_at q j) → Beside l (get_or (set q.lines i y) j blank_line)
  other-still i q y n p = rw (get_or-set_other q.lines i j y blank_line n) p

-- ---- the line of the call

further-none : (b : Story) → Further b b
further-none b =
    record {
      readings = grows_none b.takings;
      entries = grows_none b.entries;
      notes = grows_none b.notes;
      losses = grows_none b.losses;
    }

module _ (d : Direction) (b : Story) (i : ℕ) where
  joined-further : (line head : ℕ) (q : History) → Further b (line_at q i).story → Further b (line_at (joining line head q) i).story
  unfolding joining
  joined-further line head q p =
      changed-keeps (λ (l : Line). Further b l.story) blank_line (with_joined (taking head (in_line line) q)) (λ l k. k) q.lines line i p

  module _ (q : History) (l : i < length q.lines) (p : Further b (line_at q i).story) where
    abbrev s : Story
    s = (line_at q i).story

    begun-further : (t : Taking) → Further b (line_at (beginning d i t q) i).story
    unfolding beginning took
    begun-further t =
        rw (get_or-set_same q.lines i (with_story (took d t) (line_at q i)) blank_line l)
        (record {
          readings = grows-more b.takings s.takings (t ∷ []) p.readings;
          entries = p.entries;
          notes = p.notes;
          losses = p.losses;
        })

    handed-further : (bytes xs : List ℕ) → Further b (line_at (handing d i bytes xs q) i).story
    unfolding handing noted
    handed-further bytes xs =
        rw (get_or-set_same q.lines i (with_story (noted d bytes xs) (line_at q i)) blank_line l)
        (record {
          readings = p.readings;
          entries = p.entries;
          notes = grows-more b.notes s.notes (notes_of (number s) (handed_now s) bytes xs) p.notes;
          losses = p.losses;
        })

    ended-further : (e : Ending) (latency : ℕ) → Further b (line_at (completing d i e latency q) i).story
    unfolding completing with_entry
    ended-further e latency =
        rw (get_or-set_same q.lines i (with_story (with_entry d e latency) (line_at q i)) blank_line l)
        (record {
          readings = p.readings;
          entries = grows-more b.entries s.entries (entry_of d e latency (current s) (handed_now s) ∷ []) p.entries;
          notes = p.notes;
          losses = grows-more b.losses s.losses (losses_of (number s) (waiting d s)) p.losses;
        })

    -- an entry of a message of which nothing waits gives nothing up
    ended-kept : (e : Ending) (latency : ℕ) → waiting d s ≡ [] → (line_at (completing d i e latency q) i).story.losses ≡ s.losses
    unfolding completing with_entry
    ended-kept e latency w =
        rw (get_or-set_same q.lines i (with_story (with_entry d e latency) (line_at q i)) blank_line l, w) (append-nil s.losses)

  begun_kept : (t : Taking) (q : History) → (line_at (beginning d i t q) i).story.losses ≡ (line_at q i).story.losses
  unfolding beginning took
  begun_kept t q = changed-keeps (λ (l : Line). l.story.losses ≡ (line_at q i).story.losses) blank_line (with_story (took d t)) (λ l k. k)
      q.lines i i refl

  handed-kept : (bytes xs : List ℕ) (q : History) → (line_at (handing d i bytes xs q) i).story.losses ≡ (line_at q i).story.losses
  unfolding handing noted
  handed-kept bytes xs q = changed-keeps (λ (l : Line). l.story.losses ≡ (line_at q i).story.losses) blank_line
      (with_story (noted d bytes xs)) (λ l k. k) q.lines i i refl

  joined-kept : (line head : ℕ) (q : History) → (line_at (joining line head q) i).story.losses ≡ (line_at q i).story.losses
  unfolding joining
  joined-kept line head q = changed-keeps (λ (l : Line). l.story.losses ≡ (line_at q i).story.losses) blank_line
      (with_joined (taking head (in_line line) q)) (λ l k. k) q.lines line i refl

-- a message due in a transfer has nothing that waits
due-none : (d : Direction) (call : Ending) (w : Message) (e : Ending) → Due d call w e → call ≡ finished
    → length (payload_of d w.taking) ≤ w.done
unfolding payload_of
due-none d call w e (moved f q) c = omega arith
due-none d call w e (ended f) c = absurd (released-not c)
due-none d call w e (ill f q) c = rw f (omega arith)

-- ---- notes in order

module _ (d : Direction) (i : ℕ) (q : History) (p : Ordered (line_at q i).story) where
  abbrev InLine : Line → Type 0
  InLine l = Ordered l.story

  joined-order : (line head : ℕ) → Ordered (line_at (joining line head q) i).story
  unfolding joining
  joined-order line head = changed-keeps InLine blank_line (with_joined (taking head (in_line line) q)) (λ l k. k) q.lines line i p

  begun-order : (t : Taking) → Ordered (line_at (beginning d i t q) i).story
  unfolding beginning took
  begun-order t = changed-keeps InLine blank_line (with_story (took d t)) (λ l k. k) q.lines i i p

  handed-order : (bytes xs : List ℕ) → Ordered (line_at (handing d i bytes xs q) i).story
  unfolding handing noted
  handed-order bytes xs =
      changed-keeps InLine blank_line (with_story (noted d bytes xs))
      (λ l k.
      order-append 0 (number l.story) l.story.notes (notes_of (number l.story) (handed_now l.story) bytes xs) (omega arith) k
      (order-notes (number l.story) (handed_now l.story) bytes xs))
      q.lines i i p

  ended-order : (e : Ending) (latency : ℕ) → Ordered (line_at (completing d i e latency q) i).story
  unfolding completing with_entry
  ended-order e latency =
      changed-keeps InLine blank_line (with_story (with_entry d e latency))
      (λ l k. rw length-append (order-higher 0 (suc (number l.story)) (suc (number l.story + 1)) l.story.notes (omega arith) k))
      q.lines i i p

-- how an entry answers, by why it is due
due-answers :
    (d : Direction) (latency : ℕ) (call : Ending) (w : Message) (e : Ending)
    → Due d call w e
    → Answers d w.taking (entry_of d e latency w.taking w.done)
due-answers d latency call w e (moved f q) = whole f (ap (entry_of d finished latency w.taking) q)
due-answers d latency call w e (ended f) = cut w.done f refl
due-answers d latency call w e (ill f q) = bad f (ap (entry_of d ill_formed latency w.taking) q)

-- ---- the acts

module _ (v : Virtqueue) (i : ℕ) (call : Ending) (host m₀ : List ℕ) (h₀ : History) where
  abbrev d : Direction
  d = v.direction

  abbrev So : List ℕ → History → List ℕ → Type 0
  So m h bytes = Adds v i call m₀ h₀ h m bytes

  pub moved_same : (xs rest m : List ℕ) → call ≡ finished → (d ≡ output) ⊎ (call ≡ released) → memory_moved d xs rest m ≡ m
  moved_same xs rest m c (inl e) = rw e
  moved_same xs rest m c (inr e) = absurd (released-not (sym e ∙ c))

  takes-add : {m : List ℕ} {h : History} {signal : Bool} → Takes v m₀ h₀ m h signal → So m h []
  unfolding joining bounced entries_written
  takes-add start =
      record {
        takings = grows_none h₀.takings;
        entries = grows_none h₀.entries;
        own = further-none (line_at h₀ i).story;
        others = λ j n. record { story = refl; joined = grows_none (line_at h₀ j).joined };
        memory = λ c. refl;
        late = tt;
        mute = λ c. refl;
        kept = λ c. refl;
      }
  takes-add (joins {m = m} {h = h} {head = head} {line = line} s e q) =
      let r = takes-add s in
      record {
        takings = grows-more h₀.takings h.takings (taking head.0 (in_line line) h ∷ []) r.takings;
        entries = r.entries;
        own = joined-further d (line_at h₀ i).story i line head.0 h r.own;
        others = λ j n. joined-still (line_at h₀ j) j line head.0 h (r.others j n);
        memory = r.memory;
        late = r.late;
        mute = r.mute;
        kept = λ c. joined-kept d (line_at h₀ i).story i line head.0 h ∙ r.kept c;
      }
  takes-add (bounces {m = m} {h = h} {t = t} s e q) =
      let r = takes-add s in
      let x : Taken = taking t.head (at_once t) h in
      let a : Answer = answer_at_once v t h in
      record {
        takings = grows-more h₀.takings h.takings (x ∷ []) r.takings;
        entries = grows-more h₀.entries h.entries (a ∷ []) r.entries;
        own = r.own;
        others = r.others;
        memory = λ c. entry-written v m₀ h₀ m h a r.entries (r.memory c);
        late = each_append (λ (a : Answer). a.entry.latency ≡ v.latency) r.entries.added (a ∷ []) r.late (refl, tt);
        mute = r.mute;
        kept = r.kept;
      }

  pub acts-add : {m : List ℕ} {h : History} {bytes : List ℕ} {signal : Bool} → Acts v m₀ h₀ i call host m h bytes signal → So m h bytes
  unfolding beginning handing completing
  acts-add (taken s) = takes-add s
  acts-add (reads {m = m} {h = h} {head = head} s o e) =
      let r = acts-add s in
      let t : Taking = reading_of v i m head in
      record {
        takings = r.takings;
        entries = r.entries;
        own = begun-further d (line_at h₀ i).story i h (unread-inside h i head e) r.own t;
        others = λ j n. other-still (line_at h₀ j) j i h _ n (r.others j n);
        memory = r.memory;
        late = r.late;
        mute = r.mute;
        kept = λ c. begun_kept d (line_at h₀ i).story i t h ∙ r.kept c;
      }
  acts-add (moves {m = m} {h = h} {w = w} {xs = xs} {rest = rest} s c o e z q) =
      let r = acts-add s in
      record {
        takings = r.takings;
        entries = r.entries;
        own = handed-further d (line_at h₀ i).story i h (working-inside h i w e) r.own (bytes_moved d xs rest m) xs;
        others = λ j n. other-still (line_at h₀ j) j i h _ n (r.others j n);
        memory = λ k. moved_same xs rest m c k ∙ r.memory k;
        late = r.late;
        mute = λ k. absurd (released-not (sym k ∙ c));
        kept = λ k. handed-kept d (line_at h₀ i).story i (bytes_moved d xs rest m) xs h ∙ r.kept k;
      }
  acts-add (ends {m = m} {h = h} {w = w} {e = e} s f due) =
      let r = acts-add s in
      let l = working-inside h i w f in
      let a : Answer = answer_to d e v.latency (line_at h i) in
      record {
        takings = r.takings;
        entries = grows-more h₀.entries h.entries (a ∷ []) r.entries;
        own = ended-further d (line_at h₀ i).story i h l r.own e v.latency;
        others = λ j n. other-still (line_at h₀ j) j i h _ n (r.others j n);
        memory = λ c. entry-written v m₀ h₀ m h a r.entries (r.memory c);
        late = each_append (λ (a : Answer). a.entry.latency ≡ v.latency) r.entries.added (a ∷ []) r.late (refl, tt);
        mute = r.mute;
        kept = λ c.
            ended-kept d (line_at h₀ i).story i h l r.own e v.latency
            (none_left d (line_at h i).story
            (subst (λ (w : Message). length (payload_of d w.taking) ≤ w.done) (sym (is-now h i w f)) (due-none d call w e due c)))
            ∙ r.kept c;
      }

  -- ---- how each entry answers

  abbrev Answered : Answer → Type 0
  Answered a = Answers d a.chain a.entry

  takes-answer : {m : List ℕ} {h : History} {signal : Bool} → Takes v m₀ h₀ m h signal → Each Answered h₀.entries
      → Each Answered h.entries
  unfolding joining bounced
  takes-answer start k = k
  takes-answer (joins s e q) k = takes-answer s k
  takes-answer (bounces {m = m} {h = h} {head = head} s e q) k =
      each_append Answered h.entries (_ ∷ []) (takes-answer s k) (bad (rw q at (arrival-fits v m head.0)) refl, tt)

  pub acts-answer :
      {m : List ℕ} {h : History} {bytes : List ℕ} {signal : Bool} → Acts v m₀ h₀ i call host m h bytes signal → Each Answered h₀.entries
      → Each Answered h.entries
  unfolding beginning handing completing
  acts-answer (taken s) k = takes-answer s k
  acts-answer (reads s o e) k = acts-answer s k
  acts-answer (moves s c o e z q) k = acts-answer s k
  acts-answer (ends {h = h} {w = w} {e = e} s f due) k =
      each_append Answered h.entries (answer_to d e v.latency (line_at h i) ∷ []) (acts-answer s k) (
        subst (λ (w : Message). Answers d w.taking (entry_of d e v.latency w.taking w.done)) (sym (is-now h i w f))
            (due-answers d v.latency call w e due),
        tt,
      )

  -- ---- the notes of the line stay in order

  takes-order :
      {m : List ℕ} {h : History} {signal : Bool} → Takes v m₀ h₀ m h signal → Ordered (line_at h₀ i).story → Ordered (line_at h i).story
  unfolding bounced
  takes-order start k = k
  takes-order (joins {h = h} {head = head} {line = line} s e q) k = joined-order d i h (takes-order s k) line head.0
  takes-order (bounces s e q) k = takes-order s k

  pub acts-order :
      {m : List ℕ} {h : History} {bytes : List ℕ} {signal : Bool}
      → Acts v m₀ h₀ i call host m h bytes signal
      → Ordered (line_at h₀ i).story
      → Ordered (line_at h i).story
  acts-order (taken s) k = takes-order s k
  acts-order (reads {m = m} {h = h} {head = head} s o e) k = begun-order d i h (acts-order s k) (reading_of v i m head)
  acts-order (moves {m = m} {h = h} {xs = xs} {rest = rest} s c o e z q) k =
      handed-order d i h (acts-order s k) (bytes_moved d xs rest m) xs
  acts-order (ends {h = h} {e = e} s f due) k = ended-order d i h (acts-order s k) e v.latency
