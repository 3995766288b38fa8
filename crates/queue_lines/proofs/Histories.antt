-- Histories with lines run as counters with lines do: each operation on a history, shown as counters, is the operation on the counters.
use Rattle.std.specs.Prelude.{Option, None, Some}
use mathlib.Core.Path.{◌≡◌, refl, sym}
use mathlib.Core.Bool.{Bool, true, false, cond}
use mathlib.Core.List.{List, [], ◌∷◌, ◌++◌, map, map-append}
use Prim.Native.Nat.{ℕ, zero, suc, ◌+◌, ◌-◌, ◌≤◌}
use native.Mathlib.Omega.{arith}
use borrow.Author.Tests.{leb-true, leb-false}
use lib.ListN.{length, drop, get_or, length-append, length-drop, length-map, get_or-map}
use lib.Seq.{drop-append-le, drop-drop, get_or-set_same}
use Rattle.device.specs.Claim.{work_of, Good as GoodStory}
use Rattle.device.specs.Counters.{further}
use Rattle.device.specs.Device.{Direction, Taking, Ending, Message}
use Rattle.device.specs.Histories.{History as Story, number, current, handed_now, took, noted, with_entry}
use Rattle.device.proofs.Histories.{free, place-wrap, next-wrap, took-work, entered-work, noted-work}
use Rattle.queue_lines.specs.Chains.{Virtqueue, in_line}
use Rattle.queue_lines.specs.Claim.{shown_line, queue_of, card, account, GoodLine, Good}
use Rattle.queue_lines.specs.Counters as counters
use Rattle.queue_lines.specs.Counters.{Queue, no_line, if_begun, length_of, changed, counters_of}
use Rattle.queue_lines.specs.Histories.{Taken, Line, History, blank_line, line_at, standing, unread_in, with_joined, with_story, taking}
use Rattle.queue_lines.specs.Histories.{joining, bounced, beginning, handing, completing, histories_of}
use Rattle.queue_lines.specs.Rules.{unread, working, fresh, onward}
use Rattle.queue_lines.proofs.Fronts.{front_at, working-inside, is-work, is-busy, unread-inside, is_free}
use Rattle.queue_lines.proofs.Keeps.{few-read, empty-good, joining-good, bounced-good, beginning-good, handing-good, completing-good}
use Rattle.queue_lines.proofs.Keeps.{also-none}
use Rattle.queue_lines.proofs.Lists.{map-set, map-replicate, sum_of-map}
use Rattle.queue_lines.proofs.Natural.{Alike, Pair}

map-drop : {A B : Type 0} (f : A → B) (k : ℕ) (l : List A) → map f (drop k l) ≡ drop k (map f l)
map-drop f zero l = refl
map-drop f (suc k) [] = refl
map-drop f (suc k) (x ∷ l) = map-drop f k l

-- ---- lines shown

pub shown-at : (lines : List Line) (i : ℕ) → get_or (map shown_line lines) i no_line ≡ shown_line (get_or lines i blank_line)
unfolding shown_line
shown-at lines i = get_or-map shown_line lines i blank_line

line_same :
    {a b : Option Message} {x y : List ℕ} → a ≡ b → x ≡ y
    → ◌≡◌ {A = counters.Line} (record { begun = a; heads = x }) (record { begun = b; heads = y })
line_same p q = rw (p, q)

-- a line changed, shown
shown-changed :
    (lines : List Line) (i : ℕ) (f : Line → Line) (k : counters.Line → counters.Line)
    → k (shown_line (get_or lines i blank_line)) ≡ shown_line (f (get_or lines i blank_line))
    → changed no_line i k (map shown_line lines) ≡ map shown_line (changed blank_line i f lines)
shown-changed lines i f k e = rw (shown-at lines i, e) (sym (map-set shown_line lines i (f (get_or lines i blank_line))))

module _ (d : Direction) where
  -- ---- how many stand in a line

  if-begun : (s : Story) → number s ≤ length s.takings → length s.takings ≤ suc (number s)
      → if_begun (work_of s) ≡ length s.takings - number s
  if-begun s few one = go (free s) refl
    where
      go :
          (b : Bool)
          → free s ≡ b
          → if_begun (cond b None (Some (record { taking = current s; done = handed_now s }))) ≡ length s.takings - number s
      go true e = omega (arith, leb-true (length s.takings) (number s) e)
      go false e = omega (arith, leb-false (length s.takings) (number s) e)

  line-length :
      (said : List ℕ) (i : ℕ) (l : Line) (h : History) → GoodLine d said i l h.takings h.entries
      → length_of (shown_line l) ≡ length (standing l)
  unfolding shown_line
  line-length said i l h g =
      rw (
        if-begun l.story g.story.few g.story.one,
        length-map,
        length-drop (length l.story.takings),
        length-drop (number l.story),
      )
      (omega (arith, few-read d said i l h.takings h.entries g, g.story.few))

  -- ---- each change of a line, shown

  joined-shown :
      (said : List ℕ) (i : ℕ) (l : Line) (h : History)
      → GoodLine d said i l h.takings h.entries
      → (x : Taken)
      → record { begun = (shown_line l).begun; heads = (shown_line l).heads ++ x.head ∷ [] } ≡ shown_line (with_joined x l)
  unfolding shown_line
  joined-shown said i l h g x =
      rw (drop-append-le (length l.story.takings) l.joined (x ∷ []) (few-read d said i l h.takings h.entries g), map-append)

  took-shown :
      (w : List ℕ) (l : Line)
      → GoodStory d w l.story
      → (t : Taking)
      → free l.story ≡ true
      → record { begun = Some (fresh t); heads = drop 1 (shown_line l).heads } ≡ shown_line (with_story (took d t) l)
  unfolding shown_line took
  took-shown w l g t e = line_same (took-work d w l.story g t e)
      (rw (length-append, ← drop-drop) (sym (map-drop (λ (x : Taken). x.head) 1 (unread_in l))))

  noted-shown :
      (l : Line) (bytes xs : List ℕ)
      → free l.story ≡ false
      → record { begun = further (length xs) (shown_line l).begun; heads = (shown_line l).heads }
      ≡ shown_line (with_story (noted d bytes xs) l)
  unfolding shown_line noted
  noted-shown l bytes xs e = line_same (noted-work d l.story bytes xs e) refl

  entered-shown :
      (w : List ℕ) (l : Line)
      → GoodStory d w l.story
      → (e : Ending) (latency : ℕ)
      → record { begun = None; heads = (shown_line l).heads } ≡ shown_line (with_story (with_entry d e latency) l)
  unfolding shown_line with_entry
  entered-shown w l g e latency = line_same (entered-work d w l.story g e latency) refl

  -- ---- each operation

  module _ (n : ℕ) where
    module _ (w : ℕ → List ℕ) (h : History) (g : Good d n w h) where
      queued-same : (i : ℕ) → (counters_of d n).queued i (queue_of h) ≡ (histories_of d n).queued i h
      unfolding queue_of
      queued-same i = rw (shown-at h.lines i) (line-length (w i) i (line_at h i) h (g.line i))

      in_work-same : (counters_of d n).in_work (queue_of h) ≡ (histories_of d n).in_work h
      unfolding queue_of
      in_work-same =
          sum_of-map length_of shown_line (λ (l : Line). length (standing l)) blank_line h.lines
          (λ i. line-length (w i) i (line_at h i) h (g.line i))

      join-same : (i head : ℕ) → (counters_of d n).join i head (queue_of h) ≡ queue_of (joining i head h)
      unfolding queue_of joining
      join-same i head =
          let x : Taken = taking head (in_line i) h in
          rw (
            next-wrap,
            length-append,
            shown-changed h.lines i (with_joined x) (λ l. record { begun = l.begun; heads = l.heads ++ head ∷ [] })
                (joined-shown (w i) i (line_at h i) h (g.line i) x),
          )

      begin-same :
          (i : ℕ) (t : Taking) → front_at h i ≡ unread t.head → (counters_of d n).begin i t (queue_of h) ≡ queue_of (beginning d i t h)
      unfolding queue_of beginning
      begin-same i t e =
          rw (shown-changed h.lines i (with_story (took d t)) (λ l. record { begun = Some (fresh t); heads = drop 1 l.heads })
          (took-shown (w i) (line_at h i) (g.line i).story t (is_free h i t.head e)))

      begin-front : (i : ℕ) (t : Taking) → front_at h i ≡ unread t.head → front_at (beginning d i t h) i ≡ working (fresh t)
      unfolding beginning
      begin-front i t e =
          rw (
            get_or-set_same h.lines i (with_story (took d t) (line_at h i)) blank_line (unread-inside h i t.head e),
            ← (took-work d (w i) (line_at h i).story (g.line i).story t (is_free h i t.head e)),
          )

      complete-same :
          (i : ℕ) (m : Message) (e : Ending) (latency : ℕ)
          → front_at h i ≡ working m
          → (counters_of d n).complete i e latency (queue_of h) ≡ queue_of (completing d i e latency h)
      unfolding queue_of completing
      complete-same i m e latency front =
          rw (
            next-wrap,
            length-append,
            shown-changed h.lines i (with_story (with_entry d e latency)) (λ l. record { begun = None; heads = l.heads })
                (entered-shown (w i) (line_at h i) (g.line i).story e latency),
          )

    module _ (h : History) (i : ℕ) (m : Message) (bytes xs : List ℕ) (front : front_at h i ≡ working m) where
      hand-same : (counters_of d n).hand i bytes xs (queue_of h) ≡ queue_of (handing d i bytes xs h)
      unfolding queue_of handing
      hand-same =
          rw (shown-changed h.lines i (with_story (noted d bytes xs))
          (λ l. record { begun = further (length xs) l.begun; heads = l.heads })
          (noted-shown (line_at h i) bytes xs (is-busy h i m front)))

      hand-front : front_at (handing d i bytes xs h) i ≡ working (onward (length xs) m)
      unfolding handing
      hand-front =
          rw (
            get_or-set_same h.lines i (with_story (noted d bytes xs) (line_at h i)) blank_line (working-inside h i m front),
            ← (noted-work d (line_at h i).story bytes xs (is-busy h i m front)),
            is-work h i m front,
          )

    bounce-same : (h : History) (t : Taking) (latency : ℕ) → (counters_of d n).bounce t latency (queue_of h)
        ≡ queue_of (bounced d t latency h)
    unfolding queue_of bounced
    bounce-same h t latency = simp (length-append, next-wrap)

    front_same : (h : History) (i : ℕ) → (counters_of d n).front i (queue_of h) ≡ (histories_of d n).front i h
    unfolding queue_of shown_line
    front_same h i = rw (shown-at h.lines i)

    empty-same : (counters_of d n).empty ≡ queue_of (histories_of d n).empty
    unfolding queue_of shown_line
    empty-same = rw (map-replicate shown_line n blank_line)

    used_place-same : (h : History) → (counters_of d n).used_place (queue_of h) ≡ (histories_of d n).used_place h
    unfolding queue_of
    used_place-same h = place-wrap d (length h.entries)

    used_index-same : (h : History) → (counters_of d n).used_index (queue_of h) ≡ (histories_of d n).used_index h
    unfolding queue_of
    used_index-same h = next-wrap (length h.entries)

    place_same : (h : History) → (counters_of d n).place (queue_of h) ≡ (histories_of d n).place h
    unfolding queue_of
    place_same h = place-wrap d (length h.takings)

    new-same : (h : History) (index : ℕ) → (counters_of d n).new (queue_of h) index ≡ (histories_of d n).new h index
    unfolding queue_of
    new-same h index = refl

    pub alike : Alike (histories_of d n) (counters_of d n) d n queue_of (Good d n)
    alike =
        record {
          empty-same = empty-same;
          empty-keeps = empty-good d n;
          none-keeps = also-none d n;
          new-same = new-same;
          place_same = place_same;
          used_place-same = used_place-same;
          used_index-same = used_index-same;
          in_work-same = in_work-same;
          queued-same = λ w h i g. queued-same w h g i;
          front_same = front_same;
          join-same = λ w h i head g. join-same w h g i head;
          join-keeps = λ w h i head g l. joining-good d n w h g i head l;
          bounce-same = bounce-same;
          bounce-keeps = λ w h t latency g. bounced-good d n w h g t latency;
          begin-same = λ w h i t g e. begin-same w h g i t e;
          begin-keeps = λ w h i t g e. beginning-good d n w h g i t e;
          begin-front = λ w h i t g e. begin-front w h g i t e;
          hand-same = hand-same;
          hand-keeps = λ w h i m room before bytes g e long. handing-good d n w h i m room before bytes g e long;
          hand-front = hand-front;
          complete-same = λ w h i m e latency g front. complete-same w h g i m e latency front;
          complete-keeps = λ w h i m e latency g front all. completing-good d n w h g i m front e latency all;
        }

-- the account and the card, of a queue
abbrev pub pair : (v : Virtqueue) → Pair History Queue v.direction v.streams
pair v =
    record {
      one = account v;
      other = card v;
      shown = queue_of;
      kept = Good v.direction v.streams;
      alike = alike v.direction v.streams;
    }
