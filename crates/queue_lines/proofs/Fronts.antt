-- What the front of a line tells of the line's histories.
use Rattle.std.specs.Prelude.{Option, None, Some}
use mathlib.Core.Path.{◌≡◌, refl, sym, ap, ◌∙◌}
use mathlib.Core.Bool.{Bool, true, false, cond}
use mathlib.Core.List.{List, [], ◌∷◌}
use Prim.Native.Nat.{ℕ, zero, suc, ◌≤◌, ◌<◌}
use native.Mathlib.Omega.{arith}
use borrow.Author.Tests.{leb-true, ltb-true, ltb-false}
use lib.Dec.{ltb}
use lib.ListN.{length, take, drop, get_or, length-take, length-drop, length-map, get_or-eq_default}
use Rattle.device.specs.Claim.{work_of}
use Rattle.device.specs.Device.{Message, Direction, Taking, Ending}
use Rattle.device.specs.Histories.{History as Story, number, current, handed_now, took, noted, with_entry}
use Rattle.device.proofs.Cases.{none-some}
use Rattle.device.proofs.Histories.{free}
use Rattle.queue_lines.specs.Claim.{heads_of}
use Rattle.queue_lines.specs.Counters.{front_of}
use Rattle.queue_lines.specs.Histories.{Taken, History, line_at, blank_line, unread_in, Line, with_story, beginning, handing, completing}
use Rattle.queue_lines.specs.Rules.{Front, vacant, unread, working}
use lib.Seq.{get_or-set_same}

-- ---- a front

abbrev message_of : Front → Option Message
message_of vacant = None
message_of (unread head) = None
message_of (working m) = Some m

abbrev head_of : Front → List ℕ
head_of vacant = []
head_of (unread head) = head ∷ []
head_of (working m) = []

message-front : (o : Option Message) (heads : List ℕ) → message_of (front_of o heads) ≡ o
message-front None [] = refl
message-front None (head ∷ heads) = refl
message-front (Some m) heads = refl

head-front : (heads : List ℕ) → head_of (front_of None heads) ≡ take 1 heads
head-front [] = refl
head-front (head ∷ heads) = refl

module _ (o : Option Message) (heads : List ℕ) where
  front-working : (m : Message) → front_of o heads ≡ working m → o ≡ Some m
  front-working m e = sym (message-front o heads) ∙ ap message_of e

  front-none : (head : ℕ) → front_of o heads ≡ unread head → o ≡ None
  front-none head e = sym (message-front o heads) ∙ ap message_of e

  front-head : (head : ℕ) → front_of o heads ≡ unread head → take 1 heads ≡ head ∷ []
  front-head head e = sym (head-front heads) ∙ ap head_of (rw (front-none head e) at e)

-- ---- the message in work

abbrev now_of : Story → Message
now_of s = record { taking = current s; done = handed_now s }

work-free : (s : Story) → work_of s ≡ None → free s ≡ true
work-free s e = go (free s) e
  where
    go : (b : Bool) → cond b None (Some (now_of s)) ≡ None → b ≡ true
    go true e = refl
    go false e = absurd (none-some (now_of s) (sym e))

work-busy : (s : Story) (m : Message) → work_of s ≡ Some m → (free s ≡ false) × (now_of s ≡ m)
work-busy s m e = go (free s) e
  where
    go : (b : Bool) → cond b None (Some (now_of s)) ≡ Some m → (b ≡ false) × (now_of s ≡ m)
    go true e = absurd (none-some m e)
    go false e = (refl, cc)

-- ---- the first that was not read

next-head : (n : ℕ) (l : List Taken) (head : ℕ) → take 1 (heads_of (drop n l)) ≡ head ∷ [] → (n < length l)
    × (get_or (heads_of l) n 0 ≡ head)
next-head zero [] head e = absurd (omega (arith, ap length e))
next-head zero (x ∷ l) head e = (omega arith, ap (λ (l : List ℕ). get_or l 0 0) e)
next-head (suc n) [] head e = absurd (omega (arith, ap length e))
next-head (suc n) (x ∷ l) head e = let r = next-head n l head e in (omega (arith, r.0), r.1)

-- ---- line i of a history

abbrev pub front_at : History → ℕ → Front
front_at h i = front_of (work_of (line_at h i).story) (heads_of (unread_in (line_at h i)))

-- a line past the last has no front
pub inside : (h : History) (i : ℕ) → (front_at h i ≡ vacant → ⊥) → i < length h.lines
inside h i e = go (ltb i (length h.lines)) refl
  where
    go : (b : Bool) → ltb i (length h.lines) ≡ b → i < length h.lines
    go true l = ltb-true i (length h.lines) l
    go false l = absurd (e (rw (get_or-eq_default h.lines blank_line (ltb-false i (length h.lines) l))))

module _ (h : History) (i : ℕ) where
  module _ (m : Message) (e : front_at h i ≡ working m) where
    pub working-inside : i < length h.lines
    working-inside = inside h i (λ z. none-some m (ap message_of (sym z ∙ e)))

    pub is-work : work_of (line_at h i).story ≡ Some m
    is-work = front-working (work_of (line_at h i).story) (heads_of (unread_in (line_at h i))) m e

    pub is-busy : free (line_at h i).story ≡ false
    is-busy = (work-busy (line_at h i).story m is-work).0

    pub is-now : now_of (line_at h i).story ≡ m
    is-now = (work-busy (line_at h i).story m is-work).1

  module _ (head : ℕ) (e : front_at h i ≡ unread head) where
    pub unread-inside : i < length h.lines
    unread-inside = inside h i (λ z. let y : ◌≡◌ {A = ℕ} 0 1 = ap (λ (x : Front). length (head_of x)) (sym z ∙ e) in omega arith)

    pub is_free : free (line_at h i).story ≡ true
    is_free = work-free (line_at h i).story (front-none (work_of (line_at h i).story) (heads_of (unread_in (line_at h i))) head e)

    pub is-next :
        (length (line_at h i).story.takings < length (line_at h i).joined)
        × (get_or (heads_of (line_at h i).joined) (length (line_at h i).story.takings) 0 ≡ head)
    is-next =
        next-head (length (line_at h i).story.takings) (line_at h i).joined head
        (front-head (work_of (line_at h i).story) (heads_of (unread_in (line_at h i))) head e)

  -- an empty line
  pub none-stands : front_at h i ≡ vacant → length (line_at h i).joined ≤ number (line_at h i).story
  none-stands e =
      let heads : List ℕ = heads_of (unread_in (line_at h i)) in
      let none' : work_of (line_at h i).story ≡ None = sym (message-front (work_of (line_at h i).story) heads) ∙ ap message_of e in
      let z : take 1 heads ≡ [] = sym (head-front heads) ∙ ap head_of (rw none' at e) in
      omega (
        arith,
        leb-true (length (line_at h i).story.takings) (number (line_at h i).story) (work-free (line_at h i).story none'),
        simp (length-take, length-map, length-drop) at (ap length z),
      )

-- ---- the line whose front is read, moved or completed

module _ (d : Direction) (i : ℕ) (h : History) where
  abbrev own : Line
  own = line_at h i

  pub own_read : (t : Taking) (head : ℕ) → front_at h i ≡ unread head → line_at (beginning d i t h) i ≡ with_story (took d t) own
  unfolding beginning
  own_read t head e = get_or-set_same h.lines i (with_story (took d t) own) blank_line (unread-inside h i head e)

  module _ (w : Message) (e : front_at h i ≡ working w) where
    pub own-moved : (bytes xs : List ℕ) → line_at (handing d i bytes xs h) i ≡ with_story (noted d bytes xs) own
    unfolding handing
    own-moved bytes xs = get_or-set_same h.lines i (with_story (noted d bytes xs) own) blank_line (working-inside h i w e)

    pub own-ended : (x : Ending) (latency : ℕ) → line_at (completing d i x latency h) i ≡ with_story (with_entry d x latency) own
    unfolding completing
    own-ended x latency = get_or-set_same h.lines i (with_story (with_entry d x latency) own) blank_line (working-inside h i w e)
