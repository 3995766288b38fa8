-- Over any list of calls' parts on a stream queue the card is what the account stands for, and what is claimed of the histories holds. The
-- laws about runs start from any good history.
use mathlib.Core.Path.{◌≡◌, refl, sym, ap, subst}
use mathlib.Core.List.{List, [], ◌∷◌}
use Prim.Native.Nat.{ℕ, ◌≤◌}
use native.Mathlib.Omega.{arith}
use lib.ListN.{length}
use Rattle.registers.specs.Map.{size_of}
use Rattle.device.specs.Account.{end}
use Rattle.device.specs.Device.{Direction, queue_number}
use Rattle.device.specs.Transfer.{Run}
use Rattle.queue_lines.specs.Claim.{shown_run, queue_of, Good, also}
use Rattle.queue_lines.specs.Counters.{Queue}
use Rattle.queue_lines.specs.Histories.{Line, History, blank_line, standing}
use Rattle.queue_lines.specs.Parts.{Part, clears, transfers, releases, lies, part_of, told_by, after, said_by, heard, cards, accounts}
use Rattle.queue_lines.specs.Parts.{TurnOf, Turns, unsaid, Holds}
use Rattle.queue_lines.specs.Rules.{Ops}
use Rattle.queue_lines.specs.Turn.{Book}
use Rattle.device.proofs.Cases.{none-some}
use Rattle.queue_lines.proofs.Histories.{alike, pair}
use Rattle.queue_lines.proofs.Lists.{get_d-replicate-same, sum_of-none}
use Rattle.queue_lines.proofs.Natural.{emptied-keeps}
use Rattle.queue_lines.proofs.Theorem.{transfer-turn, release-turn}
use Rattle.queue_lines.proofs.Within.{transfer-within, release-within}

module _ (d : Direction) (first n : ℕ) where
  -- a history that any calls may have left
  pub record Kept (said : ℕ → List ℕ) (h : History) : Type 0 where
    pub good : Good d n said h
    pub book : Book d h
    pub within : (accounts d first n).in_work h ≤ size_of (queue_number d)

  pub empty-kept : Kept (unsaid d first n) (accounts d first n).empty
  empty-kept =
      record {
        good = (alike d n).empty-keeps;
        book =
            record {
              answers = tt;
              in-work = λ i w e. absurd (none-some w (rw (get_d-replicate-same n i blank_line) at e));
              in_order = λ i. rw (get_d-replicate-same n i blank_line) end;
            };
        within = rw (sum_of-none (λ (l : Line). length (standing l)) n blank_line refl) (omega arith);
      }

  -- ---- one part

  module _ (said : ℕ → List ℕ) (h : History) (k : Kept said h) where
    pub part-turn : (p : Part) → TurnOf d first n said p h
    part-turn clears = tt
    part-turn (transfers lay i m host) = transfer-turn (lies d first n lay) i said h m k.good k.book host
    part-turn (releases lay i m) = release-turn (lies d first n lay) i said h m k.good k.book

    pub part_same : (p : Part)
        → part_of d first n (cards d first n) p (queue_of h) ≡ shown_run queue_of (part_of d first n (accounts d first n) p h)
    unfolding part_of shown_run
    part_same clears = rw (alike d n).empty-same
    part_same (transfers lay i m host) = (part-turn (transfers lay i m host)).same
    part_same (releases lay i m) = (part-turn (releases lay i m)).same

    pub part-keeps : (p : Part) → Kept (said_by d first n (accounts d first n) said p h) (part_of d first n (accounts d first n) p h).queue
    unfolding part_of
    part-keeps clears = empty-kept
    part-keeps (transfers lay i m host) =
        let t = part-turn (transfers lay i m host) in
        record {
          good = t.good;
          book = t.book;
          within = transfer-within (lies d first n lay) i said h m k.good k.book k.within host;
        }
    part-keeps (releases lay i m) =
        let t = part-turn (releases lay i m) in
        record {
          good =
              (emptied-keeps (lies d first n lay) (pair (lies d first n lay)) said i h m k.good).kept;
          book = t.book;
          within = release-within (lies d first n lay) i said h m k.good k.book k.within;
        }

    -- what is said is the same of both
    said_same :
        (p : Part) → said_by d first n (cards d first n) said p (queue_of h) ≡ said_by d first n (accounts d first n) said p h
    unfolding shown_run
    said_same clears = refl
    said_same (transfers lay i m host) = ap (λ (r : Run Queue). also i said r.bytes) (part_same (transfers lay i m host))
    said_same (releases lay i m) = refl

  -- ---- any list of parts, from any such history

  abbrev card : Ops Queue
  card = cards d first n

  abbrev account : Ops History
  account = accounts d first n

  abbrev on : Part → History → History
  on p h = (part_of d first n account p h).queue

  abbrev then : (ℕ → List ℕ) → Part → History → ℕ → List ℕ
  then said p h = said_by d first n account said p h

  run-told : (ps : List Part) (said : ℕ → List ℕ) (h : History) → Kept said h
      → told_by d first n card (queue_of h) ps ≡ told_by d first n account h ps
  unfolding told_by shown_run
  run-told [] said h k = refl
  run-told (p ∷ ps) said h k =
      rw (part_same said h k p)
      (ap (λ (l : List (Run (Unit {0}))). shown_run (λ (q : History). tt) (part_of d first n account p h) ∷ l)
      (run-told ps (then said p h) (on p h) (part-keeps said h k p)))

  run-stands : (ps : List Part) (said : ℕ → List ℕ) (h : History) → Kept said h
      → after d first n card (queue_of h) ps ≡ queue_of (after d first n account h ps)
  unfolding after shown_run
  run-stands [] said h k = refl
  run-stands (p ∷ ps) said h k = rw (part_same said h k p) (run-stands ps (then said p h) (on p h) (part-keeps said h k p))

  run-turns : (ps : List Part) (said : ℕ → List ℕ) (h : History) → Kept said h → Turns d first n said ps h
  run-turns [] said h k = tt
  run-turns (p ∷ ps) said h k = (part-turn said h k p, run-turns ps (then said p h) (on p h) (part-keeps said h k p))

  run-keeps : (ps : List Part) (said : ℕ → List ℕ) (h : History) → Kept said h
      → Kept (heard d first n card said (queue_of h) ps) (after d first n account h ps)
  unfolding after heard shown_run
  run-keeps [] said h k = k
  run-keeps (p ∷ ps) said h k =
      rw (said_same said h k p, part_same said h k p) (run-keeps ps (then said p h) (on p h) (part-keeps said h k p))

  pub holds : (ps : List Part) → Holds d first n ps
  holds ps =
      let u : ℕ → List ℕ = unsaid d first n in
      let k = run-keeps ps u account.empty empty-kept in
      let e : queue_of account.empty ≡ card.empty = sym (alike d n).empty-same in
      let s = run-stands ps u account.empty empty-kept in
      let h : History = after d first n account account.empty ps in
      let w = heard d first n card u (queue_of account.empty) ps in
      let l : card.in_work (queue_of h) ≤ size_of (queue_number d) = rw ((alike d n).in_work-same w h k.good) k.within in
      record {
        same = subst (λ (q : Queue). told_by d first n card q ps ≡ told_by d first n account account.empty ps) e
            (run-told ps u account.empty empty-kept);
        stands = subst (λ (q : Queue). after d first n card q ps ≡ queue_of h) e s;
        turns = run-turns ps u account.empty empty-kept;
        good = subst (λ (q : Queue). Good d n (heard d first n card u q ps) h) e k.good;
        book = k.book;
        within =
            subst (λ (q : Queue). card.in_work (after d first n card q ps) ≤ size_of (queue_number d)) e
            (subst (λ (q : Queue). card.in_work q ≤ size_of (queue_number d)) (sym s) l);
      }
