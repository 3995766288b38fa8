-- What is good of a history, in a reader's words: each position of each payload stands in exactly one place; only a Release gives
-- positions up; a message answered otherwise was moved whole, byte by byte at its own addresses; those of a play are its request's bytes
-- past the first four.
use mathlib.Core.Path.{◌≡◌, refl, ap}
use mathlib.Core.Bool.{Bool, true, false, cond}
use mathlib.Core.List.{List, [], ◌∷◌, ◌++◌, append-nil}
use Prim.Native.Nat.{ℕ, zero, suc, ◌+◌, ◌≤◌, ◌<◌}
use native.Mathlib.Omega.{arith}
use native.Mathlib.Decide.{ℕ_discrete}
use borrow.Author.Tests.{eq-eqb, ne_eqb}
use lib.Dec.{eqb}
use lib.ListN.{length, get_or, length-append}
use lib.Seq.{take-length, get_or-take, get_or-drop}
use Rattle.ranges.specs.Ranges.{up_from, places}
use Rattle.ranges.proofs.Laws.{length-up_from}
use Rattle.device.specs.Claim.{Good, waiting_of, payload_at}
use Rattle.device.specs.Device.{Direction, output, nobody, Ending, finished, released, ill_formed}
use Rattle.device.specs.Transfer.{is_well, payload_of}
use Rattle.device.specs.Histories.{History, unanswered, handed_of, addresses_of, lost_of, number}

-- ---- how often p stands in a list

abbrev pub occurs : ℕ → List ℕ → ℕ
occurs p [] = 0
occurs p (x ∷ xs) = cond (eqb x p) 1 0 + occurs p xs

occurs-append : (p : ℕ) (xs ys : List ℕ) → occurs p (xs ++ ys) ≡ occurs p xs + occurs p ys
occurs-append p [] ys = omega arith
occurs-append p (x ∷ xs) ys = rw (occurs-append p xs ys) (omega arith)

occurs-above : (p a k : ℕ) → p < a → occurs p (up_from a k) ≡ 0
unfolding up_from
occurs-above p a zero h = refl
occurs-above p a (suc k) h = rw (ne_eqb a p (λ e. omega arith), occurs-above p (a + 1) k (omega arith))

occurs-up_from : (p a k : ℕ) → a ≤ p → p < a + k → occurs p (up_from a k) ≡ 1
unfolding up_from
occurs-up_from p a zero l h = absurd (omega arith)
occurs-up_from p a (suc k) l h = go (ℕ_discrete a p) (λ n. occurs-up_from p (a + 1) k (omega arith) (omega arith))
  where
    go : Dec (a ≡ p) → ((a ≡ p → ⊥) → occurs p (up_from (a + 1) k) ≡ 1) → cond (eqb a p) 1 0 + occurs p (up_from (a + 1) k) ≡ 1
    go (yes e) ih = rw (eq-eqb a p e, occurs-above p (a + 1) k (omega arith))
    go (no n) ih = rw (ne_eqb a p n, ih n)

-- ---- of a good history

module _ (d : Direction) (w : List ℕ) (h : History) (g : Good d w h) (t : ℕ) where
  -- "each payload position of each message taken is in exactly one place: handed on, given up or waiting"
  pub in-one-place :
      (p : ℕ)
      → p < length (payload_at d t h)
      → occurs p (handed_of t h.notes) + (occurs p (lost_of t h.losses) + occurs p (waiting_of d t h)) ≡ 1
  in-one-place p l =
      rw (
        ← (occurs-append p (lost_of t h.losses) (waiting_of d t h)),
        ← (occurs-append p (handed_of t h.notes) (lost_of t h.losses ++ waiting_of d t h)),
        g.once t,
      ) (occurs-up_from p 0 (length (payload_at d t h)) (omega arith) (omega arith))

  -- where positions are given up, the entry is a Release's
  pub lost-by-release : 0 < length (lost_of t h.losses) → (get_or h.entries t unanswered).ending ≡ released
  lost-by-release l = go (get_or h.entries t unanswered).ending refl
    where
      go : (e : Ending) → (get_or h.entries t unanswered).ending ≡ e → (get_or h.entries t unanswered).ending ≡ released
      go released q = q
      go finished q = absurd (omega (arith, ap length (g.blamed t (λ r. let z : ◌≡◌ {A = ℕ} 0 1 = cc in omega arith))))
      go ill_formed q = absurd (omega (arith, ap length (g.blamed t (λ r. let z : ◌≡◌ {A = ℕ} 0 1 = cc in omega arith))))

  -- a message that was completed, and not by a Release, was handed on whole, from the payload's own addresses
  module _ (l : t < number h) (n : (get_or h.entries t unanswered).ending ≡ released → ⊥) where
    pub whole : handed_of t h.notes ≡ up_from 0 (length (payload_at d t h))
    whole = rw (ne_eqb t (number h) (λ e. omega arith), g.blamed t n, append-nil) at (g.once t)

    pub whole-read : addresses_of t h.notes ≡ payload_at d t h
    whole-read = rw (g.read t, whole, length-up_from, take-length)

-- position p of a play's payload was read at byte 4 + p of its request
module _ (w : List ℕ) (h : History) (g : Good output w h) (t : ℕ) where
  -- the request of taking t
  abbrev request : List ℕ
  request = places (get_or h.takings t nobody).request

  payload-at :
      (well : Bool) → is_well (get_or h.takings t nobody).form ≡ well
      → (p : ℕ) → p < length (payload_at output t h)
      → get_or (payload_at output t h) p 0 ≡ get_or request (4 + p) 0
  unfolding payload_of
  payload-at true e p l = rw (e, get_or-drop)
  payload-at false e p l = absurd (omega (arith, rw e at l))

  pub handed-at :
      (p : ℕ) → p < length (handed_of t h.notes)
      → get_or (addresses_of t h.notes) p 0 ≡ get_or request (4 + p) 0
  handed-at p l =
      let few : length (handed_of t h.notes) ≤ length (payload_at output t h) =
      omega (arith, rw (length-append, length-up_from) at (ap length (g.once t))) in
      rw (g.read t, get_or-take (length (handed_of t h.notes)) (payload_at output t h) p 0 l)
      (payload-at (is_well (get_or h.takings t nobody).form) refl p (omega (arith, few, l)))
