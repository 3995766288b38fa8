-- A head more in a slot, and in the words.
use mathlib.Core.Path.{◌≡◌}
use mathlib.Core.List.{List, [], ◌∷◌, ◌++◌}
use Prim.Native.Nat.{ℕ, ◌+◌, ◌-◌, ◌*◌, ◌≤◌}
use native.Mathlib.Omega.{arith}
use lib.ListN.{length}
use Rattle.marks.specs.Marks.{message_in, line_in}
use Rattle.waiting.specs.Waiting.{heads_in, FitLine}
use Rattle.waiting.specs.declared.Line.{Line}
use Rattle.queue_lines.specs.Chains.{Virtqueue, queue_size}
use Rattle.line_words.specs.Joined.{Pushed, Open, Joined}
use Rattle.line_words.specs.Slots.{slot_words, slot_of, chain_in, marks_in, ring_in, line_of, queue_in}
use Rattle.line_words.proofs.Lines.{line_at, line_set, slots-fit}
use Rattle.line_words.proofs.Parts.{with_slot, slot-room}

pub pushed-by : (head : ℕ) (s s' ring : List ℕ) (line : Line) → chain_in s' ≡ chain_in s → message_in (marks_in s')
    ≡ message_in (marks_in s)
    → line_in (marks_in s') ≡ line → ring_in s' ≡ ring → heads_in ring line ≡ heads_in (ring_in s) (line_in (marks_in s)) ++ head ∷ []
    → FitLine (length ring) line → Pushed head s s'
unfolding line_of
pushed-by head s s' ring line c k l r h fit =
    record { line = rw (c, k, l, r, h); fit = λ len f. record { message = rw (c, k) f.message; line = rw (r, l) fit } }

-- what lies between two places
pub between : (a b : ℕ) → a + b - a ≡ b
between a b = omega arith

module _ (v : Virtqueue) (i : ℕ) (ws : List ℕ) (o : Open v i ws) where
  -- the slot lies in the words
  pub open-inside : slot_words (queue_size v) * i + slot_words (queue_size v) ≤ length ws
  open-inside = let e = slot-room (slot_words (queue_size v)) i v.streams o.there in omega (arith, e, o.words)

  pub joined_by : (head : ℕ) (ys : List ℕ) → length ys ≡ slot_words (queue_size v)
      → Pushed head (slot_of (slot_words (queue_size v)) ws i) ys
      → Joined v i head ws (with_slot (slot_words (queue_size v)) i ws ys)
  unfolding queue_in
  joined_by head ys l p =
      record {
        queue = λ c. rw (
          line_set (queue_size v) v.streams ws i ys open-inside l,
          p.line,
          line_at (queue_size v) v.streams ws i o.there,
        );
        fit = λ len f. slots-fit v len i ws f o.there ys l (p.fit len (f.slot i o.there));
      }
