-- Laws of control requests: a request goes by its first bytes.
use mathlib.Core.Path.{◌≡◌, refl, sym, ◌∙◌, ap}
use mathlib.Core.Bool.{Bool, true, false}
use mathlib.Core.List.{List, ◌++◌}
use Rattle.std.specs.Prelude.{Option, None, Some, Ok}
use Prim.Native.Nat.{ℕ, zero, suc, ◌+◌, ◌-◌, ◌≤◌, ◌<◌}
use native.Mathlib.Omega.{arith}
use borrow.Author.Tests.{ltb-true, ltb-false}
use lib.Dec.{ltb}
use lib.ListN.{length, get_or, take, drop, replicate, length-take, length-map, length-replicate, get_or-append, get_or-eq_default}
use lib.Seq.{sets, sets-eq, get_or-append-add, get_or-drop, get_or-take}
use Rattle.memory.specs.Bytes.{le}
use Rattle.memory.proofs.Laws.{le_same}
use Rattle.ranges.specs.Ranges.{Sound, ranges_of, places, bytes_at}
use Rattle.ranges.specs.declared.Ranges.{Ranges}
use Rattle.ranges.proofs.Laws.{length-places, map-take}
use Rattle.line_calls.specs.Calls.{served}
use Rattle.line_calls.specs.Streams.{Streams, direction_number}
use Rattle.reply.specs.declared.Pending.{Pending}
use Rattle.rules.specs.Control as rules
use Rattle.rules.specs.Lifecycle.{transition}
use Rattle.rules.specs.declared.Asked.{Asked}
use Rattle.rules.specs.declared.Asked.TheVariants.{Information, Remap, Pcm}
use Rattle.rules.specs.declared.Command.{Command}
use Rattle.rules.specs.declared.Command.TheVariants as command
use Rattle.control.specs.Control.{asking_of, Reads}

-- ---- a request's first bytes

zeros : (k i : ℕ) → get_or {A = ℕ} (replicate k 0) i 0 ≡ 0
zeros zero i = refl
zeros (suc k) zero = refl
zeros (suc k) (suc i) = zeros k i

-- bytes put at the start of zeros stand there, and a byte past them is 0
first-bytes : (k : ℕ) (bs : List ℕ) (i : ℕ) → i < k → get_or (sets (replicate k 0) 0 (take k bs)) i 0 ≡ get_or bs i 0
first-bytes k bs i h = rw (sets-eq (take k bs) (replicate k 0) 0 fits) (by (ltb i (length (take k bs))) refl) where
  fits : 0 + length (take k bs) ≤ length {A = ℕ} (replicate k 0)
  fits = omega (arith, length-take k bs, length-replicate {A = ℕ} k 0)

  by : (t : Bool) → ltb i (length (take k bs)) ≡ t → get_or (take k bs ++ drop (0 + length (take k bs)) (replicate k 0)) i 0 ≡ get_or bs i 0
  by true e = get_or-append (take k bs) _ 0 i (ltb-true i (length (take k bs)) e) ∙ get_or-take k bs i 0 h
  by false e =
      let b : length (take k bs) ≤ i = omega (arith, ltb-false i (length (take k bs)) e) in
      let s : i ≡ length (take k bs) + (i - length (take k bs)) = omega arith in
      let past : length bs ≤ i = omega (arith, length-take k bs) in
      ap (λ (j : ℕ). get_or (take k bs ++ drop (0 + length (take k bs)) (replicate k 0)) j 0) s
      ∙ get_or-append-add (take k bs) _ (i - length (take k bs)) 0
      ∙ get_or-drop (0 + length (take k bs)) (replicate k 0) (i - length (take k bs)) 0
      ∙ zeros k _
      ∙ sym (get_or-eq_default bs 0 past)

-- a number within the first 24 bytes is the request's
pub words-agree : (m ps : List ℕ) (n at : ℕ) → at + n ≤ 24
    → le n (sets (replicate 24 0) 0 (bytes_at m (take 24 ps))) at ≡ le n (bytes_at m ps) at
words-agree m ps n at h =
    rw (map-take (λ (a : ℕ). get_or m a 0) 24 ps) (le_same n _ (bytes_at m ps) at (λ i a b. first-bytes 24 (bytes_at m ps) i (omega arith)))

-- a request of its layout's length, answered where there are these streams
abbrev pub answer_in : Streams → Asked → rules.Parts → List ℕ → ℕ → rules.Served
answer_in n a p request room = rules.answer_by (rules.inform_by (rules.items_by (direction_number n))) a p request room

-- a command goes by the first 24 bytes
module _ (p : rules.Parts) (xs ys : List ℕ) (h : (n at : ℕ) → at + n ≤ 24 → le n xs at ≡ le n ys at) where
  obeyed-agree : (c : Command) (id state : ℕ) → rules.obeyed p c id state xs ≡ rules.obeyed p c id state ys
  unfolding rules.set_params rules.judged_params
  obeyed-agree command.SetParams id state =
      rw (
        h 4 8 (omega arith),
        h 4 12 (omega arith),
        h 4 16 (omega arith),
        h 1 20 (omega arith),
        h 1 21 (omega arith),
        h 1 22 (omega arith),
        h 1 23 (omega arith),
      )
  obeyed-agree command.Prepare id state = refl
  obeyed-agree command.Start id state = refl
  obeyed-agree command.Stop id state = refl
  obeyed-agree command.Release id state = refl

  led-agree : (c : Command) (id : ℕ) (o : Option ℕ) → rules.led p c id xs o ≡ rules.led p c id ys o
  led-agree c id None = refl
  led-agree c id (Some state) = obeyed-agree c id state

  -- and so does any answer
  pub answers_agree : (n : Streams) (a : Asked) (room : ℕ) → answer_in n a p xs room ≡ answer_in n a p ys room
  unfolding rules.remap rules.commanded
  answers_agree n (Information l) room = rw (h 4 4 (omega arith), h 4 8 (omega arith), h 4 12 (omega arith))
  answers_agree n Remap room = rw (h 4 4 (omega arith), h 4 8 (omega arith), h 4 12 (omega arith))
  answers_agree n (Pcm c) room =
      rw (h 4 4 (omega arith), led-agree c (rules.word ys 1) (transition c (rules.stream_in p (rules.word ys 1)).state))

pub length-request : (m ws : List ℕ) (r : Ranges) → Sound ws r → length (bytes_at m (places (ranges_of ws r))) ≡ r.bytes
length-request m ws r s = rw (length-map, length-places) (sym s)

-- what a request asks that is known and has the length of its layout
pub reads_as : (ws : List ℕ) (pending : Pending) (q bs m : List ℕ) (a : Asked)
    → ((n : Streams) (p : rules.Parts) (room : ℕ) → served n p q room ≡ answer_in n a p bs room)
    → Reads ws pending q bs m m (Ok (asking_of a))
reads_as ws pending q bs m (Information l) h = (refl, h)
reads_as ws pending q bs m Remap h = (refl, h)
reads_as ws pending q bs m (Pcm c) h = (refl, h)
