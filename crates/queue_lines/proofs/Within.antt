-- The lines of a queue hold at most N messages in all, and so no line more: what the overrun rule lets pass is taken, and no more.
use Rattle.std.specs.Prelude.{Result, Option, Ok, Err, Some, None}
use Rattle.ring.specs.declared.Cause.{Cause}
use mathlib.Core.List.{List, []}
use Prim.Native.Nat.{ℕ, ◌+◌, ◌≤◌}
use native.Mathlib.Omega.{arith}
use borrow.Author.Tests.{ltb-false}
use lib.Dec.{eqb, ltb}
use lib.ListN.{length}
use Rattle.registers.proofs.Keeps.{by_cond}
use Rattle.ring.specs.Layout.{end_at}
use Rattle.ring.specs.Rules.{base_of, index_of, found_of}
use Rattle.device.specs.Device.{Ending, finished, released}
use Rattle.device.specs.Transfer.{Run, begun}
use Rattle.device.proofs.Grown.{grows-length}
use Rattle.queue_lines.specs.Chains.{Virtqueue, queue_size}
use Rattle.queue_lines.specs.Claim.{account, card, queue_of, Good, also}
use Rattle.queue_lines.specs.Counters.{Queue}
use Rattle.queue_lines.specs.Histories.{History}
use Rattle.queue_lines.specs.Rules.{Ops, found, on_found, transfer_run, release_run, transferred, emptied}
use Rattle.queue_lines.specs.Turn.{Book, Turn}
use Rattle.queue_lines.proofs.Drained.{size, transfer_run-few, release_run-few}
use Rattle.queue_lines.proofs.Histories.{pair}
use Rattle.queue_lines.proofs.Natural.{begun-right, begun-fine}
use Rattle.queue_lines.proofs.Reading.{taken-count}
use Rattle.queue_lines.proofs.Theorem.{transfer-turn, release-turn}

-- how many a call takes at most, by what its check finds
abbrev new_in : Result (Option ℕ) Cause → ℕ
new_in (Ok None) = 0
new_in (Err cause) = 0
new_in (Ok (Some n)) = n

module _ (v : Virtqueue) (i : ℕ) (said : ℕ → List ℕ) (h : History) (m : List ℕ) (good : Good v.direction v.streams said h)
    (book : Book v.direction h) (within : (account v).in_work h ≤ queue_size v) where
  abbrev ops : Ops History
  ops = account v

  -- "new plus in work exceeds N" is broken
  found_within : new_in (found ops v h m) + ops.in_work h ≤ queue_size v
  unfolding found_of
  found_within =
      let new = ops.new h (index_of m v.page (queue_size v)) in
      let P : Result (Option ℕ) Cause → Type 0 = λ (c : Result (Option ℕ) Cause). new_in c + ops.in_work h ≤ queue_size v in
      by_cond P (eqb v.page.0 0) (λ e. omega arith)
      (λ e.
      by_cond P (ltb (length m) (base_of v.page + end_at (queue_size v))) (λ e. omega arith)
      (λ e. by_cond P (ltb (queue_size v) (new + ops.in_work h)) (λ e. omega arith)
      (λ e. ltb-false (queue_size v) (new + ops.in_work h) e)))

  found-few :
      (run : ℕ → Run History → Run History) (s : Run History)
      → ((new : ℕ) → size (run new s) ≤ size s + new)
      → (c : Result (Option ℕ) Cause)
      → size (on_found ops v run s c) ≤ size s + new_in c
  found-few run s k (Ok None) = omega arith
  found-few run s k (Err cause) = omega arith
  found-few run s k (Ok (Some n)) = k n

  -- after a call that took so few
  turn-within :
      (call : Ending) (host : List ℕ) (c : Run Queue) (r : Run History)
      → Turn v i call said m host h c r
      → size r ≤ length h.takings + new_in (found ops v h m)
      → ops.in_work r.queue ≤ queue_size v
  turn-within call host c r t l =
      omega (
        arith,
        found_within,
        taken-count v.direction v.streams said h good,
        taken-count v.direction v.streams (also i said r.bytes) r.queue t.good,
        grows-length h.entries r.queue.entries t.adds.entries,
      )

  transfer-few : (host : List ℕ) → size (transferred ops v i h m host) ≤ length h.takings + new_in (found ops v h m)
  unfolding transferred
  transfer-few host =
      found-few (transfer_run ops v i) (begun h m host)
      (λ new.
      transfer_run-few v i said host new (begun h m host)
      (begun-right v (pair v) said i h m good host))
      (found ops v h m)

  release-few : size (emptied ops v i h m) ≤ length h.takings + new_in (found ops v h m)
  unfolding emptied
  release-few =
      found-few (release_run ops v i) (begun h m [])
      (λ new.
      release_run-few v i said new (begun h m [])
      (begun-fine v (pair v) said i h m good))
      (found ops v h m)

  pub transfer-within : (host : List ℕ) → ops.in_work (transferred ops v i h m host).queue ≤ queue_size v
  transfer-within host =
      turn-within finished host (transferred (card v) v i (queue_of h) m host) (transferred ops v i h m host)
      (transfer-turn v i said h m good book host)
      (transfer-few host)

  pub release-within : ops.in_work (emptied ops v i h m).queue ≤ queue_size v
  release-within =
      turn-within released [] (emptied (card v) v i (queue_of h) m) (emptied ops v i h m) (release-turn v i said h m good book) release-few
