-- What holds between calls holds after a job: the rules keep it.
use Rattle.std.specs.Prelude.{Result, Option, Ok, Err, Some, None}
use Rattle.ring.specs.declared.Cause.{Cause}
use Rattle.std.proofs.Common.{◌≡◌, ℕ, ◌<◌, List, [], length, arith}
use Rattle.flow.specs.declared.Job.{Job}
use Rattle.flow.specs.declared.Job.TheVariants.{Transfer, Release}
use Rattle.registers.proofs.Keeps.{by_cond}
use Rattle.device.specs.Answers.{going}
use Rattle.device.specs.Transfer.{Run, begun}
use Rattle.queue_lines.specs.Chains.{Virtqueue}
use Rattle.queue_lines.specs.Claim.{card}
use Rattle.queue_lines.specs.Counters.{Queue}
use Rattle.queue_lines.specs.Rules.{line_run, taking_run, transfer_step, release_step, transfer_run, release_run, found, on_found}
use Rattle.queue_lines.specs.Rules.{transferred, emptied}
use Rattle.queue_lines.proofs.Lists.{times-keeps}
use Rattle.line_queue.specs.Between.{Between}
use Rattle.line_queue.specs.Runs.{ran_of}
use Rattle.line_queue.proofs.Counted.{Counted, Room, room-found, taking-counted, transfer-counted, release-counted}
use Rattle.line_queue.proofs.Fine.{Fine, taking-fine, transfer-fine, release-fine}

module _ (v : Virtqueue) (i : ℕ) (there : i < v.streams) where
  -- counters and lines, where so many more may still be taken
  record Kept (left : ℕ) (r : Run Queue) : Type 0 where
    counted : Counted v left r.queue
    fine : Fine v r.queue

  in_lines : (n : ℕ) (r : Run Queue) → Kept n r → i < length r.queue.lines
  in_lines n r k = rw k.counted.lines there

  transfer-kept : (r : Run Queue) → Kept 0 r → Kept 0 (transfer_step (card v) v i r)
  transfer-kept r k =
      record { counted = transfer-counted v i there r k.counted; fine = transfer-fine v i r (in_lines 0 r k) k.fine }

  release-kept : (r : Run Queue) → Kept 0 r → Kept 0 (release_step (card v) v i r)
  release-kept r k =
      record { counted = release-counted v i there r k.counted; fine = release-fine v i r (in_lines 0 r k) k.fine }

  line_kept : (step : Run Queue → Run Queue) → ((r : Run Queue) → Kept 0 r → Kept 0 (step r)) → (n : ℕ) (r : Run Queue) → Kept n r
      → Kept 0 (line_run (card v) v i step (taking_run (card v) v n r))
  line_kept step keeps n r k =
      let s = taking_run (card v) v n r in
      let u : Kept 0 s = record { counted = taking-counted v n r k.counted; fine = taking-fine v n r k.fine } in
      by_cond (Kept 0) (going s.stop) (λ e. times-keeps (Kept 0) step keeps ((card v).queued i s.queue) s u) (λ e. u)

  found-kept : (run : ℕ → Run Queue → Run Queue) (r : Run Queue) → ((n : ℕ) → Kept n r → Kept 0 (run n r)) → (c : Result (Option ℕ) Cause)
      → Room v r.queue c → Kept 0 r → Kept 0 (on_found (card v) v run r c)
  found-kept run r keeps (Ok None) room k = k
  found-kept run r keeps (Err cause) room k = record { counted = k.counted; fine = k.fine }
  found-kept run r keeps (Ok (Some n)) room k =
      let c = k.counted in
      keeps n (record {
        counted = record { wraps = c.wraps; balanced = c.balanced; few = room; lines = c.lines };
        fine = k.fine;
      })

  module _ (q : Queue) (lines : length q.lines ≡ v.streams) (b : Between v q) where
    begun_kept : (m host : List ℕ) → Kept 0 (begun q m host)
    begun_kept m host =
        record {
          counted = record { wraps = b.wraps; balanced = b.balanced; few = omega (arith, b.few); lines = lines };
          fine = b.line;
        }

    ran-kept : (job : Job) (m host : List ℕ) → Kept 0 (ran_of job v i q m host)
    unfolding transferred transfer_run emptied release_run
    ran-kept Transfer m host =
        found-kept (transfer_run (card v) v i) (begun q m host)
        (λ n. line_kept (transfer_step (card v) v i) transfer-kept n (begun q m host))
        (found (card v) v q m) (room-found v q m) (begun_kept m host)
    ran-kept Release m host =
        let k = found-kept (release_run (card v) v i) (begun q m [])
        (λ n. line_kept (release_step (card v) v i) release-kept n (begun q m []))
        (found (card v) v q m) (room-found v q m) (begun_kept m []) in
        record { counted = k.counted; fine = k.fine }

    pub ran-between : (job : Job) (m host : List ℕ) → Between v (ran_of job v i q m host).queue
    ran-between job m host =
        let k = ran-kept job m host in
        let c = k.counted in
        record { wraps = c.wraps; balanced = c.balanced; few = omega (arith, c.few); line = k.fine }
