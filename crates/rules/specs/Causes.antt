-- Order 6: where the three answers are given into which 9 was split, which queue they name, and that nothing else goes by the cause.
use Rattle.std.specs.Prelude.{◌≡◌, Bool, cond, ◌&&◌, ◌||◌, List, ℕ, eqb}
use Rattle.registers.specs.Answers.{region_past_ram, too_many_entries, head_past_table, no_queue}
use Rattle.registers.specs.Rules.{live, has_bit}
use Rattle.registers.specs.declared.Registers.{Registers}
use Rattle.registers.specs.declared.answers.Answer.{Answer}
use Rattle.ring.specs.declared.Cause.{Cause}
use Rattle.device.specs.Answers.{broken_answer}
use Rattle.rules.specs.Calls.{Result, Order, Done, ReleaseFirst, broke}
use Rattle.device.specs.Transfer.{Transferred}
use Rattle.device.specs.Device.{Direction, queue_number, Rest}
use Rattle.device.specs.Numbers.{control_queue}

-- ---- where

-- "9 region past RAM, 11 too many entries, 12 head past the table"
abbrev pub says_broken : ℕ → Bool
says_broken number = eqb number region_past_ram || eqb number too_many_entries || eqb number head_past_table

-- where the base answered 9. 01: 9 leaves "NEEDS_RESET and ISR bit 1 set", no other answer does, and 9 comes behind 5, so that the
-- device was live and NEEDS_RESET clear. Told by the registers before and after the call alone, whatever was answered
abbrev pub breaks : Registers → Registers → Bool
breaks before after = live before && has_bit after.status 6

-- "name the queue by its index": the one that a call looks at; a Release looks at its stream's last
abbrev pub order_queue_by : (ℕ → Direction) → Order → ℕ
order_queue_by direction (Done o) = control_queue
order_queue_by direction (ReleaseFirst id p) = queue_number (direction id)

-- what holds of a call's answer: 9, 11 or 12 exactly where the base answered 9, and then the queue's index, else none
pub record Split (before after : Registers) (met : ℕ) (a : Answer) : Type 0 where
  pub nine : says_broken a.number ≡ breaks before after
  pub names : a.queue ≡ cond (breaks before after) met no_queue

-- ---- "what they leave is unchanged"

abbrev pub answering : Answer → Result → Result
answering a o = record { rest = o.rest; answer = a; count = o.count; mem = o.mem }

abbrev pub transferring : {Q : Type 0} → Answer → Transferred Q → Transferred Q
transferring a t = record { queue = t.queue; registers = t.registers; answer = a; bytes = t.bytes; mem = t.mem }

-- whichever of two causes stopped a call of control or of events, it leaves the same; only its answer is the cause's. Of the stream queues
-- that is `UnchangedOn` of line_calls/specs/Causes
pub record Unchanged (c c' : Cause) : Type 0 where
  pub results : (queue : ℕ) (r : Rest) (m : List ℕ) → broke queue c r m ≡ answering (broken_answer queue c) (broke queue c' r m)
