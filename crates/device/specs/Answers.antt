-- 01, Answers to the monitor, and order 6: how a queue broke, as an answer that names the queue. Each cause has its number here, and
-- only here.
use Rattle.std.specs.Prelude.{Option, Some, None}
use Rattle.std.specs.Prelude.{Bool, true, false, ℕ}
use Rattle.registers.specs.Answers.{done, region_past_ram, too_many_entries, head_past_table, plain}
use Rattle.registers.specs.Rules.{broken}
use Rattle.registers.specs.declared.Registers.{Registers}
use Rattle.registers.specs.declared.answers.Answer.{Answer}
use Rattle.ring.specs.declared.Cause.{Cause}

-- order 6: "Refusals: 9 region past RAM, 11 too many entries, 12 head past the table, in that order, in the old place of 9; what they
-- leave is unchanged."
abbrev pub number_of : Cause → ℕ
number_of Cause.Region = region_past_ram
number_of Cause.Entries = too_many_entries
number_of Cause.Head = head_past_table

abbrev pub broken_answer : ℕ → Cause → Answer
broken_answer queue cause = record { number = number_of cause; queue = queue }

-- ---- a call that went on, or was stopped by its queue

abbrev pub going : Option Cause → Bool
going None = true
going (Some cause) = false

abbrev pub by_stop : {A : Type 0} → Option Cause → A → (Cause → A) → A
by_stop None go broke = go
by_stop (Some cause) go broke = broke cause

-- the answer of a call on this queue
abbrev pub answer_by : ℕ → Option Cause → Answer
answer_by queue s = by_stop s (plain done) (broken_answer queue)

-- "NEEDS_RESET and ISR bit 1 set"
abbrev pub broken_by : Option Cause → Registers → Registers
broken_by s r = by_stop s r (λ cause. broken r)
