-- 01, Answers to the monitor, and order 6: the number of each answer.
use Rattle.std.specs.Prelude.{ℕ}
use Rattle.registers.specs.declared.answers.Answer.{Answer}

abbrev pub done : ℕ
done = 0

abbrev pub length_differs : ℕ
length_differs = 1

abbrev pub no_such_access : ℕ
no_such_access = 2

abbrev pub wrong_direction : ℕ
wrong_direction = 3

abbrev pub value_too_wide : ℕ
value_too_wide = 4

abbrev pub not_live : ℕ
not_live = 5

abbrev pub not_running : ℕ
not_running = 6

abbrev pub event_not_allowed : ℕ
event_not_allowed = 7

abbrev pub no_event_buffer : ℕ
no_event_buffer = 8

abbrev pub bad_description : ℕ
bad_description = 10

-- ---- order 6: the three causes of 01's "9 queue broken"

abbrev pub region_past_ram : ℕ
region_past_ram = 9

abbrev pub too_many_entries : ℕ
too_many_entries = 11

abbrev pub head_past_table : ℕ
head_past_table = 12

-- ---- an answer names the queue that broke, or none

abbrev pub no_queue : ℕ
no_queue = 255

abbrev pub plain : ℕ → Answer
plain number = record { number = number; queue = no_queue }
