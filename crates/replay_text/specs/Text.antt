-- "words separated by single spaces, numbers in decimal": 32 is the space, 10 the line feed, 45 `-`.
use Rattle.std.specs.Prelude.{List, [], ◌∷◌, ◌++◌, cond, ℕ, eqb}
use Rattle.decimal.specs.Write.{field_of}

-- ---- what is printed

-- "LINE ANSWER"
abbrev pub answer_bytes : ℕ → ℕ → List ℕ
answer_bytes line answer = field_of line 32 ++ field_of answer 10

-- a queue by its index; 255 stands for none, `-`
unfoldable pub queue_bytes : ℕ → ℕ → List ℕ
queue_bytes queue end = cond (eqb queue 255) (45 ∷ end ∷ []) (field_of queue end)

-- "LINE ANSWER COUNT IRQ SUM QUEUE"; for a play "HOST" before QUEUE; "QUEUE: the index 0 to 3 of the broken queue with the answers 9, 11
-- and 12, else `-`"
abbrev pub start_bytes : ℕ → ℕ → ℕ → ℕ → List ℕ
start_bytes line answer count irq = field_of line 32 ++ field_of answer 32 ++ field_of count 32 ++ field_of irq 32

abbrev pub call_bytes : ℕ → ℕ → ℕ → ℕ → ℕ → ℕ → List ℕ
call_bytes line answer count irq sum queue = start_bytes line answer count irq ++ field_of sum 32 ++ queue_bytes queue 10

abbrev pub play_bytes : ℕ → ℕ → ℕ → ℕ → ℕ → ℕ → ℕ → List ℕ
play_bytes line answer count irq sum host queue =
    start_bytes line answer count irq ++ field_of sum 32 ++ field_of host 32 ++ queue_bytes queue 10

-- "LINE ANSWER VALUE RUNG IRQ": "RUNG the queue that a NOTIFY rang, else `-`"
abbrev pub register_bytes : ℕ → ℕ → ℕ → ℕ → ℕ → List ℕ
register_bytes line answer value rung irq =
    field_of line 32 ++ field_of answer 32 ++ field_of value 32 ++ queue_bytes rung 32 ++ field_of irq 10
