-- 01, Rings and chains: what a call finds of a queue, the next head, and what completing a chain writes.
use Rattle.std.specs.Prelude.{Result, Option, Ok, Err, Some, None}
use Rattle.std.specs.Prelude.{ℕ, ◌+◌, ◌-◌, ◌%◌, Bool, cond, List, length, take, drop, ◌==◌, nat_lt}
use Rattle.counts.specs.Counts.{address_of_page}
use Rattle.counts.specs.declared.PageNumber.{PageNumber}
use Rattle.counts.specs.declared.DescriptorNumber.{DescriptorNumber}
use Rattle.memory.specs.Bytes.{le, put}
use Rattle.ranges.specs.Ranges.{places, put_at}
use Rattle.ranges.specs.declared.Range.{Range}
use Rattle.ring.specs.Layout.{end_at, available_flags_at, available_index_at, ring_place_at, used_index_at, used_head_at, used_length_at}
use Rattle.ring.specs.declared.Cause.{Cause}
use Rattle.ring.specs.declared.Posted.{Posted}

abbrev pub base_of : PageNumber → ℕ
base_of page = (address_of_page page).0

-- ---- what is found

-- "New entries = index − taken, modulo 65,536.": an index below the count taken has wrapped
abbrev pub new_of : ℕ → ℕ → ℕ
new_of index taken = (index + (65536 - taken)) % 65536

-- "A queue is broken if .. new plus in work exceeds N"
abbrev pub entries_of : ℕ → ℕ → ℕ → Result (Option ℕ) Cause
entries_of N new in_work = cond (nat_lt N (new + in_work)) (Err Cause.Entries) (Ok (Some new))

-- "The available index"
abbrev pub index_of : List ℕ → PageNumber → ℕ → ℕ
index_of m page N = le 2 m (base_of page + available_index_at N)

-- "Base 0: the queue is idle". "A queue is broken if its region passes the end of RAM": judged before the entries
unfoldable pub found_of : List ℕ → PageNumber → ℕ → ℕ → ℕ → Result (Option ℕ) Cause
found_of m page N new in_work =
    cond (page.0 == 0) (Ok None) (cond (nat_lt (length m) (base_of page + end_at N)) (Err Cause.Region)
    (entries_of N new in_work))

abbrev pub check_of : List ℕ → PageNumber → ℕ → ℕ → ℕ → Result (Option ℕ) Cause
check_of m page N taken in_work = found_of m page N (new_of (index_of m page N) taken) in_work

-- the head at a place of the ring. A queue is broken if, "when met, a head is ≥ N"
unfoldable pub head_at : List ℕ → PageNumber → ℕ → ℕ → Result DescriptorNumber Cause
head_at m page N place =
    let number = le 2 m (base_of page + ring_place_at N place) in
    cond (nat_lt number N) (Ok (record { 0 = number })) (Err Cause.Head)

-- "The next head stands at ring place taken mod N."
abbrev pub head_of : List ℕ → PageNumber → ℕ → ℕ → Result DescriptorNumber Cause
head_of m page N taken = head_at m page N (taken % N)

-- ---- completing

-- "the card's own completed + 1 modulo 65,536"
abbrev pub next_of : ℕ → ℕ
next_of completed = (completed + 1) % 65536

-- "Completing writes, in order: .. used element (head, length) at completed mod N, then as used index the card's own completed + 1":
-- the element at this place, then this index
unfoldable pub posted_at : List ℕ → ℕ → ℕ → ℕ → ℕ → ℕ → ℕ → List ℕ
posted_at m base N place index head len =
    put 2 (put 4 (put 4 m (base + used_head_at N place) head) (base + used_length_at N place) len) (base + used_index_at N) index

abbrev pub posted_of : List ℕ → ℕ → ℕ → ℕ → ℕ → ℕ → List ℕ
posted_of m base N completed head len = posted_at m base N (completed % N) (next_of completed) head len

-- "Then available flags are read; bit 0 clear sets ISR bit 0."
unfoldable pub interrupts : List ℕ → ℕ → ℕ → Bool
interrupts m base N = le 2 m (base + available_flags_at N) % 2 == 0

-- memory, the count of completed entries and the interrupt after a completion
pub record Completion : Type 0 where
  pub memory : List ℕ
  pub completed : ℕ
  pub interrupt : Bool

abbrev pub completion : List ℕ → Posted → Completion
completion m p = record { memory = m; completed = p.completed; interrupt = p.interrupt }

unfoldable pub post_of : List ℕ → PageNumber → ℕ → ℕ → DescriptorNumber → ℕ → Completion
post_of m page N completed head len =
    let after = posted_of m (base_of page) N completed head.0 len in
    record { memory = after; completed = next_of completed; interrupt = interrupts after (base_of page) N }

-- "reply bytes" first: n bytes of the reply, from its byte `offset` on
unfoldable pub completed_of : List ℕ → PageNumber → ℕ → ℕ → DescriptorNumber → ℕ → List Range → ℕ → List ℕ → ℕ → Completion
completed_of m page N completed head len reply offset bytes n =
    post_of (put_at m (take n (drop offset (places reply))) bytes) page N completed head len
