-- A stream queue as the card keeps it: counters modulo 65,536 and a line of messages for each stream.
use Rattle.std.specs.Prelude.{Option, None, Some, List, [], ◌∷◌, ◌++◌, ℕ, ◌+◌, ◌%◌, length, drop, get_or, set, replicate}
use Rattle.registers.specs.Map.{size_of}
use Rattle.ring.specs.Rules.{new_of}
use Rattle.device.specs.Counters.{further}
use Rattle.device.specs.Device.{Direction, queue_number, Message}
use Rattle.queue_lines.specs.Rules.{Ops, Front, vacant, unread, working, fresh}

-- a line: the front, if it is begun, and the heads of those behind it, or of all
pub record Line : Type 0 where
  pub begun : Option Message
  pub heads : List ℕ

pub record Queue : Type 0 where
  pub taken : ℕ
  pub completed : ℕ
  pub lines : List Line

abbrev pub no_line : Line
no_line = record { begun = None; heads = [] }

-- the front, by the message begun and the heads of those that are not
abbrev pub front_of : Option Message → List ℕ → Front
front_of (Some w) heads = working w
front_of None [] = vacant
front_of None (head ∷ heads) = unread head

-- the sum of a number of each element
unfoldable pub sum_of : {A : Type 0} → (A → ℕ) → List A → ℕ
sum_of f [] = 0
sum_of f (x ∷ xs) = f x + sum_of f xs

abbrev pub if_begun : Option Message → ℕ
if_begun None = 0
if_begun (Some w) = 1

abbrev pub length_of : Line → ℕ
length_of l = if_begun l.begun + length l.heads

-- a list with another element at i
abbrev pub changed : {A : Type 0} → A → ℕ → (A → A) → List A → List A
changed d i f l = set l i (f (get_or l i d))

abbrev pub line_in : ℕ → Queue → Line
line_in i q = get_or q.lines i no_line

-- n lines
abbrev pub counters_of : Direction → ℕ → Ops Queue
counters_of d n =
    record {
      empty = record { taken = 0; completed = 0; lines = replicate n no_line };
      new = λ q index. new_of index q.taken;
      place = λ q. q.taken % size_of (queue_number d);
      used_place = λ q. q.completed % size_of (queue_number d);
      used_index = λ q. (q.completed + 1) % 65536;
      in_work = λ q. sum_of length_of q.lines;
      queued = λ i q. length_of (line_in i q);
      front = λ i q. front_of (line_in i q).begun (line_in i q).heads;
      join = λ i head q.
          record {
            taken = (q.taken + 1) % 65536;
            completed = q.completed;
            lines = changed no_line i (λ l. record { begun = l.begun; heads = l.heads ++ head ∷ [] }) q.lines;
          };
      bounce = λ t latency q. record { taken = (q.taken + 1) % 65536; completed = (q.completed + 1) % 65536; lines = q.lines };
      begin = λ i t q.
          record {
            taken = q.taken;
            completed = q.completed;
            lines = changed no_line i (λ l. record { begun = Some (fresh t); heads = drop 1 l.heads }) q.lines;
          };
      hand = λ i bytes xs q.
          record {
            taken = q.taken;
            completed = q.completed;
            lines = changed no_line i (λ l. record { begun = further (length xs) l.begun; heads = l.heads }) q.lines;
          };
      complete = λ i e latency q.
          record {
            taken = q.taken;
            completed = (q.completed + 1) % 65536;
            lines = changed no_line i (λ l. record { begun = None; heads = l.heads }) q.lines;
          };
    }
