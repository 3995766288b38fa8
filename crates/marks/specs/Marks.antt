-- What the eleven words of a stream's marks stand for.
use Rattle.std.specs.Prelude.{List, ℕ, ◌%◌, get_or}
use Rattle.card.specs.declared.Message.{Message}
use Rattle.ranges.specs.declared.Ranges.{Ranges}
use Rattle.waiting.specs.declared.Line.{Line}

-- a word as a number of 16 and of 32 bits
abbrev word16 : List ℕ → ℕ → ℕ
word16 ws i = get_or ws i 0 % 65536

abbrev word32 : List ℕ → ℕ → ℕ
word32 ws i = get_or ws i 0 % 4294967296

-- a side of the chain that is remembered
abbrev side_in : List ℕ → ℕ → ℕ → ℕ → Ranges
side_in ws first count bytes = record { first = word32 ws first; count = word32 ws count; bytes = word32 ws bytes }

unfoldable pub message_in : List ℕ → Message
message_in ws =
    record {
      count = word16 ws 0;
      head = record { 0 = word16 ws 1 };
      done = word32 ws 2;
      request = side_in ws 3 4 5;
      reply = side_in ws 6 7 8;
    }

unfoldable pub line_in : List ℕ → Line
line_in ws = record { start = word16 ws 9; count = word16 ws 10 }
