-- 01, The access program: what is printed for an input, on a card with stream 0 only and 65,536 bytes of RAM.
use Rattle.std.specs.Prelude.{Option, Some, None, ℕ, ◌+◌, ◌%◌, ◌^◌, List, [], ◌∷◌, ◌++◌, slice_set}
use Rattle.access_line.specs.Line.{line_of}
use Rattle.access_line.specs.declared.Access.{Access}
use Rattle.access_line.specs.declared.Access.TheVariants.{Read, Write}
use Rattle.card.specs.Card.{card_of, parts_at_power}
use Rattle.decimal.specs.Write.{field_of}
use Rattle.description.specs.Nothing.{nothing_described}
use Rattle.description.specs.declared.Description.{Description}
use Rattle.description.specs.declared.StreamInfo.{StreamInfo}
use Rattle.live.specs.Live.{board_of, read_live, write_live}
use Rattle.live.specs.declared.Live.{Live}
use Rattle.live.specs.declared.LiveRead.{LiveRead}
use Rattle.live.specs.declared.LiveWrite.{LiveWrite}
use Rattle.lines.specs.Lines.{lines_of}
use Rattle.access_run.specs.declared.Acted.{Acted}

-- ---- the card

-- format S16 (bit 5), rate 48,000 (bit 7), one or two channels
abbrev pub output : StreamInfo
output = record { nid = 0; features = 0; formats = 32; rates = 128; channels_min = 1; channels_max = 2 }

-- stream 0, and nothing else described
abbrev pub panel : Description
panel =
    record {
      jack_count = 0;
      map_count = 0;
      output_count = 1;
      input_count = 0;
      jacks = nothing_described.jacks;
      maps = nothing_described.maps;
      streams = slice_set nothing_described.streams 0 output;
    }

-- its small state, on which alone reads and writes of registers stand (live, proofs/Laws: `read-in`, `write-in`)
abbrev pub first_live : Live
first_live = (board_of (card_of (parts_at_power panel) 65536)).live

-- ---- a line

-- "answer, value (0 for a write); 99 for a line it can't read"
abbrev pub act_of : Live → Option Access → Acted
act_of l (Some (Read offset width)) =
    let r : LiveRead = read_live l offset width in
    record { live = r.live; answer = r.answer; value = r.value }
act_of l (Some (Write offset width v)) =
    let w : LiveWrite = write_live l offset width v in
    record { live = w.live; answer = w.answer; value = 0 }
act_of l None = record { live = l; answer = 99; value = 0 }

-- "Prints line number, answer, value": single spaces, 32, between the three, and a line feed, 10
unfoldable pub answer_text : ℕ → ℕ → ℕ → List ℕ
answer_text number answer value = field_of number 32 ++ field_of answer 32 ++ field_of value 10

-- ---- the input

-- lines are counted from 1, as far as 64 bits count
abbrev pub next : ℕ → ℕ
next n = (n + 1) % 2 ^ 64

-- the answers to lines on a card, after n lines before them: each line on the card that the one before it left
unfoldable pub answers : Live → ℕ → List (List ℕ) → List ℕ
answers l n [] = []
answers l n (t ∷ ts) =
    let a : Acted = act_of l (line_of t) in
    answer_text (next n) a.answer a.value ++ answers a.live (next n) ts

-- all that is printed
abbrev pub printed : List ℕ → List ℕ
printed input = answers first_live 0 (lines_of input)
