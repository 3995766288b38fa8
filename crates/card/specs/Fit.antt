-- What holds of the parts of every card, and of every message in work.
use Rattle.std.specs.Prelude.{◌≡◌, true, List, ℕ, ◌+◌, ◌≤◌, length, get_or}
use Rattle.ranges.specs.Ranges.{Sound, ranges_of, all_inside}
use Rattle.card.specs.Card.{no_stream, no_message}
use Rattle.card.specs.declared.Message.{Message}
use Rattle.card.specs.declared.Parts.{Parts}

-- a message in work: at most one, its ranges remembered in the words of its chain as the walk found them, inside RAM
pub record FitMessage (len : ℕ) (ws : List ℕ) (m : Message) : Type 0 where
  pub one : m.count ≤ 1
  -- where there is none, nothing of an earlier one is left
  pub idle : m.count ≡ 0 → m ≡ no_message
  pub request : Sound ws m.request
  pub reply : Sound ws m.reply
  pub few : m.request.count + m.reply.count ≤ 34
  pub short-request : m.request.bytes ≤ 1048576
  pub short-reply : m.reply.bytes ≤ 1048576
  pub moved : m.done ≤ 1048576
  pub request-inside : all_inside len (ranges_of ws m.request) ≡ true
  pub reply-inside : all_inside len (ranges_of ws m.reply) ≡ true

-- no more parts than there is room for, at most four outputs and two inputs, each stream in one of the six states
pub record FitParts (p : Parts) : Type 0 where
  pub jacks : p.jack_count ≤ 4
  pub maps : p.map_count ≤ 4
  pub streams : p.stream_count ≤ 6
  pub outputs : p.output_count ≤ 4
  pub some : p.output_count ≤ p.stream_count
  pub inputs : p.stream_count ≤ p.output_count + 2
  pub four-jacks : length p.jacks ≡ 4
  pub four-maps : length p.maps ≡ 4
  pub six-streams : length p.streams ≡ 6
  pub states : (i : ℕ) → (get_or p.streams i no_stream).state ≤ 5
