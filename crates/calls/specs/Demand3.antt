-- Demand 3 of the card's entries, in plain words. Power a card up, and make any calls on it: register accesses, control, play, capture and
-- event calls, refused ones included; between two calls the guest rewrites memory as it likes, and the monitor may lend memory of another
-- length. Then what line_calls/specs/Demand3 claims holds of what the calls returned: of each call, each stream queue and each stream.
-- The calls returned what the rules' calls tell (`returned`), each left a card that stands as the rules' (`left`), and the claim is of
-- those. `Demand3` is the claim; the theorem is `demand-3` of proofs/Demand3.
use Rattle.std.specs.Prelude.{◌≡◌, List, ℕ}
use Rattle.description.specs.declared.Description.{Description}
use Rattle.card.specs.declared.Card.{Card}
use Rattle.meaning.specs.Card.{device_of}
use Rattle.rules.specs.Calls.{Told}
use Rattle.device.specs.Device.{Device}
use Rattle.queue_lines.specs.Counters.{Queue}
use Rattle.line_calls.specs.Calls.{Call, step}
use Rattle.line_calls.specs.Claim.{card, start, told_by}
use Rattle.line_calls.specs.Demand3 as claim
use Rattle.line_calls.specs.Streams.{Streams, streams_of}
use Rattle.calls.specs.Tied.{Runs, none, next}

-- the card after each call stands as the rules' does
abbrev pub EachCard : (n : Streams) {c last : Card} {ks : List Call} {ts : List Told} → Runs c ks ts last → Device Queue → Type 0
EachCard n none b = Unit {0}
EachCard n (next {n = after} {k = k} d r) b =
    (device_of after ≡ (step n (card n) b k).state) × EachCard n r (step n (card n) b k).state

pub record Demand3 (d : Description) (len : ℕ) {c last : Card} (ks : List Call) (ts : List Told) (r : Runs c ks ts last) : Type 0 where
  -- every answer, value, queue rung, count, handed byte, host buffer and lent memory
  pub returned :
      let n = streams_of d in
      ts ≡ told_by n (card n) (start n (card n) d len) ks
  pub left :
      let n = streams_of d in
      EachCard n r (start n (card n) d len)
  -- the account of these calls
  pub account : claim.Demand3 d len ks
