-- What calls can make of a card's described parts, of any list of calls from power-up.
use Prim.Native.Nat.{ℕ}
use mathlib.Core.List.{List}
use Rattle.description.specs.declared.Description.{Description}
use Rattle.card.specs.declared.Card.{Card}
use Rattle.meaning.specs.Card.{device_of}
use Rattle.rules.specs.Calls.{Told}
use Rattle.rules.specs.Reached.{Reached}
use Rattle.line_calls.specs.Calls.{Call}
use Rattle.line_calls.specs.Claim.{card}
use Rattle.line_calls.specs.Streams.{streams_of}
use Rattle.line_calls.proofs.Reached.{reached}
use Rattle.calls.specs.Tied.{Tied}

pub card-reached : (d : Description) (len : ℕ) (cs : List Call) (ts : List Told) (last : Card) → Tied d len cs ts last
    → Reached (device_of last).rest
card-reached d len cs ts last t = rw t.state (reached (streams_of d) (card (streams_of d)) d len cs)
