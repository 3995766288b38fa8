-- Each stream is fresh.
use Rattle.std.proofs.Common.{rules, arith}
use Rattle.card.specs.Card.{fresh_stream}
use Rattle.description.specs.Lawful.{no_stream}
use Rattle.card.proofs.Lists.{mapped}
use Rattle.card.proofs.streams_at_power.Goals as goal

pub returns : goal.returns
returns c = mapped fresh_stream no_stream c.map.ensures.items (omega arith) (λ x y p q k. search rules)
