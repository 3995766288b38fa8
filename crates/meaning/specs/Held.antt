-- A card and its small state with other registers and other counters of the control or the event queue.
use Rattle.std.specs.Prelude.{ℕ}
use Rattle.registers.specs.declared.Registers.{Registers}
use Rattle.card.specs.Setters.{with_counters, with_registers}
use Rattle.card.specs.declared.Card.{Card}
use Rattle.card.specs.declared.Counters.{Counters}
use Rattle.live.specs.Setters as live
use Rattle.live.specs.declared.Live.{Live}

abbrev pub holding : ℕ → Registers → Counters → Card → Card
holding q g v c = with_counters q v (with_registers g c)

abbrev pub holding_live : ℕ → Registers → Counters → Live → Live
holding_live q g v l = live.with_counters q v (live.with_registers g l)
