-- A card with other registers and other counters of the control or the event queue: what it stands for, and that it is fit.
use mathlib.Core.Path.{◌≡◌}
use mathlib.Core.List.{List}
use Prim.Native.Nat.{ℕ, zero, suc, ◌<◌}
use native.Mathlib.Omega.{arith}
use lib.ListN.{length}
use lib.Seq.{get_or-set_same, get_or-set_other}
use Rattle.registers.specs.Fit.{FitRegisters}
use Rattle.registers.specs.declared.Registers.{Registers}
use Rattle.card.specs.Card.{no_counters}
use Rattle.card.specs.declared.Card.{Card}
use Rattle.card.specs.declared.Counters.{Counters}
use Rattle.card.specs.declared.Parts.{Parts}
use Rattle.live.specs.Setters as live
use Rattle.live.specs.declared.Live.{Live}
use Rattle.live.proofs.Laws.{board-with-registers, board-with-counters}
use Rattle.device.specs.Device.{Rest, with_registers, with_control, with_event}
use Rattle.meaning.specs.Card.{rest_of, device_of}
use Rattle.meaning.specs.Fit.{Fits}
use Rattle.meaning.specs.Held.{holding, holding_live}

-- the rules' rest with them
abbrev pub rest_holding : ℕ → Registers → Counters → Rest → Rest
rest_holding zero g v r = with_registers g (with_control v r)
rest_holding (suc q) g v r = with_registers g (with_event v r)

module _ (c : Card) (four : length c.queues ≡ 4) (g : Registers) (v : Counters) where
  pub held-device : (q : ℕ) → q < 2
      → device_of (holding q g v c) ≡ record {
        rest = rest_holding q g v (rest_of c);
        play = (device_of c).play;
        capture =
            (device_of c).capture;
      }
  unfolding rest_of device_of
  held-device zero h =
      rw (
        get_or-set_same c.queues 0 v no_counters (omega arith),
        get_or-set_other c.queues 0 1 v no_counters (λ e. omega arith),
        get_or-set_other c.queues 0 2 v no_counters (λ e. omega arith),
        get_or-set_other c.queues 0 3 v no_counters (λ e. omega arith),
      )
  held-device (suc zero) h =
      rw (
        get_or-set_same c.queues 1 v no_counters (omega arith),
        get_or-set_other c.queues 1 0 v no_counters (λ e. omega arith),
        get_or-set_other c.queues 1 2 v no_counters (λ e. omega arith),
        get_or-set_other c.queues 1 3 v no_counters (λ e. omega arith),
      )
  held-device (suc (suc q)) h = absurd (omega arith)

-- .. and so the small state
module _ (l : Live) (p : Parts) (pw cw : List ℕ) (f : Fits l p pw cw) where
  pub held_fits : (g : Registers) (v : Counters) → FitRegisters g → (q : ℕ) → q < 2 → Fits (holding_live q g v l) p pw cw
  held_fits g v k q h =
      record {
        board = board-with-counters (live.with_registers g l) p (board-with-registers l p f.board g k) q v;
        play = rw (get_or-set_other l.queues q 2 v no_counters (λ e. omega arith)) f.play;
        capture = rw (get_or-set_other l.queues q 3 v no_counters (λ e. omega arith)) f.capture;
      }
