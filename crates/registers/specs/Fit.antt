-- What every register file that the card holds is: the part of `Fit` that registers have.
use Rattle.std.specs.Prelude.{◌≡◌, true, ◌/◌, ◌%◌, ◌≤◌, ◌<◌, length}
use Rattle.registers.specs.Rules.{features_ok, only_offered}
use Rattle.registers.specs.declared.Registers.{Registers}

pub record FitRegisters (r : Registers) : Type 0 where
  pub four : length r.pages ≡ 4
  pub small : r.status < 256
  -- bits 4 and 5 are never stored
  pub unused : r.status / 16 % 4 ≡ 0
  -- ISR has two bits
  pub two : r.isr ≤ 3
  -- FEATURES_OK stands only beside features that were offered
  pub agreed : features_ok r ≡ true → only_offered r.features ≡ true
