-- What calls can make of the described parts: of any list of calls from power-up (`reached` of proofs/Reached).
use Rattle.std.specs.Prelude.{◌≡◌, false, ◌/◌, eqb}
use Rattle.card.specs.Card.{fresh_state}
use Rattle.card.specs.declared.Jack.{Jack}
use Rattle.card.specs.declared.Stream.{Stream}
use Rattle.rules.specs.Control.{judged_params, remappable}
use Rattle.device.specs.Account.{Each}
use Rattle.device.specs.Device.{Rest}
use Rattle.device.specs.Numbers.{s_ok}

-- a stream that is not Fresh has parameters that SET_PARAMS accepts for it
abbrev pub Accepted : Stream → Type 0
Accepted s = eqb s.state fresh_state ≡ false → judged_params s.info s.params 0 ≡ s_ok

-- a jack's defconf is the described one; of one that can be remapped, but for association and sequence (bits 7:0)
pub record Described (j : Jack) : Type 0 where
  pub above : j.defconf / 256 ≡ j.info.defconf / 256
  pub same : remappable j ≡ false → j.defconf ≡ j.info.defconf

abbrev pub Reached : Rest → Type 0
Reached r = Each Accepted r.streams × Each Described r.jacks
