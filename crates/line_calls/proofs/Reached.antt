-- What calls can make of the described parts on a card of several streams: `Reached` of rules/specs/Reached, after any list of them.
use mathlib.Core.List.{List}
use Prim.Native.Nat.{ℕ}
use lib.Dec.{eqb}
use Rattle.description.specs.declared.Description.{Description}
use Rattle.registers.specs.Answers.{done}
use Rattle.registers.specs.Rules.{write_of}
use Rattle.device.specs.Device.{Direction, output, input, Device, with_registers}
use Rattle.device.specs.Transfer.{Transferred}
use Rattle.rules.specs.Calls.{read_step, transfer_step, remembering}
use Rattle.rules.specs.Reached.{Reached}
use Rattle.rules.proofs.Along.{along-keeps}
use Rattle.rules.proofs.Closed.{event-kept}
use Rattle.rules.proofs.Reached.{KeptAs, closed-reached, remembered-kept, affected-kept, power-reached}
use Rattle.queue_lines.specs.Rules.{Ops}
use Rattle.line_calls.specs.Calls.{Request, ReadRegister, WriteRegister, Control, Play, Capture, Event, Call, transferred_of, asked}
use Rattle.line_calls.specs.Calls.{step}
use Rattle.line_calls.specs.Claim.{start, after}
use Rattle.line_calls.specs.Streams.{Streams}
use Rattle.line_calls.proofs.Backlog.{control-kept}

module _ (n : Streams) {Q : Type 0} (ops : Direction → Ops Q) where
  asked-kept : (q : Request) (b : Device Q) (m : List ℕ) → Reached b.rest → Reached (asked n ops q b m).state.rest
  unfolding read_step transfer_step remembering
  asked-kept (ReadRegister offset width) b m k = k
  asked-kept (WriteRegister offset width v) b m k =
      let w = write_of b.rest.registers offset width v in
      affected-kept w.effect (with_registers w.registers b.rest) k
  asked-kept Control b m k = control-kept n ops KeptAs closed-reached b m k
  asked-kept (Play id host backlog) b m k =
      let t : Transferred Q = transferred_of n ops output id backlog b m host in
      remembered-kept (eqb t.answer.number done) id backlog (with_registers t.registers b.rest) k
  asked-kept (Capture id host backlog) b m k =
      let t : Transferred Q = transferred_of n ops input id backlog b m host in
      remembered-kept (eqb t.answer.number done) id backlog (with_registers t.registers b.rest) k
  asked-kept (Event code data') b m k = (event-kept KeptAs closed-reached code data' b.rest m k).is

  -- of any list of calls from power-up
  pub reached : (d : Description) (len : ℕ) (cs : List Call) → Reached (after n ops (start n ops d len) cs).rest
  reached d len cs =
      along-keeps (step n ops) (λ (b : Device Q). Reached b.rest) (λ b c k. asked-kept c.asked b c.lent k) (start n ops d len) cs
      (power-reached d len)
