-- A base write and a notification name one of the four queues.
use mathlib.Core.Path.{◌≡◌}
use mathlib.Core.Logic.{◌≢◌}
use mathlib.Core.Bool.{◌&&◌, not, and-eq-true_iff}
use Prim.Native.Nat.{ℕ, ◌^◌, ◌<◌}
use native.Mathlib.Omega.{arith}
use borrow.Author.Tests.{ltb-true}
use lib.Dec.{eqb, ltb}
use Rattle.register_map.specs.Map.{register_at}
use Rattle.registers.specs.Rules.{write_of, write_register, wrote_features, wrote_page, wrote_selector, wrote_notify, wrote_status}
use Rattle.registers.specs.Rules.{fitting, driver_ok}
use Rattle.registers.specs.declared.Effect.{Effect}
use Rattle.registers.specs.declared.Effect.TheVariants.{Nothing, Reset, Based, Rung}
use Rattle.register_map.specs.declared.Register.{Register}
use Rattle.register_map.specs.declared.Register.TheVariants.{HostFeatures, GuestFeatures, QueuePfn, QueueNum, QueueSel, QueueNotify}
use Rattle.register_map.specs.declared.Register.TheVariants.{Status, Isr, DeviceConfig, Absent}
use Rattle.registers.specs.declared.Registers.{Registers}
use Rattle.registers.specs.declared.Written.{Written}
use Rattle.registers.proofs.Keeps.{by_cond}

-- of four numbers, the one that is none of the first three
pub fourth : (q : ℕ) → q < 4 → q ≢ 0 → q ≢ 1 → q ≢ 2 → q ≡ 3
fourth q f a b c = omega arith

-- the queue that an effect names, and 0 where it names none
abbrev pub queue_named : Effect → ℕ
queue_named Nothing = 0
queue_named Reset = 0
queue_named (Based q) = q
queue_named (Rung q) = q

abbrev Named : Written → Type 0
Named w = queue_named w.effect < 4

module _ (r : Registers) (v : ℕ) where
  page-named : Named (wrote_page r v)
  unfolding wrote_page
  page-named =
      by_cond Named (ltb r.selector 4 && not (driver_ok r))
      (λ e. ltb-true r.selector 4 ((and-eq-true_iff (ltb r.selector 4) (not (driver_ok r))).0 e).0)
      (λ e. omega arith)

  notify-named : Named (wrote_notify r v)
  unfolding wrote_notify
  notify-named = by_cond (λ (e : Effect). queue_named e < 4) (ltb v 4) (λ e. ltb-true v 4 e) (λ e. omega arith)

  status-named : Named (wrote_status r v)
  unfolding wrote_status
  status-named = by_cond Named (eqb v 0) (λ e. omega arith) (λ e. omega arith)

  fitting-named : (bytes : ℕ) (w : Written) → Named w → Named (fitting r bytes v w)
  fitting-named bytes w n = by_cond Named (ltb v (256 ^ bytes)) (λ e. n) (λ e. omega arith)

  write-register-named : (g : Register) → Named (write_register r v g)
  unfolding wrote_features wrote_selector
  write-register-named HostFeatures = omega arith
  write-register-named GuestFeatures = fitting-named 4 (wrote_features r v) (omega arith)
  write-register-named QueuePfn = fitting-named 4 (wrote_page r v) page-named
  write-register-named QueueNum = omega arith
  write-register-named QueueSel = fitting-named 2 (wrote_selector r v) (omega arith)
  write-register-named QueueNotify = fitting-named 2 (wrote_notify r v) notify-named
  write-register-named Status = fitting-named 1 (wrote_status r v) status-named
  write-register-named Isr = omega arith
  write-register-named (DeviceConfig at) = omega arith
  write-register-named Absent = omega arith

  pub queue-named : (offset width : ℕ) → queue_named (write_of r offset width v).effect < 4
  unfolding write_of
  queue-named offset width = write-register-named (register_at offset width)
