-- The writes that start the play queue's histories anew are the accepted ones of 0 to STATUS, and of QUEUE_PFN with selector 2 and
-- DRIVER_OK clear: by the map of the registers and the rule of each.
use mathlib.Core.Path.{◌≡◌, refl, sym, ◌∙◌}
use mathlib.Core.Bool.{Bool, true, false, cond, ◌&&◌, ◌||◌, not}
use Prim.Native.Nat.{ℕ, ◌+◌, ◌-◌, ◌^◌}
use native.Mathlib.Decide.{ℕ_discrete}
use borrow.Author.Tests.{ne_eqb, eq-eqb}
use lib.Dec.{eqb, leb, ltb}
use Rattle.registers.specs.Map.{register_at, config_at}
use Rattle.registers.specs.Rules.{write_of, write_register, wrote_features, wrote_page, wrote_selector, wrote_notify, wrote_status}
use Rattle.registers.specs.Rules.{driver_ok}
use Rattle.registers.specs.Rules.{wrote, with_page}
use Rattle.registers.specs.declared.Effect.{Effect}
use Rattle.registers.specs.declared.Registers.{Registers}
use Rattle.registers.specs.declared.Written.{Written}
use Rattle.register_map.specs.declared.Register.{Register}
use Rattle.register_map.specs.declared.Register.TheVariants.{GuestFeatures, QueuePfn, QueueSel, QueueNotify, Status, DeviceConfig, Absent}
use Rattle.registers.proofs.Keeps.{by_cond}
use Rattle.rules.specs.Account.{writes_anew}
use Rattle.rules.specs.Calls.{clears_queue}
use Rattle.device.specs.Device.{output, Direction, input, queue_number}

-- an effect that no write has but one of STATUS or QUEUE_PFN
module _ (F : Effect → Bool) (nothing : F Effect.Nothing ≡ false) (rung : (q : ℕ) → F (Effect.Rung q) ≡ false) (r : Registers) (v : ℕ) where
  abbrev Spared : Written → Type 0
  Spared w = F w.effect ≡ false

  abbrev Other : Register → Type 0
  Other x = Spared (write_register r v x)

  features-other : Other GuestFeatures
  unfolding wrote_features
  features-other = by_cond Spared (ltb v (256 ^ 4)) (λ e. nothing) (λ e. nothing)

  selector-other : Other QueueSel
  unfolding wrote_selector
  selector-other = by_cond Spared (ltb v (256 ^ 2)) (λ e. nothing) (λ e. nothing)

  notify-other : Other QueueNotify
  unfolding wrote_notify
  notify-other =
      by_cond Spared (ltb v (256 ^ 2)) (λ e. by_cond (λ (x : Effect). F x ≡ false) (ltb v 4) (λ e. rung v) (λ e. nothing)) (λ e. nothing)

  config-other : (offset width : ℕ) → Other (config_at offset width)
  unfolding config_at
  config-other offset width =
      by_cond Other (leb 20 offset && leb (offset + width) 256 && (eqb width 1 || eqb width 2 || eqb width 4))
      {x = DeviceConfig (offset - 20)} {y = Absent} (λ e. nothing) (λ e. nothing)

  -- every register but these two
  pub register-other : (offset width : ℕ) → (offset ≡ 8 → ⊥) → (offset ≡ 18 → ⊥) → Other (register_at offset width)
  unfolding register_at
  register-other offset width m n =
      rw (ne_eqb offset 8 m, ne_eqb offset 18 n)
      (by_cond Other (eqb offset 0) (λ e. by_cond Other (eqb width 4) (λ e. nothing) (λ e. nothing))
      (λ e.
      by_cond Other (eqb offset 4) (λ e. by_cond Other (eqb width 4) (λ e. features-other) (λ e. nothing))
      (λ e.
      by_cond Other (eqb offset 12) (λ e. by_cond Other (eqb width 2) (λ e. nothing) (λ e. nothing))
      (λ e.
      by_cond Other (eqb offset 14) (λ e. by_cond Other (eqb width 2) (λ e. selector-other) (λ e. nothing))
      (λ e.
      by_cond Other (eqb offset 16) (λ e. by_cond Other (eqb width 2) (λ e. notify-other) (λ e. nothing))
      (λ e.
      by_cond Other (eqb offset 19) (λ e. by_cond Other (eqb width 1) (λ e. nothing) (λ e. nothing))
      (λ e. config-other offset width)))))))

module _ (d : Direction) where
  -- a write leaves the queue's histories alone
  abbrev Keeps : Written → Type 0
  Keeps w = clears_queue d w.effect ≡ false

  module _ (r : Registers) (v : ℕ) where
    -- STATUS: a write of 0
    status-clears : Dec (v ≡ 0) → clears_queue d (write_register r v Status).effect ≡ eqb v 0
    unfolding wrote_status
    status-clears (yes e) = rw e
    status-clears (no n) = rw (ne_eqb v 0 n) (by_cond Keeps (ltb v (256 ^ 1)) (λ e. refl) (λ e. refl))

    one-of-four : (d : Direction) → ltb (queue_number d) 4 ≡ true
    one-of-four output = refl
    one-of-four input = refl

    -- QUEUE_PFN: the selected queue, where the write is not dropped
    selected : (ok : Bool) → Dec (r.selector ≡ queue_number d)
        → clears_queue d
        (cond (ltb r.selector 4 && ok) (wrote (with_page r r.selector v) (Effect.Based r.selector)) (wrote r Effect.Nothing)
        ).effect
        ≡ (eqb r.selector (queue_number d) && ok)
    selected true (yes e) = rw (e, one-of-four d, eq-eqb (queue_number d) (queue_number d) refl)
    selected false (yes e) = rw (e, one-of-four d, eq-eqb (queue_number d) (queue_number d) refl)
    selected ok (no n) =
        rw (ne_eqb r.selector (queue_number d) n)
        (by_cond Keeps (ltb r.selector 4 && ok) (λ k. ne_eqb r.selector (queue_number d) n) (λ k. refl))

    page-clears : (b : Bool) → ltb v (256 ^ 4) ≡ b
        → clears_queue d (write_register r v QueuePfn).effect ≡ (ltb v (2 ^ 32) && eqb r.selector (queue_number d) && not (driver_ok r))
    unfolding wrote_page
    page-clears true e = rw e (selected (not (driver_ok r)) (ℕ_discrete r.selector (queue_number d)))
    page-clears false e = rw e

    or-false : (b : Bool) → (b || false) ≡ b
    or-false true = refl
    or-false false = refl

    -- the write by its offset
    write-clears : (offset width : ℕ) → Dec (offset ≡ 18) → Dec (offset ≡ 8)
        → clears_queue d (write_of r offset width v).effect ≡ writes_anew (queue_number d) offset width v r
    unfolding write_of register_at
    write-clears offset width (yes e) k = rw e (go (eqb width 1))
      where
        go : (b : Bool) → clears_queue d (write_register r v (cond b Status Absent)).effect ≡ ((b && eqb v 0) || false)
        go true = status-clears (ℕ_discrete v 0) ∙ sym (or-false (eqb v 0))
        go false = refl
    write-clears offset width (no n) (yes e) = rw e (go (eqb width 4))
      where
        go : (b : Bool) → clears_queue d (write_register r v (cond b QueuePfn Absent)).effect
            ≡ (b && ltb v (2 ^ 32) && eqb r.selector (queue_number d) && not (driver_ok r))
        go true = page-clears (ltb v (256 ^ 4)) refl
        go false = refl
    write-clears offset width (no n) (no k) = register-other (clears_queue d) refl (λ q. refl) r v offset width k n ∙ sym none
      where
        none : writes_anew (queue_number d) offset width v r ≡ false
        none = rw (ne_eqb offset 18 n, ne_eqb offset 8 k)

-- the rule's clearing is the one stated
pub clears-by : (d : Direction) (r : Registers) (v offset width : ℕ)
    → clears_queue d (write_of r offset width v).effect ≡ writes_anew (queue_number d) offset width v r
clears-by d r v offset width = write-clears d r v offset width (ℕ_discrete offset 18) (ℕ_discrete offset 8)
