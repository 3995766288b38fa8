-- Every read, write, signal and breakdown keeps a register file fit.
use mathlib.Core.Path.{◌≡◌, refl, sym, ◌∙◌}
use mathlib.Core.Bool.{Bool, true, false, cond, ◌&&◌, not, true≢false}
use Prim.Native.Nat.{ℕ, ◌+◌, ◌*◌, ◌/◌, ◌%◌, ◌^◌, ◌≤◌, ◌<◌}
use native.Mathlib.Omega.{arith}
use borrow.Author.Tests.{eq-eqb, eqb-true, eqb-false, ltb-true}
use lib.Dec.{eqb, ltb}
use lib.ListN.{length-set}
use Rattle.registers.specs.Fit.{FitRegisters}
use Rattle.register_map.specs.Map.{register_at}
use Rattle.registers.specs.Rules.{read_of, write_of, read_register, write_register, power_on, signalled, broken, isr_read}
use Rattle.registers.specs.Rules.{wrote_features, wrote_page, wrote_selector, wrote_notify, wrote_status, fitting, stored_status}
use Rattle.registers.specs.Rules.{only_offered, features_ok, has_bit, with_bit, with_status, with_isr}
use Rattle.registers.specs.declared.Config.{Config}
use Rattle.register_map.specs.declared.Register.{Register}
use Rattle.register_map.specs.declared.Register.TheVariants.{HostFeatures, GuestFeatures, QueuePfn, QueueNum, QueueSel, QueueNotify}
use Rattle.register_map.specs.declared.Register.TheVariants.{Status, Isr, DeviceConfig, Absent}
use Rattle.registers.specs.declared.Registers.{Registers}
use Rattle.registers.specs.declared.Written.{Written}

-- a choice of two has what both have
pub by_cond : {A : Type 0} (P : A → Type 0) (b : Bool) {x y : A} → (b ≡ true → P x) → (b ≡ false → P y) → P (cond b x y)
by_cond P true h k = h refl
by_cond P false h k = k refl

-- the bits that STATUS stores leave 4 and 5 clear
bits-apart : (a b d e : ℕ) → a < 8 → b < 2 → d < 2 → e < 2 → (a + b * 8 + d * 64 + e * 128) / 16 % 4 ≡ 0
bits-apart a b d e h i j k =
    let q : (a + b * 8 + d * 64 + e * 128) / 16 ≡ d * 4 + e * 8 = omega arith in
    rw q (omega arith)

-- a bit that is clear
bit-clear : {A : Type 0} (x i : ℕ) → has_bit x i ≡ false → ((x / 2 ^ i % 2 ≡ 1 → ⊥) → A) → A
bit-clear x i e k = k (eqb-false (x / 2 ^ i % 2) 1 e)

pub power-on-fit : FitRegisters power_on
power-on-fit = record { four = refl; small = omega arith; unused = refl; two = omega arith; agreed = λ e. refl }

module _ (r : Registers) (f : FitRegisters r) where
  with-isr : (v : ℕ) → v ≤ 3 → FitRegisters (with_isr r v)
  with-isr v h = record { four = f.four; small = f.small; unused = f.unused; two = h; agreed = f.agreed }

  pub signalled-fit : FitRegisters (signalled r)
  unfolding signalled
  signalled-fit =
      with-isr (with_bit r.isr 0)
      (by_cond (λ (x : ℕ). x ≤ 3) (has_bit r.isr 0) (λ e. f.two) (λ e. bit-clear r.isr 0 e (λ z. omega (arith, f.two))))

  -- NEEDS_RESET lies above FEATURES_OK and apart from bits 4 and 5
  needs-reset : FitRegisters (with_status r (with_bit r.status 6))
  needs-reset =
      by_cond (λ (x : ℕ). FitRegisters (with_status r x)) (has_bit r.status 6) (λ e. f)
      (λ e.
      bit-clear r.status 6 e
      (λ z.
      record {
        four = f.four;
        small = omega (arith, f.small);
        unused = omega (arith, f.unused, f.small);
        two = f.two;
        agreed = λ g. f.agreed (eq-eqb (r.status / 8 % 2) 1 (omega (arith, eqb-true ((r.status + 64) / 8 % 2) 1 g)));
      }))

  pub broken-fit : FitRegisters (broken r)
  unfolding broken
  broken-fit =
      let n = needs-reset in
      record {
        four = n.four;
        small = n.small;
        unused = n.unused;
        two = by_cond (λ (x : ℕ). x ≤ 3) (has_bit r.isr 1) (λ e. f.two) (λ e. bit-clear r.isr 1 e (λ z. omega (arith, f.two)));
        agreed = n.agreed;
      }

  -- ---- reads

  read-register-fit : (c : Config) (width : ℕ) (g : Register) → FitRegisters (read_register r c width g).registers
  unfolding isr_read
  read-register-fit c width HostFeatures = f
  read-register-fit c width GuestFeatures = f
  read-register-fit c width QueuePfn = f
  read-register-fit c width QueueNum = f
  read-register-fit c width QueueSel = f
  read-register-fit c width QueueNotify = f
  read-register-fit c width Status = f
  read-register-fit c width Isr = with-isr 0 (omega arith)
  read-register-fit c width (DeviceConfig at) = f
  read-register-fit c width Absent = f

  pub read-fit : (c : Config) (offset width : ℕ) → FitRegisters (read_of r c offset width).registers
  unfolding read_of
  read-fit c offset width = read-register-fit c width (register_at offset width)

  -- ---- writes

  features-fit : (v : ℕ) → FitRegisters (wrote_features r v).registers
  unfolding wrote_features
  features-fit v =
      by_cond FitRegisters (features_ok r) (λ e. f)
      (λ e. record { four = f.four; small = f.small; unused = f.unused; two = f.two; agreed = λ g. absurd (true≢false (sym g ∙ e)) })

  page-fit : (v : ℕ) → FitRegisters (wrote_page r v).registers
  unfolding wrote_page
  page-fit v =
      by_cond (λ (w : Written). FitRegisters w.registers) (ltb r.selector 4 && not (has_bit r.status 2))
      (λ e. record { four = rw length-set f.four; small = f.small; unused = f.unused; two = f.two; agreed = f.agreed })
      (λ e. f)

  stored-fit : (v : ℕ) → v < 256 → FitRegisters (with_status r (stored_status r.status (only_offered r.features) v))
  unfolding stored_status
  stored-fit v h = by (only_offered r.features) refl where
    by : (b : Bool) → only_offered r.features ≡ b
        → FitRegisters (with_status r (v % 8 + cond b (v / 8 % 2 * 8) 0 + r.status / 64 % 2 * 64 + v / 128 % 2 * 128))
    by true e =
        record {
          four = f.four;
          small = omega arith;
          unused = bits-apart (v % 8) (v / 8 % 2) (r.status / 64 % 2) (v / 128 % 2) (omega arith) (omega arith) (omega arith)
              (omega arith);
          two = f.two;
          agreed = λ g. e;
        }
    by false e =
        record {
          four = f.four;
          small = omega arith;
          unused = omega arith;
          two = f.two;
          agreed = λ g. absurd (omega (arith, eqb-true ((v % 8 + 0 + r.status / 64 % 2 * 64 + v / 128 % 2 * 128) / 8 % 2) 1 g));
        }

  status-fit : (v : ℕ) → v < 256 → FitRegisters (wrote_status r v).registers
  unfolding wrote_status
  status-fit v h = by_cond (λ (w : Written). FitRegisters w.registers) (eqb v 0) (λ e. power-on-fit) (λ e. stored-fit v h)

  fitting-fit : (bytes v : ℕ) (w : Written) → (v < 256 ^ bytes → FitRegisters w.registers)
      → FitRegisters (fitting r bytes v w).registers
  fitting-fit bytes v w k =
      by_cond (λ (x : Written). FitRegisters x.registers) (ltb v (256 ^ bytes)) (λ e. k (ltb-true v (256 ^ bytes) e)) (λ e. f)

  write-register-fit : (v : ℕ) (g : Register) → FitRegisters (write_register r v g).registers
  unfolding wrote_selector wrote_notify
  write-register-fit v HostFeatures = f
  write-register-fit v GuestFeatures = fitting-fit 4 v (wrote_features r v) (λ h. features-fit v)
  write-register-fit v QueuePfn = fitting-fit 4 v (wrote_page r v) (λ h. page-fit v)
  write-register-fit v QueueNum = f
  write-register-fit v QueueSel =
      fitting-fit 2 v (wrote_selector r v)
      (λ h. record { four = f.four; small = f.small; unused = f.unused; two = f.two; agreed = f.agreed })
  write-register-fit v QueueNotify = fitting-fit 2 v (wrote_notify r v) (λ h. f)
  write-register-fit v Status = fitting-fit 1 v (wrote_status r v) (λ h. status-fit v h)
  write-register-fit v Isr = f
  write-register-fit v (DeviceConfig at) = f
  write-register-fit v Absent = f

  pub write-fit : (offset width v : ℕ) → FitRegisters (write_of r offset width v).registers
  unfolding write_of
  write-fit offset width v = write-register-fit v (register_at offset width)
