-- A linear sample of any width becomes its top 16 bits in two's complement, an unsigned one with the top bit turned: one law over the
-- width and the sign (`linear-signed`).
use Rattle.std.proofs.Common.{◌≡◌, ℕ, ◌+◌, ◌-◌, ◌*◌, ◌/◌, ◌%◌, ◌^◌, ◌<◌, ◌≤◌, Bool, true, false, ℤ, refl, ap, ◌∙◌, ⊎_elim, arith}
use Rattle.std.proofs.Common.{pow-add, le-ltb, lt-ltb}
use native.Mathlib.Nat.{one-le-pow}
use lib.IntN.{sub_ℕ}
use Rattle.samples.specs.Values.{signed, centred, value, floor_div, scaled, bits}
use Rattle.samples.specs.Loops.{top, turn}
use Rattle.samples.proofs.Numbers.{below_or_not, floor-sub, times-sub, middle-signed, bits-signed, quotient-below, quotient-above}

-- ---- one byte

module _ (x : ℕ) (b : x < 256) where
  narrow-top : top 1 x ≡ x * 256
  unfolding top
  narrow-top = refl

  narrow_signed : scaled 1 (signed 1 x) ≡ signed 2 (x * 256)
  unfolding scaled signed
  narrow_signed = ⊎_elim low high (below_or_not x 128)
    where
      low : x < 128 → scaled 1 (signed 1 x) ≡ signed 2 (x * 256)
      low l = rw (lt-ltb (2 * x) 256 (omega arith), lt-ltb (2 * (x * 256)) 65536 (omega arith))

      high : 128 ≤ x → scaled 1 (signed 1 x) ≡ signed 2 (x * 256)
      high l = rw (le-ltb (2 * x) 256 (omega arith), le-ltb (2 * (x * 256)) 65536 (omega arith)) (times-sub x 256)

  narrow-centred : scaled 1 (centred 1 x) ≡ sub_ℕ (x * 256) 32768
  unfolding scaled centred
  narrow-centred = times-sub x 128

-- ---- two bytes and more: all but the top two are dropped

module _ (w x : ℕ) (two : 2 ≤ w) (b : x < 256 ^ w) where
  unit : ℕ
  unit = 256 ^ (w - 2)

  unit-some : 0 < unit
  unfolding unit
  unit-some = one-le-pow (w - 2) 256 (omega arith)

  split : 256 ^ w ≡ 65536 * unit
  unfolding unit
  split =
      let e : w ≡ 2 + (w - 2) = omega arith in
      ap (λ (n : ℕ). 256 ^ n) e ∙ pow-add 256 2 (w - 2)

  wide-top : top w x ≡ x / unit
  unfolding top unit
  wide-top = rw (le-ltb w 2 two)

  wide-bound : x / unit < 65536
  wide-bound = quotient-below x unit 65536 unit-some (rw split at b)

  wide-scaled : (z : ℤ) → scaled w z ≡ floor_div z unit
  unfolding scaled unit
  wide-scaled z = rw (le-ltb w 2 two)

  wide_signed : scaled w (signed w x) ≡ signed 2 (x / unit)
  unfolding signed floor_div
  wide_signed = ⊎_elim low high (below_or_not (2 * x) (256 ^ w))
    where
      low : 2 * x < 256 ^ w → scaled w (signed w x) ≡ signed 2 (x / unit)
      low l =
          let h : 2 * x < 65536 * unit = rw split at l in
          let t = quotient-below x unit 32768 unit-some (omega arith) in
          rw (wide-scaled, lt-ltb (2 * x) (256 ^ w) l, lt-ltb (2 * (x / unit)) 65536 (omega arith))

      high : 256 ^ w ≤ 2 * x → scaled w (signed w x) ≡ signed 2 (x / unit)
      high l =
          let h : 65536 * unit ≤ 2 * x = rw split at l in
          let t = quotient-above x unit 32768 unit-some (omega arith) in
          rw (wide-scaled, le-ltb (2 * x) (256 ^ w) l, le-ltb (2 * (x / unit)) 65536 (omega arith), split)
          (floor-sub x unit 65536 unit-some)

  wide-centred : scaled w (centred w x) ≡ sub_ℕ (x / unit) 32768
  unfolding centred
  wide-centred =
      let e : 256 ^ w / 2 ≡ 32768 * unit = rw split (omega arith) in
      rw (wide-scaled, e) (floor-sub x unit 32768 unit-some)

-- ---- both

module _ (w x : ℕ) (one : 1 ≤ w) (b : x < 256 ^ w) where
  byte : w < 2 → w ≡ 1
  byte h = omega arith

  pub top-bound : top w x < 65536
  top-bound = ⊎_elim narrow wide (below_or_not w 2)
    where
      narrow : w < 2 → top w x < 65536
      narrow h =
          let c : x < 256 ^ 1 = rw (byte h) at b in
          rw (byte h, narrow-top x c) (omega arith)

      wide : 2 ≤ w → top w x < 65536
      wide h = rw (wide-top w x h b) (wide-bound w x h b)

  top-signed : scaled w (signed w x) ≡ signed 2 (top w x)
  top-signed = ⊎_elim narrow wide (below_or_not w 2)
    where
      narrow : w < 2 → scaled w (signed w x) ≡ signed 2 (top w x)
      narrow h =
          let c : x < 256 ^ 1 = rw (byte h) at b in
          rw (byte h, narrow-top x c) (narrow_signed x c)

      wide : 2 ≤ w → scaled w (signed w x) ≡ signed 2 (top w x)
      wide h = rw (wide-top w x h b) (wide_signed w x h b)

  top-centred : scaled w (centred w x) ≡ sub_ℕ (top w x) 32768
  top-centred = ⊎_elim narrow wide (below_or_not w 2)
    where
      narrow : w < 2 → scaled w (centred w x) ≡ sub_ℕ (top w x) 32768
      narrow h =
          let c : x < 256 ^ 1 = rw (byte h) at b in
          rw (byte h, narrow-top x c) (narrow-centred x c)

      wide : 2 ≤ w → scaled w (centred w x) ≡ sub_ℕ (top w x) 32768
      wide h = rw (wide-top w x h b) (wide-centred w x h b)

  pub linear-signed : (unsigned : Bool) → scaled w (value unsigned w x) ≡ signed 2 ((top w x + turn unsigned) % 65536)
  unfolding value
  linear-signed true = top-centred ∙ middle-signed (top w x) top-bound
  linear-signed false =
      let t = top-bound in
      let e : (top w x + 0) % 65536 ≡ top w x = omega arith in
      rw e top-signed

  pub linear-bits : (unsigned : Bool) → bits (scaled w (value unsigned w x)) ≡ (top w x + turn unsigned) % 65536
  linear-bits unsigned = rw (linear-signed unsigned) (bits-signed ((top w x + turn unsigned) % 65536) (omega arith))
