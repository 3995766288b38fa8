-- Differences of naturals as integers, and two's complement in 16 bits read back.
use Rattle.std.proofs.Common.{◌≡◌, ℕ, suc, ◌+◌, ◌-◌, ◌*◌, ◌/◌, ◌%◌, ◌<◌, ◌≤◌, Bool, true, false, ltb, ◌⊎◌, pos, negsuc, ◌*ℤ◌, sym, refl}
use Rattle.std.proofs.Common.{inl, inr, ⊎_elim, mod-lt, div-lt_iff_lt-mul, add-mul, div-add-mod', le-div_iff_mul-le, arith, ltb-false}
use Rattle.std.proofs.Common.{ltb-true, le-ltb, lt-ltb}
use lib.Arith.{digits_div}
use lib.IntN.{sub_ℕ}
use Rattle.samples.specs.Values.{signed, floor_div, bits}

pub below_or_not : (a b : ℕ) → (a < b) ⊎ (b ≤ a)
below_or_not a b = told (ltb a b) refl
  where
    told : (t : Bool) → ltb a b ≡ t → (a < b) ⊎ (b ≤ a)
    told true e = inl (ltb-true a b e)
    told false e = inr (ltb-false a b e)

pub sub-below : (a b : ℕ) → a < b → sub_ℕ a b ≡ negsuc (b - suc a)
sub-below a b h = rw (lt-ltb a b h)

pub sub-above : (a b : ℕ) → b ≤ a → sub_ℕ a b ≡ pos (a - b)
sub-above a b h = rw (le-ltb a b h)

-- ---- the floor of a difference: whole multiples of the divisor come out

-- x is q·t + r, and k is t + 1 + a: what is missing to q·k, less one, has the quotient a
rest_below : (q t r a x k : ℕ) → r < q → x ≡ t * q + r → k ≡ t + 1 + a → (k * q - suc x) / q ≡ a
rest_below q t r a x k h e f =
    let m : k * q ≡ t * q + 1 * q + a * q = rw (f, add-mul, add-mul) in
    let n : k * q - suc x ≡ a * q + (q - suc r) = omega arith in
    rw (n, digits_div a {m = q} {r = q - suc r} (omega arith))

rest-above : (q t r a x k : ℕ) → r < q → x ≡ t * q + r → t ≡ k + a → (x - k * q) / q ≡ a
rest-above q t r a x k h e f =
    let m : t * q ≡ k * q + a * q = rw (f, add-mul) in
    let n : x - k * q ≡ a * q + r = omega arith in
    rw (n, digits_div a {m = q} {r = r} h)

module _ (x q k : ℕ) (h : 0 < q) where
  pub quotient-below : x < k * q → x / q < k
  quotient-below l = (div-lt_iff_lt-mul {k = q} {x = x} {y = k} h).1 l

  pub quotient-above : k * q ≤ x → k ≤ x / q
  quotient-above l = (le-div_iff_mul-le {k = q} {x = k} {y = x} h).1 l

  whole : x ≡ x / q * q + x % q
  whole = sym (div-add-mod' x q)

  pub floor-sub : floor_div (sub_ℕ x (k * q)) q ≡ sub_ℕ (x / q) k
  unfolding floor_div
  floor-sub = ⊎_elim below above (below_or_not x (k * q))
    where
      below : x < k * q → floor_div (sub_ℕ x (k * q)) q ≡ sub_ℕ (x / q) k
      below l =
          let t = quotient-below l in
          rw (
            sub-below x (k * q) l,
            sub-below (x / q) k t,
            rest_below q (x / q) (x % q) (k - suc (x / q)) x k (mod-lt x h) whole (omega arith),
          )

      above : k * q ≤ x → floor_div (sub_ℕ x (k * q)) q ≡ sub_ℕ (x / q) k
      above l =
          let t = quotient-above l in
          rw (
            sub-above x (k * q) l,
            sub-above (x / q) k t,
            rest-above q (x / q) (x % q) (x / q - k) x k (mod-lt x h) whole (omega arith),
          )

-- a difference of bytes, times 256
pub times-sub : (x k : ℕ) → sub_ℕ x k *ℤ pos 256 ≡ sub_ℕ (x * 256) (k * 256)
times-sub x k = ⊎_elim below above (below_or_not x k)
  where
    below : x < k → sub_ℕ x k *ℤ pos 256 ≡ sub_ℕ (x * 256) (k * 256)
    below l =
        let e : suc (k - suc x) * 256 ≡ suc (k * 256 - suc (x * 256)) = omega arith in
        rw (sub-below x k l, sub-below (x * 256) (k * 256) (omega arith), e)

    above : k ≤ x → sub_ℕ x k *ℤ pos 256 ≡ sub_ℕ (x * 256) (k * 256)
    above l =
        let e : (x - k) * 256 ≡ x * 256 - k * 256 = omega arith in
        rw (sub-above x k l, sub-above (x * 256) (k * 256) (omega arith), e)

-- ---- two's complement in two bytes

pub signed_low : (y : ℕ) → y < 32768 → signed 2 y ≡ pos y
unfolding signed
signed_low y h = rw (lt-ltb (2 * y) 65536 (omega arith))

pub signed_high : (y : ℕ) → 32768 ≤ y → signed 2 y ≡ sub_ℕ y 65536
unfolding signed
signed_high y h = rw (le-ltb (2 * y) 65536 (omega arith))

module _ (y : ℕ) where
  -- the bits of the number that y stands for are y
  pub bits-signed : y < 65536 → bits (signed 2 y) ≡ y
  unfolding bits
  bits-signed h = ⊎_elim low high (below_or_not y 32768)
    where
      low : y < 32768 → bits (signed 2 y) ≡ y
      low l = rw (signed_low y l) (omega arith)

      high : 32768 ≤ y → bits (signed 2 y) ≡ y
      high l = rw (signed_high y l, sub-below y 65536 h) (omega arith)

  -- an unsigned number of 16 bits, its middle subtracted
  pub middle-signed : y < 65536 → sub_ℕ y 32768 ≡ signed 2 ((y + 32768) % 65536)
  middle-signed h = ⊎_elim low high (below_or_not y 32768)
    where
      low : y < 32768 → sub_ℕ y 32768 ≡ signed 2 ((y + 32768) % 65536)
      low l =
          let e : (y + 32768) % 65536 ≡ y + 32768 = omega arith in
          let f : 65536 - suc (y + 32768) ≡ 32768 - suc y = omega arith in
          rw (e, signed_high (y + 32768) (omega arith), sub-below (y + 32768) 65536 (omega arith), sub-below y 32768 l, f)

      high : 32768 ≤ y → sub_ℕ y 32768 ≡ signed 2 ((y + 32768) % 65536)
      high l =
          let e : (y + 32768) % 65536 ≡ y - 32768 = omega arith in
          rw (e, signed_low (y - 32768) (omega arith), sub-above y 32768 l)
