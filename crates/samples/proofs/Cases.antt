-- Order 7's numbers, with those on each side of them, as one statement over the definitions (`cases`); and that `floor_div` is the floor.
use Rattle.std.proofs.Common.{◌≡◌, ℕ, suc, ◌+◌, ◌-◌, ◌*◌, ◌/◌, ◌%◌, ◌<◌, [], ◌∷◌, ℤ, pos, negsuc, ◌+ℤ◌, ◌*ℤ◌, neg_ℤ, refl, ap, mod-lt}
use Rattle.std.proofs.Common.{suc-mul, div-add-mod', arith}
use Rattle.memory.specs.Bytes.{le, put}
use Rattle.samples.specs.Values.{signed, centred, value, floor_div, scaled, bits}
use Rattle.samples.specs.MuLaw.{mu_law}
use Rattle.samples.specs.Formats.{coding_of, width, other, conversion}
use Rattle.samples.specs.Outcome.{written, outcome, converted_by, converted}
use Rattle.samples.proofs.Numbers.{sub-below}

-- a sample of a format, by its virtio number, becomes z
abbrev becomes : ℕ → ℕ → ℤ → Type 0
becomes format x z = conversion (coding_of format) x ≡ z

pub record Cases : Type 0 where
  -- "0xff and 0x7f give 0, 0x80 gives 32,124, 0x00 gives −32,124"
  pub mu-ff : becomes 1 255 (pos 0)
  pub mu-7f : becomes 1 127 (pos 0)
  pub mu-80 : becomes 1 128 (pos 32124)
  pub mu-00 : becomes 1 0 (neg_ℤ (pos 32124))
  -- U8 on each side of its middle, and at its ends
  pub u8-least : becomes 4 0 (neg_ℤ (pos 32768))
  pub u8-below : becomes 4 127 (neg_ℤ (pos 256))
  pub u8-middle : becomes 4 128 (pos 0)
  pub u8-most : becomes 4 255 (pos 32512)
  -- S8 and U16 at their ends and about their middle
  pub s8-least : becomes 3 128 (neg_ℤ (pos 32768))
  pub s8-minus : becomes 3 255 (neg_ℤ (pos 256))
  pub u16-least : becomes 6 0 (neg_ℤ (pos 32768))
  pub u16-below : becomes 6 32767 (neg_ℤ (pos 1))
  pub u16-middle : becomes 6 32768 (pos 0)
  pub s16-minus : becomes 5 65535 (neg_ℤ (pos 1))
  -- S24_3: −1, −256 and −257; 255 and 256
  pub s24-minus : becomes 11 16777215 (neg_ℤ (pos 1))
  pub s24-step : becomes 11 16776960 (neg_ℤ (pos 1))
  pub s24-next : becomes 11 16776959 (neg_ℤ (pos 2))
  pub s24-low : becomes 11 255 (pos 0)
  pub s24-one : becomes 11 256 (pos 1)
  -- S32: −1 and the least
  pub s32-minus : becomes 17 4294967295 (neg_ℤ (pos 1))
  pub s32-least : becomes 17 2147483648 (neg_ℤ (pos 32768))
  -- the bytes of a sample; numbers on each side of the formats taken, and one that is a format but for its ninth bit
  pub bytes_of : (width (coding_of 1) ≡ 1) × (width (coding_of 3) ≡ 1) × (width (coding_of 4) ≡ 1) × (width (coding_of 5) ≡ 2)
      × (width (coding_of 6) ≡ 2) × (width (coding_of 11) ≡ 3) × (width (coding_of 17) ≡ 4)
  pub not_taken : (coding_of 0 ≡ other) × (coding_of 2 ≡ other) × (coding_of 7 ≡ other) × (coding_of 10 ≡ other) × (coding_of 12 ≡ other)
      × (coding_of 16 ≡ other) × (coding_of 18 ≡ other) × (coding_of 261 ≡ other)
  -- whole calls: two samples of S24_3 with a byte of room to spare; nothing; and each refusal, the earlier one first
  pub two-done : converted 11 (255 ∷ 255 ∷ 255 ∷ 0 ∷ 1 ∷ 0 ∷ []) (9 ∷ 9 ∷ 9 ∷ 9 ∷ 9 ∷ []) ≡ outcome 0 (255 ∷ 255 ∷ 1 ∷ 0 ∷ 9 ∷ [])
  pub none_done : converted 17 [] [] ≡ outcome 0 []
  pub first-30 : converted 2 (1 ∷ 2 ∷ 3 ∷ []) (9 ∷ []) ≡ outcome 30 (9 ∷ [])
  pub then-31 : converted 5 (1 ∷ 2 ∷ 3 ∷ []) (9 ∷ []) ≡ outcome 31 (9 ∷ [])
  pub then-32 : converted 5 (1 ∷ 2 ∷ []) (9 ∷ []) ≡ outcome 32 (9 ∷ [])

pub cases : Cases
unfolding coding_of scaled value signed centred floor_div mu_law bits converted_by written le put
cases = record {
  mu-ff = refl;
  mu-7f = refl;
  mu-80 = refl;
  mu-00 = refl;
  u8-least = refl;
  u8-below = refl;
  u8-middle = refl;
  u8-most = refl;
  s8-least = refl;
  s8-minus = refl;
  u16-least = refl;
  u16-below = refl;
  u16-middle = refl;
  s16-minus = refl;
  s24-minus = refl;
  s24-step = refl;
  s24-next = refl;
  s24-low = refl;
  s24-one = refl;
  s32-minus = refl;
  s32-least = refl;
  bytes_of = (refl, refl, refl, refl, refl, refl, refl);
  not_taken = (refl, refl, refl, refl, refl, refl, refl, refl);
  two-done = refl;
  none_done = refl;
  first-30 = refl;
  then-31 = refl;
  then-32 = refl;
}

-- ---- z is m times its floor, and a rest from 0 to m − 1

abbrev pub rest : ℤ → ℕ → ℕ
rest (pos a) m = a % m
rest (negsuc a) m = m - suc (a % m)

pub rest_below : (z : ℤ) (m : ℕ) → 0 < m → rest z m < m
rest_below (pos a) m h = mod-lt a h
rest_below (negsuc a) m h = omega arith

pub floor-whole : (z : ℤ) (m : ℕ) → 0 < m → floor_div z m *ℤ pos m +ℤ pos (rest z m) ≡ z
unfolding floor_div
floor-whole (pos a) m h = ap pos (div-add-mod' a m)
floor-whole (negsuc a) m h =
    let b = mod-lt a h in
    let d = div-add-mod' a m in
    let e : suc (a / m) * m ≡ suc (a / m * m + (m - 1)) = rw (suc-mul (a / m) m) (omega arith) in
    let f : suc (a / m * m + (m - 1)) - suc (m - suc (a % m)) ≡ a = omega arith in
    rw (e, sub-below (m - suc (a % m)) (suc (a / m * m + (m - 1))) (omega arith), f)
