-- The integers that linear samples stand for, once over the width in bytes.
use Rattle.std.specs.Prelude.{ℕ, ◌-◌, ◌*◌, ◌/◌, ◌%◌, ◌^◌, Bool, true, false, cond, ℤ, pos, negsuc, ◌*ℤ◌, nat_lt}
use Rattle.std.proofs.Math.IntN.{sub_ℕ}

-- two's complement in w bytes: x, or x − 256^w where the top bit is set
unfoldable pub signed : ℕ → ℕ → ℤ
signed w x = cond (nat_lt (2 * x) (256 ^ w)) (pos x) (sub_ℕ x (256 ^ w))

-- 02, order 7: "unsigned ones first subtract their middle"
unfoldable pub centred : ℕ → ℕ → ℤ
centred w x = sub_ℕ x (256 ^ w / 2)

-- the number that w bytes stand for, unsigned (true) or signed
unfoldable pub value : Bool → ℕ → ℕ → ℤ
value true w x = centred w x
value false w x = signed w x

-- z / m, rounded toward minus infinity
unfoldable pub floor_div : ℤ → ℕ → ℤ
floor_div (pos a) m = pos (a / m)
floor_div (negsuc a) m = negsuc (a / m)

-- "Wide formats drop low bits toward minus infinity; S8 is multiplied by 256": w bytes brought to two
unfoldable pub scaled : ℕ → ℤ → ℤ
scaled w z = cond (nat_lt w 2) (z *ℤ pos 256) (floor_div z (256 ^ (w - 2)))

-- the 16 bits of z in two's complement, as a number
unfoldable pub bits : ℤ → ℕ
bits (pos n) = n % 65536
bits (negsuc n) = 65535 - n % 65536
