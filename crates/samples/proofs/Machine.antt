-- The 16 bits in which the machine has an i16 are those of its number.
use Rattle.std.proofs.Common.{◌≡◌, ℤ, pos, negsuc, arith, to_z-of_z, w16, SFits, to_z, of_z}
use Rattle.samples.specs.Values.{bits}

of-bits : (z : ℤ) → SFits w16 z → of_z w16 z ≡ bits z
unfolding bits
of-bits (pos n) f = omega arith
of-bits (negsuc n) f = omega arith

pub read-bits : (z : ℤ) → SFits w16 z → of_z w16 (to_z w16 (of_z w16 z)) ≡ bits z
read-bits z f = rw (to_z-of_z f) (of-bits z f)
