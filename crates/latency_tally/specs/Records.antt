-- 02, order 12: "8-byte status records", and what is counted of them. A record is a status code and a latency, 32 bits each,
-- the lowest byte first.
use Rattle.std.specs.Prelude.{ℕ, zero, suc, ◌+◌, ◌-◌, ◌/◌, min, max, Bool, cond, not, ◌||◌, List, [], ◌∷◌, length, ◌==◌}
use Rattle.memory.specs.Bytes.{le}

pub record Status : Type 0 where
  pub code : ℕ
  pub latency : ℕ

abbrev pub status : ℕ → ℕ → Status
status code latency = record { code = code; latency = latency }

-- the n records that stand in s from `at` on
unfoldable pub records : ℕ → List ℕ → ℕ → List Status
records zero s at = []
records (suc k) s at = status (le 4 s at) (le 4 s (at + 4)) ∷ records k s (at + 8)

-- the records of an input, whose first 8 bytes are the mask
unfoldable pub records_of : List ℕ → List Status
records_of s = records ((length s - 8) / 8) s 8

-- ---- "OK records, IO_ERR records, others"

abbrev pub is_ok : Status → Bool
is_ok r = r.code == 32768

abbrev pub is_io_err : Status → Bool
is_io_err r = r.code == 32771

abbrev pub is_other : Status → Bool
is_other r = not (is_ok r || is_io_err r)

unfoldable pub count : (Status → Bool) → List Status → ℕ
count p [] = 0
count p (r ∷ l) = cond (p r) 1 0 + count p l

-- ---- "smallest, largest and summed latency of the OK records"

unfoldable pub ok_latencies : List Status → List ℕ
ok_latencies [] = []
ok_latencies (r ∷ l) = cond (is_ok r) (r.latency ∷ ok_latencies l) (ok_latencies l)

-- of no latency the smallest is not printed; the number for it is one that no latency passes
unfoldable pub smallest : List ℕ → ℕ
smallest [] = 4294967295
smallest (x ∷ l) = min x (smallest l)

unfoldable pub largest : List ℕ → ℕ
largest [] = 0
largest (x ∷ l) = max x (largest l)

unfoldable pub sum : List ℕ → ℕ
sum [] = 0
sum (x ∷ l) = x + sum l
