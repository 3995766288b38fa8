-- Laws of host buffers: within 65,536 bytes, a play lends its N bytes of 238, and a capture the bytes of its HEX.
use mathlib.Core.Path.{◌≡◌, refl, ◌∙◌}
use mathlib.Core.List.{List, [], ◌∷◌}
use Prim.Native.Nat.{ℕ, zero, suc, ◌+◌, ◌-◌, ◌/◌, ◌≤◌, min}
use native.Mathlib.Numerals.{add-one}
use native.Mathlib.Omega.{arith}
use lib.ListN.{length, set, take, drop, replicate, length-set, length-drop, length-replicate}
use lib.Seq.{sets, sets-eq, take-append-le, take_all}
use Rattle.replay_field.specs.Hex.{bytes_of_hex, poured}
use Rattle.replay_host.specs.Host.{host_buffer, host_bytes, captured_bytes, hex_filled, hex_count, up_to}

pub length-poured : (t m : List ℕ) (to : ℕ) → length (poured t m to) ≡ length m
unfolding poured
length-poured [] m to = refl
length-poured (b ∷ t) m to = length-poured t (set m to b) (to + 1) ∙ length-set m to b

poured-sets : (t m : List ℕ) (to : ℕ) → poured t m to ≡ sets m to t
unfolding poured
poured-sets [] m to = refl
poured-sets (b ∷ t) m to = rw (add-one to) (poured-sets t (set m to b) (suc to))

-- bytes poured to the start of what holds them stand there
poured-first : (t m : List ℕ) → length t ≤ length m → take (length t) (poured t m 0) ≡ t
poured-first t m h =
    rw (
      poured-sets t m 0,
      sets-eq t m 0 (omega arith),
      take-append-le (length t) t (drop (0 + length t) m) (omega arith),
      take_all (length t) t (omega arith),
    )

length-bytes : (t : List ℕ) → length (bytes_of_hex t) ≡ length t / 2
unfolding bytes_of_hex
length-bytes [] = refl
length-bytes (h ∷ []) = refl
length-bytes (h ∷ l ∷ t) = omega (arith, length-bytes t)

take-replicate : (k n b : ℕ) → k ≤ n → take k (replicate n b) ≡ replicate k b
take-replicate zero n b h = refl
take-replicate (suc k) zero b h = absurd (omega arith)
take-replicate (suc k) (suc n) b h = rw (take-replicate k n b (omega arith))

host-length : length host_buffer ≡ 65536
unfolding host_buffer
host-length = length-replicate {A = ℕ} 65536 238

-- a play of N bytes
pub host-bytes : (n : ℕ) → n ≤ 65536 → host_bytes n ≡ replicate n 238
unfolding host_buffer
host-bytes n h =
    let e : min n (length host_buffer) ≡ n = rw host-length (omega arith) in
    rw e (take-replicate n 65536 238 h)

-- a capture of the bytes that the line's HEX is
pub captured-bytes : (line : List ℕ) (at behind : ℕ) → length (bytes_of_hex (drop at (up_to line behind))) ≤ 65536
    → captured_bytes line at behind ≡ bytes_of_hex (drop at (up_to line behind))
captured-bytes line at behind h =
    let s : List ℕ = up_to line behind in
    let e : min ((length s - at) / 2) (length host_buffer) ≡ length (bytes_of_hex (drop at s)) =
    rw (host-length, length-bytes (drop at s), length-drop) (omega (arith, rw (length-bytes (drop at s), length-drop) at h)) in
    rw e (poured-first (bytes_of_hex (drop at s)) host_buffer (rw host-length h))

-- the line up to a place that is no further than its end
module _ (s : List ℕ) (behind end : ℕ) (at : ℕ) (is : end ≡ min behind (length s)) where
  pub count-to : (n len : ℕ) → n ≡ hex_count (take end s) at len → n ≡ hex_count (up_to s behind) at len
  count-to n len e = rw is at e

  pub filled-to : (host host' : List ℕ) → host' ≡ hex_filled (take end s) at host → host' ≡ hex_filled (up_to s behind) at host
  filled-to host host' e = rw is at e
