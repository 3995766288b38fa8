-- The Adler-32 checksum (RFC 1950, section 9): a is 1 plus the sum of the bytes, b the sum of the values of a, both
-- modulo 65521; the checksum is b * 65536 + a.
use mathlib.Core.List.{List, foldl}
use Rattle.std.specs.Prelude.{ℕ, ◌+◌, ◌*◌, ◌%◌}
use Rattle.replay_text.specs.declared.Sums.{Sums}

-- the sums with one byte more
unfoldable pub step : Sums → ℕ → Sums
step s x = record { a = (s.a + x) % 65521; b = (s.b + (s.a + x) % 65521) % 65521 }

abbrev pub adler : List ℕ → ℕ
adler t =
    let s : Sums = foldl step (record { a = 1; b = 0 }) t in
    s.b * 65536 + s.a
