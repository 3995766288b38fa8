-- 01, Rings and chains (002, 2.2): where the parts of a queue of N descriptors stand, in bytes behind its base.
use Rattle.std.specs.Prelude.{ℕ, ◌+◌, ◌*◌, ◌/◌}

-- "Table at the base, available ring at 16N"
abbrev pub available_at : ℕ → ℕ
available_at N = 16 * N

-- "used ring at 16N + 4 + 2N rounded up to 4"
abbrev pub used_at : ℕ → ℕ
used_at N = (16 * N + 4 + 2 * N + 3) / 4 * 4

-- "ends 4 + 8N later"
abbrev pub end_at : ℕ → ℕ
end_at N = used_at N + 4 + 8 * N

-- ---- inside the available ring: flags, index, then N places of 2 bytes

abbrev pub available_flags_at : ℕ → ℕ
available_flags_at N = available_at N

abbrev pub available_index_at : ℕ → ℕ
available_index_at N = available_at N + 2

abbrev pub ring_place_at : ℕ → ℕ → ℕ
ring_place_at N i = available_at N + 4 + 2 * i

-- ---- inside the used ring: flags, index, then N elements of 8 bytes, each a head and a length

abbrev pub used_index_at : ℕ → ℕ
used_index_at N = used_at N + 2

abbrev pub used_head_at : ℕ → ℕ → ℕ
used_head_at N i = used_at N + 4 + 8 * i

abbrev pub used_length_at : ℕ → ℕ → ℕ
used_length_at N i = used_head_at N i + 4
