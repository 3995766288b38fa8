-- Ranges of guest memory as lists. The bytes of a list of ranges are joined: each has its address, in order, and
-- a byte string is read from or written to these addresses one byte after the other, also where ranges overlap.
use Rattle.std.specs.Prelude.{◌≡◌, List, [], ◌∷◌, ◌++◌, map, Bool, true, ◌&&◌, ℕ, zero, suc, ◌+◌, ◌*◌, get_or, set}
use Rattle.memory.specs.Bytes.{inside_of}
use Rattle.ranges.specs.declared.Range.{Range}
use Rattle.ranges.specs.declared.Ranges.{Ranges}

-- ---- ranges in a list of words

abbrev pub no_ranges : Ranges
no_ranges = record { first = 0; count = 0; bytes = 0 }

-- the range in words 2i and 2i + 1: address and length
unfoldable pub range_in : List ℕ → ℕ → Range
range_in ws i = record { at = record { 0 = get_or ws (2 * i) 0 }; len = get_or ws (2 * i + 1) 0 }

-- the list with another range there
unfoldable pub put_range : List ℕ → ℕ → Range → List ℕ
put_range ws i x = set (set ws (2 * i) x.at.0) (2 * i + 1) x.len

-- k ranges from place i on
unfoldable pub ranges_in : List ℕ → ℕ → ℕ → List Range
ranges_in ws i zero = []
ranges_in ws i (suc k) = range_in ws i ∷ ranges_in ws (i + 1) k

-- what the struct stands for, over the list lent
abbrev pub ranges_of : List ℕ → Ranges → List Range
ranges_of ws r = ranges_in ws r.first r.count

-- the sum of the lengths
unfoldable pub total : List Range → ℕ
total [] = 0
total (r ∷ rs) = r.len + total rs

-- a struct whose sum is that of its ranges
abbrev pub Sound : List ℕ → Ranges → Type 0
Sound ws r = r.bytes ≡ total (ranges_of ws r)

-- ---- the bytes of ranges

-- the addresses a, a + 1, .. of which there are n
unfoldable pub up_from : ℕ → ℕ → List ℕ
up_from a zero = []
up_from a (suc n) = a ∷ up_from (a + 1) n

-- 01, Rings and chains: the addresses of the joined bytes, in order
unfoldable pub places : List Range → List ℕ
places [] = []
places (r ∷ rs) = up_from r.at.0 r.len ++ places rs

-- the bytes that memory holds at these addresses
abbrev pub bytes_at : List ℕ → List ℕ → List ℕ
bytes_at m as' = map (λ (a : ℕ). get_or m a 0) as'

-- memory with these bytes at these addresses, written in order
unfoldable pub put_at : List ℕ → List ℕ → List ℕ → List ℕ
put_at m [] bs = m
put_at m (a ∷ as') [] = m
put_at m (a ∷ as') (b ∷ bs) = put_at (set m a b) as' bs

-- 01, Rings and chains: every range lies inside RAM
unfoldable pub all_inside : ℕ → List Range → Bool
all_inside len [] = true
all_inside len (r ∷ rs) = inside_of len r.at.0 r.len && all_inside len rs
