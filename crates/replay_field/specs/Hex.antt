-- HEX: "an even number of the digits 0-9 a-f, two for each byte; the single character `-` stands for no bytes".
-- Bytes: 48 to 57 are 0-9, 97 to 102 a-f, 45 is `-`, 32 the space.
use Rattle.std.specs.Prelude.{List, [], ◌∷◌, Bool, true, false, cond, ◌&&◌, ℕ, ◌+◌, ◌-◌, ◌*◌, ◌/◌, ◌%◌, eqb, leb, ltb, length, get_or}
use Rattle.std.specs.Prelude.{set, drop}
use Rattle.std.specs.List.{list_all}
use Rattle.decimal.specs.Read.{is_digit}
use Rattle.replay_field.specs.declared.Hex.{Hex}
use Rattle.std.specs.Prelude.{Option, Some, None}

unfoldable pub is_hex_digit : ℕ → Bool
is_hex_digit b = cond (is_digit b) true (leb 97 b && leb b 102)

unfoldable pub every_hex_digit : List ℕ → Bool
every_hex_digit t = list_all is_hex_digit t

-- a text that is one word of HEX; a word is never empty
unfoldable pub is_hex : List ℕ → Bool
is_hex t =
    cond (eqb (length t) 0) false
    (cond (eqb (length t) 1) (eqb (get_or t 0 0) 45)
    (cond (eqb (length t % 2) 0) (every_hex_digit t) false))

-- a single space at `at` and HEX behind it up to the line's end: its place and how many bytes it is
unfoldable pub hex_at : List ℕ → ℕ → Option Hex
hex_at s at =
    cond (ltb at (length s))
    (cond (eqb (get_or s at 0) 32)
    (cond (is_hex (drop (at + 1) s)) (Some (record { place = at + 1; count = (length s - (at + 1)) / 2 })) None) None)
    None

abbrev pub by_hex : {A : Type 0} → Option Hex → (ℕ → ℕ → A) → A → A
by_hex (Some h) found none = found h.place h.count
by_hex None found none = none

-- a digit's value
unfoldable pub nibble : ℕ → ℕ
nibble b = cond (leb 48 b && leb b 57) (b - 48) (cond (leb 97 b && leb b 102) (b - 97 + 10) 0)

-- the bytes that a word of HEX is
unfoldable pub bytes_of_hex : List ℕ → List ℕ
bytes_of_hex [] = []
bytes_of_hex (h ∷ []) = []
bytes_of_hex (h ∷ l ∷ t) = (16 * nibble h + nibble l) ∷ bytes_of_hex t

-- memory with these bytes at a place; "bytes past the end of RAM are dropped"
unfoldable pub poured : List ℕ → List ℕ → ℕ → List ℕ
poured [] m to = m
poured (b ∷ t) m to = poured t (set m to b) (to + 1)
