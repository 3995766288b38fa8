-- Lines and what they read as: the example of 01, The access program, and lines on each side of its rules.
use mathlib.Core.Path.{◌≡◌, refl}
use mathlib.Core.List.{List, [], ◌∷◌}
use Prim.Native.Nat.{ℕ}
use Prim.Native.Char.{code}
use Prim.Native.String.{String, [] as none, ◌∷◌ as ◌then◌}
use Rattle.decimal.specs.Read.{is_digit, digits}
use Rattle.access_line.specs.Line.{field, at_end, read_form, write_form, line_of}
use Rattle.std.proofs.Common.{Option, Some, None}
use Rattle.access_line.specs.declared.Access.{Access}
use Rattle.access_line.specs.declared.Access.TheVariants.{Read, Write}

-- the bytes of a text
abbrev bytes : String → List ℕ
bytes none = []
bytes (c then s) = code c ∷ bytes s

abbrev reads : String → Option Access
reads s = line_of (bytes s)

-- the six lines of 01
pub lines-of-01 :
    (reads "w 18 1 1" ≡ Some (Write 18 1 1))
    × (reads "r 12 2" ≡ Some (Read 12 2))
    × (reads "w 14 2 2" ≡ Some (Write 14 2 2))
    × (reads "r 12 2" ≡ Some (Read 12 2))
    × (reads "r 16 2" ≡ Some (Read 16 2))
    × (reads "x" ≡ None)
unfolding is_digit digits field at_end read_form write_form line_of
lines-of-01 = (refl, refl, refl, refl, refl, refl)

-- ten digits and eleven
pub digits-in-a-number :
    (reads "r 0000000012 9999999999" ≡ Some (Read 12 9999999999))
    × (reads "w 9999999999 9999999999 9999999999" ≡ Some (Write 9999999999 9999999999 9999999999))
    × (reads "r 00000000012 2" ≡ None)
    × (reads "w 18 1 10000000000" ≡ None)
unfolding is_digit digits field at_end read_form write_form line_of
digits-in-a-number = (refl, refl, refl, refl)

-- single spaces, with nothing before, between or after
pub lines-refused :
    (reads "" ≡ None)
    × (reads "r 12  2" ≡ None)
    × (reads "r 12 2 1" ≡ None)
    × (reads "w 18 1" ≡ None)
    × (reads "r 12 2 " ≡ None)
    × (reads " r 12 2" ≡ None)
    × (reads "r 12 2\r" ≡ None)
    × (reads "R 12 2" ≡ None)
    × (reads "r +12 2" ≡ None)
unfolding is_digit digits field at_end read_form write_form line_of
lines-refused = (refl, refl, refl, refl, refl, refl, refl, refl, refl)
