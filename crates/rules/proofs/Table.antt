-- Order 2's P cases are proved as one statement: the rules compute.
use mathlib.Core.Path.{refl}
use Rattle.formats.specs.Widths.{physical_bits}
use Rattle.rules.specs.Control.{judged_params}
use Rattle.rules.specs.Table.{Table}

pub table : Table
unfolding judged_params physical_bits
table =
    record {
      half-frame = refl;
      whole-frames = refl;
      half-byte = refl;
      three_halves = refl;
      four-halves = refl;
      wide-frame = refl;
      half-wide-frame = refl;
      rate-first = refl;
    }
