-- `wave::read` is right by the file's first 44 bytes, its length and its last byte.
use mathlib.Core.Path.{sym}
use lib.Seq.{length-take-le}
use Rattle.wave.proofs.Reading.{short}
use Rattle.wave.proofs.read.Goals as goal

pub returns-then-len-lt-HEADER : goal.returns-then-len-lt-HEADER
returns-then-len-lt-HEADER c = short c.args.file.now c.if-len-lt-HEADER.true

pub slice_bounds-read_header-end : goal.slice_bounds-read_header-end
slice_bounds-read_header-end c = sym (length-take-le 44 c.args.file.now c.if-len-lt-HEADER.false)

pub returns : goal.returns
returns c = c.read_header.ensures
