-- Header, data and pad are laid one behind the other.
use Rattle.std.proofs.Common.{arith}
use Rattle.wave.proofs.Parts.{file-laid}
use Rattle.wave.proofs.Form.put_file.Goals as goal

pub returns : goal.returns
returns c =
    let f = c.args.self in
    rw (c.put_bytes-2.ensures, c.put_bytes.ensures, c.put_header.ensures)
    (file-laid f.format f.channels f.rate c.args.«data».now c.args.out.now (omega (arith, c.requires.2)))
