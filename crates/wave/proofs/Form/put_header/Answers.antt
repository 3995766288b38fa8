-- The three parts are laid one behind the other.
use Rattle.wave.proofs.Parts.{header-laid}
use Rattle.wave.proofs.Form.put_header.Goals as goal

pub returns : goal.returns
returns c =
    let f = c.args.self in
    rw (
      c.put_bytes-3.ensures,
      c.data_part.ensures,
      c.put_bytes-2.ensures,
      c.format_part.ensures,
      c.put_bytes.ensures,
      c.riff_part.ensures,
    ) (header-laid f.format f.channels f.rate c.args.data_len c.args.out.now c.requires.2)
