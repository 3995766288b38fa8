-- Each entry does the rules' step; the call tells what the entry told, and only a play writes to the host buffer.
use mathlib.Core.Path.{refl}
use Rattle.meaning.proofs.Steps.{read-step, write_step}
use Rattle.calls.proofs.call.Goals as goal

pub returns-in-Read : goal.returns-in-Read
returns-in-Read c =
    let a = c.args in
    rw (c.plain.ensures, c.in-Read.is) (
      record { says = rw c.read-read.ensures.0 (read-step a.card c.requires.parts _ _ a.m.now) },
      c.read-read.ensures.1,
      refl,
    )

pub returns-in-Write : goal.returns-in-Write
returns-in-Write c =
    let a = c.args in
    rw (c.plain-in-Write.ensures, c.in-Write.is) (
      record { says = rw c.write-written.ensures.0 (write_step a.card c.requires.fits.board.live.four _ _ _ a.m.now) },
      c.write-written.ensures.1,
      refl,
    )
