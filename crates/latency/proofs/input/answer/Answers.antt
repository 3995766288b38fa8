-- The report of what was kept is that of the bytes read.
use Rattle.latency.proofs.input.answer.Goals as goal

pub returns : goal.returns
returns g c =
    let b = c.read_input.ensures.0 in
    rw c.report.ensures.value (record { read = b.read; bytes = b.bytes; same = b.same }, c.read_input.ensures.1)
