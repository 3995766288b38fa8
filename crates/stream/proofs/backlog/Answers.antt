-- Past the count there is no stream; below it the stream's own word is read.
use mathlib.Core.Path.{◌≡◌, sym, ap}
use Prim.Native.Nat.{ℕ}
use native.Mathlib.Omega.{arith}
use Rattle.card.specs.declared.Stream.{Stream}
use Rattle.registers.specs.declared.Config.{Config}
use Rattle.stream.proofs.Laws.{stream-there, stream-absent}
use Rattle.stream.proofs.backlog.Goals as goal

abbrev word : Stream → ℕ
word s = s.backlog

pub returns-then-i-ge-STREAMS : goal.returns-then-i-ge-STREAMS
returns-then-i-ge-STREAMS c p pw cw f =
    let a = c.args in
    let counted : a.live.config.streams ≡ p.stream_count = ap (λ (k : Config). k.streams) f.board.counts in
    sym (ap word (stream-absent a.live p pw cw f.board a.id (omega (arith, counted, f.board.parts.streams, c.if-i-ge-STREAMS.true))))

pub returns-then-live-id : goal.returns-then-live-id
returns-then-live-id c p pw cw f =
    let a = c.args in
    sym (ap word (stream-absent a.live p pw cw f.board a.id c.if-live-id.true))

pub returns : goal.returns
returns c p pw cw f =
    let a = c.args in
    sym (ap word (stream-there a.live p pw cw f.board a.id c.if-live-id.false))
