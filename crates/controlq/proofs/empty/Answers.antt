-- The stream's number picks the queue, its words and the line.
use Rattle.std.proofs.Common.{◌≡◌, ℕ, ◌-◌, sym, ap, arith, le-ltb, lt-ltb}
use Rattle.controlq.proofs.empty.Goals as goal

pub returns-then-id-outputs : goal.returns-then-id-outputs
returns-then-id-outputs c p f =
    let a = c.args in
    let out = lt-ltb a.id p.output_count (omega (arith, c.if-id-outputs.true, f.board.outputs)) in
    let line : a.id - 0 ≡ a.id = omega arith in
    rw (out, line, ← (c.backlog-latency.ensures p a.play_words.now a.capture_words.now f))
    (c.empty.ensures p a.capture_words.now f)

pub returns : goal.returns
returns c p f =
    let a = c.args in
    let out = le-ltb a.id p.output_count (omega (arith, c.if-id-outputs.false, f.board.outputs)) in
    let line : a.id - p.output_count ≡ a.id - a.live.outputs = ap (λ (n : ℕ). a.id - n) (sym f.board.outputs) in
    rw (out, line, ← (c.backlog-latency.ensures p a.play_words.now a.capture_words.now f))
    (c.empty-2.ensures p a.play_words.now f)
