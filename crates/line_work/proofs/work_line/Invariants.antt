use Prim.Native.Nat.{◌+◌, ◌-◌, ◌<◌}
use Rattle.device.specs.Device.{input}
use Rattle.line_chains.specs.Queue.{virtqueue_of}
use Rattle.line_work.specs.Work.{lifted, job_step, station_of, Aside, FitFront}
use Rattle.queue_lines.specs.Counters.{Line}
use Rattle.queue_lines.specs.Rules.{times}
use lib.ListN.{length}
use mathlib.Core.List.{List}
use mathlib.Core.Path.{◌≡◌}
use Rattle.line_work.proofs.work_line.Given as goal

abbrev pub invariant-loop : goal.invariant-loop
invariant-loop l =
    let v = virtqueue_of l.q in
    ((lines : List Line) → l.line < length lines
    → times (job_step l.job v l.line) (l.fn.front.flow.message.count + l.fn.front.line.count - l.counter)
    (lifted lines l.line (station_of l.slot l.at l.m l.host))
    ≡ times (job_step l.job v l.line) (l.fn.front.flow.message.count + l.fn.front.line.count) (lifted lines l.line
    (station_of l.initial.slot l.initial.at l.initial.m l.initial.host)))
    × FitFront (length l.initial.m) (length l.initial.host) l.slot l.at
    × (length l.m ≡ length l.initial.m)
    × (length l.host ≡ length l.initial.host)
    × Aside l.initial.slot l.slot
    × (v.direction ≡ input → l.host ≡ l.initial.host)
