use Rattle.std.proofs.Common.{◌≡◌, length}
use Rattle.registers.specs.Fit.{FitRegisters}
use Rattle.rules.specs.Calls.{event_run}
use Rattle.device.specs.Device.{Rest}
use Rattle.event_queue.specs.Attempts.{holding}
use Rattle.event_queue.proofs.try_entries.Given as goal

abbrev pub invariant-loop-left : goal.invariant-loop-left
invariant-loop-left l =
    (length l.m ≡ length l.initial.m)
    × ((rest : Rest) → event_run l.event.code l.event.data l.left (holding l.file l.counts rest) l.m
    ≡ event_run l.event.code l.event.data l.new (holding l.initial.file l.initial.counts rest) l.initial.m)
    × FitRegisters l.file
