-- The register file answers and tells the effect; each effect has its own change of the small state. A queue that an effect names is
-- one of the four.
use mathlib.Core.Path.{◌≡◌, refl}
use Prim.Native.Nat.{ℕ}
use native.Mathlib.Omega.{arith}
use Rattle.registers.proofs.Queues.{queue-named}
use Rattle.registers.specs.declared.Effect.TheVariants.{Nothing, Reset, Based, Rung}
use Rattle.registers.specs.Rules.{write_of}
use Rattle.registers.specs.declared.Effect.{Effect}
use Rattle.card.specs.Rules.{rung_of}
use Rattle.live.specs.Live.{affected_live, write_live, FitLive}
use Rattle.live.specs.Setters.{with_registers}
use Rattle.live.specs.declared.Live.{Live}
use Rattle.live.specs.declared.LiveWrite.{LiveWrite}
use Rattle.live.proofs.Laws.{write-live}
use Rattle.live.proofs.write.Goals as goal

-- the outcome by the effect
by-effect : (l : Live) → FitLive l → (offset width v : ℕ) (e : Effect) → (write_of l.registers offset width v).effect ≡ e
    → (◌≡◌
    {A = LiveWrite}
    (record {
      answer = (write_of l.registers offset width v).answer;
      rung = rung_of e;
      live = affected_live e (with_registers (write_of l.registers offset width v).registers l);
    })
    (write_live l offset width v))
    × FitLive (affected_live e (with_registers (write_of l.registers offset width v).registers l))
unfolding write_live
by-effect l f offset width v e h = rw (← h) (refl, write-live l f offset width v)

pub based-requires : goal.based-requires
based-requires c =
    let a = c.args in
    let e : (write_of a.live.registers a.offset a.width a.value).effect ≡ Based c.in-Based.queue =
    rw (← c.write-written.ensures) c.in-Based.is in
    rw e at (queue-named a.live.registers a.value a.offset a.width)

pub overflow_cast-result : goal.overflow_cast-result
overflow_cast-result c =
    let a = c.args in
    let e : (write_of a.live.registers a.offset a.width a.value).effect ≡ Rung c.in-Rung.queue =
    rw (← c.write-written.ensures) c.in-Rung.is in
    omega (arith, rw e at (queue-named a.live.registers a.value a.offset a.width))

pub returns-in-Nothing : goal.returns-in-Nothing
returns-in-Nothing c =
    rw c.write-written.ensures
    (by-effect c.args.live c.requires c.args.offset c.args.width c.args.value Nothing
    (rw (← c.write-written.ensures) c.in-Nothing.is))

pub returns-in-Reset : goal.returns-in-Reset
returns-in-Reset c =
    rw (c.reset.ensures, c.write-written.ensures)
    (by-effect c.args.live c.requires c.args.offset c.args.width c.args.value Reset
    (rw (← c.write-written.ensures) c.in-Reset.is))

pub returns-in-Based : goal.returns-in-Based
returns-in-Based c =
    rw (c.based.ensures, c.write-written.ensures)
    (by-effect c.args.live c.requires c.args.offset c.args.width c.args.value (Based c.in-Based.queue)
    (rw (← c.write-written.ensures) c.in-Based.is))

pub returns-in-Rung : goal.returns-in-Rung
returns-in-Rung c =
    rw c.write-written.ensures
    (by-effect c.args.live c.requires c.args.offset c.args.width c.args.value (Rung c.in-Rung.queue)
    (rw (← c.write-written.ensures) c.in-Rung.is))
