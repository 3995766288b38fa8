-- The bytes moved are the rule's, and host and message move on together.
use mathlib.Core.Path.{◌≡◌, ◌∙◌, refl, ap}
use Prim.Native.Nat.{ℕ, ◌-◌, min}
use lib.ListN.{length}
use Rattle.message.specs.Message.{direction_of}
use Rattle.message.specs.declared.Direction.{Direction}
use mathlib.Core.List.{List}
use Rattle.flow.specs.declared.Flow.{Flow}
use Rattle.flow.specs.Flow.{payload_bytes, advanced_by, FitFlow}
use Rattle.flow.proofs.Laws.{handed-on, filled, moved_fit, no-input}
use Rattle.flow.proofs.move_payload.Goals.{After-min-n}
use Rattle.flow.proofs.move_payload.Goals as goal

-- how many they are
abbrev share : List ℕ → Flow → Direction → ℕ
share host f d = min (length host - f.moved) (payload_bytes (direction_of d) f.message - f.message.done)

number : (c : After-min-n) → c.min-n.result ≡ share c.args.host.now c.args.f c.args.q.direction
number c = rw (← c.waiting.ensures) c.min-n.ensures

fits_after : (c : After-min-n) → let a = c.args in FitFlow (length a.m.now) (length a.host.now) a.list.now
    (advanced_by c.min-n.result a.f)
fits_after c =
    moved_fit (direction_of c.args.q.direction) _ _ _ c.args.f c.min-n.result c.requires.0 c.requires.1 (number c)

pub returns-in-Output : goal.returns-in-Output
returns-in-Output c =
    let a = c.args in
    let told = c.in-Output.is in
    record {
      steps = record {
        run =
            rw (c.advanced.ensures, c.gather.ensures, told)
            (handed-on a.q a.list.now a.m.now a.host.now a.f c.min-n.result c.requires.0 c.requires.1.inside
            c.requires.1.message.request (number (goal.at.returns-in-Output c).After-min-n
            ∙ ap (share c.args.host.now c.args.f) told));
        fit = rw c.advanced.ensures (fits_after (goal.at.returns-in-Output c).After-min-n);
        long = refl;
        host-long = c.gather.auto.dst;
        read = λ e. absurd (no-input (rw told at e));
      };
      busy = rw c.advanced.ensures c.requires.0;
    }

pub returns-in-Input : goal.returns-in-Input
returns-in-Input c =
    let a = c.args in
    let told = c.in-Input.is in
    record {
      steps = record {
        run =
            rw (c.advanced-in-Input.ensures, c.scatter.ensures, told)
            (filled a.q a.list.now a.m.now a.host.now a.f c.min-n.result c.requires.0 c.requires.1.inside
            c.requires.1.message.reply (number (goal.at.returns-in-Input c).After-min-n
            ∙ ap (share c.args.host.now c.args.f) told));
        fit = rw c.advanced-in-Input.ensures (fits_after (goal.at.returns-in-Input c).After-min-n);
        long = c.scatter.auto.m;
        host-long = refl;
        read = λ e. refl;
      };
      busy = rw c.advanced-in-Input.ensures c.requires.0;
    }
