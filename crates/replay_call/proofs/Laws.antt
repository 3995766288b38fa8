-- What `calls::call` does, as what is shown of it.
use mathlib.Core.Path.{◌≡◌, refl, sym, ◌∙◌, ap}
use mathlib.Core.List.{List}
use Prim.Native.Nat.{ℕ}
use Rattle.calls.specs.Calls.{call_of, request_of, told_of, host_of, Does}
use Rattle.calls.specs.declared.Outcome.{Outcome}
use Rattle.calls.specs.declared.Request.{Request}
use Rattle.calls.specs.declared.Request.TheVariants.{Read, Write, Control, Play, Capture, Event}
use Rattle.card.specs.declared.Card.{Card}
use Rattle.meaning.specs.Card.{device_of, rest_of, step_of}
use Rattle.rules.specs.Calls.{Told}
use Rattle.replay_call.specs.Shown.{irq_of, text_for, shown_for, left_by, left}

-- the host buffer is no part of what a line prints but for its checksum, which is told
any-host : (q : Request) (h g : List ℕ) (line irq : ℕ) (t : Told) → text_for (request_of q h) line irq t
    ≡ text_for (request_of q g) line irq t
any-host (Read offset width) h g line irq t = refl
any-host (Write offset width v) h g line irq t = refl
any-host Control h g line irq t = refl
any-host (Play stream backlog) h g line irq t = refl
any-host (Capture stream backlog) h g line irq t = refl
any-host (Event code info) h g line irq t = refl

-- a play's host buffer is told, the others leave theirs
pub host-left : (q : Request) (o : Outcome) (h h' m : List ℕ) → h' ≡ host_of q h h' → h' ≡ host_of q h (told_of q o h' m).host
host-left (Read offset width) o h h' m e = e
host-left (Write offset width v) o h h' m e = e
host-left Control o h h' m e = e
host-left (Play stream backlog) o h h' m e = refl
host-left (Capture stream backlog) o h h' m e = e
host-left (Event code info) o h h' m e = e

module _ (c : Card) (q : Request) (o : Outcome) (h h' m m' : List ℕ)
    (d : Does c (call_of q h m) (told_of q o h' m') o.card) where
  pub text-shown : (line : ℕ)
      → text_for (request_of q h') line (irq_of o.card) (told_of q o h' m') ≡ shown_for (request_of q h) line (step_of c (request_of q h) m)
  unfolding device_of rest_of
  text-shown line =
      any-host q h' h line (irq_of o.card) (told_of q o h' m') ∙ sym (ap (shown_for (request_of q h) line) d.says)

  pub left-shown : left_by (step_of c (request_of q h) m) ≡ left o.card m'
  left-shown = ap left_by d.says

  pub host-shown : h' ≡ host_of q h h' → h' ≡ host_of q h (step_of c (request_of q h) m).told.host
  host-shown e = host-left q o h h' m' e ∙ sym (ap (λ s. host_of q h s.told.host) d.says)
