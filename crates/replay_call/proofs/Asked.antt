-- What a line asks is its request with the host buffer that it lends.
use mathlib.Core.Path.{◌≡◌, refl}
use mathlib.Core.List.{List}
use Prim.Native.Nat.{ℕ}
use lib.ListN.{length, take}
use Rattle.calls.specs.Calls.{request_of}
use Rattle.calls.specs.declared.Request as calls
use Rattle.card.specs.declared.Card.{Card}
use Rattle.line_calls.specs.Calls.{Request}
use Rattle.replay_host.specs.Host.{host_buffer, host_filled, host_count}
use Rattle.replay_line.specs.declared.Call.{Call}
use Rattle.replay_line.specs.declared.Call.TheVariants.{Read, Write, Control, Play, Capture, Event}
use Rattle.replay_call.specs.Asked.{asked_by, made_by}
use Rattle.replay_call.specs.Shown.{Shows}
use Rattle.replay_call.specs.declared.Shown.{Shown}

asked-as : (call : Call) (s : List ℕ)
    → request_of (made_by call) (take (host_count call s (length host_buffer)) (host_filled call s host_buffer)) ≡ asked_by call s
asked-as (Read offset width) s = refl
asked-as (Write offset width v) s = refl
asked-as Control s = refl
asked-as (Play stream n backlog) s = refl
asked-as (Capture stream at behind backlog) s = refl
asked-as (Event code info) s = refl

pub asked-from : (call : Call) (s : List ℕ) {q : calls.Request} {n : ℕ} {host host' : List ℕ}
    → q ≡ made_by call → n ≡ host_count call s (length host) → host' ≡ host_filled call s host → host ≡ host_buffer
    → request_of q (take n host') ≡ asked_by call s
asked-from call s e f g h = rw (e, f, g, h) (asked-as call s)

pub shows-as : {c : Card} {line : ℕ} {q p : Request} {m m' : List ℕ} {r : Shown} → q ≡ p → Shows c line q m m' r → Shows c line p m m' r
shows-as e w = rw e at w
