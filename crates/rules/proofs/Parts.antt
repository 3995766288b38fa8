-- The streams that the rules see are the first `stream_count` of the array.
use mathlib.Core.Path.{◌≡◌}
use Prim.Native.Nat.{ℕ, ◌≤◌, ◌<◌}
use native.Mathlib.Omega.{arith}
use lib.ListN.{get_or, take, length-take, get_or-eq_default}
use lib.Seq.{get_or-take}
use Rattle.card.specs.Card.{no_stream}
use Rattle.card.specs.declared.Parts.{Parts}
use Rattle.rules.specs.Control as control
use Rattle.rules.specs.Parts.{parts_of}

module _ (p : Parts) (i : ℕ) where
  pub stream_at_lem : i < p.stream_count → control.stream_in (parts_of p) i ≡ get_or p.streams i no_stream
  stream_at_lem h = get_or-take p.stream_count p.streams i no_stream h

  pub stream-past : p.stream_count ≤ i → control.stream_in (parts_of p) i ≡ no_stream
  stream-past h = get_or-eq_default (take p.stream_count p.streams) no_stream (rw length-take (omega arith))
