-- A call on a stream queue and the host's bytes: what is left of the host buffer is its part past the bytes moved, and the room is its
-- length.
use mathlib.Core.Path.{◌≡◌, refl}
use mathlib.Core.List.{List}
use Prim.Native.Nat.{ℕ, ◌-◌, ◌≤◌}
use native.Mathlib.Omega.{arith}
use lib.ListN.{length, take, drop, length-append, length-take, length-drop}
use lib.Seq.{drop-drop}
use Rattle.ring.specs.declared.Cause.{Cause}
use Rattle.device.specs.Device.{Message, Ending}
use Rattle.device.specs.Transfer.{Run, begun, bytes_moved}
use Rattle.device.proofs.Lists.{moved-long}
use Rattle.queue_lines.specs.Chains.{Virtqueue}
use Rattle.queue_lines.specs.Rules.{Ops, with_queue, stopped, posted, moved}

module _ {Q : Type 0} (host : List ℕ) where
  pub record Past (s : Run Q) : Type 0 where
    pub past : s.host ≡ drop (length s.bytes) host
    pub room : s.room ≡ length s.host
    pub short : length s.bytes ≤ length host

  pub begun-past : (q : Q) (m : List ℕ) → Past (begun q m host)
  begun-past q m = record { past = refl; room = refl; short = omega arith }

  pub queue-past : (q : Q) (s : Run Q) → Past s → Past (with_queue q s)
  queue-past q s p = record { past = p.past; room = p.room; short = p.short }

  pub stopped-past : (cause : Cause) (s : Run Q) → Past s → Past (stopped cause s)
  stopped-past cause s p = record { past = p.past; room = p.room; short = p.short }

  module _ (ops : Ops Q) (v : Virtqueue) where
    pub posted-past : (e : Ending) (w : Message) (q : Q) (s : Run Q) → Past s → Past (posted ops v e w q s)
    unfolding posted
    posted-past e w q s p = record { past = p.past; room = p.room; short = p.short }

    -- as many bytes as addresses, where these are no more than there is room
    module _ (i : ℕ) (left : List ℕ) (s : Run Q) (p : Past s) where
      abbrev xs : List ℕ
      xs = take s.room left

      pub all-bytes : length (bytes_moved v.direction xs s.host s.mem) ≡ length xs
      all-bytes = moved-long v.direction xs s.host s.mem (omega (arith, length-take s.room left, p.room))

      pub moved-past : Past (moved ops v i xs s)
      unfolding moved
      moved-past =
          let rest : length s.host ≡ length host - length s.bytes = rw (p.past, length-drop) in
          let fit : length xs ≤ length s.host = omega (arith, length-take s.room left, p.room) in
          record {
            past = rw (length-append, all-bytes, p.past, drop-drop);
            room = rw (length-drop, p.room);
            short = rw (length-append, all-bytes) (omega (arith, p.short));
          }
