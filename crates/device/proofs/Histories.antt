-- The counts of a history are the counters', and so is the message in work after each change of it.
use Rattle.std.specs.Prelude.{None, Some}
use mathlib.Core.Path.{◌≡◌, refl, ap}
use mathlib.Core.Bool.{Bool, true, false}
use mathlib.Core.List.{List, []}
use Prim.Native.Nat.{ℕ, ◌+◌, ◌%◌}
use native.Mathlib.Omega.{arith}
use borrow.Author.Tests.{le-leb, lt-leb}
use lib.Dec.{leb}
use lib.ListN.{length, drop, length-append, length-drop}
use lib.Seq.{get_or-append_seam}
use Rattle.ranges.proofs.Laws.{length-up_from}
use Rattle.registers.specs.Map.{size_of}
use Rattle.ring.proofs.Laws.{place-over-the-wrap}
use Rattle.device.specs.Claim.{Good, work_of}
use Rattle.device.specs.Counters.{further}
use Rattle.device.specs.Device.{Direction, output, input, queue_number, Taking, Ending}
use Rattle.device.specs.Histories.{History, number, current, handed_now, waiting, took, noted, with_entry}
use Rattle.device.specs.Transfer.{payload_of}
use Rattle.device.proofs.Keeps.{same_number, none-noted, none_left}
use Rattle.device.proofs.Lists.{only-append, handed_of-same}

-- no message in work
abbrev pub free : History → Bool
free h = leb (length h.takings) (number h)

-- a ring place is that of the whole count, and so is the next count
pub place-wrap : (d : Direction) (n : ℕ) → n % 65536 % size_of (queue_number d) ≡ n % size_of (queue_number d)
unfolding size_of
place-wrap output n = place-over-the-wrap 256 256 n refl
place-wrap input n = place-over-the-wrap 64 1024 n refl

pub next-wrap : (n : ℕ) → (n % 65536 + 1) % 65536 ≡ (n + 1) % 65536
next-wrap n = omega arith

-- ---- the message in work after each change

module _ (d : Direction) where
  module _ (w : List ℕ) (h : History) (g : Good d w h) where
    pub took-work : (t : Taking) → free h ≡ true → Some (record { taking = t; done = 0 }) ≡ work_of (took d t h)
    unfolding took handed_now
    took-work t e =
        rw (
          length-append,
          none-noted d w h g e t,
          same_number d w h g e t,
          lt-leb (length h.takings + 1) (length h.takings) (omega arith),
          get_or-append_seam,
        )

    pub entered-work : (e : Ending) (latency : ℕ) → None ≡ work_of (with_entry d e latency h)
    unfolding with_entry
    entered-work e latency = rw (length-append, le-leb (length h.takings) (number h + 1) (omega (arith, g.one)))

  pub noted-work :
      (h : History) (bytes xs : List ℕ) → free h ≡ false → further (length xs) (work_of h) ≡ work_of (noted d bytes xs h)
  unfolding noted handed_now
  noted-work h bytes xs e = rw (e, only-append, handed_of-same, length-append, length-up_from)

  pub nothing_left : (h : History) → drop (handed_now h) (payload_of d (current h)) ≡ [] → waiting d h ≡ []
  nothing_left h e = none_left d h (omega (arith, simp length-drop at (ap length e)))
