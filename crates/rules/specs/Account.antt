-- 01, The play queue's account: the register writes that start a stream queue anew, and the reply to a RELEASE, as memory has it. What a
-- call adds is line_calls/specs/Account's.
use Rattle.std.specs.Prelude.{Bool, ◌&&◌, ◌||◌, not, List, ℕ, ◌^◌, eqb, ltb}
use Rattle.ranges.specs.Ranges.{places, put_at}
use Rattle.ring.specs.Rules.{base_of, posted_of}
use Rattle.registers.specs.Rules.{has_bit}
use Rattle.rules.specs.Calls.{Pending}
use Rattle.rules.specs.Control.{status}
use Rattle.device.specs.Device.{page_of}
use Rattle.device.specs.Numbers.{control_queue, s_ok}
use Rattle.registers.specs.declared.Registers.{Registers}

-- "anew at each reset and at each base write of" a queue: STATUS (offset 18, one byte) written 0, or QUEUE_PFN (offset 8, four bytes)
-- with that selector and DRIVER_OK clear
abbrev pub writes_anew : ℕ → ℕ → ℕ → ℕ → Registers → Bool
writes_anew queue offset width v r =
    (eqb offset 18 && eqb width 1 && eqb v 0)
    || (eqb offset 8 && eqb width 4 && ltb v (2 ^ 32) && eqb r.selector queue && not (has_bit r.status 2))

-- ".. then replies.": the reply to a RELEASE, of the control queue (N = 64), on the memory that the stream queue's part left
abbrev pub release_replied : Pending → List ℕ → List ℕ
release_replied p m =
    posted_of (put_at m (places p.reply) (status s_ok)) (base_of (page_of p.rest control_queue)) 64
    p.rest.control.completed p.head 4
