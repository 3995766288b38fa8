-- What answer 0 tells: the queue did not break; and by it, what a Release leaves of memory.
use Rattle.std.specs.Prelude.{Option, Some, None}
use mathlib.Core.Path.{◌≡◌, refl}
use mathlib.Core.Bool.{Bool, true, false, cond}
use mathlib.Core.List.{List}
use Prim.Native.Nat.{ℕ}
use native.Mathlib.Omega.{arith}
use lib.Dec.{eqb}
use Rattle.registers.specs.Answers.{done}
use Rattle.registers.specs.Map.{size_of}
use Rattle.registers.specs.Rules.{signalled}
use Rattle.ring.specs.declared.Cause.{Cause}
use Rattle.device.specs.Answers.{number_of, going, answer_by}
use Rattle.device.specs.Device.{bytes_of, Direction, queue_number}
use Rattle.rules.specs.Account.{release_replied}
use Rattle.rules.specs.Calls.{Pending, replied, released_on}

-- answer 0 is given where nothing broke
no-cause-done : (c : Cause) → number_of c ≡ done → ⊥
no-cause-done Cause.Region e = omega arith
no-cause-done Cause.Entries e = omega arith
no-cause-done Cause.Head e = omega arith

pub going_done : (n : ℕ) (s : Option Cause) → (answer_by n s).number ≡ done → going s ≡ true
going_done n None e = refl
going_done n (Some cause) e = absurd (no-cause-done cause e)

-- a Release that answers 0 broke nothing
pub released-going :
    (d : Direction) (id : ℕ) (p : Pending) (x : List ℕ) (stop : Option Cause) (signal : Bool)
    → (released_on d id p x stop signal).answer.number ≡ done
    → going stop ≡ true
released-going d id p x None signal a = refl
released-going d id p x (Some cause) signal a = going_done (queue_number d) (Some cause) a

-- the memory that a Release leaves, by whether its queue broke
pub release-memory :
    (d : Direction) (id : ℕ) (p : Pending) (m : List ℕ) (stop : Option Cause) (signal : Bool)
    → let o = released_on d id p m stop signal in
    o.mem ≡ cond (eqb o.answer.number done) (release_replied p m) m
unfolding replied bytes_of size_of signalled
release-memory d id p m None true = refl
release-memory d id p m None false = refl
release-memory d id p m (Some Cause.Region) signal = refl
release-memory d id p m (Some Cause.Entries) signal = refl
release-memory d id p m (Some Cause.Head) signal = refl
