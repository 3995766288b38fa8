-- The place behind the last is stored; the heads before it stay.
use native.Mathlib.Omega.{arith}
use mathlib.Core.Path.{◌≡◌, refl}
use Prim.Native.Nat.{suc, ◌+◌}
use lib.ListN.{length, length-set}
use Rattle.waiting.proofs.Laws.{heads-join}
use Rattle.waiting.proofs.Line.join.Goals as goal

pub returns : goal.returns
returns c =
    let a = c.args in
    let f = c.requires.0 in
    let l = a.self in
    let heads =
    heads-join (length a.ring.now) a.ring.now l.start l.count a.head.0 refl f.front c.requires.1 (omega arith) in
    let more : a.self.count + 1 ≡ suc a.self.count = omega arith in
    rw (length-set a.ring.now c.place_behind-at.result c.number.result) (
      rw (c.place_behind-at.ensures.0, c.number.ensures, more) heads,
      record { front = f.front; few = omega (arith, c.requires.1); narrow = f.narrow },
    )
