-- The item as far as it goes, then zeros: what fits the size.
use mathlib.Core.Path.{◌≡◌, ◌∙◌, sym}
use mathlib.Core.List.{◌++◌}
use Prim.Native.Nat.{◌-◌, min}
use native.Mathlib.Omega.{arith}
use lib.ListN.{length, take, drop, replicate}
use lib.Seq.{drop-drop, length-take-le}
use Rattle.ranges.specs.Ranges.{ranges_of, places}
use Rattle.ranges.proofs.Laws.{take_min}
use Rattle.reply.proofs.Laws.{put_at-front, put_at-behind}
use Rattle.rules.specs.Control.{fitted}
use Rattle.information.proofs.Laws.{fitted-split}
use Rattle.information.proofs.write_item.Goals as goal

pub returns : goal.returns
returns c =
    let a = c.args in
    let k = c.min-k.result in
    let ps = places (ranges_of a.list.now a.reply) in
    let item = a.item.now in
    let least : k ≡ min a.natural a.size = c.min-k.ensures in
    let n : length (take a.natural item) ≡ a.natural = length-take-le a.natural item c.requires.1 in
    let front : take a.size (take a.natural item) ≡ take k item = sym (rw least (take_min a.natural a.size item)) in
    let long : length (take k item) ≡ k = length-take-le k item (omega (arith, least, c.requires.1)) in
    let zeros : a.size - a.natural ≡ a.size - k = omega (arith, least) in
    let whole : fitted a.size (take a.natural item) ≡ take k item ++ replicate (a.size - k) 0 =
    rw (fitted-split a.size (take a.natural item), n, front, zeros) in
    c.write_zeros.ensures
    ∙ rw (
      c.scatter.ensures,
      put_at-front k a.m.now (drop a.at ps) item,
      whole,
      put_at-behind a.m.now (drop a.at ps) (take k item) (replicate (a.size - k) 0),
      long,
      drop-drop,
    )
