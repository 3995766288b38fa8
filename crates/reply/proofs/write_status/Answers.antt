-- The status fills the front of the reply.
use mathlib.Core.Path.{◌≡◌, ◌∙◌}
use native.Mathlib.Omega.{arith}
use borrow.Author.Rules.{rules}
use Rattle.ranges.specs.Ranges.{ranges_of, places}
use Rattle.ranges.proofs.Laws.{put_at-take}
use Rattle.rules.specs.Control.{status}
use Rattle.device.specs.Device.{bytes_of}
use Rattle.reply.proofs.Laws.{length-status}
use Rattle.reply.proofs.write_status.Goals.{After-to_le_bytes}
use Rattle.reply.proofs.write_status.Goals as goal

-- its bytes, the lowest first
told : (c : After-to_le_bytes) → c.to_le_bytes.result ≡ status c.args.code
unfolding bytes_of
told c = search rules

pub returns : goal.returns
returns c =
    let a = c.args in
    c.scatter.ensures
    ∙ rw (told (goal.at.returns c).After-to_le_bytes)
    (put_at-take 4 a.m.now (places (ranges_of a.list.now a.reply)) (status a.code) (omega (arith, length-status a.code)))
