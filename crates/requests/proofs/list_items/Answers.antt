-- Status and items fill the reply from its front; the used entry says how long both are.
use mathlib.Core.Path.{◌∙◌}
use native.Mathlib.Omega.{arith}
use lib.ListN.{length-append}
use Rattle.information.specs.Items.{items_in}
use Rattle.live.specs.Live.{parts_now}
use Rattle.information.proofs.Laws.{length-items}
use Rattle.reply.proofs.Laws.{put_at-behind, length-status}
use Rattle.requests.proofs.list_items.Goals as goal

pub write_items-len-requires : goal.write_items-len-requires
write_items-len-requires c =
    let a = c.args in
    let n = length-items a.query.size (items_in a.l (parts_now a.live a.parts)) a.query.count a.query.start c.requires.1 in
    (c.requires.0, c.requires.1, rw n c.requires.2)

pub overflow_cast-len : goal.overflow_cast-len
overflow_cast-len c =
    let a = c.args in
    let n = length-items a.query.size (items_in a.l (parts_now a.live a.parts)) a.query.count a.query.start c.requires.1 in
    omega (arith, c.write_items-len.ensures.1, n, c.requires.2)

pub returns : goal.returns
returns c =
    let w = c.write_items-len in
    c.close.ensures
    ∙ rw (w.ensures.1, w.ensures.0, c.write_status.ensures, length-append, length-status, put_at-behind, length-status)
