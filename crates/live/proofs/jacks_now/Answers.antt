-- Undone after a reset, else as they were kept.
use Rattle.std.proofs.Common.{sym}
use Rattle.live.proofs.Laws.{jacks-kept}
use Rattle.live.proofs.jacks_now.Goals as goal

pub returns-else-fresh : goal.returns-else-fresh
returns-else-fresh c = rw c.if-fresh.false (sym (jacks-kept c.args.jacks))
