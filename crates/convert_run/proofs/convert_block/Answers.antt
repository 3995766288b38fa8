-- A block that the converter took is made of all its samples.
use Rattle.std.proofs.Common.{◌*◌, ◌/◌, ◌≤◌, length, refl, arith}
use Rattle.convert_run.proofs.Blocks.{made-room, all_made}
use Rattle.convert_run.proofs.convert_block.Goals as goal

pub returns : goal.returns
returns c =
    let e = rw c.in_ok-to_s16.was at c.to_s16.ensures in
    let room : 2 * (length c.args.block.now / c.bytes.result) ≤ length c.args.out.now = made-room _ _ _ _ _ e refl _ c.bytes.ensures in
    (all_made _ _ _ _ _ e refl _ c.bytes.ensures, omega arith)
