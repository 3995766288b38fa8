-- The numbers stand one behind the other, zeros behind them.
use Rattle.memory.specs.Bytes.{put}
use Rattle.device.specs.Device.{bytes_of}
use Rattle.information.proofs.jack_item.Goals as goal

pub returns : goal.returns
unfolding put bytes_of
returns c =
    rw (
      c.set-4.ensures,
      c.set-3.ensures,
      c.set-2.ensures,
      c.set.ensures,
      c.defconf_now.ensures,
    )
