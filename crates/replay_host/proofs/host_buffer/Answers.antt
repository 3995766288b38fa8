-- The array is the list of so many bytes.
use mathlib.Core.Path.{refl}
use Rattle.replay_host.specs.Host.{host_buffer}
use Rattle.replay_host.proofs.host_buffer.Goals as goal

pub returns : goal.returns
unfolding host_buffer
returns c = record { value = refl; value_2 = refl }
