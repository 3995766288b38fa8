-- The card that is left is that of `live::power_up`: whatever the words of its queues hold, it is ready.
use mathlib.Core.Path.{◌≡◌, sym, subst}
use Prim.Native.Nat.{ℕ}
use Rattle.description.specs.declared.Description.{Description}
use Rattle.live.specs.Live.{powered_board, FitBoard}
use Rattle.live.specs.declared.PoweredBoard.{PoweredBoard}
use Rattle.meaning.specs.Fit.{Ready}
use Rattle.meaning.proofs.Fits.{powered-ready}
use Rattle.wekshurag.proofs.wekshurag_card_power_up.Goals as goal

is-ready : (d : Description) (len : ℕ) (r : PoweredBoard) → r ≡ powered_board d len → FitBoard r.board.live r.board.parts
    → Ready r.board
is-ready d len r e f =
    subst (λ (t : PoweredBoard). Ready t.board) (sym e)
    (powered-ready d len (subst (λ (t : PoweredBoard). FitBoard t.board.live t.board.parts) e f))

pub returns : goal.returns
returns c =
    let e = c.power_up-powered.ensures in
    (e.0, is-ready c.args.description.now c.args.ram_len c.power_up-powered.result e.0 e.1)
