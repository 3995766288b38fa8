-- The digits of the number are written, at most 20 of them, and the byte behind them.
use mathlib.Core.Path.{◌∙◌}
use Rattle.std.proofs.Common.{ℕ, ◌^◌, ◌<◌, ◌≤◌, arith}
use Rattle.io.specs.Digits.{IsDigitCount}
use Rattle.decimal.proofs.Writing.{fewest-below, digits-of-fewest, put-field}
use Rattle.decimal.proofs.put.Goals as goal

-- at most 20 digits
few : {n r : ℕ} → IsDigitCount 10 1 n r → n < 2 ^ 64 → r ≤ 20
few {n} {r} w h = fewest-below 20 n r w (omega arith) (omega arith)

pub put_bytes-behind-requires : goal.put_bytes-behind-requires
put_bytes-behind-requires c = omega (arith, few c.decimal-count.ensures.len (omega arith))

pub bounds-out-behind : goal.bounds-out-behind
bounds-out-behind c = omega (arith, few c.decimal-count.ensures.len (omega arith), c.put_bytes-behind.ensures.behind)

pub overflow_add-result : goal.overflow_add-result
overflow_add-result c = omega (arith, few c.decimal-count.ensures.len (omega arith), c.put_bytes-behind.ensures.behind)

pub returns : goal.returns
returns c =
    let w = c.decimal-count.ensures in (
      put-field c.args.n c.args.end (w.digits ∙ digits-of-fewest c.args.n _ (omega arith) w.len) c.put_bytes-behind.ensures,
      omega (arith, few w.len (omega arith), c.put_bytes-behind.ensures.behind),
    )
