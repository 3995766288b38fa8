-- With what is left to write, from where the loop stands, the whole is written.
use mathlib.Core.Path.{◌≡◌, refl}
use Rattle.std.proofs.Common.{◌+◌, ◌-◌, ◌*◌, length-set, arith}
use Rattle.decimal.proofs.Writing.{rest-first, rest-none}
use Rattle.replay_text.proofs.Laws.{hex-none, hex-two, hex-behind}
use Rattle.replay_text.proofs.put_hex.Goals as goal

pub loop-k-init : goal.loop-k-init
loop-k-init c =
    let e : c.args.n - 0 ≡ c.args.n = omega arith in
    let f : c.args.to + 2 * 0 ≡ c.args.to = omega arith in
    (refl, rw (e, f) (rest-first _ _ _))

pub loop-k-preserved : goal.loop-k-preserved
loop-k-preserved c =
    let l = c.loop-k in
    let a = c.args in
    let e : a.to + 2 * (l.k + 1) ≡ a.to + 2 * l.k + 1 + 1 = omega arith in (
      simp length-set l.invariant.0,
      rw (c.behind-from.ensures, hex-behind, e)
          (hex-two l.out _ (a.to + 2 * l.k) (a.n - l.k) (a.n - (l.k + 1)) l.from (omega arith) c.byte_at-b.ensures
          c.glyph.ensures c.glyph-in-loop-k.ensures l.invariant.1),
    )

pub returns : goal.returns
returns c =
    let l = c.loop-k in
    let e : l.k ≡ c.args.n = omega arith in
    (rest-none (rw (hex-none (c.args.n - l.k) _ _ (omega arith), e) at l.invariant.1), omega arith)
