-- Laws of PCM commands: bits of a mask, and a command by its tests.
use mathlib.Core.Path.{◌≡◌}
use mathlib.Core.Bool.{true, false, not, and-eq-true_iff}
use mathlib.Core.List.{List}
use Prim.Native.Nat.{ℕ, ◌/◌, ◌^◌, ◌≤◌, ◌<◌}
use native.Mathlib.Nat.{div-eq_of_lt, lt_of_lt_of_le}
use native.Mathlib.Omega.{arith}
use borrow.Author.Tests.{ltb-true, eqb-false, not-true}
use lib.Dec.{eqb, ltb}
use lib.ListN.{get_or}
use lib.Pow.{pow_mono}
use Rattle.std.specs.Prelude.{Option}
use Rattle.card.specs.Card.{no_stream}
use Rattle.card.specs.Fit.{FitParts}
use Rattle.card.specs.declared.Params.{Params}
use Rattle.card.specs.declared.Parts.{Parts}
use Rattle.rules.specs.Parts.{parts_of}
use Rattle.rules.proofs.Parts.{stream_at_lem}
use Rattle.reply.proofs.Laws.{stream-total}
use Rattle.rules.specs.Control as rules
use Rattle.device.specs.Numbers.{s_bad_msg}
use Rattle.rules.specs.Lifecycle.{transition}
use Rattle.rules.specs.declared.Command.{Command}

-- a mask of 64 bits has none above
pub offers-past : (mask i : ℕ) → mask < 2 ^ 64 → 64 ≤ i → rules.offers mask i ≡ false
offers-past mask i h b = let e : mask / 2 ^ i ≡ 0 = div-eq_of_lt (lt_of_lt_of_le h (pow_mono b)) in rw e

-- ---- a command by its tests

module _ (p : Parts) (f : FitParts p) (c : Command) (request : List ℕ) where
  pub command-absent : ltb (rules.word request 1) p.stream_count ≡ false
      → rules.commanded (parts_of p) c request ≡ rules.refusal (parts_of p) s_bad_msg
  unfolding rules.commanded
  command-absent h = rw (stream-total p f, h)

  module _ (h : ltb (rules.word request 1) p.stream_count ≡ true) where
    pub command-led :
        (next : Option ℕ) → transition c (get_or p.streams (rules.word request 1) no_stream).state ≡ next
        → rules.commanded (parts_of p) c request ≡ rules.led (parts_of p) c (rules.word request 1) request next
    unfolding rules.commanded
    command-led next g = rw (stream-total p f, h, stream_at_lem p (rules.word request 1) (ltb-true _ _ h), g)

-- ---- SET_PARAMS

pub sized-period : (p : Params) → rules.sized p ≡ true → 0 < p.period_bytes
sized-period p h =
    let e : not (eqb p.period_bytes 0) ≡ true = ((and-eq-true_iff (not (eqb p.buffer_bytes 0))
    (not (eqb p.period_bytes 0))).0 h).1 in
    let n = eqb-false p.period_bytes 0 (not-true _ e) in
    omega (arith, n)
