-- A turn takes the first of the records left.
use Rattle.std.proofs.Common.{◌≡◌, ℕ, ◌-◌, ◌/◌, List, [], length, get_or, arith, sym, ap, ◌∙◌}
use mathlib.Core.List.{foldl}
use Rattle.latency_tally.specs.Records.{Status}
use Rattle.latency_tally.specs.Tally.{with_record}
use Rattle.latency_tally.proofs.Laws.{records-none, records-chunk}
use Rattle.latency_tally.proofs.Tally.with_block.Goals as goal

pub loop-record-init : goal.loop-record-init
loop-record-init c =
    let n : length c.args.block.now / 8 - 0 ≡ length c.args.block.now / 8 = omega arith in
    rw n

pub loop-record-preserved : goal.loop-record-preserved
loop-record-preserved c =
    let l = c.loop-record in
    let a = c.as_chunks in
    let e : length a.result.0.now ≡ length c.args.block.now / 8 = a.ensures.front_len in
    let i = l.record-index in
    let first = records-chunk (length c.args.block.now / 8) c.args.block.now i (get_or a.result.0.now i []) (omega arith)
    (ap (λ (chunks : List (List ℕ)). get_or chunks i []) a.ensures.front) in
    rw (c.with_record-next.ensures, c.number.ensures, c.number-in-loop-record.ensures)
    (sym (ap (λ (rest : List Status). foldl with_record l.next rest) first) ∙ l.invariant)

pub returns : goal.returns
returns c =
    let l = c.loop-record in
    let e : length c.as_chunks.result.0.now ≡ length c.args.block.now / 8 = c.as_chunks.ensures.front_len in
    let n : length c.args.block.now / 8 - l.record-index ≡ 0 = omega arith in
    rw (← l.invariant, records-none _ _ _ n)
