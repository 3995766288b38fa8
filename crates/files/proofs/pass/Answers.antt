-- What one turn read stands behind what the turns before read, and was handed on.
use Rattle.std.proofs.Common.{rules, of_calls, ◌≡◌, ℕ, ◌+◌, ◌≤◌, List, arith, length, take, length-take-le}
use Rattle.std.specs.List.{concat}
use Rattle.std.proofs.lemmas.Fn.{called_at}
use Rattle.files.specs.Blocks.{HandedOn}
use Rattle.files.proofs.Blocks.{none_handed, one_more}
use Rattle.files.proofs.pass.Given.{Over}
use Rattle.files.proofs.pass.Goals.{In_ok-bytes}
use Rattle.files.proofs.pass.Goals as goal

-- n bytes more
counted : (s : List ℕ) (n bytes more : ℕ) → n ≤ length s → more ≡ bytes + n → more ≡ bytes + length (take n s)
counted s n bytes more within m = omega (arith, length-take-le n s within)

-- the blocks up to that of this turn
handed : (g : Over) (c : In_ok-bytes g) → let remaining = g.R.Read.remaining in let read = c.read_block-read.new in
    HandedOn g.F.FnMut c.args.take c.take.new.self (remaining c.args.file.now) (remaining read.file) c.in_ok-bytes.bytes
handed g c =
    let next = c.read_block-read in
    let call = called_at g.F.FnMut c.take.ensures c.in_ok-take.was in
    let read = rw c.in_ok-read.was at next.ensures.bytes in
    one_more _ _ _ _ _ _ _ _ _ _ c.loop.invariant.1 call read (counted _ _ _ _ next.ensures.count_in_bounds (search rules))

pub loop-init : goal.loop-init
loop-init g c = (search of_calls, none_handed _ _ _)

pub loop-preserved : goal.loop-preserved
loop-preserved g c = (search of_calls, handed g (goal.at.loop-preserved g c).In_ok-bytes)

pub returns-then-read-block-clause-handed : goal.returns-then-read-block-clause-handed
returns-then-read-block-clause-handed g c = (_, handed g (goal.at.returns-then-read-block-clause-handed g c).In_ok-bytes)

pub returns-then-read-block-clause-bytes : goal.returns-then-read-block-clause-bytes
returns-then-read-block-clause-bytes g c =
    let h = handed g (goal.at.returns-then-read-block-clause-bytes g c).In_ok-bytes in
    (concat h.blocks, h.joined, h.counted)
