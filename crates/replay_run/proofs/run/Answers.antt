-- What is written out lies inside the buffer; the script is what was read.
use Rattle.std.proofs.Common.{arith, sym, length-take-le}
use Rattle.replay_run.proofs.run.Goals as goal

pub slice_bounds-write_all-end : goal.slice_bounds-write_all-end
slice_bounds-write_all-end g c = sym (length-take-le _ _ (omega (
  arith,
  c.answer-end.ensures.1,
  c.answer-end.auto.out,
  c.text_buffer-out.ensures,
)))
