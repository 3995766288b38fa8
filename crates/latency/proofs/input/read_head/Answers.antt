-- The first bytes are what the read left at the buffer's start.
use Rattle.latency.proofs.input.read_head.Goals as goal

pub returns : goal.returns
returns g c =
    let bytes = c.slice_known-2-1.given in
    record {
      count_in_bounds = c.read_full-count.ensures.prefix_len.0;
      bytes = λ i. (bytes i).fits;
      input_value = c.open.ensures;
      read =
          c.read_full-count.ensures.bytes;
    }
