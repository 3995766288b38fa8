-- The bytes, stored one after the other, are computed.
use Rattle.memory.specs.Bytes.{put}
use Rattle.wave.specs.File.{bytes, format_part}
use Rattle.wave.specs.Outcome.{laid}
use Rattle.wave.proofs.Form.format_part.Goals as goal

pub returns : goal.returns
unfolding format_part bytes put laid
returns c =
    rw (
      c.set-7.ensures,
      c.sample_bits.ensures.0,
      c.set-6.ensures,
      c.block_align.ensures.0,
      c.set-5.ensures,
      c.byte_rate.ensures,
      c.set-4.ensures,
      c.rate_hz.ensures.0,
      c.set-3.ensures,
      c.set-2.ensures,
      c.set.ensures,
      c.put_bytes.ensures,
    )
