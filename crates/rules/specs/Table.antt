-- The P cases of order 2, as one table over the definitions. 01's are in line_calls/specs/Cases.
use Rattle.std.specs.Prelude.{◌≡◌, ℕ}
use Rattle.registers.specs.declared.answers.Answer.{Answer}
use Rattle.card.specs.declared.Params.{Params}
use Rattle.description.specs.declared.StreamInfo.{StreamInfo}
use Rattle.rules.specs.Control.{judged_params}
use Rattle.device.specs.Numbers.{s_ok, s_bad_msg, s_not_supp}

-- ---- what the cases are asked of

-- order 2: a stream that offers every format and every rate, 1 to 18 channels; what SET_PARAMS of these parameters answers
abbrev pub anything : StreamInfo
anything = record { nid = 0; features = 0; formats = 33554431; rates = 16383; channels_min = 1; channels_max = 18 }

abbrev pub params : ℕ → ℕ → ℕ → ℕ → Params
params period channels format rate =
    record { buffer_bytes = period; period_bytes = period; features = 0; channels = channels; format = format; rate = rate }

-- an answer that names a queue (order 6)
abbrev pub named : ℕ → ℕ → Answer
named number queue = record { number = number; queue = queue }

-- ---- the table

pub record Table : Type 0 where
  -- order 2: stereo S16 (5), period 1,921 BAD_MSG, 1,920 OK; mono IMA ADPCM (0), period 1 OK; three channels of it: 3 OK, 4 BAD_MSG;
  -- 18 channels of FLOAT64 (20): 144 OK, 72 BAD_MSG; a rate not offered with a bad period: NOT_SUPP
  pub half-frame : judged_params anything (params 1921 2 5 7) 0 ≡ s_bad_msg
  pub whole-frames : judged_params anything (params 1920 2 5 7) 0 ≡ s_ok
  pub half-byte : judged_params anything (params 1 1 0 7) 0 ≡ s_ok
  pub three_halves : judged_params anything (params 3 3 0 7) 0 ≡ s_ok
  pub four-halves : judged_params anything (params 4 3 0 7) 0 ≡ s_bad_msg
  pub wide-frame : judged_params anything (params 144 18 20 7) 0 ≡ s_ok
  pub half-wide-frame : judged_params anything (params 72 18 20 7) 0 ≡ s_bad_msg
  pub rate-first : judged_params anything (params 1921 2 5 14) 0 ≡ s_not_supp
