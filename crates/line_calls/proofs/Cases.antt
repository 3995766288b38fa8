-- 01's P cases are proved as one statement: the rules compute, once the tests that the hypotheses decide are in place.
use mathlib.Core.Path.{refl}
use mathlib.Core.List.{◌∷◌}
use Prim.Native.Nat.{ℕ, ◌+◌}
use native.Mathlib.Omega.{arith}
use borrow.Author.Tests.{ne_eqb, le-ltb, lt-ltb, le-leb}
use lib.ListN.{length}
use Rattle.memory.specs.Bytes.{le}
use Rattle.registers.specs.Map.{size_of, register_at, config_at}
use Rattle.registers.specs.Rules.{read_of, write_of, wrote_features, wrote_status, stored_status}
use Rattle.ring.specs.Rules.{base_of, found_of, new_of, entries_of}
use Rattle.device.specs.Device.{bytes_of}
use Rattle.rules.specs.Control.{decoded_of, remap}
use Rattle.queue_lines.specs.Counters.{sum_of}
use Rattle.line_calls.specs.Calls.{served}
use Rattle.line_calls.specs.Cases.{finds_one, Cases}

-- with its region inside memory, the number of entries decides what is found
entries-decide : (index line : ℕ) → finds_one index line (entries_of 256 (new_of index 10) (line + 0))
unfolding found_of size_of sum_of
entries-decide index line m page negotiated latency completed a s p =
    rw (s.reads, ne_eqb page.0 0 (λ e. omega arith), le-ltb (length m) (base_of page + 6664) (omega arith), p)

pub cases : Cases
unfolding read_of write_of register_at config_at wrote_features wrote_status stored_status served decoded_of remap bytes_of le
cases =
    record {
      one-new = refl;
      ten-new = refl;
      none-works = entries-decide 266 0;
      none-breaks = entries-decide 267 0;
      one-works = entries-decide 265 1;
      one-breaks = entries-decide 266 1;
      refused-features = λ c. refl;
      agreed-features = λ c. refl;
      one-item = λ r s room e h. (rw (e, le-leb 36 room h), refl);
      no_item = λ r s room e h. (rw (e, le-leb 4 room h), refl);
      no_wrap = λ r s room e. rw e;
      no_room = λ r s e. rw e;
      remapped = λ n r j js room e f g. rw (e, f, g, lt-ltb 0 (length (j ∷ js)) (omega arith));
    }
