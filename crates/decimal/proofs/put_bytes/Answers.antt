-- The bytes copied over a part of the buffer are stored one behind the other.
use mathlib.Core.Path.{◌∙◌, sym, refl}
use Rattle.std.proofs.Common.{◌+◌, ◌-◌, length, take, append_assoc, arith}
use Rattle.std.proofs.lemmas.Slice.{put_mid-paste}
use Rattle.std.proofs.lemmas.List.Edits.{paste_all, sets-eq}
use Rattle.decimal.proofs.put_bytes.Goals as goal

pub returns : goal.returns
returns c =
    let a = c.args in
    let n = length a.bytes.now in
    record {
      stored =
          put_mid-paste a.at (a.at + n - a.at) a.out.now _ a.bytes.now n c.copy_from_slice.ensures.after (omega arith) refl
          ∙ paste_all a.out.now a.at a.bytes.now n refl ∙ sym (append_assoc (take a.at a.out.now) _ _)
          ∙ sym (sets-eq a.bytes.now a.out.now a.at (omega arith));
      behind = refl;
    }
