-- What the used entries of demand 3 say, and what their writing leaves in memory, in 01's own numbers: written out here once more, apart
-- from the rules, so that a rule that is wrong in the card and in the account alike is not taken for right. The theorems are `said` and
-- `written_out_lem` of proofs/Said.
use Rattle.std.specs.Prelude.{Option, None, Some, ◌≡◌, Bool, true, false, List, ◌++◌, ℕ, ◌+◌, ◌-◌, ◌*◌, ◌%◌, length, drop}
use Rattle.memory.specs.Bytes.{put}
use Rattle.ranges.specs.Ranges.{total, places, put_at}
use Rattle.ranges.specs.declared.Range.{Range}
use Rattle.ring.specs.Rules.{base_of}
use Rattle.device.specs.Device.{Direction, output, input, Form, well_formed, refused, silent, unwalked, Taking, bytes_of}
use Rattle.device.specs.Device.{finished, released, ill_formed}
use Rattle.device.specs.Histories.{Entry}
use Rattle.queue_lines.specs.Chains.{Virtqueue}
use Rattle.queue_lines.specs.Histories.{Answer}

-- ---- entries

-- "length 8 for play, 8 + recorded for capture"
abbrev pub length_of : Direction → ℕ → ℕ
length_of output moved = 8
length_of input moved = 8 + moved

-- OK is 0x8000, IO_ERR 0x8003. A Release gives "Output: IO_ERR .. Input: OK"
abbrev pub released_status : Direction → ℕ
released_status output = 32771
released_status input = 32768

-- "its payload is the request past 4 bytes, for capture the reply before its last 8"
abbrev pub payload_length : Direction → Taking → ℕ
payload_length output t = total t.request - 4
payload_length input t = total t.reply - 8

-- "walk fault, writable outside RAM, reply under 8: length 0"
abbrev pub is_mute : Form → Bool
is_mute well_formed = false
is_mute refused = false
is_mute silent = true
is_mute (unwalked fault) = true

-- in one of four ways
pub data Ways (d : Direction) (t : Taking) (e : Entry) : Type 0 where
  finished_ok :
      t.form ≡ well_formed → e.ending ≡ finished → e.status ≡ Some 32768 → e.length ≡ length_of d (payload_length d t) → Ways d t e
  released_by :
      (done : ℕ) → t.form ≡ well_formed → e.ending ≡ released → e.status ≡ Some (released_status d) → e.length ≡ length_of d done
      → Ways d t e
  refused_io_err : t.form ≡ refused → e.ending ≡ ill_formed → e.status ≡ Some 32771 → e.length ≡ 8 → Ways d t e
  mute : is_mute t.form ≡ true → e.ending ≡ ill_formed → e.status ≡ None → e.length ≡ 0 → Ways d t e

-- .. and with the head of the chain that was read
pub record Says (d : Direction) (a : Answer) : Type 0 where
  pub head : a.entry.head ≡ a.chain.head
  pub way : Ways d a.chain a.entry

-- ---- memory

-- "With N = 64: used at 1,156 .. With N = 256: 4,612": the used ring of a direction's queue, and how many places it has
abbrev pub used_ring : Direction → ℕ
used_ring output = 4612
used_ring input = 1156

abbrev pub ring_size : Direction → ℕ
ring_size output = 256
ring_size input = 64

-- "Status (code, latency ..) is the last 8 reply bytes."
abbrev pub status_written : Option ℕ → ℕ → List Range → List ℕ → List ℕ
status_written None latency reply m = m
status_written (Some code) latency reply m = put_at m (drop (total reply - 8) (places reply)) (bytes_of 4 code ++ bytes_of 4 latency)

-- "Completing writes, in order: reply bytes, used element (head, length) at completed mod N, then as used index .. completed + 1 modulo
-- 65,536": for used entry number k
unfoldable pub written_out : Virtqueue → ℕ → Answer → List ℕ → List ℕ
written_out v k a m =
    let element : ℕ = used_ring v.direction + 4 + 8 * (k % ring_size v.direction) in
    put 2
    (put 4
    (put 4 (status_written a.entry.status a.entry.latency a.chain.reply m) (base_of v.page + element) a.entry.head)
    (base_of v.page + (element + 4)) a.entry.length)
    (base_of v.page + (used_ring v.direction + 2)) ((k + 1) % 65536)
