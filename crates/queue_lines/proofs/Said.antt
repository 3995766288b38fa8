-- Entries and their writing in 01's numbers are those of the account.
use Rattle.std.specs.Prelude.{Option, None, Some}
use mathlib.Core.Path.{◌≡◌, refl, sym, ap, ◌∙◌}
use mathlib.Core.Bool.{Bool, true, false, true≢false}
use mathlib.Core.List.{List, [], ◌∷◌}
use Prim.Native.Nat.{ℕ, ◌-◌}
use native.Mathlib.Omega.{arith}
use lib.ListN.{length, length-drop, length-take}
use Rattle.registers.specs.Map.{size_of}
use Rattle.ranges.specs.Ranges.{total, places}
use Rattle.ranges.proofs.Laws.{length-places}
use Rattle.ring.specs.Rules.{posted_at}
use Rattle.device.specs.Account.{Each}
use Rattle.device.specs.Device.{Direction, output, input, Form, well_formed, refused, silent, unwalked, Taking, ill_formed}
use Rattle.device.specs.Histories.{Entry}
use Rattle.device.specs.Transfer.{payload_of, is_well}
use Rattle.queue_lines.specs.Chains.{Virtqueue}
use Rattle.queue_lines.specs.Histories.{Answer, entry_of}
use Rattle.queue_lines.specs.Turn.{written, Answers, whole, cut, bad}
use Rattle.queue_lines.specs.Said.{payload_length, length_of, is_mute, Ways, finished_ok}
use Rattle.queue_lines.specs.Said.{released_by, refused_io_err, mute, Says, status_written}
use Rattle.queue_lines.specs.Said.{written_out}

-- ---- entries

payload-is : (d : Direction) (t : Taking) → t.form ≡ well_formed → length (payload_of d t) ≡ payload_length d t
unfolding payload_of
payload-is output t e = rw (e, length-drop, length-places)
payload-is input t e = rw (e, length-take, length-places) (omega arith)

bad-way : (d : Direction) (t : Taking) (e : Entry) (f : Form) → t.form ≡ f → is_well f ≡ false
    → e ≡ entry_of d ill_formed e.latency t 0
    → Ways d t e
bad-way d t e well_formed q w is = absurd (true≢false w)
bad-way output t e refused q w is = refused_io_err q (rw is) (rw (is, q)) (rw (is, q))
bad-way input t e refused q w is = refused_io_err q (rw is) (rw (is, q)) (rw (is, q))
bad-way d t e silent q w is = mute (rw q) (rw is) (rw (is, q)) (rw (is, q))
bad-way d t e (unwalked fault) q w is = mute (rw q) (rw is) (rw (is, q)) (rw (is, q))

said_way : (d : Direction) (t : Taking) (e : Entry) → Answers d t e → Ways d t e
said_way output t e (whole w is) = finished_ok w (rw is) (rw is) (rw is)
said_way input t e (whole w is) = finished_ok w (rw is) (rw is) (rw (is, payload-is input t w))
said_way output t e (cut done w is) = released_by done w (rw is) (rw is) (rw is)
said_way input t e (cut done w is) = released_by done w (rw is) (rw is) (rw is)
said_way d t e (bad w is) = bad-way d t e t.form refl w is

said-head : (d : Direction) (t : Taking) (e : Entry) → Answers d t e → e.head ≡ t.head
said-head d t e (whole w is) = rw is
said-head d t e (cut done w is) = rw is
said-head d t e (bad w is) = rw is

pub said : (d : Direction) (l : List Answer) → Each (λ (a : Answer). Answers d a.chain a.entry) l → Each (Says d) l
said d [] h = tt
said d (a ∷ l) (h, hs) =
    (record { head = said-head d a.chain a.entry h; way = said_way d a.chain a.entry h }, said d l hs)

-- ---- memory

pub written_out_lem : (v : Virtqueue) (k : ℕ) (a : Answer) (m : List ℕ) → written v k a m ≡ written_out v k a m
unfolding written written_out posted_at size_of
written_out_lem v k a m = by v.direction refl a.entry.status refl
  where
    by : (d : Direction) → v.direction ≡ d → (s : Option ℕ) → a.entry.status ≡ s → written v k a m ≡ written_out v k a m
    by output e None f = rw (e, f)
    by output e (Some code) f = rw (e, f)
    by input e None f = rw (e, f)
    by input e (Some code) f = rw (e, f)
