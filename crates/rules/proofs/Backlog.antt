-- The backlog that a stream remembers is that of its last transfer since reset that answered 0: a reset and a transfer change it, no
-- other call does.
use mathlib.Core.Path.{◌≡◌, refl, sym, ◌∙◌, ap}
use mathlib.Core.Bool.{Bool, true, false, cond, ◌&&◌, not}
use mathlib.Core.List.{List, [], ◌∷◌, map}
use Prim.Native.Nat.{ℕ, zero, suc, ◌<◌, ◌^◌}
use native.Mathlib.Decide.{ℕ_discrete}
use native.Mathlib.Omega.{arith}
use borrow.Author.Tests.{eqb-true, eqb-false, ne_eqb, ltb-true}
use lib.Dec.{eqb, ltb}
use lib.ListN.{length, get_or, set, take, get_or-map}
use lib.Seq.{get_or-set_same, get_or-set_other}
use Rattle.description.specs.declared.StreamInfo.{StreamInfo}
use Rattle.registers.proofs.Keeps.{by_cond}
use Rattle.registers.specs.Answers.{done, plain}
use Rattle.registers.specs.Map.{register_at}
use Rattle.registers.specs.Rules.{write_of, write_register, wrote_status, wrote_page, driver_ok, wrote, with_page, live}
use Rattle.registers.specs.declared.Effect.{Effect}
use Rattle.registers.specs.declared.Effect.TheVariants.{Nothing, Reset, Based, Rung}
use Rattle.registers.specs.declared.Registers.{Registers}
use Rattle.registers.specs.declared.Written.{Written}
use Rattle.register_map.specs.declared.Register.TheVariants.{QueuePfn, Status, Absent}
use Rattle.card.specs.Card.{fresh_stream, no_stream, running_state}
use Rattle.card.specs.Rules.{stream_reset}
use Rattle.card.specs.declared.Jack.{Jack}
use Rattle.card.specs.declared.Stream.{Stream}
use Rattle.rules.specs.Backlog.{written_backlog, moved_backlog}
use Rattle.rules.specs.Calls.{affected_rest}
use Rattle.rules.specs.Calls.{is_running, untouched, admitted_if, transfer_step}
use Rattle.rules.specs.Calls.{remembered_if, remembering}
use Rattle.device.specs.Transfer.{Transferred}
use Rattle.device.proofs.Cases.{and-false}
use Rattle.rules.specs.Control.{with_backlog}
use Rattle.device.specs.Device.{Direction, output, input, Rest, Device, with_registers, stream_at}
use Rattle.rules.proofs.Anew.{register-other}
use Rattle.rules.proofs.Closed.{Closed}

abbrev pub word : Stream → ℕ
word s = s.backlog

-- ---- control messages and events

set_same : (l : List Stream) (i : ℕ) (s : Stream) → word s ≡ word (get_or l i no_stream) → map word (set l i s) ≡ map word l
set_same [] i s e = refl
set_same (x ∷ xs) zero s e = rw e
set_same (x ∷ xs) (suc i) s e = rw (set_same xs i s e)

pub closed-words : (ws : List ℕ) → Closed (λ (ss : List Stream) (js : List Jack). map word ss ≡ ws)
closed-words ws =
    record {
      remapped = λ ss js id a s f h i k. k;
      connected = λ ss js id v k. k;
      moved = λ ss js id state n k. set_same ss id _ refl ∙ k;
      accepted = λ ss js id state params padding e k. set_same ss id _ refl ∙ k;
    }

-- streams with the same words
pub same_word : (a b : List Stream) (id : ℕ) → map word a ≡ map word b → word (get_or a id no_stream) ≡ word (get_or b id no_stream)
same_word a b id e =
    sym (get_or-map word a id no_stream) ∙ ap (λ (ws : List ℕ). get_or ws id 0) e ∙ get_or-map word b id no_stream

-- ---- a reset

abbrev pub resets : Effect → Bool
resets Nothing = false
resets Reset = true
resets (Based q) = false
resets (Rung q) = false

module _ (r : Registers) (v : ℕ) where
  abbrev Spares : Written → Type 0
  Spares w = resets w.effect ≡ false

  status-resets : Dec (v ≡ 0) → resets (write_register r v Status).effect ≡ eqb v 0
  unfolding wrote_status
  status-resets (yes e) = rw e
  status-resets (no n) = rw (ne_eqb v 0 n) (by_cond Spares (ltb v (256 ^ 1)) (λ e. refl) (λ e. refl))

  page-spares : Spares (write_register r v QueuePfn)
  unfolding wrote_page
  page-spares =
      by_cond Spares (ltb v (256 ^ 4))
      (λ e.
      by_cond Spares (ltb r.selector 4 && not (driver_ok r)) {x = wrote (with_page r r.selector v) (Based r.selector)}
      {y = wrote r Nothing}
      (λ e. refl) (λ e. refl)) (λ e. refl)

  pub write-resets : (offset width : ℕ) → Dec (offset ≡ 18) → Dec (offset ≡ 8)
      → resets (write_of r offset width v).effect ≡ (eqb offset 18 && eqb width 1 && eqb v 0)
  unfolding write_of register_at
  write-resets offset width (yes e) d = rw e (go (eqb width 1))
    where
      go : (b : Bool) → resets (write_register r v (cond b Status Absent)).effect ≡ (b && eqb v 0)
      go true = status-resets (ℕ_discrete v 0)
      go false = refl
  write-resets offset width (no n) (yes e) = rw e (go (eqb width 4))
    where
      go : (b : Bool) → resets (write_register r v (cond b QueuePfn Absent)).effect ≡ false
      go true = page-spares
      go false = refl
  write-resets offset width (no n) (no k) = register-other resets refl (λ q. refl) r v offset width k n ∙ sym none
    where
      none : (eqb offset 18 && eqb width 1 && eqb v 0) ≡ false
      none = rw (ne_eqb offset 18 n)

pub affected-word : (e : Effect) (r : Rest) (id : ℕ)
    → (stream_at (affected_rest e r) id).backlog ≡ cond (resets e) 0 (stream_at r id).backlog
affected-word Nothing r id = refl
affected-word Reset r id = ap word (get_or-map stream_reset r.streams id no_stream)
affected-word (Based q) r id = refl
affected-word (Rung q) r id = refl

-- ---- a transfer

pub both : (a b : Bool) → (a && b) ≡ true → a ≡ true
both true b e = refl
both false b e = e

pub running-there : (r : Rest) (id : ℕ) → is_running r id ≡ true → id < length r.streams
running-there r id e = ltb-true _ _ (both (ltb id (length r.streams)) (eqb (stream_at r id).state running_state) e)

module _ {Q : Type 0} (runs : Bool) (r : Rest) (q : Q) (m : List ℕ) (go : Transferred Q) where
  -- answer 0 is given past the checks alone
  pub done-admitted : (P : Transferred Q → Type 0) → (runs ≡ true → go.answer.number ≡ done → P go)
      → let t : Transferred Q = admitted_if runs r m (λ (number : ℕ). untouched (plain number) r.registers q m) go in
      t.answer.number ≡ done → P t
  done-admitted P h =
      let Goes : Transferred Q → Type 0 = λ t. t.answer.number ≡ done → P t in
      by_cond Goes (eqb (length m) r.ram)
      (λ e.
      by_cond Goes (live r.registers) (λ e. by_cond Goes runs h (λ e a. absurd (omega arith))) (λ e a. absurd (omega arith)))
      (λ e a. absurd (omega arith))

set_word : (r : Rest) (i backlog id : ℕ) → i < length r.streams → (b : Bool) → eqb id i ≡ b
    → (stream_at (remembered_if true i backlog r) id).backlog ≡ cond b backlog (stream_at r id).backlog
set_word r i backlog id h true e =
    rw (eqb-true id i e, get_or-set_same r.streams i (with_backlog backlog (stream_at r i)) no_stream h)
set_word r i backlog id h false e = rw (get_or-set_other r.streams i id (with_backlog backlog (stream_at r i)) no_stream (eqb-false id i e))

remembered-word : (r : Rest) (i backlog id : ℕ) (x : Bool) → (x ≡ true → i < length r.streams)
    → (stream_at (remembered_if x i backlog r) id).backlog ≡ cond (eqb id i && x) backlog (stream_at r id).backlog
remembered-word r i backlog id true h = by (eqb id i) refl
  where
    by : (b : Bool) → eqb id i ≡ b → (stream_at (remembered_if true i backlog r) id).backlog
        ≡ cond (b && true) backlog (stream_at r id).backlog
    by true e = set_word r i backlog id (h refl) true e
    by false e = set_word r i backlog id (h refl) false e
remembered-word r i backlog id false h = rw (and-false (eqb id i))

-- ---- power-up

pub fresh-word : (n : ℕ) (l : List StreamInfo) (id : ℕ) → word (get_or (take n (map fresh_stream l)) id no_stream) ≡ 0
fresh-word zero l id = refl
fresh-word (suc n) [] id = refl
fresh-word (suc n) (i ∷ is) zero = refl
fresh-word (suc n) (i ∷ is) (suc id) = fresh-word n is id

-- ---- any call

-- a transfer of this stream
pub moved_word : {Q : Type 0} (d : Direction) (stream : ℕ) (host : List ℕ) (backlog : ℕ) (b : Device Q) (t : Transferred Q) (id : ℕ)
    → (t.answer.number ≡ done → stream < length b.rest.streams)
    → let s = remembering stream backlog (transfer_step d host b t) in
    (stream_at s.state.rest id).backlog ≡ moved_backlog id stream backlog s.told (stream_at b.rest id).backlog
unfolding transfer_step remembering
moved_word output stream host backlog b t id there =
    remembered-word (with_registers t.registers b.rest) stream backlog id (eqb t.answer.number done) (λ e. there (eqb-true _ _ e))
moved_word input stream host backlog b t id there =
    remembered-word (with_registers t.registers b.rest) stream backlog id (eqb t.answer.number done) (λ e. there (eqb-true _ _ e))

pub written-word : (r : Rest) (offset width v id : ℕ)
    → let w = write_of r.registers offset width v in
    (stream_at (affected_rest w.effect (with_registers w.registers r)) id).backlog
    ≡ written_backlog offset width v (stream_at r id).backlog
written-word r offset width v id =
    let w = write_of r.registers offset width v in
    affected-word w.effect (with_registers w.registers r) id
    ∙ ap (λ (x : Bool). cond x 0 (stream_at r id).backlog)
    (write-resets r.registers v offset width (ℕ_discrete offset 18) (ℕ_discrete offset 8))
