-- A stream that remembers the backlog of a call, in the rules' terms.
use mathlib.Core.Path.{◌≡◌, refl, ◌∙◌, ap}
use mathlib.Core.Bool.{Bool, true, false, cond}
use mathlib.Core.List.{List, [], ◌∷◌}
use Prim.Native.Nat.{ℕ, zero, suc, ◌<◌}
use native.Mathlib.Omega.{arith}
use borrow.Author.Tests.{ltb-true, ltb-false}
use lib.Dec.{eqb, ltb}
use lib.ListN.{length, get_or, take, set, length-take}
use lib.Seq.{set_out, take-set-le, take-set-lt}
use Rattle.registers.specs.Answers.{done}
use Rattle.registers.specs.declared.answers.Answer.{Answer}
use Rattle.card.specs.Card.{no_stream}
use Rattle.card.specs.declared.Card.{Card}
use Rattle.card.specs.declared.Parts.{Parts}
use Rattle.card.specs.declared.Stream.{Stream}
use Rattle.live.specs.Live.{streams_now, card_in}
use Rattle.live.specs.Setters.{with_backlogs}
use Rattle.live.specs.declared.Live.{Live}
use Rattle.device.specs.Device as rules
use Rattle.rules.specs.Calls.{remembered_if, remembering}
use Rattle.rules.specs.Control.{with_backlog}
use Rattle.rules.proofs.Parts.{stream_at_lem}
use Rattle.queue_lines.specs.Counters.{Queue}
use Rattle.line_calls.specs.Account.{transfer_of}
use Rattle.meaning.specs.Card.{rest_of, device_of, step_of, leaves}
use Rattle.pcm.specs.Entry.{moved_by, with_backlog_at}

module _ (id backlog : ℕ) (c : Card) where
  -- the device with another rest
  abbrev resting : rules.Rest → rules.Device Queue
  resting r = record { rest = r; play = (device_of c).play; capture = (device_of c).capture }

  remembers : (b : Bool) → ltb id c.parts.stream_count ≡ b
      → device_of (with_backlog_at id backlog c) ≡ resting (remembered_if true id backlog (rest_of c))
  unfolding device_of rest_of
  remembers true h =
      let below = ltb-true id c.parts.stream_count h in
      rw (
        take-set-lt c.parts.stream_count c.parts.streams id (with_backlog backlog (get_or c.parts.streams id no_stream)) below,
        stream_at_lem c.parts id below,
      )
  remembers false h =
      let past = ltb-false id c.parts.stream_count h in
      rw (
        take-set-le c.parts.stream_count c.parts.streams id (with_backlog backlog (get_or c.parts.streams id no_stream)) past,
        set_out (take c.parts.stream_count c.parts.streams) id _ (rw length-take (omega arith)),
      )

  pub remembered-device : (b : Bool) → device_of (cond b (with_backlog_at id backlog c) c)
      ≡ resting (remembered_if b id backlog (rest_of c))
  unfolding device_of
  remembered-device true = remembers (ltb id c.parts.stream_count) refl
  remembered-device false = refl

-- the rules' step is that of a transfer, whose backlog is remembered
stepped : (d : rules.Direction) (id backlog : ℕ) (c : Card) (host m : List ℕ)
    → step_of c (transfer_of d id host backlog) m ≡ remembering id backlog (moved_by d id backlog c host m)
stepped rules.output id backlog c host m = refl
stepped rules.input id backlog c host m = refl

pub remembered-says : (d : rules.Direction) (id backlog : ℕ) (c : Card) (host m : List ℕ)
    (n : Card) (a : Answer) (count : ℕ) (bytes host' m' : List ℕ)
    → moved_by d id backlog c host m ≡ leaves n a count bytes host' m'
    → step_of c (transfer_of d id host backlog) m
    ≡ leaves (cond (eqb a.number done) (with_backlog_at id backlog n) n) a count bytes host' m'
unfolding remembering device_of
remembered-says d id backlog c host m n a count bytes host' m' e =
    stepped d id backlog c host m
    ∙ ap (remembering id backlog) e
    ∙ rw (remembered-device id backlog n (eqb a.number done))

-- ---- in the small state

-- what holds of every six numbers
of-six : (P : List ℕ → Type 0) → ((a b c d e f : ℕ) → P (a ∷ b ∷ c ∷ d ∷ e ∷ f ∷ [])) → (l : List ℕ) → length l ≡ 6 → P l
of-six P h [] n = absurd (omega arith)
of-six P h (a ∷ []) n = absurd (omega arith)
of-six P h (a ∷ b ∷ []) n = absurd (omega arith)
of-six P h (a ∷ b ∷ c ∷ []) n = absurd (omega arith)
of-six P h (a ∷ b ∷ c ∷ d ∷ []) n = absurd (omega arith)
of-six P h (a ∷ b ∷ c ∷ d ∷ e ∷ []) n = absurd (omega arith)
of-six P h (a ∷ b ∷ c ∷ d ∷ e ∷ f ∷ []) n = h a b c d e f
of-six P h (a ∷ b ∷ c ∷ d ∷ e ∷ f ∷ x ∷ l) n = absurd (omega arith)

module _ (l : Live) (p : Parts) (pw cw : List ℕ) (six : length l.backlogs ≡ 6) (backlog : ℕ) where
  -- the streams as they are, with another backlog of stream id
  abbrev Noted : ℕ → List ℕ → Type 0
  Noted id bs =
      let now : List Stream = streams_now (with_backlogs bs l) p.streams in
      set now id (with_backlog backlog (get_or now id no_stream)) ≡ streams_now (with_backlogs (set bs id backlog) l) p.streams

  noted : (id : ℕ) → id < 6 → Noted id l.backlogs
  noted zero h = of-six (Noted 0) (λ a b c d e f. refl) l.backlogs six
  noted (suc zero) h = of-six (Noted 1) (λ a b c d e f. refl) l.backlogs six
  noted (suc (suc zero)) h = of-six (Noted 2) (λ a b c d e f. refl) l.backlogs six
  noted (suc (suc (suc zero))) h = of-six (Noted 3) (λ a b c d e f. refl) l.backlogs six
  noted (suc (suc (suc (suc zero)))) h = of-six (Noted 4) (λ a b c d e f. refl) l.backlogs six
  noted (suc (suc (suc (suc (suc zero))))) h = of-six (Noted 5) (λ a b c d e f. refl) l.backlogs six
  noted (suc (suc (suc (suc (suc (suc id)))))) h = absurd (omega arith)

  pub noted_in : (id : ℕ) (b : Bool) → id < 6
      → cond b (with_backlog_at id backlog (card_in l p pw cw)) (card_in l p pw cw)
      ≡ card_in (with_backlogs (cond b (set l.backlogs id backlog) l.backlogs) l) p pw cw
  noted_in id true h = rw (noted id h)
  noted_in id false h = refl
