-- The card of a small state, parts and words: every card is one, and the register entries leave the parts and the words.
use mathlib.Core.Path.{◌≡◌, refl, sym, ap, ◌∙◌}
use mathlib.Core.Bool.{Bool, true, false, cond}
use mathlib.Core.List.{List, [], ◌∷◌, map}
use Prim.Native.Nat.{ℕ, ◌-◌}
use native.Mathlib.Omega.{arith}
use lib.ListN.{length, get_or, replicate, length-set}
use Rattle.registers.proofs.Keeps.{power-on-fit, read-fit, write-fit}
use Rattle.registers.specs.Answers.{done, bad_description}
use Rattle.registers.specs.Fit.{FitRegisters}
use Rattle.registers.specs.Rules.{write_of}
use Rattle.registers.specs.declared.Config.{Config}
use Rattle.registers.specs.declared.Effect.{Effect}
use Rattle.registers.specs.declared.Effect.TheVariants.{Nothing, Reset, Based, Rung}
use Rattle.registers.specs.declared.Registers.{Registers}
use Rattle.card.proofs.Keeps.{parts-reset-fit}
use Rattle.card.specs.Card.{no_stream, no_counters, no_parts, parts_at_power, card_of}
use Rattle.card.specs.Fit.{FitParts}
use Rattle.card.specs.Rules.{powered_of, read_card, write_card, reset_card, based_card, affected, rung_of, jack_reset}
use Rattle.card.specs.declared.Card.{Card}
use Rattle.card.specs.declared.Counters.{Counters}
use Rattle.card.specs.declared.Jack.{Jack}
use Rattle.card.specs.declared.Parts.{Parts}
use Rattle.card.specs.declared.Powered.{Powered}
use Rattle.card.specs.declared.ReadAnswer.{ReadAnswer}
use Rattle.card.specs.declared.WriteAnswer.{WriteAnswer}
use Rattle.live.specs.Live.{jack_now, parts_now, card_in, config_in, live_of, kept_live, board_of, reset_live, based_live}
use Rattle.live.specs.Live.{affected_live, read_live, write_live, powered_board, FitLive, FitBoard}
use Rattle.live.specs.Setters.{with_registers, with_counters, with_play_kept, with_capture_kept}
use Rattle.description.specs.Lawful.{lawful}
use Rattle.description.specs.declared.Description.{Description}
use Rattle.live.specs.declared.Live.{Live}

-- ---- every card is one

pub jacks-kept : (l : List Jack) → map (jack_now false) l ≡ l
jacks-kept [] = refl
jacks-kept (j ∷ l) = ap (λ (r : List Jack). j ∷ r) (jacks-kept l)

-- lists of six, element by element
pub together : {A : Type 0} {a b c d e f a' b' c' d' e' f' : A} → a ≡ a' → b ≡ b' → c ≡ c' → d ≡ d' → e ≡ e' → f ≡ f'
    → a ∷ b ∷ c ∷ d ∷ e ∷ f ∷ [] ≡ a' ∷ b' ∷ c' ∷ d' ∷ e' ∷ f' ∷ []
together p q r s t u = rw (p, q, r, s, t, u)

-- six elements are a list of six
six : {A : Type 0} (d : A) (l : List A) → length l ≡ 6
    → get_or l 0 d ∷ get_or l 1 d ∷ get_or l 2 d ∷ get_or l 3 d ∷ get_or l 4 d ∷ get_or l 5 d ∷ [] ≡ l
six d [] h = absurd (omega arith)
six d (a ∷ []) h = absurd (omega arith)
six d (a ∷ b ∷ []) h = absurd (omega arith)
six d (a ∷ b ∷ c ∷ []) h = absurd (omega arith)
six d (a ∷ b ∷ c ∷ e ∷ []) h = absurd (omega arith)
six d (a ∷ b ∷ c ∷ e ∷ f ∷ []) h = absurd (omega arith)
six d (a ∷ b ∷ c ∷ e ∷ f ∷ g ∷ []) h = refl
six d (a ∷ b ∷ c ∷ e ∷ f ∷ g ∷ i ∷ l) h = absurd (omega arith)

-- parts that are as they are, beside a small state that keeps them
pub parts-kept : (l : Live) (p : Parts) → length p.streams ≡ 6 → parts_now (kept_live l p) p ≡ p
parts-kept l p h = rw (jacks-kept p.jacks, six no_stream p.streams h)

pub whole : (c : Card) → length c.parts.streams ≡ 6 → card_in (live_of c) c.parts c.play_words c.capture_words ≡ c
whole c h = rw (jacks-kept c.parts.jacks, six no_stream c.parts.streams h)

-- ---- boards

-- the board of a card
pub card-board : (c : Card) → FitRegisters c.registers → length c.queues ≡ 4 → FitParts c.parts → FitBoard (live_of c) c.parts
card-board c r q f =
    record {
      live = record { registers = r; four = q; states = refl; backlogs = refl };
      parts = rw (parts-kept (live_of c) c.parts f.six-streams) f;
      counts = refl;
      outputs = refl;
      inputs = refl;
    }

-- other parts, with as many of each kind, that are as they are
pub keep-board : (l : Live) (p q : Parts) → FitBoard l p → FitParts q
    → config_in q ≡ config_in p
    → q.output_count ≡ p.output_count
    → FitBoard (kept_live l q) q
keep-board l p q f g counted outputs =
    let streams : q.stream_count ≡ p.stream_count = ap (λ (c : Config). c.streams) counted in
    record {
      live = record { registers = f.live.registers; four = f.live.four; states = refl; backlogs = refl };
      parts = rw (parts-kept l q g.six-streams) g;
      counts = f.counts ∙ sym counted;
      outputs = f.outputs ∙ sym outputs;
      inputs = rw (streams, outputs) f.inputs;
    }

module _ (l : Live) (p : Parts) (f : FitBoard l p) where
  pub board-with-registers : (r : Registers) → FitRegisters r → FitBoard (with_registers r l) p
  board-with-registers r g =
      record {
        live = record { registers = g; four = f.live.four; states = f.live.states; backlogs = f.live.backlogs };
        parts = f.parts;
        counts = f.counts;
        outputs = f.outputs;
        inputs = f.inputs;
      }

  pub board-with-counters : (q : ℕ) (v : Counters) → FitBoard (with_counters q v l) p
  board-with-counters q v =
      record {
        live =
            record {
              registers = f.live.registers;
              four = length-set l.queues q v ∙ f.live.four;
              states = f.live.states;
              backlogs = f.live.backlogs;
            };
        parts = f.parts;
        counts = f.counts;
        outputs = f.outputs;
        inputs = f.inputs;
      }

  pub board-play-kept : FitBoard (with_play_kept l) p
  board-play-kept =
      record {
        live =
            record { registers = f.live.registers; four = f.live.four; states = f.live.states; backlogs = f.live.backlogs };
        parts = f.parts;
        counts = f.counts;
        outputs = f.outputs;
        inputs = f.inputs;
      }

  pub board-capture-kept : FitBoard (with_capture_kept l) p
  board-capture-kept =
      record {
        live =
            record { registers = f.live.registers; four = f.live.four; states = f.live.states; backlogs = f.live.backlogs };
        parts = f.parts;
        counts = f.counts;
        outputs = f.outputs;
        inputs = f.inputs;
      }

-- ---- a read

pub read_live_lem : (l : Live) → FitLive l → (offset width : ℕ) → FitLive (read_live l offset width).live
unfolding read_live
read_live_lem l f offset width =
    record {
      registers = read-fit l.registers f.registers l.config offset width;
      four = f.four;
      states = f.states;
      backlogs = f.backlogs;
    }

pub read-in : (l : Live) (p : Parts) (pw cw : List ℕ) → l.config ≡ config_in p → (offset width : ℕ)
    → read_card (card_in l p pw cw) offset width
    ≡ record {
      answer = (read_live l offset width).answer;
      value = (read_live l offset width).value;
      card = card_in (read_live l offset width).live p pw cw;
    }
unfolding read_card read_live
read-in l p pw cw counts offset width = rw counts

pub read-board : (l : Live) (p : Parts) → FitBoard l p → (offset width : ℕ) → FitBoard (read_live l offset width).live p
unfolding read_live
read-board l p f offset width =
    board-with-registers l p f _ (read-fit l.registers f.live.registers l.config offset width)

-- ---- a write

-- a reset of jacks that a reset may have come over
jacks-reset : (b : Bool) (l : List Jack) → map (jack_now true) l ≡ map jack_reset (map (jack_now b) l)
jacks-reset b [] = refl
jacks-reset b (j ∷ l) = ap (λ (r : List Jack). jack_reset j ∷ r) (jacks-reset b l)

reset-live : (l : Live) → FitLive l → FitLive (reset_live l)
unfolding reset_live
reset-live l f = record { registers = f.registers; four = refl; states = refl; backlogs = refl }

based-live : (q : ℕ) (l : Live) → FitLive l → FitLive (based_live q l)
unfolding based_live
based-live q l f =
    record { registers = f.registers; four = length-set l.queues q no_counters ∙ f.four; states = f.states; backlogs = f.backlogs }

affected-live : (e : Effect) (l : Live) → FitLive l → FitLive (affected_live e l)
affected-live Nothing l f = f
affected-live Reset l f = reset-live l f
affected-live (Based q) l f = based-live q l f
affected-live (Rung q) l f = f

pub write-live : (l : Live) → FitLive l → (offset width v : ℕ) → FitLive (write_live l offset width v).live
unfolding write_live
write-live l f offset width v =
    affected-live (write_of l.registers offset width v).effect (with_registers (write_of l.registers offset width v).registers l)
    (record {
      registers = write-fit l.registers f.registers offset width v;
      four = f.four;
      states = f.states;
      backlogs = f.backlogs;
    })

pub reset-board : (l : Live) (p : Parts) → FitBoard l p → FitBoard (reset_live l) p
unfolding reset_live
reset-board l p f =
    record {
      live = reset-live l f.live;
      parts = rw (jacks-reset l.fresh p.jacks) (parts-reset-fit (parts_now l p) f.parts);
      counts = f.counts;
      outputs = f.outputs;
      inputs = f.inputs;
    }

pub based-board : (q : ℕ) (l : Live) (p : Parts) → FitBoard l p → FitBoard (based_live q l) p
unfolding based_live
based-board q l p f =
    record {
      live = based-live q l f.live;
      parts = f.parts;
      counts = f.counts;
      outputs = f.outputs;
      inputs = f.inputs;
    }

affected-board : (e : Effect) (l : Live) (p : Parts) → FitBoard l p → FitBoard (affected_live e l) p
affected-board Nothing l p f = f
affected-board Reset l p f = reset-board l p f
affected-board (Based q) l p f = based-board q l p f
affected-board (Rung q) l p f = f

pub write-board : (l : Live) (p : Parts) → FitBoard l p → (offset width v : ℕ) → FitBoard (write_live l offset width v).live p
unfolding write_live
write-board l p f offset width v =
    let w = write_of l.registers offset width v in
    affected-board w.effect (with_registers w.registers l) p
    (board-with-registers l p f w.registers (write-fit l.registers f.live.registers offset width v))

module _ (p : Parts) (pw cw : List ℕ) where
  -- what an effect makes of the small state it makes of the card
  affected-in : (e : Effect) (l : Live) → affected e (card_in l p pw cw) ≡ card_in (affected_live e l) p pw cw
  unfolding reset_card based_card reset_live based_live
  affected-in Nothing l = refl
  affected-in Reset l = rw (jacks-reset l.fresh p.jacks)
  affected-in (Based q) l = refl
  affected-in (Rung q) l = refl

  pub write-in : (l : Live) (offset width v : ℕ)
      → write_card (card_in l p pw cw) offset width v
      ≡ record {
        answer = (write_live l offset width v).answer;
        rung = (write_live l offset width v).rung;
        card = card_in (write_live l offset width v).live p pw cw;
      }
  unfolding write_card write_live
  write-in l offset width v =
      let w = write_of l.registers offset width v in
      ap (λ (c : Card). record { answer = w.answer; rung = rung_of w.effect; card = c })
      (affected-in w.effect (with_registers w.registers l))

-- ---- power-up

pub power-board : (p : Parts) (len : ℕ) → FitParts p → FitBoard (board_of (card_of p len)).live p
power-board p len f = card-board (card_of p len) power-on-fit refl f

-- the lines are dropped, and nothing was taken
pub powered-dropped : (d : Description) (len : ℕ) → let l = (powered_board d len).board.live in
    (l.play_dropped ≡ true) × (l.capture_dropped ≡ true) × (l.queues ≡ replicate 4 no_counters)
unfolding powered_board powered_of
powered-dropped d len = by (lawful d) where
  by : (b : Bool)
      → let p : Powered =
      cond b (record { answer = done; card = card_of (parts_at_power d) len })
      (record { answer = bad_description; card = card_of no_parts 0 }) in
      (p.card.play_dropped ≡ true) × (p.card.capture_dropped ≡ true) × (p.card.queues ≡ replicate 4 no_counters)
  by true = (refl, refl, refl)
  by false = (refl, refl, refl)

-- ---- of a card that is passed as one

module _ (c : Card) (h : length c.parts.streams ≡ 6) where
  pub read_whole : (offset width : ℕ) → let n = read_live (live_of c) offset width in
      ◌≡◌
      {A = ReadAnswer}
      (record { answer = n.answer; value = n.value; card = card_in n.live c.parts c.play_words c.capture_words })
      (read_card c offset width)
  read_whole offset width =
      sym (read-in (live_of c) c.parts c.play_words c.capture_words refl offset width)
      ∙ ap (λ (d : Card). read_card d offset width) (whole c h)

  pub write-whole : (offset width v : ℕ) → let n = write_live (live_of c) offset width v in
      ◌≡◌
      {A = WriteAnswer}
      (record { answer = n.answer; rung = n.rung; card = card_in n.live c.parts c.play_words c.capture_words })
      (write_card c offset width v)
  write-whole offset width v =
      sym (write-in c.parts c.play_words c.capture_words (live_of c) offset width v)
      ∙ ap (λ (d : Card). write_card d offset width v) (whole c h)
