-- Any list of calls from the card that power-up gives, by the rules and by the account. `Tied` is the claim; the theorem is `tied` of
-- proofs/Tied.
use Rattle.std.specs.Prelude.{◌≡◌, List, [], ◌∷◌, ℕ}
use Rattle.description.specs.declared.Description.{Description}
use Rattle.card.specs.declared.Card.{Card}
use Rattle.meaning.specs.Card.{device_of}
use Rattle.rules.specs.Calls.{Told}
use Rattle.rules.specs.Claim.{shown_as}
use Rattle.queue_lines.specs.Claim.{queue_of}
use Rattle.line_calls.specs.Calls.{Call}
use Rattle.line_calls.specs.Claim.{card, account, start, told_by, after}
use Rattle.line_calls.specs.Streams.{streams_of, streams_in}
use Rattle.calls.specs.Calls.{Does}

-- calls one after the other, each doing what `call` promises on the card that the one before it left; what they told, and the last
-- card. Nothing is said of the memory lent: the guest may have rewritten it in between
pub data Runs : Card → List Call → List Told → Card → Type 0 where
  none : {c : Card} → Runs c [] [] c
  next :
      {c n last : Card} {k : Call} {t : Told} {ks : List Call} {ts : List Told}
      → Does c k t n
      → Runs n ks ts last
      → Runs c (k ∷ ks) (t ∷ ts) last

pub record Tied (d : Description) (len : ℕ) (cs : List Call) (ts : List Told) (last : Card) : Type 0 where
  -- each answer, value, queue rung, count, handed byte, host buffer and lent memory is the rules', and the account's
  pub told :
      let n = streams_of d in
      ts ≡ told_by n (card n) (start n (card n) d len) cs
  pub account-told :
      let n = streams_of d in
      ts ≡ told_by n (account n) (start n (account n) d len) cs
  -- the last card is the rules', and what the account stands for
  pub state :
      let n = streams_of d in
      device_of last ≡ after n (card n) (start n (card n) d len) cs
  pub stands :
      let n = streams_of d in
      device_of last ≡ shown_as queue_of (after n (account n) (start n (account n) d len) cs)
  -- it has the streams that were described
  pub streams : streams_in last.parts ≡ streams_of d
