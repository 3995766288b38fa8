-- What the completion of a control message leaves, and what a request comes to: memory, the parts of the card and the used entry, all
-- of it, as the rules have it (01, Completing and Control messages).
use Rattle.std.specs.Prelude.{◌≡◌, List, ℕ, ◌<◌, length}
use Rattle.std.proofs.lemmas.List.Edits.{sets}
use Rattle.ranges.specs.Ranges.{ranges_of, places, put_at}
use Rattle.registers.specs.Map.{size_of}
use Rattle.ring.specs.Rules.{Completion, post_of}
use Rattle.ring.specs.declared.Posted.{Posted}
use Rattle.card.specs.Fit.{FitParts}
use Rattle.card.specs.declared.Parts.{Parts}
use Rattle.rules.specs.Parts.{parts_of}
use Rattle.rules.specs.Control as rules
use Rattle.device.specs.Numbers.{control_queue}
use Rattle.reply.specs.declared.Kind.TheVariants as kinds
use Rattle.reply.specs.declared.Pending.{Pending}
use Rattle.reply.specs.declared.Served.{Served}

-- ---- completing

-- the used entry of a message
unfoldable pub closed_of : Pending → ℕ → List ℕ → Completion
closed_of p len m = post_of m p.page (size_of control_queue) p.completed p.head len

-- the addresses of the reply's bytes, its ranges in these words
abbrev pub reply_places : List ℕ → Pending → List ℕ
reply_places ws p = places (ranges_of ws p.reply)

-- the reply's bytes, then the used entry
abbrev pub completion_of : List ℕ → Pending → List ℕ → List ℕ → Completion
completion_of ws p bytes m = closed_of p (length bytes) (put_at m (reply_places ws p) bytes)

-- ---- what a request comes to

-- memory after it, and what is served
pub record Outcome : Type 0 where
  pub memory : List ℕ
  pub served : Served

abbrev pub outcome : List ℕ → Served → Outcome
outcome m r = record { memory = m; served = r }

abbrev pub posted_by : Completion → Posted
posted_by k = record { completed = k.completed; interrupt = k.interrupt }

-- these bytes are the reply, these the parts after it
abbrev pub completed_with : List ℕ → Pending → Parts → List ℕ → List ℕ → Outcome
completed_with ws p parts bytes m =
    let k : Completion = completion_of ws p bytes m in
    outcome k.memory (record { parts = parts; kind = kinds.Completed (posted_by k) })

-- the parts with the rules' jacks and streams; what stands past the counts stays
abbrev pub parts_with : rules.Parts → Parts → Parts
parts_with r p =
    record {
      jack_count = p.jack_count;
      map_count = p.map_count;
      stream_count = p.stream_count;
      output_count = p.output_count;
      jacks = sets p.jacks 0 r.jacks;
      maps = p.maps;
      streams = sets p.streams 0 r.streams;
    }

-- all that a request leaves; "If the queue breaks, the control message stays taken, uncompleted": at a Release nothing is changed yet
abbrev pub outcome_of : List ℕ → Pending → Parts → rules.Served → List ℕ → Outcome
outcome_of ws p parts (rules.Reply after bytes) m = completed_with ws p (parts_with after parts) bytes m
outcome_of ws p parts (rules.Release id) m = outcome m (record { parts = parts; kind = kinds.Release id })

-- the parts stand for those of the rule; a stream to be released is there
abbrev pub stand_for : rules.Served → Parts → Type 0
stand_for (rules.Reply after bytes) parts = parts_of parts ≡ after
stand_for (rules.Release id) parts = id < parts.stream_count

-- a request is served as a rule has it, over memory before and after
pub record Serves (ws : List ℕ) (pending : Pending) (parts : Parts) (rule : rules.Served) (r : Served) (before after : List ℕ)
    : Type 0 where
  pub whole : outcome after r ≡ outcome_of ws pending parts rule before
  pub stand : stand_for rule r.parts
  pub fit : FitParts r.parts
