-- What the code's structs of a message stand for, and what a completion leaves.
use Rattle.std.specs.Prelude.{Option, None, Some, ◌≡◌, true, List, ℕ, ◌+◌, ◌≤◌}
use Rattle.counts.specs.declared.PageNumber.{PageNumber}
use Rattle.ranges.specs.Ranges.{ranges_of, Sound, all_inside}
use Rattle.ranges.specs.declared.Range.{Range}
use Rattle.ring.specs.Rules.{Completion, base_of, next_of, posted_of, interrupts}
use Rattle.registers.specs.Map.{size_of}
use Rattle.device.specs.Device as rules
use Rattle.device.specs.Transfer.{status_in_reply, used_length}
use Rattle.message.specs.declared.Direction.{Direction}
use Rattle.message.specs.declared.Direction.TheVariants.{Output, Input}
use Rattle.message.specs.declared.Form.{Form}
use Rattle.message.specs.declared.Form.TheVariants.{WellFormed, Refused, Silent, Unwalked}
use Rattle.message.specs.declared.Taken.{Taken}
use Rattle.message.specs.declared.Virtqueue.{Virtqueue}

abbrev pub direction_of : Direction → rules.Direction
direction_of Output = rules.output
direction_of Input = rules.input

-- a stream's queue as the guest laid it out; the same for a direction that the caller knows
abbrev pub virtqueue_as : rules.Direction → Virtqueue → rules.Virtqueue
virtqueue_as d q = record { direction = d; page = q.page; negotiated = q.indirect; latency = q.latency }

abbrev pub virtqueue_in : Virtqueue → rules.Virtqueue
virtqueue_in q = virtqueue_as (direction_of q.direction) q

abbrev pub form_in : Form → rules.Form
form_in WellFormed = rules.well_formed
form_in Refused = rules.refused
form_in Silent = rules.silent
form_in (Unwalked f) = rules.unwalked f

-- a chain that was taken, its ranges in the words of its list
abbrev pub taking_in : List ℕ → Taken → rules.Taking
taking_in ws t = record { head = t.head.0; request = ranges_of ws t.request; reply = ranges_of ws t.reply; form = form_in t.form }

-- what holds of a chain that was taken: its sides are sound and bounded as the walk left them, and inside memory where it is
-- well-formed
pub record FitTaken (len : ℕ) (ws : List ℕ) (t : Taken) : Type 0 where
  pub request : Sound ws t.request
  pub reply : Sound ws t.reply
  pub few : t.request.count + t.reply.count ≤ 34
  pub short-request : t.request.bytes ≤ 1048576
  pub short-reply : t.reply.bytes ≤ 1048576
  pub request-inside : t.form ≡ WellFormed → all_inside len (ranges_of ws t.request) ≡ true
  pub reply-inside : t.form ≡ WellFormed → all_inside len (ranges_of ws t.reply) ≡ true

-- the length of a used entry whose status is written
abbrev pub answered_length : rules.Direction → ℕ → ℕ
answered_length d recorded = used_length d (Some 0) recorded

-- one completion: status, used element and index, and whether an interrupt is wanted
unfoldable pub answered_of : rules.Direction → List ℕ → PageNumber → ℕ → ℕ → List Range → Option ℕ → ℕ → ℕ → Completion
answered_of d m page completed head reply status latency recorded =
    let after : List ℕ =
    posted_of (status_in_reply status latency reply m) (base_of page) (size_of (rules.queue_number d)) completed head
    (used_length d status recorded) in
    record { memory = after; completed = next_of completed; interrupt = interrupts after (base_of page) (size_of (rules.queue_number d)) }
