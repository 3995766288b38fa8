-- What a control request's code and first bytes tell (01, Control messages).
use Rattle.std.specs.Prelude.{◌≡◌, List, ℕ, Result, Ok, Err}
use Rattle.line_calls.specs.Calls.{served}
use Rattle.line_calls.specs.Streams.{Streams, direction_number}
use Rattle.reply.specs.declared.Pending.{Pending}
use Rattle.requests.specs.Requests.{Replies}
use Rattle.ring.specs.declared.Posted.{Posted}
use Rattle.rules.specs.Control as rules
use Rattle.rules.specs.declared.Asked.{Asked}
use Rattle.rules.specs.declared.Asked.TheVariants.{Information, Remap, Pcm}
use Rattle.control.specs.declared.Change.{Change}
use Rattle.control.specs.declared.Change.TheVariants as change
use Rattle.control.specs.declared.Asking.{Asking}
use Rattle.control.specs.declared.Asking.TheVariants.{Informs, Changes}

abbrev pub asking_of : Asked → Asking
asking_of (Information l) = Informs l
asking_of Remap = Changes change.Remap
asking_of (Pcm c) = Changes (change.Pcm c)

-- what a request that may change the parts comes to, by its first bytes
abbrev pub changed_by : Change → rules.Parts → List ℕ → rules.Served
changed_by change.Remap p bs = rules.remap p bs
changed_by (change.Pcm c) p bs = rules.commanded p c bs

-- what a request comes to, whatever the streams, the parts and the room for the reply: one that is refused is completed; of any other its
-- first bytes tell
abbrev pub Reads : List ℕ → Pending → List ℕ → List ℕ → List ℕ → List ℕ → Result Asking Posted → Type 0
Reads ws pending request bs m m' (Err posted) =
    (n : Streams) (p : rules.Parts) (room : ℕ) → Replies ws pending p (served n p request room) posted m m'
Reads ws pending request bs m m' (Ok (Informs l)) =
    (m' ≡ m)
    × ((n : Streams) (p : rules.Parts) (room : ℕ)
    → served n p request room ≡ rules.inform_by (rules.items_by (direction_number n)) p l bs room)
Reads ws pending request bs m m' (Ok (Changes asked)) =
    (m' ≡ m) × ((n : Streams) (p : rules.Parts) (room : ℕ) → served n p request room ≡ changed_by asked p bs)
