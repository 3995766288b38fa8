-- What a step of reading answers; what a request for information asks, and what it comes to (01, Control messages).
use Rattle.std.specs.Prelude.{◌≡◌, ⊤, Option, Some, None, Bool, cond, List, ℕ}
use Rattle.reply.specs.Reply.{completion_of}
use Rattle.reply.specs.declared.Pending.{Pending}
use Rattle.ring.specs.Rules.{completion}
use Rattle.ring.specs.declared.Posted.{Posted}
use Rattle.rules.specs.Control as rules
use Rattle.requests.specs.declared.Query.{Query}

-- the answer of a step: it passes or it does not
abbrev pub checked : Bool → Option ⊤
checked b = cond b (Some tt) None

-- the query in a request's bytes
abbrev pub query_in : List ℕ → Query
query_in request = record { start = rules.word request 1; count = rules.word request 2; size = rules.word request 3 }

-- a rule's request leaves the parts as they are, and its message is completed with the rule's bytes
pub record Replies (ws : List ℕ) (pending : Pending) (parts : rules.Parts) (rule : rules.Served) (r : Posted) (before after : List ℕ)
    : Type 0 where
  pub bytes : List ℕ
  pub same : rule ≡ rules.Reply parts bytes
  pub completes : completion after r ≡ completion_of ws pending bytes before
