-- Nine stores, one for each word.
use mathlib.Core.Path.{◌≡◌, refl}
use mathlib.Core.List.{List}
use Prim.Native.Nat.{ℕ, ◌%◌}
use native.Mathlib.Omega.{arith}
use lib.ListN.{length, set}
use Rattle.marks.specs.Marks.{message_in, line_in}
use Rattle.marks.proofs.Laws.{of-eleven}
use Rattle.marks.proofs.store.Goals as goal

-- the words after the stores
abbrev stored : List ℕ → (a b d e f g h i j : ℕ) → List ℕ
stored ws a b d e f g h i j = set (set (set (set (set (set (set (set (set ws 0 a) 1 b) 2 d) 3 e) 4 f) 5 g) 6 h) 7 i) 8 j

abbrev Laid : (a b d e f g h i j : ℕ) → List ℕ → Type 0
Laid a b d e f g h i j ws =
    (message_in (stored ws a b d e f g h i j)
    ≡ record {
      count = a % 65536;
      head = record { 0 = b % 65536 };
      done = d % 4294967296;
      request = record { first = e % 4294967296; count = f % 4294967296; bytes = g % 4294967296 };
      reply = record { first = h % 4294967296; count = i % 4294967296; bytes = j % 4294967296 };
    })
    × (line_in (stored ws a b d e f g h i j) ≡ line_in ws)

laid : (ws : List ℕ) → length ws ≡ 11 → (a b d e f g h i j : ℕ) → Laid a b d e f g h i j ws
unfolding message_in line_in
laid ws l a b d e f g h i j = of-eleven (Laid a b d e f g h i j) (λ x0 x1 x2 x3 x4 x5 x6 x7 x8 x9 x10. (refl, refl)) ws l

pub returns : goal.returns
returns c =
    let m = c.args.m in
    let l =
    laid c.args.w.now c.requires m.count m.head.0 m.done m.request.first m.request.count m.request.bytes
    m.reply.first m.reply.count m.reply.bytes in
    let count : m.count % 65536 ≡ m.count = omega arith in
    let head : m.head.0 % 65536 ≡ m.head.0 = omega arith in
    let done : m.done % 4294967296 ≡ m.done = omega arith in
    let request-first : m.request.first % 4294967296 ≡ m.request.first = omega arith in
    let request-count : m.request.count % 4294967296 ≡ m.request.count = omega arith in
    let request-bytes : m.request.bytes % 4294967296 ≡ m.request.bytes = omega arith in
    let reply-first : m.reply.first % 4294967296 ≡ m.reply.first = omega arith in
    let reply-count : m.reply.count % 4294967296 ≡ m.reply.count = omega arith in
    let reply-bytes : m.reply.bytes % 4294967296 ≡ m.reply.bytes = omega arith in
    rw c.number.ensures (
      rw (count, head, done, request-first, request-count, request-bytes, reply-first, reply-count, reply-bytes) at l.0,
      l.1,
    )
