-- The session's small state stays fit, and the buffers keep their lengths; a block more is read and told of at each turn.
use Rattle.std.proofs.Common.{◌≡◌, ℕ, List, [], ◌++◌, sym, ap, ◌∙◌, subst, arith, length-take-le, take, ne_eqb, append-nil}
use mathlib.Core.List.{foldl}
use Rattle.std.specs.Io.KnownBytes.{Appends, Consumes}
use Rattle.std.proofs.KnownBytes.{Appends-nil, Appends-trans, Consumes-nil, Consumes-trans}
use Rattle.std.specs.declared.option.Option.{Option}
use Rattle.decimal.proofs.Writing.{put_back}
use Rattle.access_run.specs.Answers.{printed}
use Rattle.access_run.specs.Session.{first_session, fed, block_text, rest_text, taken_text}
use Rattle.access_run.specs.declared.Session.{Session}
use Rattle.access_run.proofs.Whole.{session-told, block-more, fed-more}
use Rattle.access_run.proofs.run.Invariants.{Going}
use Rattle.access_run.proofs.run.Goals as goal

going-first : (l w : Option (List ℕ)) (s : Session) → s ≡ first_session → Going l l w w s
unfolding block_text
going-first l w s e = record { read = []; taken = Consumes-nil l; told = Appends-nil w; session = e }

module _ {l₀ l w₀ w : Option (List ℕ)} {s : Session} (b : Going l₀ l w₀ w s) (l' w' : Option (List ℕ)) (count : ℕ) (block : List ℕ)
    (c : Consumes l l' (take count block)) (t : Appends w w' (taken_text s count block)) where
  going-more : (s' : Session) → (count ≡ 0 → ⊥) → s' ≡ foldl fed s (take count block) → Going l₀ l' w₀ w' s'
  unfolding taken_text
  going-more s' some e =
      let more = take count block in
      let told : Appends w w' (block_text s more) = rw (ne_eqb _ 0 some) at t in
      record {
        read = b.read ++ more;
        taken = Consumes-trans _ _ _ _ _ b.taken c;
        told = rw (block-more b.read more, ← b.session) (Appends-trans _ _ _ _ _ b.told told);
        session = e ∙ ap (λ x. foldl fed x more) b.session ∙ sym (fed-more b.read more);
      }

  going-end : count ≡ 0 → (read : List ℕ) × Consumes l₀ l' read × Appends w₀ w' (printed read)
  unfolding taken_text
  going-end none =
      let c' : Consumes l l' [] = rw none at c in
      let t' : Appends w w' (rest_text s) = rw none at t in
      let all = Appends-trans _ _ _ _ _ b.told (subst (λ x. Appends w w' (rest_text x)) b.session t') in (
        b.read,
        subst (Consumes l₀ l') (append-nil b.read) (Consumes-trans _ _ _ _ _ b.taken c'),
        subst (Appends w₀ w') (session-told b.read) all,
      )

pub reads-init : goal.reads-init
reads-init g c = (
  c.first-session.ensures.1,
  c.buffer-block.ensures,
  c.text_buffer-out.ensures,
  going-first _ _ _ c.first-session.ensures.0,
)

pub take_block-taken-requires : goal.take_block-taken-requires
take_block-taken-requires g c =
    let l = c.reads.invariant in
    (l.0, omega (arith, l.1, l.2))

pub slice_bounds-write_all-end : goal.slice_bounds-write_all-end
slice_bounds-write_all-end g c = sym (length-take-le _ _ c.take_block-taken.ensures.told.1)

pub returns-then-taken-eq0 : goal.returns-then-taken-eq0
returns-then-taken-eq0 g c =
    let l = c.reads.invariant in
    let t = c.take_block-taken in
    let told = t.ensures.told in
    let out = put_back told.0.text (omega (arith, told.0.text.behind, told.1, t.auto.out)) in
    let wrote = subst (Appends _ _) out (c.write_all.ensures c.if-not-write_all.false) in
    λ _. going-end l.3 _ _ t.result.count t.new.block t.ensures.read wrote c.if-taken-eq0.true

pub reads-preserved : goal.reads-preserved
reads-preserved g c =
    let l = c.reads.invariant in
    let t = c.take_block-taken in
    let told = t.ensures.told in
    let out = put_back told.0.text (omega (arith, told.0.text.behind, told.1, t.auto.out)) in
    let wrote = subst (Appends _ _) out (c.write_all.ensures c.if-not-write_all.false) in (
      told.0.fit,
      l.1 ∙ sym t.auto.block,
      l.2 ∙ sym t.auto.out,
      going-more l.3 _ _ t.result.count t.new.block t.ensures.read wrote _ c.if-taken-eq0.false told.0.session,
    )
