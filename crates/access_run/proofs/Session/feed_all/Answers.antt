-- The invariant: what the rest of the bytes makes of the session so far is what all of them make of the first, and with its text
-- written the whole block's is. A byte leaves at most 63 bytes of text, so that there is room for the next.
use Rattle.std.proofs.Common.{◌<◌, ◌≤◌, length, sym, refl, ◌∙◌, arith}
use Rattle.decimal.proofs.Writing.{rest-first, rest_more, rest-none}
use Rattle.access_run.specs.Session.{fed}
use Rattle.decimal.proofs.Folds.{fold_more, fold_end}
use Rattle.access_run.proofs.Laws.{text-more, text-end}
use Rattle.access_run.proofs.Session.feed_all.Goals as goal

pub loop-b-init : goal.loop-b-init
loop-b-init c =
    record {
      inside = omega arith;
      long = refl;
      room = omega arith;
      fit = c.requires.0;
      session = refl;
      text = rest-first _ _ 0;
    }

pub feed-end-requires : goal.feed-end-requires
feed-end-requires c =
    (c.loop-b.invariant.fit, omega (arith, c.loop-b.invariant.room, c.loop-b.invariant.long, c.requires.1))

pub loop-b-preserved : goal.loop-b-preserved
loop-b-preserved c =
    let f = c.feed-end in
    let l = c.loop-b in
    let bytes = c.args.bytes.now in
    let more : l.b-index < length bytes = omega arith in
    record {
      inside = omega (arith, more);
      long = f.auto.out ∙ l.invariant.long;
      room = omega (arith, f.ensures.1, l.invariant.room);
      fit = f.ensures.0.fit;
      session = rw (f.ensures.0.session, ← (fold_more fed l.self bytes l.b-index more)) l.invariant.session;
      text = rw f.ensures.0.session (rest_more _ f.ensures.0.text (rw (text-more l.self bytes l.b-index more) at l.invariant.text));
    }

pub returns : goal.returns
returns c =
    let l = c.loop-b in
    let bytes = c.args.bytes.now in
    let all : length bytes ≤ l.b-index = omega arith in (
      record {
        session = sym (fold_end fed l.self bytes l.b-index all) ∙ l.invariant.session;
        text = rest-none (rw (text-end l.self bytes l.b-index all) at l.invariant.text);
        fit = l.invariant.fit;
      },
      omega (arith, l.invariant.room, l.invariant.long, c.requires.1),
    )
