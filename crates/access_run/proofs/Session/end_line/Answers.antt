-- What the bytes collected read as is done on the card and answered; the next line starts empty.
use Rattle.std.proofs.Common.{refl}
use Rattle.decimal.proofs.Writing.{put_as}
use Rattle.access_run.proofs.Laws.{line-answer, line-session}
use Rattle.access_run.proofs.Session.end_line.Goals as goal

pub returns : goal.returns
returns c =
    let s = c.args.self.now in
    let acted = c.acted-acted.ensures in (
      record {
        session = line-session s _ _ _ refl refl acted.0 _ c.new-self.ensures;
        text = put_as (line-answer s _ _ _ refl refl acted.0) c.put_answer.ensures.0;
        fit = acted.1;
      },
      c.put_answer.ensures.1,
    )
