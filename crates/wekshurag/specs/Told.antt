-- What a call's result tells beside the struct that the call left: the answer, its number and the queue that broke side by side.
use Rattle.live.specs.declared.Board.{Board}
use Rattle.live.specs.declared.Live.{Live}
use Rattle.entries.specs.declared.BoardAnswer.{BoardAnswer}
use Rattle.pcm.specs.declared.TransferAnswer.{TransferAnswer}
use Rattle.wekshurag.specs.declared.CallResult.{CallResult}

abbrev pub told : CallResult → Live → TransferAnswer
told r l = record { answer = record { number = r.answer; queue = r.queue }; count = r.count; live = l }

abbrev pub told_board : CallResult → Board → BoardAnswer
told_board r b = record { answer = r.answer; queue = r.queue; count = r.count; board = b }
