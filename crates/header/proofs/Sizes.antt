-- The sizes that include/wekshurag.h asserts of its structs are those of the card's: c/size_test.sh compares the two texts.
use mathlib.Core.Path.{◌≡◌, refl}
use prog.Memory.{size, align}
use Rattle.live.proofs.Board.TheLaws as Board
use Rattle.live.proofs.Live.TheLaws as Live
use Rattle.description.proofs.Description.TheLaws as Description
use Rattle.wekshurag.proofs.ReadResult.TheLaws as ReadResult
use Rattle.wekshurag.proofs.WriteResult.TheLaws as WriteResult
use Rattle.wekshurag.proofs.CallResult.TheLaws as CallResult

pub wekshurag-live : size Live.mir ≡ 96
wekshurag-live = refl

pub wekshurag-live-align : align Live.mir ≡ 8
wekshurag-live-align = refl

pub wekshurag-board : size Board.mir ≡ 672
wekshurag-board = refl

pub wekshurag-board-align : align Board.mir ≡ 8
wekshurag-board-align = refl

pub wekshurag-description : size Description.mir ≡ 384
wekshurag-description = refl

pub wekshurag-read-result : size ReadResult.mir ≡ 8
wekshurag-read-result = refl

pub wekshurag-write-result : size WriteResult.mir ≡ 2
wekshurag-write-result = refl

pub wekshurag-result : size CallResult.mir ≡ 16
wekshurag-result = refl
