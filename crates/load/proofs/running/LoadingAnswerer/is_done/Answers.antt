use borrow.Author.Tests.{leb-true}
use Rattle.console.proofs.SpeakingLaws.{quiet_spoken}
use Rattle.load.specs.Loading.{loading}
use Rattle.load.proofs.Whole.{quiet}
use Rattle.load.proofs.running.LoadingAnswerer.is_done.Goals as goal

pub returns : goal.returns
returns c = λ t lines. quiet_spoken loading _ (quiet _ (leb-true _ _ t)) lines
