use Rattle.std.proofs.Common.{◌≡◌, List, ◌++◌, ℕ, ap, ◌∙◌}
use Rattle.console.specs.Lines.{lines_of}
use Rattle.console.specs.Programs.{transcript}
use Rattle.console.specs.Speaking.{spoken}
use Rattle.console.proofs.HandingLaws.{printed_as, begun_as}
use Rattle.console.proofs.SpeakingLaws.{transcript_spoken}
use Rattle.framing.specs.Running.{answering}
use Rattle.framing.proofs.running.run.Goals as goal

pub returns : goal.returns
returns g c =
    let q : (xs : List ℕ) → c.new.result ++ spoken answering 0 (lines_of xs) ≡ transcript answering xs
    = λ xs. ap (λ (t : List ℕ). t ++ spoken answering 0 (lines_of xs)) c.new.ensures ∙ transcript_spoken answering xs in
    record { ok = printed_as c.run.result _ _ q _ _ _ _ c.run.ensures.ok; err = begun_as c.run.result _ _ q _ _ _ _ c.run.ensures.err }
