use Rattle.std.proofs.Common.{◌≡◌, List, ◌++◌, ℕ, ap₂, ◌∙◌}
use Rattle.console.specs.Lines.{lines_of}
use Rattle.console.specs.Programs.{transcript}
use Rattle.console.specs.Speaking.{spoken}
use Rattle.console.proofs.HandingLaws.{printed_as, begun_as}
use Rattle.console.proofs.SpeakingLaws.{transcript_spoken}
use Rattle.script.specs.Playing.{scripted}
use Rattle.script.specs.declared.playing.Player.{Player}
use Rattle.script.proofs.running.run.Goals as goal

pub returns : goal.returns
returns g c =
    let view = c.args.view in
    let q : (xs : List ℕ) → c.header.result ++ spoken (scripted view) c.new.result (lines_of xs) ≡ transcript (scripted view) xs
    = λ xs. ap₂ (λ (t : List ℕ) (p : Player). t ++ spoken (scripted view) p (lines_of xs)) c.header.ensures c.new.ensures ∙ transcript_spoken (scripted view) xs in
    record { ok = printed_as c.run.result _ _ q _ _ _ _ c.run.ensures.ok; err = begun_as c.run.result _ _ q _ _ _ _ c.run.ensures.err }
