use Rattle.std.proofs.Common.{◌≡◌, List, ◌++◌, ℕ, ap₂, ◌∙◌}
use Rattle.console.specs.Lines.{lines_of}
use Rattle.console.specs.Speaking.{spoken}
use Rattle.console.proofs.HandingLaws.{printed_as, begun_as}
use Rattle.console.proofs.SpeakingLaws.{transcript_spoken}
use Rattle.load.specs.Cycles.{load_text}
use Rattle.load.specs.Loading.{loading}
use Rattle.load.specs.declared.cycles.Loading.{Loading}
use Rattle.load.proofs.Whole.{input_load}
use Rattle.load.proofs.running.run.Goals as goal

pub returns : goal.returns
returns g c =
    let q : (xs : List ℕ) → c.new.result ++ spoken loading c.new-loading.result (lines_of xs) ≡ load_text (lines_of xs)
    = λ xs.
    ap₂ (λ (t : List ℕ) (p : Loading). t ++ spoken loading p (lines_of xs)) c.new.ensures c.new-loading.ensures
    ∙ transcript_spoken loading xs ∙ input_load xs in
    record { ok = printed_as c.run.result _ _ q _ _ _ _ c.run.ensures.ok; err = begun_as c.run.result _ _ q _ _ _ _ c.run.ensures.err }
