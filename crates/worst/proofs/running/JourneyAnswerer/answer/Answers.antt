use Rattle.std.proofs.Common.{◌++◌, ap, ◌∙◌}
use Rattle.console.specs.Speaking.{spoken}
use Rattle.worst.specs.declared.reading.Journey.{Journey}
use Rattle.worst.specs.Reading.{reading, read_line}
use Rattle.worst.proofs.CountLaws.{count_shown}
use Rattle.worst.proofs.running.JourneyAnswerer.answer.Goals as goal

pub returns : goal.returns
returns c = λ chars lines e.
    ap (λ (h : Journey). c.args._page.now ++ spoken reading h lines)
    (c.read_line.ensures ∙ ap (read_line c.args.self.now) (count_shown c.args.line.now chars e))
