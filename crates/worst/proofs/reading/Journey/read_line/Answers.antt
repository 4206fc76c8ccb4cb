use Rattle.std.proofs.Common.{rules, arith, sym, ap, ◌∙◌}
use Rattle.worst.specs.Reading.{with_line}
use Rattle.worst.proofs.ReadingLaws.{is_counting_lem, read_line_lem}
use Rattle.worst.proofs.reading.Journey.read_line.Goals as goal

pub returns : goal.returns
returns c =
    let j = c.args.self.now in
    c.with_line.ensures
    ∙ ap (with_line j.kept) c.count_of.ensures
    ∙ read_line_lem j _ (is_counting_lem j.work (sym c.is_counting.ensures ∙ search rules)) (omega (arith, c.if-self-ge-MOST_LINES.false))
