-- A line that is long enough, with a room that is not too wide. Assumes nothing.
use Rattle.std.proofs.Common.{◌≡◌, ◌∙◌}
use Rattle.base.specs.Bytes.{number_at}
use Rattle.body_cases.proofs.BodyLaws.{lay_laid}
use Rattle.body_cases.proofs.answering.lay.Goals as goal

pub returns : goal.returns
returns c =
    let s = c.args.s.now in
    let r = c.new-r.ensures in
    let n : c.from-room.result ≡ number_at s 0 2 = c.from-room.ensures ∙ rw (← r.src, ← r.at) c.u16.ensures in
    let a : c.u8.result ≡ number_at s 2 1 = rw (← r.src, ← c.at.ensures.src, ← c.at.ensures.at) c.u8.ensures in
    lay_laid s _ c.if-s-lt3.false _ n _ _ c.if-room-gt-MOST.false c.pattern-buf.ensures a c.lay_into.ensures
