-- A kind and a room that are not too large, and a line that is long enough for its fields. Assumes nothing.
use Rattle.std.proofs.Common.{◌≡◌, ◌∙◌}
use Rattle.base.specs.Bytes.{number_at}
use Rattle.frame_cases.proofs.FrameLaws.{write_written}
use Rattle.frame_cases.proofs.answering.write.Goals as goal

pub returns : goal.returns
returns c =
    let s = c.args.s.now in
    let r = c.new-r.ensures in
    let n : c.from-room.result ≡ number_at s 0 2 = c.from-room.ensures ∙ rw (← r.src, ← r.at) c.u16.ensures in
    let k : c.u8-kind.result ≡ number_at s 3 1 = rw (← r.src, ← c.at.ensures.src, ← c.at.ensures.at) c.u8-kind.ensures in
    let a : c.u8.result ≡ number_at s 2 1 = rw (← r.src, ← c.at-2.ensures.src, ← c.at-2.ensures.at) c.u8.ensures in
    write_written s _ _ _ n k c.if-kind-room.false c.fields_len-from.result _ _ _ c.fields_len-from.ensures.len c.if-s-from.false a c.frame_at-f.ensures c.pattern-buf.ensures c.write_into.ensures
