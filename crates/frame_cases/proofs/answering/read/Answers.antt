-- A frame that was read, or a body that was refused. Assumes nothing.
use Rattle.frame_cases.proofs.FrameLaws.{read_refused, read_valid}
use Rattle.frame_cases.proofs.answering.read.Goals as goal

pub returns-in-Ok : goal.returns-in-Ok
returns-in-Ok c =
    read_valid c.args.s.now _ _ _ _ c.in-Ok.ensures.frame
    (rw (
      c.add-in-Ok.ensures,
      c.bytes.ensures,
      c.data_len.ensures,
      c.at-data.ensures.src,
      c.at-data.ensures.at,
      c.new.ensures.src,
      c.data_place.ensures.is,
      c.add_frame.ensures,
      c.add.ensures,
      c.new-t.ensures,
    ))

pub returns-in-Err : goal.returns-in-Err
returns-in-Err c = read_refused c.args.s.now _ _ _ c.in-Err.ensures.frame c.number.ensures (rw (c.add-in-Err.ensures, c.new-t.ensures))
