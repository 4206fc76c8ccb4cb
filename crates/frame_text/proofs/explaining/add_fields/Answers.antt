use Rattle.std.proofs.Common.{◌∙◌, sym}
use Rattle.frame_text.specs.Explained.{put_field}
use Rattle.frame_text.proofs.ExplainingLaws.{put_turn}
use Rattle.frame_text.proofs.explaining.add_fields.Goals as goal

pub loop-i-preserved : goal.loop-i-preserved
unfolding put_field
loop-i-preserved c =
    rw (c.add_number.ensures, c.add-in-loop-i.ensures, c.add.ensures)
    (sym (put_turn c.args.fields.now c.loop-i.i c.args.values c.loop-i.text _ c.loop-i-test.true) ∙ c.loop-i.invariant)
