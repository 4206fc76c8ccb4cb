-- What is copied is a run of stores. Assumes nothing.
use Rattle.std.proofs.Common.{refl, ap, ◌∙◌, arith, ◌+◌, ◌-◌, length}
use borrow.Rule.Slice.PartMut.{put_mid}
use Rattle.base.proofs.Sets.{put_mid_sets}
use Rattle.base.proofs.copy_at.Goals as goal

pub returns : goal.returns
returns c =
    let a = c.args in
    let n = a.from + length a.src.now - a.from in
    (refl, ap (put_mid a.from n a.dst.now) c.copy_from_slice.ensures.after ∙ put_mid_sets a.from n a.dst.now a.src.now (omega arith) (omega arith))
