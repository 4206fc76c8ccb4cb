use Rattle.std.proofs.Common.{rules, refl, sym, ◌∙◌, ap, arith, ◌+◌, ◌-◌, ◌≤◌, length}
use borrow.Author.Tests.{leb-true}
use borrow.Rule.Slice.PartMut.{put_mid}
use Rattle.text.proofs.PuttingLaws.{put_fits, put_not}
use Rattle.base.proofs.Sets.{put_mid_sets}
use Rattle.text.proofs.putting.put_text.Goals as goal

pub returns-then-not-has_room : goal.returns-then-not-has_room
returns-then-not-has_room c = put_not c.args.buf.now c.args.at c.args.text.now (sym c.has_room.ensures ∙ search rules)

pub returns : goal.returns
returns c =
    let a = c.args in
    let t = sym c.has_room.ensures ∙ c.if-not-has_room.false in
    let h : a.at + length a.text.now ≤ length a.buf.now = leb-true _ _ t in
    let n = a.at + length a.text.now - a.at in
    put_fits a.buf.now a.at a.text.now _ _ t refl
    (ap (put_mid a.at n a.buf.now) c.copy_from_slice.ensures.after ∙ put_mid_sets a.at n a.buf.now a.text.now (omega arith) (omega arith))
