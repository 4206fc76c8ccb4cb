-- DATL is a byte, so the application data of a frame that fits have room in the array. Assumes nothing.
use Rattle.std.proofs.Common.{ℕ, List, length, sym, ap, ◌∙◌, arith}
use lib.Seq.{length-take-le}
use Rattle.laying.specs.Laying.{line_of, laid_of, left_by, laid_answer}
use Rattle.frame_kinds.specs.Kinds.{app_of}
use Rattle.frame_kinds.specs.Sized.{Sized}
use Rattle.frame_kinds.proofs.AppRuns.{stored_back}
use Rattle.frame_kinds.proofs.Typed.{typed}
use Rattle.frame_writing.proofs.WritingLaws.{app_bounds, written_laid}
use Rattle.frame_writing.proofs.write_frame.Goals as goal

pub put_app-n-requires : goal.put_app-n-requires
put_app-n-requires c =
    let sized : Sized c.args.f = typed c.args.f _ c.well_formed.1.1.0 in
    (app_bounds c.args.addr c.args.f c.args.«data».now sized (sym c.fits_data.ensures ∙ c.if-not-fits_data.false)).1

pub slice_bounds-app-end : goal.slice_bounds-app-end
slice_bounds-app-end c =
    let sized : Sized c.args.f = typed c.args.f _ c.well_formed.1.1.0 in
    let most = (app_bounds c.args.addr c.args.f c.args.«data».now sized (sym c.fits_data.ensures ∙ c.if-not-fits_data.false)).1 in
    omega (arith, c.put_app-n.ensures.length, c.put_app-n.auto.dst, most)

pub slice_bounds-lay-end : goal.slice_bounds-lay-end
slice_bounds-lay-end c =
    let sized : Sized c.args.f = typed c.args.f _ c.well_formed.1.1.0 in
    let most = (app_bounds c.args.addr c.args.f c.args.«data».now sized (sym c.fits_data.ensures ∙ c.if-not-fits_data.false)).1 in
    sym (length-take-le _ _ (omega (arith, c.put_app-n.ensures.length, c.put_app-n.auto.dst, most)))

pub returns-clause-written : goal.returns-clause-written
returns-clause-written c =
    let a = c.args in
    let p = c.put_app-n.ensures in
    let sized : Sized a.f = typed a.f _ c.well_formed.1.1.0 in
    let free = sym c.reserved.ensures ∙ c.if-reserved.false in
    let fit = sym c.fits_data.ensures ∙ c.if-not-fits_data.false in
    let most = (app_bounds a.addr a.f a.«data».now sized fit).1 in
    c.lay.ensures.laid
    ∙ ap (laid_of (length a.buf.now) a.addr) (stored_back _ _ (app_of a.f a.«data».now) _ p.length p.stored most)
    ∙ written_laid _ _ _ _ free fit sized

pub returns-clause-left : goal.returns-clause-left
returns-clause-left c =
    let a = c.args in
    let p = c.put_app-n.ensures in
    let sized : Sized a.f = typed a.f _ c.well_formed.1.1.0 in
    let most = (app_bounds a.addr a.f a.«data».now sized (sym c.fits_data.ensures ∙ c.if-not-fits_data.false)).1 in
    c.lay.ensures.left
    ∙ ap (λ (zs : List ℕ). left_by c.lay.result (line_of a.addr zs) a.buf.now) (stored_back _ _ (app_of a.f a.«data».now) _ p.length p.stored most)

pub returns-clause-answer : goal.returns-clause-answer
returns-clause-answer c = ap laid_answer (returns-clause-written c)
