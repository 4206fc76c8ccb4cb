use Rattle.std.proofs.Common.{rules, arith, sym, ap, ◌∙◌, length}
use borrow.Author.Tests.{leb-true}
use Rattle.text.specs.Putting.{hex_text}
use Rattle.text.proofs.PuttingLaws.{put_fits, put_not, text_length, text_end, text_place, text_contents}
use Rattle.text.proofs.putting.put_bytes.Goals as goal

pub returns-then-not-has_room : goal.returns-then-not-has_room
returns-then-not-has_room c = put_not c.args.buf.now c.args.at (hex_text c.args.bytes.now) (rw text_length (sym c.has_room.ensures ∙ search rules))

pub store_digits-requires : goal.store_digits-requires
store_digits-requires c =
    let l = c.loop-b in
    let s = c.args.bytes.now in
    let place = text_place s l.b-index l.to _ c.loop-b-test.true l.invariant.place in
    let room = leb-true _ _ (sym c.has_room.ensures ∙ c.if-not-has_room.false) in
    omega (arith, room, text_length s, l.invariant.same, place)

pub loop-b-preserved : goal.loop-b-preserved
loop-b-preserved c =
    let l = c.loop-b in
    let s = c.args.bytes.now in
    let h = c.loop-b-test.true in
    record {
      same = search rules;
      place = text_place s l.b-index l.to _ h l.invariant.place;
      whole = rw c.store_digits.ensures (text_contents s l.buf _ l.b-index l.to h l.invariant.whole);
    }

pub returns : goal.returns
returns c =
    let l = c.loop-b in
    let a = c.args in
    let z = text_end a.bytes.now l.b-index (search rules) in
    put_fits a.buf.now a.at (hex_text a.bytes.now) _ _ (rw text_length (sym c.has_room.ensures ∙ search rules)) (omega (arith, l.invariant.place, ap length z)) (rw z at l.invariant.whole)
