-- Where no call stands the bytes are passed over; else the call that was laid down there is made. Assumes nothing.
use Rattle.std.proofs.Common.{rules, ◌+◌, ◌^◌, ◌<◌, length, arith, refl, ◌∙◌}
use lib.Seq.{length-take-le}
use Rattle.runs.specs.CallBytes.{heading_size}
use Rattle.runs.proofs.CallBytesLaws.{passed_over, part_is, left_is, length_read, room_enough, makes, comes}
use Rattle.runs.proofs.stepping.step.Goals as goal

pub returns-then-left-lt-HEADING : goal.returns-then-left-lt-HEADING
returns-then-left-lt-HEADING c =
    let fits : length c.args.s.now < 2 ^ 64 = search rules in
    let roomy : length c.args.reply.now < 2 ^ 64 = search rules in
    passed_over _ _ _ _ _ _ _ refl c.requires
    (λ x rest e m. omega (arith, c.if-left-lt-HEADING.true, left_is _ _ _ c.requires fits roomy x rest e m))

pub returns-then-left-heading : goal.returns-then-left-heading
returns-then-left-heading c =
    let fits : length c.args.s.now < 2 ^ 64 = search rules in
    let roomy : length c.args.reply.now < 2 ^ 64 = search rules in
    passed_over _ _ _ _ _ _ _ refl c.requires
    (λ x rest e m. omega (arith, c.if-left-heading.true, c.heading_at-heading.ensures.len, left_is _ _ _ c.requires fits roomy x rest e m, length_read _ _ _ c.requires fits roomy x rest e m))

pub returns-then-reply-heading : goal.returns-then-reply-heading
returns-then-reply-heading c =
    let fits : length c.args.s.now < 2 ^ 64 = search rules in
    let roomy : length c.args.reply.now < 2 ^ 64 = search rules in
    passed_over _ _ _ _ _ _ _ refl c.requires
    (λ x rest e m. omega (arith, c.if-reply-heading.true, c.heading_at-heading.ensures.room, room_enough _ _ _ c.requires fits roomy x rest e m))

pub returns : goal.returns
returns c =
    let a = c.args in
    let fits : length a.s.now < 2 ^ 64 = search rules in
    let roomy : length a.reply.now < 2 ^ 64 = search rules in
    let len = c.heading_at-heading.result.len in
    record {
      further = omega arith;
      within = omega (arith, c.if-left-heading.false, c.if-left-lt-HEADING.false, c.requires);
      continues = λ x rest e m.
          makes _ _ _ c.requires fits roomy x rest e m _ _ _ _ len _ _ _
          c.heading_at-heading.ensures.kind c.heading_at-heading.ensures.port (length-take-le c.heading_at-heading.result.room a.reply.now c.if-reply-heading.false ∙ c.heading_at-heading.ensures.room)
          c.heading_at-heading.ensures.len (part_is (a.at + heading_size) len a.s.now) c.call.ensures;
      comes_to = λ x rest e m. comes _ _ _ c.requires fits roomy x rest e m len c.heading_at-heading.ensures.len;
    }
