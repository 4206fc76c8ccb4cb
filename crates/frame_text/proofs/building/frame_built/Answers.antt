-- The line that was written, between its flags. Assumes nothing.
use Rattle.std.proofs.Common.{◌≡◌, ℕ, ◌-◌, take, drop, sym, ap, ◌∙◌, arith}
use Rattle.text.specs.Putting.{hex_text}
use Rattle.frame_words.specs.Texts.{put}
use Rattle.frame_text.proofs.BuildingLaws.{built_sent}
use Rattle.frame_text.proofs.building.frame_built.Goals as goal

pub returns-in-Ok : goal.returns-in-Ok
returns-in-Ok c =
    let a = c.args in
    let n = c.in-Ok.n in
    let w = c.in-Ok.ensures in
    let e : n - 1 - 1 ≡ n - 2 = omega arith in
    c.add_hex.ensures
    ∙ ap (λ (m : ℕ). put a.text.now (hex_text (take m (drop 1 c.write_frame.new.buf)))) e
    ∙ built_sent a.addr a.f a.«data».now n (sym w.written) _ _ w.left a.text.now
