-- The player after a line, and its text. Assumes nothing.
use Rattle.std.proofs.Common.{refl, ap, ◌∙◌}
use Rattle.text.specs.Texts.{with_piece}
use Rattle.script.proofs.PlayingLaws.{made_told, player_after, text_shown, shown_length}
use Rattle.script.proofs.playing.Player.play_form.Goals as goal

pub returns : goal.returns
returns g c =
    let a = c.args in
    let d = c.do_form-done in
    let m = made_told d.result d.new.agent _ c.answer.result c.unwrap_or.result refl c.answer.ensures c.unwrap_or.ensures ∙ d.ensures.told in
    record {
      short = shown_length a.self.now a.view a.form a.bytes.now _ _ _ m refl c.is_none.ensures c.show.ensures.short;
      player = player_after a.self.now a.view a.form a.bytes.now _ _ _ m refl c.is_none.ensures;
      text = c.show.ensures.text ∙ ap (with_piece _ a.page.now) (text_shown a.self.now a.view a.form a.bytes.now _ _ _ m refl c.is_none.ensures);
    }
