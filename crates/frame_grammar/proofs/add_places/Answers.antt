use Rattle.std.proofs.Common.{ap, ◌∙◌, take, min}
use Rattle.std.proofs.lemmas.List.{take_min}
use Rattle.frame_words.specs.Chars.{chars}
use Rattle.frame_words.specs.Texts.{put}
use Rattle.frame_grammar.proofs.add_places.Goals as goal

pub returns : goal.returns
returns c =
    let xs = chars "xxxxxxxxxxxxxxxx" in
    c.add.ensures ∙ ap (λ n. put c.args.page.now (take n xs)) (c.min-n.ensures ∙ ap (λ n. min n 16) c.from.ensures) ∙ ap (put c.args.page.now) (take_min c.args.digits xs)
