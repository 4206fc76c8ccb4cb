use Rattle.std.proofs.Common.{◌∙◌, ap, length}
use Rattle.std.specs.Option.{unwrap_or}
use Rattle.frame_words.proofs.WordLaws.{word_length}
use Rattle.frame_words.proofs.words.word_len.Goals as goal

pub returns-clause-len : goal.returns-clause-len
returns-clause-len c = c.unwrap_or.ensures ∙ ap (λ o. unwrap_or o (length c.args.text.now)) c.space_in.ensures ∙ word_length c.args.text.now
