-- The program: an answer to each line, and lines are numbered from 1. Assumes nothing.
use Rattle.std.specs.Prelude.{ℕ, ◌+◌, ◌%◌, ◌^◌, List, [], ◌==◌}
use Rattle.base.specs.Choice.{choose}
use Rattle.text.specs.Decimal.{decimal_text}
use Rattle.console.specs.Programs.{Program}
use Rattle.frame_words.specs.Texts.{put}
use Rattle.framing.specs.Answers.{answer_of}
use Rattle.frame_grammar.specs.Grammar.{grammar_text}

-- the number of the line after n others, in 64 bits; and as text
abbrev pub number_of : ℕ → ℕ
number_of n = (n + 1) % 2 ^ 64

unfoldable pub number_text : ℕ → List ℕ
number_text n = put [] (decimal_text (number_of n))

-- at the end, after n lines: the grammar, if there were none
unfoldable pub end_text : ℕ → List ℕ
end_text n = choose (n == 0) grammar_text []

abbrev pub answering : Program ℕ
answering = record { start = 0; first = []; next = λ n l. number_of n; says = λ n l. answer_of (number_text n) l; ends = λ n. end_text n }
