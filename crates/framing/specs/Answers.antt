-- What is printed for a line: docs/DECISIONS.md, 'The frame program', rule by rule. Assumes nothing.
use Rattle.std.specs.Prelude.{ℕ, List, [], ◌∷◌, length, take, drop, nat_lt}
use Rattle.base.specs.Choice.{choose}
use Rattle.frame_words.specs.Chars.{chars}
use Rattle.list_lines.specs.Listed.{is_silent, is_ticks_or_inputs, has_port, is_port_body}
use Rattle.frame_words.specs.Texts.{Text, put, end_line}
use Rattle.frame_text.specs.Said.{bad_text}
use Rattle.frame_asking.specs.Outcome.{outcome_of, said}

-- ---- lines, each with its LF
-- too long
abbrev pub over_text : List ℕ → Text
over_text number = end_line (bad_text number (chars "over 1,200 characters" ∷ []))

-- unchanged
abbrev pub passed_text : List ℕ → Text
passed_text s = end_line (put [] s)

-- a frame or a body, after a port digit and its space; and without them
abbrev pub port_text : List ℕ → List ℕ → Text
port_text number s = end_line (said number (put [] (take 2 s)) (outcome_of (drop 2 s)))

abbrev pub plain_text : List ℕ → List ℕ → Text
plain_text number s = end_line (said number [] (outcome_of s))

-- THE ANSWER to a line with its number: the first rule that fits, 1 to 6
unfoldable pub answer_of : List ℕ → List ℕ → Text
answer_of number s =
    choose (nat_lt 1200 (length s)) (over_text number)
    (choose (is_silent s) []
    (choose (is_ticks_or_inputs s) (passed_text s)
    (choose (is_port_body s) (passed_text s)
    (choose (has_port s) (port_text number s)
    (plain_text number s)))))
