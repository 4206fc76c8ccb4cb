-- What is printed for a line that is wrong; and for a refusal, which is put after a text. Assumes nothing.
use Rattle.std.specs.Prelude.{List, [], ◌∷◌, ℕ, Result, Ok, Err}
use Rattle.text.specs.Decimal.{decimal_text}
use Rattle.wire.specs.declared.LineFault.TheVariants as line
use Rattle.frame_forms.specs.declared.FrameFault.TheVariants as form
use Rattle.frame_reading.specs.Reading.{number_of}
use Rattle.frame_reading.specs.declared.BodyFault.{BodyFault}
use Rattle.frame_reading.specs.declared.BodyFault.TheVariants.{Line, Frame}
use Rattle.frame_reading.specs.declared.Received.{Received}
use Rattle.frame_words.specs.Chars.{chars}
use Rattle.frame_words.specs.Texts.{Text, puts}
use Rattle.frame_text.specs.declared.said.Wrong.{Wrong}
use Rattle.frame_text.specs.declared.said.Wrong.TheVariants as wrong

-- the line's number and the first thing that is wrong
abbrev pub bad_start : List ℕ → Text
bad_start number = puts [] (number ∷ chars " BAD: " ∷ [])

abbrev pub bad_text : List ℕ → List (List ℕ) → Text
bad_text number words = puts (bad_start number) words

-- a field that is missing or wrong
abbrev pub wants : List ℕ → ℕ → List (List ℕ)
wants name digits = name ∷ chars " wants " ∷ decimal_text digits ∷ chars " hex digits" ∷ []

-- the words for what is wrong
abbrev pub words_of : Wrong → List (List ℕ)
words_of wrong.Kind = chars "no such kind" ∷ []
words_of wrong.Body = chars "body wants pairs of hex digits" ∷ []
words_of wrong.Data = chars "data= wants pairs of hex digits" ∷ []
words_of (wrong.Field f) = wants f.0.now f.1
words_of wrong.More = chars "more behind the last field" ∷ []

-- the table of words
abbrev pub refusal : BodyFault → List ℕ
refusal (Line line.Length) = chars "body not 7 to 543 bytes"
refusal (Line line.Stuffing) = chars "stuffing"
refusal (Line line.Size) = chars "unstuffed length not 7 to 272"
refusal (Line line.Check) = chars "FCS"
refusal (Line line.Reserved) = chars "reserved address"
refusal (Frame form.Kind) = chars "TYP not built"
refusal (Frame form.Form) = chars "length, COM or sync address wrong for the TYP"
refusal (Frame form.Check) = chars "safety CRC"

-- document 01's number of a refusal, and its words
abbrev pub refused_start : Text → ℕ → Text
refused_start t n = puts t (chars "refused " ∷ decimal_text n ∷ chars ": " ∷ [])

abbrev pub refused_text : Text → ℕ → List ℕ → Text
refused_text t n words = puts (refused_start t n) (words ∷ [])

-- what the reader of frames refuses
abbrev pub refused_reading : Text → BodyFault → Text
refused_reading t e = refused_text t (number_of e) (refusal e)

-- and what it returns for a frame: the number 0, and no words
abbrev pub refused_as_read : Text → Result Received BodyFault → Text
refused_as_read t (Ok r) = refused_text t 0 []
refused_as_read t (Err e) = refused_reading t e
