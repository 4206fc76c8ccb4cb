-- The page of the grammar is printed whole: these lines, each with its LF. Assumes nothing.
use mathlib.Core.Path.{◌≡◌, refl, ◌∙◌}
use mathlib.Core.Bool.{Bool, true, false}
use mathlib.Core.List.{List, [], ◌∷◌, ◌++◌}
use Prim.Native.Nat.{ℕ}
use native.Mathlib.Omega.{arith}
use lib.ListN.{length, take}
use Rattle.frame_words.specs.Chars.{chars}
use Rattle.frame_words.specs.Table.{Field, kinds, kind_word, fields_of, has_data}
use Rattle.frame_words.specs.Texts.{puts}
use Rattle.frame_words.specs.declared.table.Kind.{Kind}
use Rattle.frame_words.proofs.TextLaws.{joined, pieces_are}
use Rattle.frame_grammar.specs.Grammar.{form_field, form_fields, form_text, other_lines, grammar_text}

abbrev page : List (List ℕ)
page =
    chars "sync src=xxxxxx cyc=xx\n"
    ∷ chars "read to=xx dest=xxxxxx src=xxxxxx cyc=xx seq=xx len=xx at=xx\n"
    ∷ chars "write to=xx dest=xxxxxx src=xxxxxx cyc=xx seq=xx at=xx data=xx...\n"
    ∷ chars "plain-read to=xx src=xx len=xx at=xx\n"
    ∷ chars "plain-write to=xx src=xx at=xx data=xx...\n"
    ∷ chars "response to=xx dest=xxxxxx src=xxxxxx cyc=xx seq=xx com=xx at=xx stat=xx data=xx...\n"
    ∷ chars "plain-sync-response to=xx src=xx at=xx stat=xx data=xx...\n"
    ∷ chars "plain-response to=xx src=xx com=xx at=xx data=xx...\n"
    ∷ chars "tid to=xx src=xx iid=xxxxxxxxxxxxxxxx tid=xx\n"
    ∷ chars "sid to=xx src=xxxxxx sec=xxxxxxxx mac=xxxxxxxxxxxxxxxx sid=xxxxxx\n"
    ∷ chars "sid4 to=xx src=xxxxxx sec=xxxxxxxx mac=xxxxxxxxxxxxxxxx sid=xxxxxx sid2=xxxxxx src2=xxxxxx\n"
    ∷ chars "ack to=xx src=xxxxxx dst=xxxxxx sec=xxxxxxxx mac=xxxxxxxxxxxxxxxx\n"
    ∷ chars "invariants to=xx dest=xxxxxx src=xxxxxx cyc=xx seq=xx config=xxxx logic=xxxx\n"
    ∷ chars "body xx...\n"
    ∷ chars "P FRAME: a port digit, a space and any line above\n"
    ∷ chars "P xx..., T ..., I ...: printed unchanged\n"
    ∷ chars "# ...: nothing is printed\n"
    ∷ []

-- the pieces that are put together: of a field, of a form with its LF, of all
abbrev of_field : Field → List (List ℕ)
of_field f = chars " " ∷ f.0 ∷ take f.1 (chars "xxxxxxxxxxxxxxxx") ∷ []

abbrev of_fields : List Field → List (List ℕ)
of_fields [] = []
of_fields (f ∷ fs) = of_field f ++ of_fields fs

abbrev of_data : Bool → List (List ℕ)
of_data true = chars " data=xx..." ∷ []
of_data false = []

abbrev of_forms : List Kind → List (List ℕ)
of_forms [] = []
of_forms (k ∷ ks) = kind_word k ∷ (of_fields (fields_of k) ++ (of_data (has_data k) ++ ((0x0A ∷ []) ∷ of_forms ks)))

abbrev pieces : List (List ℕ)
pieces = of_forms kinds ++ other_lines

put_in_pieces : grammar_text ≡ puts [] pieces
unfolding grammar_text kinds form_text form_fields form_field
put_in_pieces = refl

pub page_is : grammar_text ≡ joined page
unfolding kinds
page_is =
    let n : length (joined pieces) ≡ 896 = refl in
    put_in_pieces ∙ pieces_are pieces (omega arith)
