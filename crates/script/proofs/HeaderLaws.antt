-- The header put on a page. Assumes nothing.
use Rattle.std.proofs.Common.{◌≡◌, ℕ, ◌≤◌, List, [], length, sym, ◌∙◌, arith}
use Rattle.text.specs.Texts.{with_piece}
use Rattle.text.proofs.TextLaws.{piece_fits}
use Rattle.script_text.specs.Printing.{header_of}
use Rattle.script_text.specs.declared.View.{View}
use Rattle.script_text.specs.declared.View.TheVariants.{Script, Trace}

header_short : (view : View) → length (header_of view) ≤ 64
header_short Script = omega arith
header_short Trace = omega arith

pub header_put : (view : View) (page : List ℕ) → page ≡ with_piece 16384 [] (header_of view) → page ≡ header_of view
header_put view page p = p ∙ sym (piece_fits 16384 [] (header_of view) (omega (arith, header_short view)))
