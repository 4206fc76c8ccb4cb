-- A line is read as what is shown of it, however long it is. Assumes nothing.
use mathlib.Core.Path.{◌≡◌, sym}
use mathlib.Core.List.{List}
use Prim.Native.Nat.{ℕ}
use native.Mathlib.Omega.{arith}
use Rattle.console.specs.Showing.{shown}
use Rattle.console.proofs.ShowingLaws.{same_shown}
use Rattle.script_lines.specs.Forms.{longest, bad, line_of}
use Rattle.script_lines.proofs.FormLaws.{text_long}

pub line_shown : (line cs : List ℕ) → line ≡ shown cs → line_of line ≡ line_of cs
line_shown = same_shown line_of bad longest (omega arith) (λ cs h. sym (text_long cs h))
