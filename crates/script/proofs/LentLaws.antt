-- A line in a buffer that holds it, or does not. Assumes nothing.
use Rattle.std.proofs.Common.{◌≡◌, ℕ, ◌≤◌, ◌<◌, List, [], length, take, refl, sym, ap, ◌∙◌}
use borrow.Author.Tests.{lt-ltb, le-ltb}
use Rattle.script_lines.specs.Forms.{bad, line_of}
use Rattle.script.specs.Lent.{line_in}

none_bad : line_of [] ≡ bad
unfolding line_of
none_bad = refl

pub not_kept : (line : List ℕ) (len : ℕ) → length line < len → line_of [] ≡ line_in line len
unfolding line_in
not_kept line len h = rw (lt-ltb (length line) len h) none_bad

pub all_kept : (line : List ℕ) (len : ℕ) → len ≤ length line → line_of (take len line) ≡ line_in line len
unfolding line_in
all_kept line len h = rw (le-ltb (length line) len h)
