-- Pieces that fit are put one after another. Assumes nothing.
use mathlib.Core.Path.{◌≡◌, sym, ap, ◌∙◌}
use mathlib.Core.List.{List, [], ◌∷◌, ◌++◌, append_assoc, append-nil}
use Prim.Native.Nat.{ℕ, ◌+◌, ◌≤◌}
use native.Mathlib.Omega.{arith}
use lib.ListN.{length, length-append}
use Rattle.text.proofs.TextLaws.{piece_fits}
use Rattle.frame_words.specs.Texts.{room, put, puts}

put_is : (t s : List ℕ) → length t + length s ≤ room → put t s ≡ t ++ s
put_is t s h = sym (piece_fits room t s h)

abbrev pub joined : List (List ℕ) → List ℕ
joined [] = []
joined (s ∷ ss) = s ++ joined ss

puts_are : (t : List ℕ) (ss : List (List ℕ)) → length t + length (joined ss) ≤ room → puts t ss ≡ t ++ joined ss
puts_are t [] h = sym (append-nil t)
puts_are t (s ∷ ss) h =
    let n : length (s ++ joined ss) ≡ length s + length (joined ss) = length-append s (joined ss) in
    let m : length (t ++ s) ≡ length t + length s = length-append t s in
    ap (λ (u : List ℕ). puts u ss) (put_is t s (omega arith)) ∙ puts_are (t ++ s) ss (omega arith) ∙ append_assoc t s (joined ss)

-- so what is printed of pieces that fit is their characters, one after another
pub pieces_are : (ss : List (List ℕ)) → length (joined ss) ≤ room → puts [] ss ≡ joined ss
pieces_are ss h = puts_are [] ss (omega arith)
