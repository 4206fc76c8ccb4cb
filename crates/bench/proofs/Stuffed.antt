-- P5 and P6: an escape followed by 31h, or by nothing, is wrong wherever it is. Assumes nothing.
use mathlib.Core.Bool.{Bool, true, false}
use mathlib.Core.List.{List, [], ◌∷◌, ◌++◌}
use mathlib.Core.Path.{◌≡◌, refl, ap}
use Prim.Native.Nat.{ℕ}
use Rattle.std.specs.Prelude.{Option, None}
use Rattle.stuffing.specs.Stuffing.{Meaning, Plain, Escape, Wrong, meaning_of, before, unstuff_from, unstuff, prepend}

-- none stays none behind any byte
none_before : (m : Meaning) (rest : Bool → Option (List ℕ)) → ((e : Bool) → rest e ≡ None) → before m rest ≡ None
none_before (Plain b) rest h = ap (prepend b) (h false)
none_before Escape rest h = h true
none_before Wrong rest h = refl

behind : (xs ys : List ℕ) → ((e : Bool) → unstuff_from ys e ≡ None) → (e : Bool) → unstuff_from (xs ++ ys) e ≡ None
unfolding unstuff_from
behind [] ys h e = h e
behind (x ∷ xs) ys h e = none_before (meaning_of e x) _ (behind xs ys h)

escape_31 : (ys : List ℕ) (e : Bool) → unstuff_from (0x7D ∷ 0x31 ∷ ys) e ≡ None
unfolding unstuff_from meaning_of
escape_31 ys true = refl
escape_31 ys false = refl

escape_last : (e : Bool) → unstuff_from (0x7D ∷ []) e ≡ None
unfolding unstuff_from meaning_of
escape_last true = refl
escape_last false = refl

pub wrong_31 : (xs ys : List ℕ) → unstuff (xs ++ (0x7D ∷ 0x31 ∷ ys)) ≡ None
unfolding unstuff
wrong_31 xs ys = behind xs (0x7D ∷ 0x31 ∷ ys) (escape_31 ys) false

pub wrong_last : (xs : List ℕ) → unstuff (xs ++ (0x7D ∷ [])) ≡ None
unfolding unstuff
wrong_last xs = behind xs (0x7D ∷ []) escape_last false
