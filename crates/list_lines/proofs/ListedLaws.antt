-- Laws of a list's lines: pairs of hex digits told from other text, and a port. Assumes nothing.
use Rattle.std.specs.Prelude.{Err, None, Ok, Option, Some}
use mathlib.Core.Path.{◌≡◌, refl, ap, ◌∙◌}
use mathlib.Core.Bool.{true, false}
use mathlib.Core.List.{List, [], ◌∷◌}
use Prim.Native.Nat.{ℕ, ◌≤◌, ◌<◌}
use native.Mathlib.Omega.{arith}
use borrow.Author.Tests.{lt-ltb, le-ltb, ltb-true, le-leb, lt-leb, eq-eqb, ne_eqb}
use Rattle.std.proofs.Math.Bool.{and-false}
use lib.Dec.{eqb}
use lib.ListN.{length, get_or}
use Rattle.base.proofs.Choosing.{absurdly, and_left}
use Rattle.text.specs.declared.hex.HexFault.TheVariants.{NotHex, NoRoom}
use Rattle.text.specs.Hex.{hex_of}
use Rattle.std.specs.List.{starts_with}
use Rattle.frame_words.proofs.WordLaws.{starts_is, same_is, same_not}
use Rattle.text.proofs.HexRead.{not_hex}
use Rattle.list_lines.specs.Listed.{is_silent, has_port, are_pairs}

-- ---- an empty line or a comment, as the library tells them
pub silent_empty : (s : List ℕ) → length s ≡ 0 → true ≡ is_silent s
unfolding is_silent
silent_empty s h = rw (← same_is s [] (no_items s h))
  where
    no_items : (s : List ℕ) → length s ≡ 0 → s ≡ []
    no_items [] h = refl
    no_items (c ∷ s) h = absurd (omega arith)

pub silent_is : (s : List ℕ) → (length s ≡ 0 → ⊥) → starts_with eqb s (0x23 ∷ []) ≡ is_silent s
unfolding is_silent
silent_is s h = starts_is s (0x23 ∷ []) ∙ rw (← same_not s [] (λ e. h (ap length e)))

-- ---- what reading pairs into m bytes tells
-- bytes that were read, or that are too many, are pairs
pub bytes_are_pairs : (m n : ℕ) (o : Option (List ℕ)) → Ok n ≡ hex_of m o → true ≡ are_pairs o
bytes_are_pairs m n None e = absurdly (cc)
bytes_are_pairs m n (Some bs) e = refl

pub more_are_pairs : (m : ℕ) (o : Option (List ℕ)) → Err NoRoom ≡ hex_of m o → true ≡ are_pairs o
more_are_pairs m None e = absurdly (cc)
more_are_pairs m (Some bs) e = refl

pub others_are_not : (m : ℕ) (o : Option (List ℕ)) → Err NotHex ≡ hex_of m o → false ≡ are_pairs o
others_are_not m o e = rw (not_hex m o e)

-- ---- a port
module _ (s : List ℕ) where
  pub port_short : length s < 2 → false ≡ has_port s
  unfolding has_port
  port_short h = rw (le-ltb 1 (length s) (omega arith))

  pub port_below : get_or s 0 0 < 0x30 → false ≡ has_port s
  unfolding has_port
  port_below h = rw (lt-leb 0x30 (get_or s 0 0) h, and-false)

  pub port_above : 0x39 < get_or s 0 0 → false ≡ has_port s
  unfolding has_port
  port_above h = rw (lt-leb (get_or s 0 0) 0x39 h, and-false, and-false)

  pub port_other : (get_or s 1 0 ≡ 0x20 → ⊥) → false ≡ has_port s
  unfolding has_port
  port_other n = rw (ne_eqb (get_or s 1 0) 0x20 n, and-false, and-false)

  pub port_is : 2 ≤ length s → 0x30 ≤ get_or s 0 0 → get_or s 0 0 ≤ 0x39 → get_or s 1 0 ≡ 0x20 → true ≡ has_port s
  unfolding has_port
  port_is h l m e =
      rw (lt-ltb 1 (length s) (omega arith), le-leb 0x30 (get_or s 0 0) l, le-leb (get_or s 0 0) 0x39 m, eq-eqb (get_or s 1 0) 0x20 e)

  pub port_long : has_port s ≡ true → 2 ≤ length s
  unfolding has_port
  port_long e = omega (arith, ltb-true 1 (length s) (and_left _ _ e))
