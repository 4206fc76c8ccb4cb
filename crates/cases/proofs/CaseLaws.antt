-- Laws of a line's case: what reading hex digits left, by its result. Assumes nothing.
use Rattle.std.specs.Prelude.{Err, None, Ok, Option, Result, Some}
use mathlib.Core.Path.{◌≡◌, refl, sym}
use mathlib.Core.List.{List, []}
use Prim.Native.Nat.{ℕ, ◌*◌, ◌≤◌, ◌<◌}
use native.Mathlib.Omega.{arith}
use borrow.Author.Tests.{lt-ltb, le-ltb}
use lib.ListN.{length, take, drop}
use lib.Seq.{take_at}
use Rattle.text.specs.declared.hex.HexFault.{HexFault}
use Rattle.text.specs.Hex.{hex_pairs, hex_of, hex_left}
use Rattle.text.proofs.HexLaws.{pairs_length}
use Rattle.console.specs.Showing.{shown}
use Rattle.console.proofs.ShowingLaws.{same_shown}
use Rattle.cases.specs.Cases.{bytes_in, case_of}

abbrev read_in : Result ℕ HexFault → List ℕ → List ℕ
read_in (Ok n) out = take n out
read_in (Err e) out = []

left : (o : Option (List ℕ)) (buf : List ℕ) → length (bytes_in o) ≤ length buf → read_in (hex_of (length buf) o) (hex_left o buf) ≡ bytes_in o
left None buf h = refl
left (Some bs) buf h = rw (le-ltb (length buf) (length bs) h) (take_at bs (drop (length bs) buf) (length bs) refl)

-- two characters for a byte
fewer : (s : List ℕ) (o : Option (List ℕ)) → hex_pairs s ≡ o → length (bytes_in o) * 2 ≤ length s
fewer s None e = omega arith
fewer s (Some bs) e = omega (arith, pairs_length s bs e)

pub case_read : (s buf out : List ℕ) (r x : Result ℕ HexFault) → length s ≤ 1200 → length buf ≡ 600 → r ≡ hex_of (length buf) (hex_pairs s) → out ≡ hex_left (hex_pairs s) buf
    → r ≡ x → read_in x out ≡ case_of s
unfolding case_of
case_read s buf out r x h l p q e =
    rw (le-ltb 1200 (length s) h, ← e, p, q) (left (hex_pairs s) buf (omega (arith, fewer s (hex_pairs s) refl)))

pub case_long : (s : List ℕ) → 1200 < length s → [] ≡ case_of s
unfolding case_of
case_long s h = rw (lt-ltb 1200 (length s) h)

-- a line that is too long is told from what is shown of it
pub case_shown : (line cs : List ℕ) → line ≡ shown cs → case_of line ≡ case_of cs
case_shown = same_shown case_of [] 1200 (omega arith) (λ cs h. sym (case_long cs h))
