-- A body that was read has at most 269 bytes of application data. Assumes nothing.
use mathlib.Core.Path.{◌≡◌, subst}
use mathlib.Core.List.{List}
use Prim.Native.Nat.{ℕ, ◌+◌, ◌-◌, ◌*◌, ◌≤◌}
use native.Mathlib.Omega.{arith}
use lib.Dec.{eqb, ltb}
use lib.ListN.{length, take, drop, get_or, length-take}
use borrow.Author.Tests.{ltb-false}
use Rattle.std.specs.Prelude.{Option, Some, None, Ok, Err}
use Rattle.base.proofs.Choosing.{by_test}
use Rattle.stuffing.specs.Stuffing.{unstuff}
use Rattle.wire.specs.Body.{ReadBody, reserved_addr, fcs_of, checked_body, unstuffed_body, read_body}

-- a refused body has none
abbrev pub Short : ReadBody → Type 0
Short (Ok b) = length b.1 ≤ 269
Short (Err e) = Unit

part_short : (k : ℕ) (xs : List ℕ) → k ≤ 269 → length (take k xs) ≤ 269
part_short k xs h = omega (arith, length-take k xs)

checked_short : (a : ℕ) (xs : List ℕ) → 6 ≤ length xs → length xs ≤ 271 → Short (checked_body a xs)
unfolding checked_body
checked_short a xs g h =
    by_test Short (eqb (fcs_of a (take (length xs - 2) xs)) (get_or xs (length xs - 2) 0 * 256 + get_or xs (length xs - 2 + 1) 0))
    (λ e. by_test Short (reserved_addr a) (λ r. tt) (λ r. part_short _ xs (omega arith)))
    (λ e. tt)

unstuffed_short : (a : ℕ) (o : Option (List ℕ)) → Short (unstuffed_body a o)
unfolding unstuffed_body
unstuffed_short a None = tt
unstuffed_short a (Some xs) =
    by_test Short (ltb (length xs) 6) (λ s. tt)
    (λ s. by_test Short (ltb 271 (length xs)) (λ l. tt)
    (λ l. checked_short a xs (ltb-false (length xs) 6 s) (ltb-false 271 (length xs) l)))

pub read_short : (s : List ℕ) → Short (read_body s)
unfolding read_body
read_short s =
    by_test Short (ltb (length s) 7) (λ e. tt)
    (λ e. by_test Short (ltb 543 (length s)) (λ l. tt) (λ l. unstuffed_short (get_or s 0 0) (unstuff (drop 1 s))))

pub read_most : (s : List ℕ) (a : ℕ) (xs : List ℕ) → read_body s ≡ Ok (a, xs) → length xs ≤ 269
read_most s a xs e = subst Short e (read_short s)
