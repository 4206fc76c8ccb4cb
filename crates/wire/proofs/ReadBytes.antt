-- A body that was read from bytes has bytes for its application data. Assumes nothing.
use mathlib.Core.Path.{◌≡◌, subst}
use mathlib.Core.Bool.{Bool, true, false}
use mathlib.Core.List.{List, [], ◌∷◌}
use Prim.Native.Nat.{ℕ, suc, ◌+◌, ◌-◌, ◌*◌, ◌<◌}
use native.Mathlib.Omega.{arith}
use lib.Dec.{eqb, ltb}
use lib.ListN.{length, take, drop, get_or}
use Rattle.std.specs.Prelude.{Option, Some, None, Ok, Err}
use Rattle.base.specs.Bytes.{Bytes}
use Rattle.base.proofs.Bytes.{bytes_nil, bytes_cons, bytes_take, bytes_drop}
use Rattle.base.proofs.Choosing.{by_test}
use Rattle.stuffing.specs.Stuffing.{Meaning, Plain, Escape, Wrong, meaning_of, before, unstuff_from, unstuff}
use Rattle.wire.specs.Body.{ReadBody, fcs_of, reserved_addr, checked_body, unstuffed_body, read_body}

-- bytes, where there is something
abbrev PlainBytes : Option (List ℕ) → Type 0
PlainBytes None = Unit
PlainBytes (Some xs) = Bytes xs

abbrev PlainByte : Meaning → Type 0
PlainByte (Plain b) = b < 256
PlainByte Escape = Unit
PlainByte Wrong = Unit

meaning_byte : (escaped : Bool) (b : ℕ) → b < 256 → PlainByte (meaning_of escaped b)
unfolding meaning_of
meaning_byte true b h =
    by_test PlainByte (eqb b 0x5E) (λ e. omega arith) (λ e. by_test PlainByte (eqb b 0x5D) (λ d. omega arith) (λ d. tt))
meaning_byte false b h = by_test PlainByte (eqb b 0x7E) (λ e. tt) (λ e. by_test PlainByte (eqb b 0x7D) (λ d. tt) (λ d. h))

prepend_bytes : (x : ℕ) → x < 256 → (o : Option (List ℕ)) → PlainBytes o → PlainBytes (before (Plain x) (λ e. o))
prepend_bytes x h None p = tt
prepend_bytes x h (Some ys) p = bytes_cons x ys h p

before_bytes : (m : Meaning) → PlainByte m → (rest : Bool → Option (List ℕ)) → ((e : Bool) → PlainBytes (rest e)) → PlainBytes (before m rest)
before_bytes (Plain b) h rest p = prepend_bytes b h (rest false) (p false)
before_bytes Escape h rest p = p true
before_bytes Wrong h rest p = tt

unstuffed : (s : List ℕ) (escaped : Bool) → Bytes s → PlainBytes (unstuff_from s escaped)
unfolding unstuff_from
unstuffed [] true h = tt
unstuffed [] false h = bytes_nil
unstuffed (b ∷ bs) escaped h =
    before_bytes (meaning_of escaped b) (meaning_byte escaped b (h 0)) (λ e. unstuff_from bs e) (λ e. unstuffed bs e (λ i. h (suc i)))

-- ---- the body
abbrev pub Holds : ReadBody → Type 0
Holds (Ok b) = Bytes b.1
Holds (Err e) = Unit

checked : (a : ℕ) (xs : List ℕ) → Bytes xs → Holds (checked_body a xs)
unfolding checked_body
checked a xs h =
    by_test Holds (eqb (fcs_of a (take (length xs - 2) xs)) (get_or xs (length xs - 2) 0 * 256 + get_or xs (length xs - 2 + 1) 0))
    (λ e. by_test Holds (reserved_addr a) (λ f. tt) (λ f. bytes_take _ xs h))
    (λ e. tt)

after_unstuffing : (a : ℕ) (o : Option (List ℕ)) → PlainBytes o → Holds (unstuffed_body a o)
unfolding unstuffed_body
after_unstuffing a None h = tt
after_unstuffing a (Some xs) h =
    by_test Holds (ltb (length xs) 6) (λ f. tt)
    (λ f. by_test Holds (ltb 271 (length xs)) (λ g. tt) (λ g. checked a xs h))

read : (s : List ℕ) → Bytes s → Holds (read_body s)
unfolding read_body unstuff
read s h =
    by_test Holds (ltb (length s) 7) (λ e. tt)
    (λ e. by_test Holds (ltb 543 (length s)) (λ f. tt)
    (λ f. after_unstuffing (get_or s 0 0) (unstuff (drop 1 s)) (unstuffed (drop 1 s) false (bytes_drop 1 s h))))

-- the application data of a body
pub data_bytes : (s : List ℕ) (a : ℕ) (xs : List ℕ) → Bytes s → read_body s ≡ Ok (a, xs) → Bytes xs
data_bytes s a xs h e = subst Holds e (read s h)
