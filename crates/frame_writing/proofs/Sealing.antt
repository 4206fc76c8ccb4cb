-- The safety CRC: what is sealed is found right, and what is found right is sealed. Assumes nothing.
use mathlib.Core.Path.{◌≡◌, sym, ap, ◌∙◌}
use mathlib.Core.Bool.{true}
use mathlib.Core.List.{List, [], ◌++◌, append-nil}
use Prim.Native.Nat.{ℕ, ◌-◌, ◌≤◌}
use native.Mathlib.Omega.{arith}
use native.Mathlib.Nat.{add-zero}
use borrow.Author.Tests.{eq-eqb, eqb-true}
use lib.ListN.{length, take, drop, length-append, length-drop, take-append-drop}
use lib.Seq.{take_at, take_all}
use Rattle.base.specs.Bytes.{Bytes, bytes_of, number_at}
use Rattle.base.proofs.Numbers.{length_bytes_of, number_behind, number_of_bytes, bytes_of_number}
use Rattle.crc.specs.Crc.{crc_of, Safety}
use Rattle.crc.proofs.Bound.{of_lt}
use Rattle.frame_kinds.specs.Kinds.{sealed}
use Rattle.frame_forms.specs.Forms.{safe_ok}

pub sealed_ok : (ys : List ℕ) → safe_ok (sealed ys) ≡ true
unfolding safe_ok sealed
sealed_ok ys =
    let c : ℕ = crc_of Safety ys in
    let z : List ℕ = ys ++ bytes_of 2 c in
    let n : length z - 2 ≡ length ys = omega (arith, length-append ys (bytes_of 2 c), length_bytes_of 2 c) in
    let d : take (length z - 2) z ≡ ys = take_at ys (bytes_of 2 c) (length z - 2) (sym n) in
    let v : number_at z (length z - 2) 2 ≡ c =
    ap (λ (i : ℕ). number_at z i 2) (n ∙ sym (add-zero (length ys)))
    ∙ number_behind ys (bytes_of 2 c) 0 2
    ∙ ap (λ (l : List ℕ). number_at l 0 2) (sym (append-nil (bytes_of 2 c)))
    ∙ number_of_bytes 2 c [] (of_lt Safety ys) in
    eq-eqb (crc_of Safety (take (length z - 2) z)) (number_at z (length z - 2) 2) (ap (crc_of Safety) d ∙ sym v)

pub ok_sealed : (s : List ℕ) → Bytes s → 2 ≤ length s → safe_ok s ≡ true → s ≡ sealed (take (length s - 2) s)
unfolding safe_ok sealed
ok_sealed s bs h e =
    let n : ℕ = length s - 2 in
    let c : crc_of Safety (take n s) ≡ number_at s n 2 = eqb-true (crc_of Safety (take n s)) (number_at s n 2) e in
    let k : length (drop n s) ≤ 2 = omega (arith, length-drop n s) in
    sym (take-append-drop n s)
    ∙ ap (λ (l : List ℕ). take n s ++ l)
    (sym (ap (bytes_of 2) c ∙ bytes_of_number s n 2 bs (omega arith) ∙ take_all 2 (drop n s) k))
