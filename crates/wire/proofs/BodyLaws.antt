-- The cases of reading a body, a law for each; and the unstuffed bytes are those that the array holds. Assumes nothing.
use mathlib.Core.Path.{◌≡◌, refl, sym, ap, ◌∙◌}
use mathlib.Core.List.{List}
use Prim.Native.Nat.{ℕ, ◌-◌, ◌≤◌, ◌<◌}
use native.Mathlib.Omega.{arith}
use borrow.Author.Tests.{lt-ltb, le-ltb}
use lib.ListN.{length, take, drop, get_or, length-drop, length-take}
use lib.Seq.{take-take}
use Rattle.std.proofs.Math.Nat.{le_of_eq}
use Rattle.std.proofs.lemmas.List.{take_all}
use Rattle.std.specs.Prelude.{Option, Some, None, Result, Ok, Err}
use Rattle.stuffing.specs.Stuffing.{unstuff, told, plain_in}
use Rattle.stuffing.proofs.StuffingLaws.{plain_back}
use Rattle.wire.specs.Body.{held_in, Within, checked_body, unstuffed_body, read_body}
use Rattle.wire.specs.declared.LineFault.{LineFault}
use Rattle.wire.specs.declared.LineFault.TheVariants.{Length, Stuffing, Size}

module _ (a : ℕ) where
  pub unstuffed_wrong : Err Stuffing ≡ unstuffed_body a None
  unfolding unstuffed_body
  unstuffed_wrong = refl

  module _ (xs : List ℕ) where
    pub unstuffed_short : length xs < 6 → Err Size ≡ unstuffed_body a (Some xs)
    unfolding unstuffed_body
    unstuffed_short h = simp (lt-ltb _ _ h)

    pub unstuffed_long : 6 ≤ length xs → 271 < length xs → Err Size ≡ unstuffed_body a (Some xs)
    unfolding unstuffed_body
    unstuffed_long g h = simp (le-ltb _ _ g, lt-ltb _ _ h)

    pub unstuffed_fits : 6 ≤ length xs → length xs ≤ 271 → checked_body a xs ≡ unstuffed_body a (Some xs)
    unfolding unstuffed_body
    unstuffed_fits g h = simp (le-ltb _ _ g, le-ltb _ _ h)

module _ (s : List ℕ) where
  pub body_short : length s < 7 → Err Length ≡ read_body s
  unfolding read_body
  body_short h = simp (lt-ltb _ _ h)

  pub body_long : 7 ≤ length s → 543 < length s → Err Length ≡ read_body s
  unfolding read_body
  body_long g h = simp (le-ltb _ _ g, lt-ltb _ _ h)

  pub body_fits : 7 ≤ length s → length s ≤ 543 → unstuffed_body (get_or s 0 0) (unstuff (drop 1 s)) ≡ read_body s
  unfolding read_body
  body_fits g h = simp (le-ltb _ _ g, le-ltb _ _ h)

module _ (s old bytes : List ℕ) (r : Option ℕ) (n : ℕ) where
  pub body_taken : told r bytes ≡ plain_in old (unstuff (take (length s - 1) (drop 1 s))) → r ≡ Some n → length old ≡ 272
      → 7 ≤ length s → length s ≤ 543 → 6 ≤ n → n ≤ 271 → checked_body (get_or s 0 0) (take n bytes) ≡ read_body s
  unfolding read_body unstuffed_body
  body_taken e q l g h i j =
      let a : take (length s - 1) (drop 1 s) ≡ drop 1 s = take_all (length s - 1) (drop 1 s) (le_of_eq (length-drop 1 s)) in
      let k = plain_back old bytes n (unstuff (drop 1 s)) (sym (ap (λ (x : Option ℕ). told x bytes) q) ∙ e ∙ ap (λ (x : List ℕ). plain_in old (unstuff x)) a) (omega arith) in
      simp (le-ltb _ _ g, le-ltb _ _ h, k.0, k.1, le-ltb _ _ i, le-ltb _ _ j)

-- data within the first bytes of an array are in the array
pub held_within : (r : Result (ℕ × ℕ) LineFault) (n : ℕ) (bytes : List ℕ) → Within (length (take n bytes)) r → held_in r bytes ≡ held_in r (take n bytes)
held_within (Ok b) n bytes h = ap (λ (xs : List ℕ). Ok (b.0, xs)) (sym (take-take b.1 n bytes (omega (arith, length-take n bytes))))
held_within (Err e) n bytes h = refl
