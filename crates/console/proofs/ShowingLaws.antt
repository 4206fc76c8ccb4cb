-- Laws of what a program sees of a line: more characters, and none. Assumes nothing.
use mathlib.Core.Path.{◌≡◌, refl, sym, ap, ◌∙◌}
use mathlib.Core.Bool.{Bool, true, false}
use mathlib.Core.List.{List, [], ◌∷◌, ◌++◌}
use Prim.Native.Nat.{ℕ, zero, suc, ◌≤◌, ◌<◌}
use native.Mathlib.Omega.{arith}
use borrow.Author.Tests.{ltb-true, ltb-false, leb-true, leb-false}
use lib.Dec.{ltb, leb}
use lib.ListN.{length, take, length-take}
use Rattle.std.specs.Prelude.{min}
use Rattle.std.proofs.lemmas.List.{take_all, take-take, length-take-le}
use Rattle.text.specs.Lines.{before_end}
use Rattle.console.specs.Showing.{shown}

take_twice : (n : ℕ) (cs b : List ℕ) → take n (take n cs ++ b) ≡ take n (cs ++ b)
take_twice zero cs b = refl
take_twice (suc n) [] b = refl
take_twice (suc n) (c ∷ cs) b = ap (λ (t : List ℕ). c ∷ t) (take_twice n cs b)

pub shown_more : (cs b : List ℕ) → shown (shown cs ++ b) ≡ shown (cs ++ b)
unfolding shown
shown_more cs b = take_twice 1201 cs b

pub shown_none : [] ≡ shown []
unfolding shown
shown_none = refl

-- a line that lies in a block whole, none of it before
pub shown_whole : (line block : List ℕ) (n k : ℕ) → line ≡ [] → take n block ≡ before_end block → k ≡ min n 1201 → take k block ≡ shown (line ++ before_end block)
unfolding shown
shown_whole line block n k e f m = by (leb n 1201) refl ∙ ap (take 1201) (f ∙ ap (λ (t : List ℕ). t ++ before_end block) (sym e))
  where
    by : (t : Bool) → leb n 1201 ≡ t → take k block ≡ take 1201 (take n block)
    by true t =
        let h : n ≤ 1201 = leb-true _ _ t in
        let j : k ≡ n = omega (arith, m) in
        ap (λ (i : ℕ). take i block) j ∙ sym (take_all 1201 (take n block) (omega (arith, length-take n block)))
    by false t =
        let h : 1201 < n = leb-false _ _ t in
        let j : k ≡ 1201 = omega (arith, m) in
        ap (λ (i : ℕ). take i block) j ∙ sym (take-take 1201 n block (omega arith))

nothing_taken : (n : ℕ) (cs : List ℕ) → [] ≡ take (suc n) cs → cs ≡ []
nothing_taken n [] e = refl
nothing_taken n (c ∷ cs) e = absurd (let z : ◌≡◌ {A = ℕ} 0 1 = cc in omega arith)

pub nothing_shown : (cs : List ℕ) → [] ≡ shown cs → cs ≡ []
unfolding shown
nothing_shown cs e = nothing_taken 1200 cs e

-- what is the same for all lines of more than n characters is the same for a line and what is shown of it
pub same_shown : {A : Type 0} (f : List ℕ → A) (x : A) (n : ℕ) → n ≤ 1200 → ((cs : List ℕ) → n < length cs → f cs ≡ x)
    → (line cs : List ℕ) → line ≡ shown cs → f line ≡ f cs
unfolding shown
same_shown f x n h over line cs e = by (ltb 1201 (length cs)) refl
  where
    by : (t : Bool) → ltb 1201 (length cs) ≡ t → f line ≡ f cs
    by true t =
        let l : 1201 < length cs = ltb-true _ _ t in
        let k : length line ≡ 1201 = ap length e ∙ length-take-le 1201 cs (omega arith) in
        over line (omega arith) ∙ sym (over cs (omega arith))
    by false t =
        let l : length cs ≤ 1201 = ltb-false _ _ t in
        ap f (e ∙ take_all 1201 cs l)
