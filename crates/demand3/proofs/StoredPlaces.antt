-- An element after a run of stores, by its place: outside the run it is as it was. Assumes nothing.
use mathlib.Core.Bool.{Bool, true, false}
use mathlib.Core.Path.{◌≡◌, refl}
use mathlib.Core.List.{List}
use Prim.Native.Nat.{ℕ, ◌+◌, ◌-◌, ◌≤◌, ◌<◌}
use borrow.Author.Tests.{ltb-true, ltb-false, leb-true, leb-false}
use lib.Dec.{ltb, leb}
use lib.ListN.{length, get_or}
use lib.Seq.{sets}
use Rattle.base.specs.Choice.{choose}
use Rattle.base.proofs.Choosing.{by_test}
use Rattle.base.proofs.Stored.{stored_before, stored_behind, stored_in}

pub stored_outside : (l : List ℕ) (i : ℕ) (vs : List ℕ) (j : ℕ) → (i ≤ j → j < i + length vs → ⊥) → get_or (sets l i vs) j 0 ≡ get_or l j 0
stored_outside l i vs j h = by_start (ltb j i) refl
  where
    by_end : (b : Bool) → i ≤ j → leb (i + length vs) j ≡ b → get_or (sets l i vs) j 0 ≡ get_or l j 0
    by_end true p e = stored_behind l i vs j (leb-true (i + length vs) j e)
    by_end false p e = absurd (h p (leb-false (i + length vs) j e))

    by_start : (b : Bool) → ltb j i ≡ b → get_or (sets l i vs) j 0 ≡ get_or l j 0
    by_start true e = stored_before l i vs j (ltb-true j i e)
    by_start false e = by_end (leb (i + length vs) j) (ltb-false j i e) refl

-- any element
pub stored_choice : (l : List ℕ) (i : ℕ) (vs : List ℕ) (j : ℕ) → i + length vs ≤ length l
    → get_or (sets l i vs) j 0 ≡ choose (leb i j) (choose (ltb j (i + length vs)) (get_or vs (j - i) 0) (get_or l j 0)) (get_or l j 0)
stored_choice l i vs j h =
    by_test (λ (x : ℕ). get_or (sets l i vs) j 0 ≡ x) (leb i j)
    (λ p. by_test (λ (x : ℕ). get_or (sets l i vs) j 0 ≡ x) (ltb j (i + length vs))
    (λ q. stored_in l i vs j (leb-true i j p) (ltb-true j (i + length vs) q) h)
    (λ q. stored_behind l i vs j (ltb-false j (i + length vs) q)))
    (λ p. stored_before l i vs j (leb-false i j p))
