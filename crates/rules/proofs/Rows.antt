-- A fact about a refusal's row, from one fact for each change, with the numbers that cause it. Assumes nothing.
use mathlib.Core.Bool.{Bool}
use mathlib.Core.Logic.{◌⊎◌, inl, inr}
use mathlib.Core.Path.{◌≡◌}
use Prim.Native.Nat.{ℕ}
use borrow.Author.Tests.{eqb-true}
use lib.Dec.{eqb}
use Rattle.base.specs.Choice.{within}
use Rattle.base.proofs.Choosing.{by_test}
use Rattle.rules.specs.Answers.{body_length, fcs, reserved, elsewhere, typ, form, addressee, cycle, repeat, out_of_order, too_many, outside_rules, outside_window}
use Rattle.rules.specs.Refusals.{Change, nothing, line_mark, format_mark, sequence_mark, sequence_fall, window_mark, request_taken, row_of}

pub by_row_lem {κ} : (P : Change → Type κ) (b : Bool) (s n : ℕ) → P nothing → P line_mark → (n ≡ typ → P format_mark) → (n ≡ cycle → P sequence_fall)
    → ((n ≡ cycle) ⊎ (n ≡ out_of_order) → P sequence_mark) → P window_mark → (n ≡ outside_rules → P (request_taken s)) → P (row_of b s n)
by_row_lem P b s n none line format fall sequence window one =
    by_test P (within body_length fcs n) (λ e. line)
    (λ n1. by_test P (within reserved elsewhere n) (λ e. none)
    (λ n2. by_test P (eqb n typ) (λ e. format (eqb-true n typ e))
    (λ n3. by_test P (within form addressee n) (λ e. none)
    (λ n4. by_test P (eqb n cycle)
    (λ e. by_test P b (λ h. fall (eqb-true n cycle e)) (λ h. sequence (inl (eqb-true n cycle e))))
    (λ n5. by_test P (eqb n repeat) (λ e. none)
    (λ n6. by_test P (eqb n out_of_order) (λ e. sequence (inr (eqb-true n out_of_order e)))
    (λ n7. by_test P (eqb n too_many) (λ e. none)
    (λ n8. by_test P (eqb n outside_rules) (λ e. one (eqb-true n outside_rules e))
    (λ n9. by_test P (eqb n outside_window) (λ e. window) (λ n10. none))))))))))
