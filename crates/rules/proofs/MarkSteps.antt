-- What a refusal marks, as steps: bits of STATUT set, other than 7 and 6, and counters raised. Assumes nothing.
use mathlib.Core.Bool.{Bool, true, false, ◌&&◌, ◌||◌}
use mathlib.Core.Path.{◌≡◌, refl, sym, ◌∙◌, subst}
use Prim.Native.Nat.{ℕ, zero, suc}
use borrow.Author.Tests.{ne_eqb}
use lib.Bits.{bit_or}
use lib.Dec.{eqb}
use Rattle.base.specs.Choice.{within}
use Rattle.base.proofs.Choosing.{never, and_right}
use Rattle.rules.specs.Answers.{body_length, eight_others}
use Rattle.rules.specs.Counters.{is_counter}
use Rattle.rules.specs.Marks.{counter, counter_by, line_marked, format_marked, sequence_marked, skip_marked}
use Rattle.rules.specs.Refusals.{Change, nothing, line_mark, format_mark, sequence_mark, sequence_fall, window_mark, request_taken, changed, row_of}
use Rattle.rules.specs.Registers.{statut, cpt_seq, cpt_for}
use Rattle.rules.specs.State.{reg, store}
use Rattle.rules.specs.declared.Agent.{Agent}

-- bits 5 and 1
abbrev pub is_flag : ℕ → Bool
is_flag m = eqb m 0x20 || eqb m 0x02

pub data Marks (a : Agent) : Agent → Type 0 where
  none : Marks a a
  sets : {b : Agent} (m : ℕ) → is_flag m ≡ true → Marks a b → Marks a (store statut (bit_or (reg b statut) m) b)
  counts : {b : Agent} (i x : ℕ) → is_counter i ≡ true → Marks a b → Marks a (store i (counter x) b)

-- a change of STATUT and counters alone
abbrev pub only_marks : Change → Bool
only_marks nothing = true
only_marks line_mark = true
only_marks format_mark = true
only_marks sequence_mark = true
only_marks sequence_fall = false
only_marks window_mark = false
only_marks (request_taken skips) = false

-- 1 to 18, which frames cause
abbrev pub is_frames : ℕ → Bool
is_frames n = within body_length eight_others n

-- and of these the ones that only mark
abbrev pub is_marking : Bool → ℕ → ℕ → Bool
is_marking sync_in_run skips n = is_frames n && only_marks (row_of sync_in_run skips n)

-- a number of which a test holds is not one of which it fails
pub apart : (is : ℕ → Bool) (n m : ℕ) → is n ≡ true → is m ≡ false → eqb n m ≡ false
apart is n m p q = ne_eqb n m (λ e. never (sym q ∙ subst (λ (k : ℕ). is k ≡ true) e p))

module _ (a : Agent) where
  line_marks : Marks a (line_marked a)
  unfolding line_marked
  line_marks = sets 0x20 refl none

  format_marks : Marks a (format_marked a)
  unfolding format_marked
  format_marks = counts cpt_for (reg a cpt_for) refl line_marks

  pub sequence_marks : Marks a (sequence_marked a)
  unfolding sequence_marked
  sequence_marks = counts cpt_seq (reg a cpt_seq) refl (sets 0x02 refl none)

  -- no skip, or some, of which the last adds 1 like any count
  pub skip_marks : (n : ℕ) → Marks a (skip_marked n a)
  unfolding skip_marked
  skip_marks zero = none
  skip_marks (suc n) = counts cpt_seq (counter_by n (reg a cpt_seq)) refl (sets 0x02 refl none)

  pub change_marks : (c : Change) → only_marks c ≡ true → Marks a (changed c a)
  change_marks nothing e = none
  change_marks line_mark e = line_marks
  change_marks format_mark e = format_marks
  change_marks sequence_mark e = sequence_marks
  change_marks sequence_fall e = never e
  change_marks window_mark e = never e
  change_marks (request_taken skips) e = never e

  pub row_marks : (sync_in_run : Bool) (skips n : ℕ) → is_marking sync_in_run skips n ≡ true → Marks a (changed (row_of sync_in_run skips n) a)
  row_marks b s n e = change_marks (row_of b s n) (and_right (is_frames n) (only_marks (row_of b s n)) e)
