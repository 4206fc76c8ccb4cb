-- What each change of the table of refusals leaves as it was: every register and every field but those that it names.
-- Assumes nothing.
use mathlib.Core.Bool.{Bool, true, false, ◌&&◌, ◌||◌}
use mathlib.Core.List.{List, [], ◌∷◌}
use mathlib.Core.Path.{◌≡◌, refl, sym, ◌∙◌}
use Prim.Native.Nat.{ℕ, zero, suc, ◌+◌}
use native.Mathlib.Omega.{arith}
use borrow.Author.Tests.{eqb-false, leb-false}
use lib.Bits.{bit_or}
use lib.Dec.{eqb, leb}
use lib.ListN.{length, get_or, replicate, length-replicate}
use lib.Seq.{sets, length-sets, get_or-set_other}
use Rattle.base.specs.Choice.{within}
use Rattle.base.proofs.Choosing.{never, or_left_false, or_right_false}
use Rattle.base.proofs.Stored.{stored_before, stored_behind}
use Rattle.rules.specs.Fallback.{withheld, ground_after, enter_fallback}
use Rattle.rules.specs.Grounds.{by_wrong_cycle}
use Rattle.rules.specs.Marks.{counter, counter_by, line_marked, format_marked, sequence_marked, skip_marked, window_marked}
use Rattle.rules.specs.Refusals.{Change, nothing, line_mark, format_mark, sequence_mark, sequence_fall, window_mark, request_taken, changed, names_register, names_taken, ButFor}
use Rattle.rules.specs.Registers.{out_rep, statut, cpt_seq, cpt_for, ground_at, outputs_at, image}
use Rattle.rules.specs.State.{reg, store, with_regs, with_taken}
use Rattle.rules.specs.declared.Agent.{Agent}

-- a register that is not stored to
pub other_stored : (i x : ℕ) (a : Agent) (j : ℕ) → eqb j i ≡ false → reg (store i x a) j ≡ reg a j
other_stored i x a j e = get_or-set_other a.regs i j x 0 (eqb-false j i e)

-- outside a run of stores from 80h to BFh
outputs_stored : (r xs : List ℕ) (j : ℕ) → length xs ≡ image → within 0x80 0xBF j ≡ false → get_or (sets r outputs_at xs) j 0 ≡ get_or r j 0
outputs_stored r xs j l e = go (leb 0x80 j) (leb j 0xBF) refl refl e
  where
    go : (p q : Bool) → leb 0x80 j ≡ p → leb j 0xBF ≡ q → (p && q) ≡ false → get_or (sets r outputs_at xs) j 0 ≡ get_or r j 0
    go false q low high n = stored_before r outputs_at xs j (leb-false 0x80 j low)
    go true false low high n = stored_behind r outputs_at xs j (omega (arith, leb-false j 0xBF high))
    go true true low high n = cc

module _ (a : Agent) where
  line_others : (i : ℕ) → eqb i statut ≡ false → reg (line_marked a) i ≡ reg a i
  unfolding line_marked
  line_others i e = other_stored statut (bit_or (reg a statut) 0x20) a i e

  format_others : (i : ℕ) → (eqb i statut || eqb i cpt_for) ≡ false → reg (format_marked a) i ≡ reg a i
  unfolding format_marked
  format_others i e =
      other_stored cpt_for (counter (reg a cpt_for)) (line_marked a) i (or_right_false (eqb i statut) (eqb i cpt_for) e)
      ∙ line_others i (or_left_false (eqb i statut) (eqb i cpt_for) e)

  sequence_others : (i : ℕ) → eqb i statut ≡ false → eqb i cpt_seq ≡ false → reg (sequence_marked a) i ≡ reg a i
  unfolding sequence_marked
  sequence_others i e h =
      other_stored cpt_seq (counter (reg a cpt_seq)) (store statut (bit_or (reg a statut) 0x02) a) i h
      ∙ other_stored statut (bit_or (reg a statut) 0x02) a i e

  skip_others : (n i : ℕ) → names_register (request_taken n) i ≡ false → reg (skip_marked n a) i ≡ reg a i
  unfolding skip_marked
  skip_others zero i e = refl
  skip_others (suc n) i e =
      let x : ℕ = bit_or (reg a statut) 0x02 in
      other_stored cpt_seq (counter_by (suc n) (reg a cpt_seq)) (store statut x a) i (or_right_false (eqb i statut) (eqb i cpt_seq) e)
      ∙ other_stored statut x a i (or_left_false (eqb i statut) (eqb i cpt_seq) e)

  window_others : (i : ℕ) → eqb i statut ≡ false → reg (window_marked a) i ≡ reg a i
  unfolding window_marked
  window_others i e = other_stored statut (bit_or (reg a statut) 0x02) a i e

  pub fallback_others : (g i : ℕ) → eqb i statut ≡ false → eqb i out_rep ≡ false → eqb i ground_at ≡ false → within 0x80 0xBF i ≡ false
      → reg (enter_fallback g a) i ≡ reg a i
  unfolding enter_fallback
  fallback_others g i e h n k =
      let marked : Agent = store statut (bit_or (reg a statut) 0x80) a in
      let held : Agent = store out_rep withheld marked in
      outputs_stored (store ground_at (ground_after g a) held).regs (replicate image 0) i (length-replicate {A = ℕ} image 0) k
      ∙ other_stored ground_at (ground_after g a) held i n ∙ other_stored out_rep withheld marked i h
      ∙ other_stored statut (bit_or (reg a statut) 0x80) a i e

-- a change of registers alone
only_registers : (c : Change) (a : Agent) (r : List ℕ) → ((i : ℕ) → names_register c i ≡ false → get_or r i 0 ≡ reg a i) → length r ≡ length a.regs
    → ButFor c a (with_regs r a)
only_registers c a r h l = record {
  registers = h;
  size = l;
  mode = λ e. refl;
  q = λ e. refl;
  k = λ e. refl;
  mark = λ e. refl;
  c = refl;
  heard = refl;
  e = refl;
  s = refl;
  last_source = refl;
  recorded = refl;
  recorded_count = refl;
  fixed = refl;
}

module _ (a : Agent) where
  line_size : length (line_marked a).regs ≡ length a.regs
  unfolding line_marked
  line_size = length-sets a.regs statut (bit_or (reg a statut) 0x20 ∷ [])

  sequence_size : length (sequence_marked a).regs ≡ length a.regs
  unfolding sequence_marked
  sequence_size =
      length-sets (store statut (bit_or (reg a statut) 0x02) a).regs cpt_seq (counter (reg a cpt_seq) ∷ [])
      ∙ length-sets a.regs statut (bit_or (reg a statut) 0x02 ∷ [])

  skip_size : (n : ℕ) → length (skip_marked n a).regs ≡ length a.regs
  unfolding skip_marked
  skip_size zero = refl
  skip_size (suc n) =
      length-sets (store statut (bit_or (reg a statut) 0x02) a).regs cpt_seq (counter_by (suc n) (reg a cpt_seq) ∷ [])
      ∙ length-sets a.regs statut (bit_or (reg a statut) 0x02 ∷ [])

  window_size : length (window_marked a).regs ≡ length a.regs
  unfolding window_marked
  window_size = length-sets a.regs statut (bit_or (reg a statut) 0x02 ∷ [])

  fallen_size : (g : ℕ) → length (enter_fallback g a).regs ≡ length a.regs
  unfolding enter_fallback
  fallen_size g =
      let marked : Agent = store statut (bit_or (reg a statut) 0x80) a in
      let held : Agent = store out_rep withheld marked in
      length-sets (store ground_at (ground_after g a) held).regs outputs_at (replicate image 0)
      ∙ length-sets held.regs ground_at (ground_after g a ∷ []) ∙ length-sets marked.regs out_rep (withheld ∷ [])
      ∙ length-sets a.regs statut (bit_or (reg a statut) 0x80 ∷ [])

  sequence_but : (i : ℕ) → (eqb i statut || eqb i cpt_seq) ≡ false → reg (sequence_marked a) i ≡ reg a i
  sequence_but i h = sequence_others a i (or_left_false (eqb i statut) (eqb i cpt_seq) h) (or_right_false (eqb i statut) (eqb i cpt_seq) h)

  fell_but : (i : ℕ) → names_register sequence_fall i ≡ false → reg (enter_fallback by_wrong_cycle (sequence_marked a)) i ≡ reg a i
  fell_but i h =
      let last : Bool = eqb i ground_at || within 0x80 0xBF i in
      let st : eqb i statut ≡ false = or_left_false (eqb i statut) _ h in
      let past = or_right_false (eqb i statut) (eqb i cpt_seq || (eqb i out_rep || last)) h in
      let rest = or_right_false (eqb i cpt_seq) (eqb i out_rep || last) past in
      let end = or_right_false (eqb i out_rep) last rest in
      fallback_others (sequence_marked a) by_wrong_cycle i st (or_left_false (eqb i out_rep) last rest)
      (or_left_false (eqb i ground_at) (within 0x80 0xBF i) end) (or_right_false (eqb i ground_at) (within 0x80 0xBF i) end)
      ∙ sequence_others a i st (or_left_false (eqb i cpt_seq) (eqb i out_rep || last) past)

-- a change of registers and k
and_taken : (c : Change) (a : Agent) (r : List ℕ) (k : ℕ) → names_taken c ≡ true → ((i : ℕ) → names_register c i ≡ false → get_or r i 0 ≡ reg a i)
    → length r ≡ length a.regs → ButFor c a (with_taken k (with_regs r a))
and_taken c a r k t h l = record {
  registers = h;
  size = l;
  mode = λ e. refl;
  q = λ e. refl;
  k = λ e. never (sym e ∙ t);
  mark = λ e. refl;
  c = refl;
  heard = refl;
  e = refl;
  s = refl;
  last_source = refl;
  recorded = refl;
  recorded_count = refl;
  fixed = refl;
}

skip_but : (a : Agent) (n : ℕ) → ButFor (request_taken n) a (with_taken (a.taken + n + 1) (skip_marked n a))
unfolding skip_marked
skip_but a zero = and_taken (request_taken zero) a a.regs (a.taken + zero + 1) refl (skip_others a zero) refl
skip_but a (suc n) = and_taken (request_taken (suc n)) a (skip_marked (suc n) a).regs (a.taken + suc n + 1) refl (skip_others a (suc n)) (skip_size a (suc n))

module _ (a : Agent) where
  pub but_for : (c : Change) → ButFor c a (changed c a)
  unfolding line_marked format_marked sequence_marked window_marked enter_fallback
  but_for nothing = only_registers nothing a a.regs (λ i e. refl) refl
  but_for line_mark = only_registers line_mark a (line_marked a).regs (line_others a) (line_size a)
  but_for format_mark =
      only_registers format_mark a (format_marked a).regs (format_others a) (length-sets (line_marked a).regs cpt_for (counter (reg a cpt_for) ∷ []) ∙ line_size a)
  but_for sequence_mark = only_registers sequence_mark a (sequence_marked a).regs (sequence_but a) (sequence_size a)
  but_for sequence_fall = record {
    registers = fell_but a;
    size = fallen_size (sequence_marked a) by_wrong_cycle ∙ sequence_size a;
    mode = λ e. never (sym e);
    q = λ e. never (sym e);
    k = λ e. refl;
    mark = λ e. never (sym e);
    c = refl;
    heard = refl;
    e = refl;
    s = refl;
    last_source = refl;
    recorded = refl;
    recorded_count = refl;
    fixed = refl;
  }
  but_for window_mark = record {
    registers = window_others a;
    size = window_size a;
    mode = λ e. refl;
    q = λ e. refl;
    k = λ e. refl;
    mark = λ e. never (sym e);
    c = refl;
    heard = refl;
    e = refl;
    s = refl;
    last_source = refl;
    recorded = refl;
    recorded_count = refl;
    fixed = refl;
  }
  but_for (request_taken skips) = skip_but a skips
