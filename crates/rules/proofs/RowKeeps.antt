-- What each row of the table of refusals, and a skip, does to the counters and to STATUT bits 4, 3, 2 and 0: CPT_FOR and
-- CPT_SEQ go up with their numbers, and nothing else changes. Assumes nothing.
use mathlib.Core.Bool.{Bool, true, false}
use mathlib.Core.List.{List}
use mathlib.Core.Logic.{◌⊎◌, inl, inr, ⊎_elim}
use mathlib.Core.Path.{◌≡◌, refl, sym, ap, ◌∙◌, subst}
use Prim.Native.Nat.{ℕ, zero, suc}
use native.Mathlib.Omega.{arith}
use borrow.Author.Tests.{eqb-true, eqb-false, ne_eqb}
use lib.Bits.{bit_and, bit_or}
use lib.Dec.{eqb}
use Rattle.frame_kinds.specs.declared.kinds.Frame.{Frame}
use Rattle.rules.specs.Answers.{accepted, typ, cycle, out_of_order, outside_rules}
use Rattle.rules.specs.Calls.{Call}
use Rattle.rules.specs.Counters.{is_counter, Brings, Counter, as_before, written, out_of_sequence, not_served, skipped, quiet_bits}
use Rattle.rules.specs.Grounds.{by_wrong_cycle}
use Rattle.rules.specs.Marks.{counter, counter_by, line_marked, format_marked, sequence_marked, skip_marked, window_marked}
use Rattle.rules.specs.Refusals.{line_mark, format_mark, sequence_mark, window_mark, request_taken, row_of, changed, names_register, skips_by}
use Rattle.rules.specs.Registers.{statut, cpt_seq, cpt_for}
use Rattle.rules.specs.State.{reg, store}
use Rattle.rules.specs.declared.Agent.{Agent}
use Rattle.rules.proofs.ButFor.{but_for, other_stored}
use Rattle.rules.proofs.Calm.{counter_low, by_stored, Calm, calm_same, calm_status, calm_fallen}
use Rattle.rules.proofs.QuietBits.{quiet_line, quiet_sequence}
use Rattle.rules.proofs.Rows.{by_row_lem}

module _ (a : Agent) where
  raised_format : (reg (format_marked a) cpt_for ≡ counter (reg a cpt_for)) ⊎ (reg (format_marked a) cpt_for ≡ reg a cpt_for)
  unfolding format_marked
  raised_format =
      by_stored (λ x. (x ≡ counter (reg a cpt_for)) ⊎ (x ≡ reg a cpt_for)) (line_marked a).regs cpt_for (counter (reg a cpt_for)) (inl refl)
      (λ h. inr ((but_for a line_mark).registers cpt_for refl))

  raised_sequence : (reg (sequence_marked a) cpt_seq ≡ counter (reg a cpt_seq)) ⊎ (reg (sequence_marked a) cpt_seq ≡ reg a cpt_seq)
  unfolding sequence_marked
  raised_sequence =
      let x : ℕ = bit_or (reg a statut) 0x02 in
      by_stored (λ y. (y ≡ counter (reg a cpt_seq)) ⊎ (y ≡ reg a cpt_seq)) (store statut x a).regs cpt_seq (counter (reg a cpt_seq)) (inl refl)
      (λ h. inr (other_stored statut x a cpt_seq refl))

  raised_skip : (m : ℕ) → (reg (skip_marked m a) cpt_seq ≡ counter_by m (reg a cpt_seq)) ⊎ (reg (skip_marked m a) cpt_seq ≡ reg a cpt_seq)
  unfolding skip_marked
  raised_skip zero = inl refl
  raised_skip (suc m) =
      let x : ℕ = bit_or (reg a statut) 0x02 in
      let y : ℕ = counter_by (suc m) (reg a cpt_seq) in
      by_stored (λ z. (z ≡ y) ⊎ (z ≡ reg a cpt_seq)) (store statut x a).regs cpt_seq y (inl refl) (λ h. inr (other_stored statut x a cpt_seq refl))

  line_quiet : quiet_bits (line_marked a) ≡ quiet_bits a
  unfolding line_marked
  line_quiet = (calm_status a.regs (bit_or (reg a statut) 0x20) (quiet_line (reg a statut))).bits

  format_quiet : quiet_bits (format_marked a) ≡ quiet_bits a
  unfolding format_marked
  format_quiet = ap (λ (x : ℕ). bit_and x 0x1D) (other_stored cpt_for (counter (reg a cpt_for)) (line_marked a) statut refl) ∙ line_quiet

  sequence_quiet : quiet_bits (sequence_marked a) ≡ quiet_bits a
  unfolding sequence_marked
  sequence_quiet =
      let x : ℕ = bit_or (reg a statut) 0x02 in
      ap (λ (x : ℕ). bit_and x 0x1D) (other_stored cpt_seq (counter (reg a cpt_seq)) (store statut x a) statut refl)
      ∙ (calm_status a.regs x (quiet_sequence (reg a statut))).bits

  skip_quiet : (m : ℕ) → quiet_bits (skip_marked m a) ≡ quiet_bits a
  unfolding skip_marked
  skip_quiet zero = refl
  skip_quiet (suc m) =
      let x : ℕ = bit_or (reg a statut) 0x02 in
      ap (λ (x : ℕ). bit_and x 0x1D) (other_stored cpt_seq (counter_by (suc m) (reg a cpt_seq)) (store statut x a) statut refl)
      ∙ (calm_status a.regs x (quiet_sequence (reg a statut))).bits

  window_quiet : quiet_bits (window_marked a) ≡ quiet_bits a
  unfolding window_marked
  window_quiet = (calm_status a.regs (bit_or (reg a statut) 0x02) (quiet_sequence (reg a statut))).bits

-- what a deed leaves, before its reply is sent
pub record Keeps (a : Agent) (call : Call) (n : ℕ) (b : Agent) : Type 0 where
  pub counters : (i : ℕ) → is_counter i ≡ true → Counter a call n b i
  pub bits : quiet_bits b ≡ quiet_bits a

pub calmly : {a b : Agent} (call : Call) (n : ℕ) → Calm a.regs b.regs → Keeps a call n b
calmly call n c = record { counters = λ i e. as_before (c.counters i e); bits = c.bits }

-- and then calmly changed
pub recounted : {a b d : Agent} {call : Call} {n i : ℕ} → reg d i ≡ reg b i → Counter a call n b i → Counter a call n d i
recounted e (as_before h) = as_before (e ∙ h)
recounted e (written w z l u) = written w z l u
recounted e (out_of_sequence w z h) = out_of_sequence w z (e ∙ h)
recounted e (not_served w z h) = not_served w z (e ∙ h)
recounted e (skipped w i z h) = skipped w i z (e ∙ h)

pub then_calmly : {a b d : Agent} {call : Call} {n : ℕ} → Keeps a call n b → Calm b.regs d.regs → Keeps a call n d
then_calmly k c = record { counters = λ i e. recounted (c.counters i e) (k.counters i e); bits = c.bits ∙ k.bits }

-- ---- refusals
-- one counter is raised, by n, or none
one_raised : (n : ℕ) (a b : Agent) (j i : ℕ) → (eqb i j ≡ false → reg b i ≡ reg a i) → (reg b j ≡ counter_by n (reg a j)) ⊎ (reg b j ≡ reg a j)
    → (reg b i ≡ reg a i) ⊎ ((i ≡ j) × (reg b i ≡ counter_by n (reg a i)))
one_raised n a b j i others r = go (eqb i j) refl
  where
    go : (p : Bool) → eqb i j ≡ p → (reg b i ≡ reg a i) ⊎ ((i ≡ j) × (reg b i ≡ counter_by n (reg a i)))
    go false e = inl (others e)
    go true e =
        let s : i ≡ j = eqb-true i j e in
        ⊎_elim (λ h. inr (s, subst (λ (k : ℕ). reg b k ≡ counter_by n (reg a k)) (sym s) h)) (λ h. inl (subst (λ (k : ℕ). reg b k ≡ reg a k) (sym s) h)) r

pub not_status : (i : ℕ) → is_counter i ≡ true → eqb i statut ≡ false
not_status i e = ne_eqb i statut (λ h. omega (arith, counter_low i e, h))

module _ (a : Agent) (call : Call) (n : ℕ) where
  format_keeps : n ≡ typ → Keeps a call n (format_marked a)
  format_keeps z = record {
    counters = λ i e. ⊎_elim as_before (λ p. not_served p.0 z p.1)
        (one_raised 1 a (format_marked a) cpt_for i (λ h. (but_for a format_mark).registers i (rw (not_status i e) h)) (raised_format a));
    bits = format_quiet a;
  }

  sequence_keeps : (n ≡ cycle) ⊎ (n ≡ out_of_order) → Keeps a call n (sequence_marked a)
  sequence_keeps z = record {
    counters = λ i e. ⊎_elim as_before (λ p. out_of_sequence p.0 z p.1)
        (one_raised 1 a (sequence_marked a) cpt_seq i (λ h. (but_for a sequence_mark).registers i (rw (not_status i e) h)) (raised_sequence a));
    bits = sequence_quiet a;
  }

  skip_names : (m i : ℕ) → is_counter i ≡ true → eqb i cpt_seq ≡ false → names_register (request_taken m) i ≡ false
  skip_names zero i e h = refl
  skip_names (suc m) i e h = rw (not_status i e) h

  -- a request that is taken, with 0 or 16
  pub skip_keeps : {f : Frame} {xs : List ℕ} → Brings call f xs → (n ≡ accepted) ⊎ (n ≡ outside_rules) → Keeps a call n (skip_marked (skips_by a f) a)
  skip_keeps {f = f} w z =
      let m : ℕ = skips_by a f in
      record {
        counters = λ i e. ⊎_elim as_before (λ p. skipped w p.0 z p.1)
            (one_raised m a (skip_marked m a) cpt_seq i (λ h. (but_for a (request_taken m)).registers i (skip_names m i e h)) (raised_skip a m));
        bits = skip_quiet a m;
      }

  -- any other row than that of 16
  pub row_keeps : (b : Bool) (s : ℕ) → eqb n outside_rules ≡ false → Keeps a call n (changed (row_of b s n) a)
  row_keeps b s other =
      by_row_lem (λ c. Keeps a call n (changed c a)) b s n (calmly call n (calm_same a.regs))
      record { counters = λ i e. as_before ((but_for a line_mark).registers i (not_status i e)); bits = line_quiet a }
      format_keeps
      (λ z. then_calmly (sequence_keeps (inl z)) (calm_fallen (sequence_marked a) by_wrong_cycle))
      sequence_keeps
      record { counters = λ i e. as_before ((but_for a window_mark).registers i (not_status i e)); bits = window_quiet a }
      (λ z. absurd (eqb-false n outside_rules other z))
