-- An accepted write makes a good agent of a good one, span by span. Assumes nothing.
use mathlib.Core.Path.{◌≡◌, refl, sym, ap, ◌∙◌}
use mathlib.Core.Bool.{true, not, ◌&&◌}
use mathlib.Core.List.{List}
use mathlib.Core.Logic.{inl, inr}
use Prim.Native.Nat.{ℕ, ◌+◌, ◌≤◌, ◌<◌}
use native.Mathlib.Nat.{add-zero}
use native.Mathlib.Omega.{arith}
use borrow.Author.Tests.{eqb-true}
use lib.Bits.{bit_and}
use lib.Dec.{eqb}
use lib.ListN.{length, get_or}
use lib.Seq.{sets}
use Rattle.base.specs.Bytes.{Bytes}
use Rattle.base.proofs.Choosing.{by_test, and_left, and_right, or_cases}
use Rattle.base.proofs.Facts.{not_zero}
use Rattle.base.proofs.Outside.{Outside, outside_sets, same_before, same_behind}
use Rattle.base.proofs.Stored.{stored_at}
use Rattle.base.proofs.Choosing.{never}
use Rattle.rules.specs.Fallback.{released, withheld}
use Rattle.rules.specs.Grounds.{by_order, is_ground}
use Rattle.rules.specs.Registers.{typ_at, tid_at, out_rep, tcyc, statut, cnf_rep, cnf_cyc, ground_at, outputs_at}
use Rattle.rules.specs.State.{in_run, in_fallback, running, with_regs, with_idle}
use Rattle.rules.specs.Writes.{allowed, written}
use Rattle.rules.specs.declared.Agent.{Agent}
use Rattle.rules.specs.declared.Span.{Span}
use Rattle.rules.specs.declared.Span.TheVariants as span
use Rattle.rules.proofs.Kept.{SameSettings, same_behind_settings, sid_before, settings_kept, running_kept, named_kept, ByteRegisters, registers_stored, GoodTo}
use Rattle.rules.proofs.Marking.{good_middle}
use Rattle.rules.proofs.Modes.{rests, good_fallen, positive}
use Rattle.rules.proofs.Parts.{Settings, Resting, ModeParts}
use Rattle.rules.proofs.Spans.{Placed, inside}

-- the first byte of a run stands where the run begins
stored_first : (r xs : List ℕ) (i j : ℕ) → i ≡ j → 1 ≤ length xs → i + length xs ≤ length r → get_or (sets r i xs) j 0 ≡ get_or xs 0 0
stored_first r xs i j e h f = ap (λ (k : ℕ). get_or (sets r i xs) k 0) (sym e ∙ sym (add-zero i)) ∙ stored_at r i xs 0 h f

-- new registers that keep all below OUT_REP, and q
rewritten : (a : Agent) (g : GoodTo 254 a) (q : List ℕ) (i : ℕ) → ByteRegisters q → ((j : ℕ) → j < 0x17 → get_or q j 0 ≡ get_or a.regs j 0)
    → Settings q → ModeParts q a.silence i a.last a.mode → GoodTo 254 (with_idle i (with_regs q a))
rewritten a g q i z low s m =
    let p = g.parts in
    record {
      parts = record {
        settings = s;
        sources = p.sources;
        named = named_kept a.regs q a.count (sid_before a.regs q low) p.named;
        fixed = p.fixed;
        k_most = p.k_most;
        e_most = p.e_most;
        last_is = p.last_is;
        heard_is = p.heard_is;
        mark_is = p.mark_is;
        by_mode = m;
      };
      registers = z;
      places = g.places;
    }

module _ (a : Agent) (g : GoodTo 254 a) (add : ℕ) (xs : List ℕ) (b : Bytes xs) (some : 1 ≤ length xs) where
  r : List ℕ
  r = a.regs

  q : List ℕ
  q = sets a.regs add xs

  z : ByteRegisters (sets a.regs add xs)
  z = registers_stored a.regs add xs b g.registers

  s : Settings a.regs
  s = g.parts.settings

  -- a write before the outputs leaves these, and STATUT if it is not in it
  resting : (hi : ℕ) → Outside 0x17 hi a.regs (sets a.regs add xs) → hi ≤ 0x80 → get_or (sets a.regs add xs) statut 0 ≡ get_or a.regs statut 0
      → a.mode ≡ in_fallback → Resting (sets a.regs add xs) a.idle
  resting hi o h e m =
      let y = g.parts.by_mode.in_fallback_lem m in
      record {
        bits = ap (λ (x : ℕ). bit_and x 0xC0) e ∙ y.bits;
        q_zero = y.q_zero;
        outputs_zero_lem = λ i k. same_behind 0x17 hi a.regs (sets a.regs add xs) o (outputs_at + i) (omega arith) ∙ y.outputs_zero_lem i k;
      }

  -- 17h, 55h
  good_released : add ≡ 0x17 → add + length xs ≤ 0x18 → get_or xs 0 0 ≡ released → GoodTo 254 (with_regs (sets a.regs add xs) a)
  unfolding r q z s
  good_released e h x =
      let o : Outside 0x17 0x18 r q = outside_sets 0x17 0x18 r add xs (omega arith) h in
      let rep : get_or q out_rep 0 ≡ released = stored_first r xs add out_rep e some (omega (arith, g.registers.are_256)) ∙ x in
      rewritten a g q a.idle z (same_before 0x17 0x18 r q o) record {
        t_set = rw (o tcyc tt) s.t_set;
        n_set = rw (o cnf_cyc tt) s.n_set;
        m_set = rw (o cnf_rep tt) s.m_set;
        rep_is = inl rep;
        tid_is = rw (o tid_at tt) s.tid_is;
        typ_is = o typ_at tt ∙ s.typ_is;
        ground_is = ap is_ground (o ground_at tt) ∙ s.ground_is;
      } record {
        mode_is = g.parts.by_mode.mode_is;
        in_run_lem = λ m. let y = g.parts.by_mode.in_run_lem m in record {
          bits = ap (λ (x : ℕ). bit_and x 0xC0) (o statut tt) ∙ y.bits;
          rep_55 = rep;
          s_below = rw (o cnf_cyc tt, o tcyc tt) y.s_below;
          q_below = rw (o cnf_rep tt, o tcyc tt) y.q_below;
          has_last = y.has_last;
        };
        in_fallback_lem = resting 0x18 o (omega arith) (o statut tt);
      }

  -- 18h, and 1Ah to 1Dh, in fallback
  good_configured : 0x18 ≤ add → add + length xs ≤ 0x1E → get_or (sets a.regs add xs) statut 0 ≡ get_or a.regs statut 0
      → 0 < get_or (sets a.regs add xs) tcyc 0 → 0 < get_or (sets a.regs add xs) cnf_cyc 0 → 0 < get_or (sets a.regs add xs) cnf_rep 0
      → a.mode ≡ in_fallback → GoodTo 254 (with_regs (sets a.regs add xs) a)
  unfolding r q z s
  good_configured l h st t n m rest =
      let o : Outside 0x17 0x1E r q = outside_sets 0x17 0x1E r add xs (omega arith) h in
      rewritten a g q a.idle z (same_before 0x17 0x1E r q o) record {
        t_set = t;
        n_set = n;
        m_set = m;
        rep_is = rw (outside_sets 0x18 0x1E r add xs l h out_rep tt) s.rep_is;
        tid_is = rw (o tid_at tt) s.tid_is;
        typ_is = o typ_at tt ∙ s.typ_is;
        ground_is = ap is_ground (o ground_at tt) ∙ s.ground_is;
      } record {
        mode_is = inr rest;
        in_run_lem = λ e. absurd (omega (arith, e, rest));
        in_fallback_lem = resting 0x1E o (omega arith) st;
      }

  good_cycle_time : add ≡ 0x18 → add + length xs ≤ 0x19 → (not (running a) && not (eqb (get_or xs 0 0) 0)) ≡ true
      → GoodTo 254 (with_regs (sets a.regs add xs) a)
  unfolding r q z s
  good_cycle_time e h ok =
      let o : Outside 0x18 0x19 r q = outside_sets 0x18 0x19 r add xs (omega arith) h in
      let t : 0 < get_or xs 0 0 = not_zero (get_or xs 0 0) (and_right (not (running a)) (not (eqb (get_or xs 0 0) 0)) ok) in
      good_configured (omega arith) (omega arith) (o statut tt)
      (rw (stored_first r xs add tcyc e some (omega (arith, g.registers.are_256))) t)
      (rw (o cnf_cyc tt) s.n_set)
      (rw (o cnf_rep tt) s.m_set)
      (rests a.regs a.silence a.idle a.last a.mode g.parts.by_mode (and_left (not (running a)) (not (eqb (get_or xs 0 0) 0)) ok))

  good_limits : 0x1A ≤ add → add + length xs ≤ 0x1E
      → (not (running a) && not (eqb (get_or (sets a.regs add xs) cnf_rep 0) 0) && not (eqb (get_or (sets a.regs add xs) cnf_cyc 0) 0)) ≡ true
      → GoodTo 254 (with_regs (sets a.regs add xs) a)
  unfolding r q z s
  good_limits l h ok =
      let o : Outside 0x1A 0x1E r q = outside_sets 0x1A 0x1E r add xs l h in
      let first : (not (running a) && not (eqb (get_or q cnf_rep 0) 0)) ≡ true =
      and_left (not (running a) && not (eqb (get_or q cnf_rep 0) 0)) (not (eqb (get_or q cnf_cyc 0) 0)) ok in
      good_configured (omega arith) h (o statut tt) (rw (o tcyc tt) s.t_set)
      (not_zero (get_or q cnf_cyc 0) (and_right (not (running a) && not (eqb (get_or q cnf_rep 0) 0)) (not (eqb (get_or q cnf_cyc 0) 0)) ok))
      (not_zero (get_or q cnf_rep 0) (and_right (not (running a)) (not (eqb (get_or q cnf_rep 0) 0)) first))
      (rests a.regs a.silence a.idle a.last a.mode g.parts.by_mode (and_left (not (running a)) (not (eqb (get_or q cnf_rep 0) 0)) first))

  -- 80h to BFh, in RUN
  good_outputs : 0x80 ≤ add → add + length xs ≤ 0xC0 → running a ≡ true → GoodTo 254 (with_idle 0 (with_regs (sets a.regs add xs) a))
  unfolding r q z s
  good_outputs l h ok =
      let o : Outside 0x80 0xC0 r q = outside_sets 0x80 0xC0 r add xs l h in
      let f : SameSettings r q = same_behind_settings 0x80 0xC0 r q (omega arith) o (o ground_at tt) in
      let run : a.mode ≡ in_run = eqb-true a.mode in_run ok in
      let y = g.parts.by_mode.in_run_lem run in
      rewritten a g q 0 z (λ j k. same_before 0x80 0xC0 r q o j (omega arith)) (settings_kept r q f s) record {
        mode_is = inl run;
        in_run_lem = λ m. running_kept r q a.silence 0 a.last f.limits (ap (λ (x : ℕ). bit_and x 0xC0) (o statut tt) ∙ y.bits) y.rep_55 y.s_below
            (positive (get_or r cnf_rep 0) (get_or r tcyc 0) s.m_set s.t_set) y.has_last;
        in_fallback_lem = λ m. absurd (omega (arith, m, run));
      }

-- ---- whatever the span
module _ (a : Agent) (g : GoodTo 254 a) (add : ℕ) (xs : List ℕ) (b : Bytes xs) where
  release : 1 ≤ length xs → 0x17 ≤ add → add + length xs ≤ 0x18 → allowed span.Release a add xs ≡ true → GoodTo 254 (written span.Release a add xs)
  release some l h ok =
      by_test (GoodTo 254) (eqb (get_or xs 0 0) withheld) (λ e. good_fallen by_order refl 254 a g)
      (λ e. good_released a g add xs b some (omega arith) h
      (or_cases (eqb (get_or xs 0 0) released) (eqb (get_or xs 0 0) withheld) ok (eqb-true (get_or xs 0 0) released) (λ f. never (sym e ∙ f))))

  pub good_written : (s : Span) → Placed add (length xs) s → allowed s a add xs ≡ true → GoodTo 254 (written s a add xs)
  good_written span.Release (inside _ some l h) ok = release some l h ok
  good_written span.CycleTime (inside _ some l h) ok = good_cycle_time a g add xs b some (omega arith) h ok
  good_written span.Limits (inside _ some l h) ok = good_limits a g add xs b some l h ok
  good_written span.Counters (inside _ some l h) ok = good_middle 254 a g add xs (omega arith) (omega arith) b
  good_written span.Config (inside _ some l h) ok = good_middle 254 a g add xs (omega arith) (omega arith) b
  good_written span.Outputs (inside _ some l h) ok = good_outputs a g add xs b some l h ok
  good_written span.Outside p ok = never ok
