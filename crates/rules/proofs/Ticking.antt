-- A tick makes a good agent of a good one. Between counting and the cycle's end e may be 255. Assumes nothing.
use mathlib.Core.Path.{◌≡◌, refl, ◌∙◌}
use mathlib.Core.Bool.{true, false}
use mathlib.Core.List.{List}
use mathlib.Core.Logic.{inl, inr, ⊎_elim}
use Prim.Native.Nat.{ℕ, ◌+◌, ◌*◌}
use native.Mathlib.Omega.{arith}
use borrow.Author.Tests.{leb-false, eq-eqb, ne_eqb}
use lib.Dec.{leb}
use Rattle.base.proofs.Choosing.{by_test, choose_false, and_rest}
use Rattle.rules.specs.Fallback.{enter_fallback}
use Rattle.rules.specs.Grounds.{by_sync_silence, by_command_silence, by_window, is_ground}
use Rattle.rules.specs.Registers.{tcyc}
use Rattle.rules.specs.State.{in_run, unheard, running, t_of, n_of, m_of}
use Rattle.rules.specs.Tick.{counted, sync_limit, command_limit, window_limit, limited, cycle_ended, ticked}
use Rattle.rules.specs.declared.Agent.{Agent}
use Rattle.rules.proofs.Kept.{GoodTo, good_counting}
use Rattle.rules.proofs.Modes.{good_fallen_at}
use Rattle.rules.proofs.Parts.{LastIs, ModeParts}

-- a source that fits a cycle fits an unheard one
pub last_unheard : (l : List ℕ) (n last heard : ℕ) → LastIs l n last heard → LastIs l n last unheard
last_unheard l n last heard = ⊎_elim (λ e. inl e) (λ e. inr (e.0, refl))

module _ (a : Agent) (g : GoodTo 254 a) where
  -- below both limits
  counted_mode : sync_limit (counted a) ≡ false → command_limit (counted a) ≡ false
      → ModeParts a.regs (counted a).silence (counted a).idle a.last a.mode
  unfolding counted
  counted_mode one two =
      let x = g.parts.by_mode in
      record {
        mode_is = x.mode_is;
        in_run_lem = λ m. let y = x.in_run_lem m in record {
          bits = y.bits;
          rep_55 = y.rep_55;
          s_below = leb-false (n_of a * t_of a) (counted a).silence one;
          q_below = leb-false (m_of a * t_of a) (counted a).idle (and_rest (running a) (leb (m_of a * t_of a) (counted a).idle) (eq-eqb a.mode in_run m) two);
          has_last = y.has_last;
        };
        in_fallback_lem = λ m. let y = x.in_fallback_lem m in record {
          bits = y.bits;
          q_zero = choose_false (a.idle + 1) a.idle (ne_eqb a.mode in_run (λ e. omega (arith, m, e))) ∙ y.q_zero;
          outputs_zero_lem = y.outputs_zero_lem;
        };
      }

  good_counted : sync_limit (counted a) ≡ false → command_limit (counted a) ≡ false → GoodTo 255 (counted a)
  unfolding counted
  good_counted one two =
      let p = g.parts in
      good_counting 254 255 a g p.k_most (omega (arith, p.e_most)) p.last_is p.heard_is p.mark_is (counted_mode one two)

  fallen : (ground : ℕ) → is_ground ground ≡ true → GoodTo 255 (enter_fallback ground (counted a))
  unfolding counted
  fallen ground h = good_fallen_at ground h 254 255 a (a.elapsed + 1) (counted a).silence (counted a).idle (omega (arith, g.parts.e_most)) g

  good_limited : GoodTo 255 (limited (counted a))
  unfolding limited counted
  good_limited =
      by_test (GoodTo 255) (sync_limit (counted a)) (λ h. fallen by_sync_silence refl)
      (λ one. by_test (GoodTo 255) (command_limit (counted a)) (λ h. fallen by_command_silence refl)
      (λ two. by_test (GoodTo 255) (window_limit (counted a)) (λ h. fallen by_window refl) (λ three. good_counted one two)))

good_cycle_end : (a : Agent) → GoodTo 255 a → GoodTo 254 (cycle_ended a)
unfolding cycle_ended
good_cycle_end a g =
    let p = g.parts in
    by_test (GoodTo 254) (leb (t_of a) a.elapsed)
    (λ h. good_counting 255 254 a g (omega arith) (omega arith) (last_unheard a.known a.count a.last a.heard p.last_is) (inr refl) p.mark_is p.by_mode)
    (λ h. good_counting 255 254 a g p.k_most (omega (arith, leb-false (t_of a) a.elapsed h, g.registers.are_bytes tcyc)) p.last_is p.heard_is p.mark_is p.by_mode)

pub good_tick : (a : Agent) → GoodTo 254 a → GoodTo 254 (ticked a)
unfolding ticked
good_tick a g = good_cycle_end (limited (counted a)) (good_limited a g)
