-- An accepted sync from a recorded source makes a good agent of a good one. Assumes nothing.
use mathlib.Core.Path.{◌≡◌, refl}
use mathlib.Core.Bool.{true, not, ◌&&◌}
use mathlib.Core.Logic.{inl, inr}
use Prim.Native.Nat.{ℕ, ◌*◌, ◌<◌}
use native.Mathlib.Omega.{arith}
use borrow.Author.Tests.{eqb-true}
use lib.Dec.{eqb}
use Rattle.base.proofs.Choosing.{by_test, and_left, and_right}
use Rattle.rules.specs.Fallback.{released}
use Rattle.rules.specs.Registers.{out_rep, tcyc, cnf_cyc}
use Rattle.rules.specs.Sources.{holds}
use Rattle.rules.specs.State.{nobody, running, reg}
use Rattle.rules.specs.Sync.{heard_sync, synced}
use Rattle.rules.specs.declared.Agent.{Agent}
use Rattle.rules.proofs.Kept.{GoodTo, good_counting}
use Rattle.rules.proofs.Modes.{rests, good_running, positive}
use Rattle.rules.proofs.Parts.{ModeParts}

module _ (a : Agent) (src cyc : ℕ) (g : GoodTo 254 a) (known : holds a.known a.count src ≡ true) (someone : src ≡ nobody → ⊥) where
  no_silence : 0 < reg a cnf_cyc * reg a tcyc
  no_silence = positive (reg a cnf_cyc) (reg a tcyc) g.parts.settings.n_set g.parts.settings.t_set

  heard_mode : ModeParts a.regs 0 a.idle src a.mode
  heard_mode =
      let x = g.parts.by_mode in
      record {
        mode_is = x.mode_is;
        in_run_lem = λ m. let y = x.in_run_lem m in record { bits = y.bits; rep_55 = y.rep_55; s_below = no_silence; q_below = y.q_below; has_last = someone };
        in_fallback_lem = λ m. x.in_fallback_lem m;
      }

  good_heard : GoodTo 254 (heard_sync src cyc a)
  unfolding heard_sync
  good_heard = good_counting 254 254 a g (omega arith) (omega arith) (inl known) (inl refl) (inr refl) heard_mode

  pub good_synced : GoodTo 254 (synced src cyc a)
  unfolding synced heard_sync
  good_synced =
      by_test (GoodTo 254) (not (running a) && eqb (reg a out_rep) released)
      (λ h. good_running 254 (heard_sync src cyc a) good_heard
      (rests a.regs a.silence a.idle a.last a.mode g.parts.by_mode (and_left (not (running a)) (eqb (reg a out_rep) released) h))
      (eqb-true (reg a out_rep) released (and_right (not (running a)) (eqb (reg a out_rep) released) h))
      no_silence someone)
      (λ h. good_heard)
