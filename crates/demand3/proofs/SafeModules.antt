-- A history of effects on a safe module, whatever the module is: demand 3 holds of it, and the sharper statements do.
-- Knows no rules. Assumes nothing.
use mathlib.Core.Bool.{false}
use mathlib.Core.Path.{◌≡◌, refl, sym, ◌∙◌}
use Prim.Native.Nat.{ℕ}
use native.Mathlib.Omega.{arith}
use Rattle.base.proofs.Choosing.{never}
use Rattle.rules.specs.Calls.{Call}
use Rattle.rules.specs.Fallback.{withheld}
use Rattle.rules.specs.Grounds.{no_ground}
use Rattle.rules.specs.State.{in_fallback, unheard}
use Rattle.demand3.specs.Claim.{Everywhere, Holds}
use Rattle.demand3.specs.Events.{Event, Request}
use Rattle.demand3.specs.History.{History, power_on, Entry}
use Rattle.demand3.specs.Numbers.{unsound}
use Rattle.demand3.specs.Sharper.{Takes, Brings}
use Rattle.demand3.proofs.BoundedModules.{StartsBounded, CallBounded, bounded_module, bounded}
use Rattle.demand3.proofs.Device.{Device, HistoryOf, after_all_lem, of_each, does_as}
use Rattle.demand3.proofs.Effects.{Did}
use Rattle.demand3.proofs.Ignored.{MeansAsked, Ignored, unchanged_by}
use Rattle.demand3.proofs.KeptAll.{kept_by}
use Rattle.demand3.proofs.Link.{Linked, Taken, Kept, Fine, view_seen, view_entry}
use Rattle.demand3.proofs.Numbering.{when_unheard}
use Rattle.demand3.proofs.SafeIsBounded.{watchdog_of, moved}
use Rattle.demand3.proofs.SafeIsTimed.{timer_of, steady}
use Rattle.demand3.proofs.SafeIsTimed as times
use Rattle.demand3.proofs.Shown.{shows_kept}
use Rattle.demand3.proofs.TimedModules.{CallTimed, timed_module, timed}
use Rattle.demand3.proofs.Views.{View, Agree, Facts}

-- at power-up
pub record StartsSafe (v : View) : Type 0 where
  pub mode : v.mode ≡ in_fallback
  pub rep : v.registers.rep ≡ withheld
  pub ground : v.registers.ground ≡ no_ground
  pub s : v.clocks.s ≡ 0
  pub heard : v.cycle.heard ≡ unheard
  pub assigned : v.assigned ≡ false

-- one call: an effect, shown by the view u
pub record CallSafe (v : View) (call : Call) (n : ℕ) (means : Event) (u : View) : Type 0 where
  pub facts : Facts v
  pub effect : View
  pub did : Did v call n means effect
  pub shows : Agree u effect
  pub sound : n ≡ unsound → ⊥
  -- a call that brings a request means that request, or nothing
  pub asked : (src seq : ℕ) → Brings call src seq → MeansAsked src seq means

-- a safe module
abbrev pub safe_module : Device
safe_module = record { State = View; seen = view_seen; Starts = StartsSafe; Moves = CallSafe }

-- ---- bounded
call_bounded : (v u : View) (call : Call) (n : ℕ) (means : Event) → CallSafe v call n means u → CallBounded (watchdog_of v) call n means (watchdog_of u)
call_bounded v u call n means s = record { sound = s.sound; move = moved v u s.facts call s.did s.shows }

starts_bounded : (v : View) → StartsSafe v → StartsBounded (watchdog_of v)
starts_bounded v s = record { mode = s.mode; rep = s.rep; s = s.s }

-- ---- in their window
call_timed : (v u : View) (call : Call) (n : ℕ) (means : Event) → CallSafe v call n means u → CallTimed (timer_of v) call n means (timer_of u)
call_timed v u call n means s =
    record { steady = steady v u s.facts call s.did s.shows; move = times.moved v u s.facts call s.did s.shows }

-- ---- and the rest
start_link : (v : View) → StartsSafe v → Linked power_on v
start_link v s = record {
  idle = λ p. absurd (omega (arith, s.mode));
  numbering = rw s.heard (when_unheard _ _ _ _ _ _ tt);
  naming = record { known = λ p. never (sym s.assigned ∙ p); unknown = λ p. refl };
}

call_kept : (h : History) (v u : View) (call : Call) (n : ℕ) (means : Event) → CallSafe v call n means u → Linked h v → Kept h v call n means u
call_kept h v u call n means s l = shows_kept h v u s.effect s.shows call n means (kept_by h v s.facts l call n means s.did)

-- the links hold after every history
pub linked : {h : History} {v : View} → HistoryOf safe_module h v → Linked h v
linked = after_all_lem safe_module Linked start_link (λ h v u call n means s l. (call_kept h v u call n means s l).link)

pub as_bounded : {h : History} {v : View} → HistoryOf safe_module h v → HistoryOf bounded_module h (watchdog_of v)
as_bounded = does_as safe_module bounded_module watchdog_of (λ v. refl) starts_bounded call_bounded

pub as_timed : {h : History} {v : View} → HistoryOf safe_module h v → HistoryOf timed_module h (timer_of v)
as_timed = does_as safe_module timed_module timer_of (λ v. refl) (λ v s. s.mode) call_timed

-- what is known of one call
pub record One (h : History) (e : Entry) : Type 0 where
  pub fine : Fine h e
  pub taken : (r : Request) → Takes e r → Taken h r
  pub ignored : Ignored e

known : (h : History) (v u : View) (call : Call) (n : ℕ) (means : Event) → CallSafe v call n means u → Linked h v → One h (view_entry v call n means u)
known h v u call n means s l =
    let k = call_kept h v u call n means s l in
    record {
      fine = k.fine;
      taken = k.taken;
      ignored = λ src seq b not_so. unchanged_by v u call n means src seq b (s.asked src seq b) not_so s.did s.shows;
    }

pub each_call : {h : History} {v : View} → HistoryOf safe_module h v → Everywhere One h
each_call = of_each safe_module Linked start_link (λ h v u call n means s l. (call_kept h v u call n means s l).link) One known

pub holds : {h : History} {v : View} → HistoryOf safe_module h v → Holds h
holds m =
    let all = each_call m in
    let in_time = timed (as_timed m) in
    record {
      bounded = bounded (as_bounded m);
      outputs = λ past e c. (all past e c).fine.outputs;
      leaving_run = λ past e c. (all past e c).fine.leaving_run;
      numbers = λ past e c. (all past e c).fine.numbers;
      command_silence = λ past e c. (all past e c).fine.command_silence;
      sync_window = λ past e c. (in_time past e c).sync_window;
      steady_cycle = λ past e c. (in_time past e c).steady_cycle;
      missed_sync = λ past e c. (in_time past e c).missed_sync;
    }
