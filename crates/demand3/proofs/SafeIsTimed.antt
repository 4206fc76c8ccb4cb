-- An effect on a safe module is one of the moves that keep its syncs in their window. Assumes nothing.
use mathlib.Core.Path.{◌≡◌, refl, sym, ap, ◌∙◌, subst}
use Prim.Native.Nat.{ℕ}
use Rattle.rules.specs.Calls.{Call}
use Rattle.rules.specs.State.{in_run}
use Rattle.demand3.specs.Claim.{Safe}
use Rattle.demand3.specs.Events.{Event, a_request, a_refused_write, an_assignment, nothing}
use Rattle.demand3.proofs.Effects.{InTime, next, same, Did, fell_at_tick, fell_at_tick_and_end, ticked_on, ticked_on_and_end, kept, lost, missed, heard_only, entered_run, taken_only, asked, configured, released_by, withdrawn, output, named_first, acknowledged}
use Rattle.demand3.proofs.Link.{view_seen, not_both}
use Rattle.demand3.proofs.TimedModules.{Timer, Other, Window, RanOn, RunsOrSafe, MayDo}
use Rattle.demand3.proofs.TimedModules as moves
use Rattle.demand3.proofs.Views.{Cycle, Clocks, View, Agree, Facts}

abbrev pub timer_of : View → Timer
timer_of v = record { seen = view_seen v; heard = v.cycle.heard; e = v.clocks.e; mark = v.mark }

other : {ev : Event} (x : Event) → Other x → ev ≡ x → Other ev
other x q e = subst Other (sym e) q

same_elapsed : {v w : View} → Agree v w → v.clocks.e ≡ w.clocks.e
same_elapsed a = ap (λ (x : Clocks). x.e) a.clocks

same_heard : {v w : View} → Agree v w → v.cycle.heard ≡ w.cycle.heard
same_heard a = ap (λ (y : Cycle). y.heard) a.cycle

window_of : (v : View) → InTime v → Window (timer_of v)
window_of v (next p) = moves.next p
window_of v (same u p) = moves.same u p

module _ (v u : View) (f : Facts v) where
  -- the mode is as it was
  ran_on : u.mode ≡ v.mode → RanOn (timer_of v) (timer_of u)
  ran_on m run = sym m ∙ run

  -- and so are the outputs
  runs_or_safe : {w : View} → Agree u w → w.mode ≡ v.mode → ((i : ℕ) → w.registers.out i ≡ v.registers.out i) → RunsOrSafe (timer_of u)
  runs_or_safe a m outs stopped =
      let rest = f.modes (λ run. stopped (a.mode ∙ m ∙ run)) in
      record { mode = a.mode ∙ m ∙ rest; zero = λ i b. a.registers.out i b ∙ outs i ∙ f.cold rest i b }

  safe : {w : View} → Agree u w → Safe (view_seen w) → Safe (view_seen u)
  safe a s = record { mode = a.mode ∙ s.mode; zero = λ i b. a.registers.out i b ∙ s.zero i b }

  still : {means : Event} {w : View} → Other means → Agree u w → w.mode ≡ v.mode → w.clocks.e ≡ v.clocks.e → w.cycle.heard ≡ v.cycle.heard → w.mark ≡ v.mark → MayDo (timer_of v) means (timer_of u)
  still q a m e h k = moves.kept q (ran_on (a.mode ∙ m)) (same_elapsed a ∙ e) record { heard = same_heard a ∙ h; mark = a.mark ∙ k }

  module _ (call : Call) {n : ℕ} {means : Event} where
    pub moved : {w : View} → Did v call n means w → Agree u w → MayDo (timer_of v) means (timer_of u)
    moved (fell_at_tick g ev at) a = moves.fell_at_tick ev (safe a record { mode = refl; zero = λ i b. refl })
    moved (fell_at_tick_and_end g ev at) a = moves.fell_at_tick ev (safe a record { mode = refl; zero = λ i b. refl })
    moved (ticked_on ev below on) a =
        moves.ticked_on ev (ran_on a.mode) (runs_or_safe a refl (λ i. refl)) on (same_elapsed a) record { heard = same_heard a; mark = a.mark }
    moved (ticked_on_and_end ev below ends) a =
        moves.cycle_ended ev (ran_on a.mode) (runs_or_safe a refl (λ i. refl)) ends.over ends.no_mark (same_elapsed a) a.mark
    moved (kept ev) a = still (other nothing tt ev) a refl refl refl refl
    moved (lost ev none wrong) a = moves.fell (other nothing tt ev) a.mode
    moved (missed ev none) a = moves.missed_one ev (ran_on a.mode) (same_elapsed a) (same_heard a) a.mark
    moved (heard_only src cyc ev known timely) a =
        moves.synced src cyc ev (λ run. window_of v (timely run)) (rw a.registers.t f.t_set) (same_elapsed a) (same_heard a) a.mark
    moved (entered_run src cyc ev known p q) a =
        moves.synced src cyc ev (λ run. absurd (not_both v.mode run p)) (rw a.registers.t f.t_set) (same_elapsed a) (same_heard a) a.mark
    moved (taken_only r ev reach) a = still (other (a_refused_write r) tt ev) a refl refl refl refl
    moved (asked r ev reach w) a = still (other (a_request r) tt ev) a refl refl refl refl
    moved (configured r t c m ev reach w p) a = still (other (a_request r) tt ev) a refl refl refl refl
    moved (released_by r ev reach w o) a = still (other (a_request r) tt ev) a refl refl refl refl
    moved (withdrawn r ev reach w o) a = moves.fell (other (a_request r) tt ev) a.mode
    moved (output r add xs zero ev reach w run laid) a = still (other (a_request r) tt ev) a refl refl refl refl
    moved (named_first sid ev no_one) a = still (other (an_assignment sid) tt ev) a refl refl refl refl
    moved (acknowledged sid ev named-is) a = still (other (an_assignment sid) tt ev) a refl refl refl refl

    -- t changes in fallback only
    pub steady : {w : View} → Did v call n means w → Agree u w → v.mode ≡ in_run → u.registers.t ≡ v.registers.t
    steady (fell_at_tick g ev at) a run = a.registers.t
    steady (fell_at_tick_and_end g ev at) a run = a.registers.t
    steady (ticked_on ev below on) a run = a.registers.t
    steady (ticked_on_and_end ev below ends) a run = a.registers.t
    steady (kept ev) a run = a.registers.t
    steady (lost ev none wrong) a run = a.registers.t
    steady (missed ev none) a run = a.registers.t
    steady (heard_only src cyc ev known timely) a run = a.registers.t
    steady (entered_run src cyc ev known p q) a run = a.registers.t
    steady (taken_only r ev reach) a run = a.registers.t
    steady (asked r ev reach w) a run = a.registers.t
    steady (configured r t c m ev reach w p) a run = absurd (not_both v.mode run p)
    steady (released_by r ev reach w o) a run = a.registers.t
    steady (withdrawn r ev reach w o) a run = a.registers.t
    steady (output r add xs zero ev reach w run laid) a _ = a.registers.t
    steady (named_first sid ev no_one) a run = a.registers.t
    steady (acknowledged sid ev named-is) a run = a.registers.t
