-- An effect on a safe module is one of the moves that bound it. Assumes nothing.
use mathlib.Core.Path.{◌≡◌, sym, ap, subst}
use Prim.Native.Nat.{ℕ}
use Rattle.rules.specs.Calls.{Call}
use Rattle.demand3.specs.Events.{Event, a_missed_sync, a_request, a_refused_write, an_assignment, nothing}
use Rattle.demand3.proofs.BoundedModules.{Watchdog, Quiet, MayDo}
use Rattle.demand3.proofs.BoundedModules as moves
use Rattle.demand3.proofs.Effects.{Did, fell_at_tick, fell_at_tick_and_end, ticked_on, ticked_on_and_end, kept, lost, missed, heard_only, entered_run, taken_only, asked, configured, released_by, withdrawn, output, named_first, acknowledged}
use Rattle.demand3.proofs.Link.{view_seen}
use Rattle.demand3.proofs.Views.{Clocks, View, Agree, Facts}

abbrev pub watchdog_of : View → Watchdog
watchdog_of v = record { seen = view_seen v; rep = v.registers.rep; s = v.clocks.s }

quiet : {ev : Event} (x : Event) → Quiet x → ev ≡ x → Quiet ev
quiet x q e = subst Quiet (sym e) q

same_silence : {v w : View} → Agree v w → v.clocks.s ≡ w.clocks.s
same_silence a = ap (λ (x : Clocks). x.s) a.clocks

module _ (v u : View) (f : Facts v) (call : Call) {n : ℕ} {means : Event} where
  pub moved : {w : View} → Did v call n means w → Agree u w → MayDo (watchdog_of v) means (watchdog_of u)
  moved (fell_at_tick g ev at) a = moves.fell_at_tick ev (same_silence a) a.registers.rep record { mode = a.mode; zero = a.registers.out }
  moved (fell_at_tick_and_end g ev at) a = moves.fell_at_tick ev (same_silence a) a.registers.rep record { mode = a.mode; zero = a.registers.out }
  moved (ticked_on ev below on) a = moves.ticked_on ev (same_silence a) record { under = rw (same_silence a) below.sync; n = f.n; t = f.t } record { mode = a.mode; rep = a.registers.rep }
  moved (ticked_on_and_end ev below ends) a = moves.ticked_on ev (same_silence a) record { under = rw (same_silence a) below.sync; n = f.n; t = f.t } record { mode = a.mode; rep = a.registers.rep }
  moved (kept ev) a = moves.kept (quiet nothing tt ev) (same_silence a) record { mode = a.mode; rep = a.registers.rep }
  moved (lost ev none wrong) a = moves.fell (quiet nothing tt ev) (same_silence a) a.registers.rep a.mode
  moved (missed ev none) a = moves.kept (quiet a_missed_sync tt ev) (same_silence a) record { mode = a.mode; rep = a.registers.rep }
  moved (heard_only src cyc ev known timely) a = moves.heard_only src cyc ev (same_silence a) record { mode = a.mode; rep = a.registers.rep }
  moved (entered_run src cyc ev known p q) a = moves.entered_run src cyc ev (same_silence a) p q a.mode
  moved (taken_only r ev reach) a = moves.kept (quiet (a_refused_write r) tt ev) (same_silence a) record { mode = a.mode; rep = a.registers.rep }
  moved (asked r ev reach w) a = moves.kept (quiet (a_request r) tt ev) (same_silence a) record { mode = a.mode; rep = a.registers.rep }
  moved (configured r t c m ev reach w p) a = moves.kept (quiet (a_request r) tt ev) (same_silence a) record { mode = a.mode; rep = a.registers.rep }
  moved (released_by r ev reach w o) a = moves.released r ev o (same_silence a) a.mode
  moved (withdrawn r ev reach w o) a = moves.fell (quiet (a_request r) tt ev) (same_silence a) a.registers.rep a.mode
  moved (output r add xs zero ev reach w run laid) a = moves.kept (quiet (a_request r) tt ev) (same_silence a) record { mode = a.mode; rep = a.registers.rep }
  moved (named_first sid ev no_one) a = moves.kept (quiet (an_assignment sid) tt ev) (same_silence a) record { mode = a.mode; rep = a.registers.rep }
  moved (acknowledged sid ev named-is) a = moves.kept (quiet (an_assignment sid) tt ev) (same_silence a) record { mode = a.mode; rep = a.registers.rep }
