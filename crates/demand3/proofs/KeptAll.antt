-- Every effect is fine and keeps the link. Assumes nothing.
use Prim.Native.Nat.{ℕ}
use Rattle.rules.specs.Calls.{Call}
use Rattle.rules.specs.Grounds.{by_wrong_cycle, by_order}
use Rattle.demand3.specs.Events.{Event}
use Rattle.demand3.specs.History.{History}
use Rattle.demand3.proofs.Effects.{Did, fell_at_tick, fell_at_tick_and_end, ticked_on, ticked_on_and_end, kept, lost, missed, heard_only, entered_run, taken_only, asked, configured, released_by, withdrawn, output, named_first, acknowledged}
use Rattle.demand3.proofs.KeptOthers.{kept_kept, kept_lost, kept_missed, kept_named_first, kept_acknowledged}
use Rattle.demand3.proofs.KeptOutputs.{kept_output}
use Rattle.demand3.proofs.KeptRequests.{kept_taken_only, kept_asked, kept_configured, kept_released_by, kept_withdrawn}
use Rattle.demand3.proofs.KeptSyncs.{kept_heard_only, kept_entered_run}
use Rattle.demand3.proofs.KeptTicks.{kept_fell_at_tick, kept_ticked_on, at_cycle_end}
use Rattle.demand3.proofs.Link.{Linked, Kept}
use Rattle.demand3.proofs.Views.{View, Facts}

module _ (h : History) (v : View) (f : Facts v) (l : Linked h v) (call : Call) (n : ℕ) (means : Event) where
  pub kept_by : {w : View} → Did v call n means w → Kept h v call n means w
  kept_by (fell_at_tick g ev at) = kept_fell_at_tick h v f l call n means ev g
  kept_by (fell_at_tick_and_end g ev at) = at_cycle_end (kept_fell_at_tick h v f l call n means ev g)
  kept_by (ticked_on ev below on) = kept_ticked_on h v f l call n means ev below
  kept_by (ticked_on_and_end ev below ends) = at_cycle_end (kept_ticked_on h v f l call n means ev below)
  kept_by (kept ev) = kept_kept h v f l call n means ev
  kept_by (lost ev none wrong) = kept_lost h v f l call n means by_wrong_cycle ev
  kept_by (missed ev none) = kept_missed h v f l call n means ev
  kept_by (heard_only src cyc ev known timely) = kept_heard_only h v f l call n means src cyc ev
  kept_by (entered_run src cyc ev known p q) = kept_entered_run h v f l call n means src cyc ev p
  kept_by (taken_only r ev reach) = kept_taken_only h v f l r reach call n means ev
  kept_by (asked r ev reach w) = kept_asked h v f l r reach call n means ev w.no_write
  kept_by (configured r t c m ev reach w p) = kept_configured h v f l r reach call n means ev w.no_write t c m
  kept_by (released_by r ev reach w o) = kept_released_by h v f l r reach call n means ev w.no_write o
  kept_by (withdrawn r ev reach w o) = kept_withdrawn h v f l r reach call n means ev w.no_write by_order
  kept_by (output r add xs zero ev reach w run laid) = kept_output h v f l r reach call n means add xs ev run zero w laid
  kept_by (named_first sid ev no_one) = kept_named_first h v f l call n means sid ev no_one
  kept_by (acknowledged sid ev named-is) = kept_acknowledged h v f l call n means sid ev named-is
