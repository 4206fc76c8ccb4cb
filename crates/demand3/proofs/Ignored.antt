-- A call that brings a safe request and is not accepted as that request changes neither an output nor the mode: of every
-- effect. Assumes nothing.
use mathlib.Core.Path.{◌≡◌, subst}
use Prim.Native.Nat.{ℕ}
use Rattle.rules.specs.Calls.{Call}
use Rattle.demand3.specs.Events.{Event, a_tick, a_sync, a_missed_sync, a_request, a_refused_write, an_assignment, nothing, Request}
use Rattle.demand3.specs.History.{Entry}
use Rattle.demand3.specs.Sharper.{Brings, Unchanged}
use Rattle.demand3.specs.Words.{event}
use Rattle.demand3.proofs.Effects.{Did, fell_at_tick, fell_at_tick_and_end, ticked_on, ticked_on_and_end, kept, lost, missed, heard_only, entered_run, taken_only, asked, configured, released_by, withdrawn, output, named_first, acknowledged}
use Rattle.demand3.proofs.Link.{view_entry}
use Rattle.demand3.proofs.Views.{View, Agree}

-- a call that brings a request means that request, or nothing
abbrev pub MeansAsked : (src seq : ℕ) → Event → Type 0
MeansAsked src seq a_tick = ⊥
MeansAsked src seq (a_sync s c) = ⊥
MeansAsked src seq a_missed_sync = ⊥
MeansAsked src seq (a_request r) = (r.src ≡ src) × (r.seq ≡ seq)
MeansAsked src seq (a_refused_write r) = Unit {0}
MeansAsked src seq (an_assignment sid) = ⊥
MeansAsked src seq nothing = Unit {0}

abbrev pub Ignored : Entry → Type 0
Ignored e = (src seq : ℕ) → Brings e.call src seq → ((r : Request) → r.src ≡ src → r.seq ≡ seq → event e ≡ a_request r → ⊥) → Unchanged e

module _ (v u : View) (call : Call) (n : ℕ) (means : Event) (src seq : ℕ) (b : Brings call src seq) (m : MeansAsked src seq means)
    (not_so : (r : Request) → r.src ≡ src → r.seq ≡ seq → means ≡ a_request r → ⊥) where
  accepted_so : (r : Request) → means ≡ a_request r → ⊥
  accepted_so r e = let x = subst (MeansAsked src seq) e m in not_so r x.0 x.1 e

  -- the view as it was, but for k
  pub unchanged_by : {w : View} → Did v call n means w → Agree u w → Unchanged (view_entry v call n means u)
  unchanged_by (fell_at_tick g e at) a = absurd (subst (MeansAsked src seq) e m)
  unchanged_by (fell_at_tick_and_end g e at) a = absurd (subst (MeansAsked src seq) e m)
  unchanged_by (ticked_on e below on) a = absurd (subst (MeansAsked src seq) e m)
  unchanged_by (ticked_on_and_end e below ends) a = absurd (subst (MeansAsked src seq) e m)
  unchanged_by (kept e) a = record { outputs = a.registers.out; mode = a.mode }
  unchanged_by (lost e none wrong) a = absurd (none src seq b)
  unchanged_by (missed e none) a = absurd (none src seq b)
  unchanged_by (heard_only s c e known timely) a = absurd (subst (MeansAsked src seq) e m)
  unchanged_by (entered_run s c e known p q) a = absurd (subst (MeansAsked src seq) e m)
  unchanged_by (taken_only r e reach) a = record { outputs = a.registers.out; mode = a.mode }
  unchanged_by (asked r e reach w) a = absurd (accepted_so r e)
  unchanged_by (configured r t c l e reach w p) a = absurd (accepted_so r e)
  unchanged_by (released_by r e reach w o) a = absurd (accepted_so r e)
  unchanged_by (withdrawn r e reach w o) a = absurd (accepted_so r e)
  unchanged_by (output r add xs ok e reach w run laid) a = absurd (accepted_so r e)
  unchanged_by (named_first sid e no_one) a = absurd (subst (MeansAsked src seq) e m)
  unchanged_by (acknowledged sid e named-is) a = absurd (subst (MeansAsked src seq) e m)
