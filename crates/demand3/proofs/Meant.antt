-- In every history of the module the event of a call is the one read off the call and its answer. Assumes nothing.
use mathlib.Core.List.{List, [], ◌∷◌}
use mathlib.Core.Path.{◌≡◌, refl, subst}
use Rattle.rules.specs.Calls.{Call, act}
use Rattle.rules.specs.PowerUp.{power_up}
use Rattle.rules.specs.declared.Agent.{Agent}
use Rattle.demand3.specs.Claim.{now, earlier, Everywhere}
use Rattle.demand3.specs.Events.{event_of}
use Rattle.demand3.specs.History.{History, power_on, ◌▸◌, Entry, entry, history}
use Rattle.demand3.specs.Reached.{Reached}
use Rattle.demand3.specs.Words.{event}

abbrev pub Meant : History → Entry → Type 0
Meant past e = event e ≡ event_of e.call e.answer

at_power_up : Everywhere Meant power_on
at_power_up past e c = elim c [ ]

one_more : (h : History) (a : Agent) (call : Call) → Everywhere Meant h → Everywhere Meant (h ▸ entry a call (act a call))
one_more h a call m _ _ now = refl
one_more h a call m past e (earlier c) = m past e c

along : (calls : List Call) (a : Agent) (h : History) → Everywhere Meant h → Everywhere Meant (history a h calls)
along [] a h m = m
along (x ∷ xs) a h m = along xs (act a x).agent (h ▸ entry a x (act a x)) (one_more h a x m)

pub as_meant : {h : History} {a : Agent} → Reached h a → Everywhere Meant h
as_meant r = subst (Everywhere Meant) r.is_history (along r.calls (power_up r.mac r.iid r.ver r.fixed) power_on at_power_up)
