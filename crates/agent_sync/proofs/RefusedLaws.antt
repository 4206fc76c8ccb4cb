-- A sync that is refused does what its judgement says. Assumes nothing.
use Rattle.std.proofs.Common.{◌≡◌, ℕ, Bool, true, false, ap}
use Rattle.base.specs.Choice.{choose}
use Rattle.rules.specs.Answers.{accepted, source, cycle, repeat, outside_window}
use Rattle.rules.specs.Replies.{Deed, Outcome, outcome, does}
use Rattle.rules.specs.Sync.{on_sync}
use Rattle.rules.specs.declared.Agent.{Agent}
use Rattle.agent_state.specs.Refusing.{number_of}
use Rattle.agent_state.specs.declared.refusal.Refusal.{Refusal}
use Rattle.agent_state.proofs.RefusalLaws.{no_zero}
use Rattle.agent_sync.specs.Judged.{take_sync}

abbrev deed_in : Outcome → Deed
deed_in o = does o.answer o.agent

refused_by : (p q r s : Bool) (a b x y z : Agent) (k : Deed) (n : ℕ) → (n ≡ 0 → ⊥)
    → outcome n b ≡ choose p (outcome source a) (choose q (outcome repeat a) (choose r (outcome cycle x) (choose s (outcome outside_window y) (outcome accepted z))))
    → does n b ≡ choose p (does source a) (choose q (does repeat a) (choose r (does cycle x) (choose s (does outside_window y) k)))
refused_by true q r s a b x y z k n h e = ap deed_in e
refused_by false true r s a b x y z k n h e = ap deed_in e
refused_by false false true s a b x y z k n h e = ap deed_in e
refused_by false false false true a b x y z k n h e = ap deed_in e
refused_by false false false false a b x y z k n h e = absurd (h (ap (λ (o : Outcome). o.answer) e))

pub sync_refused : (port : ℕ) (a b : Agent) (src cyc : ℕ) (e : Refusal) → outcome (number_of e) b ≡ take_sync a src cyc → does (number_of e) b ≡ on_sync port a src cyc
unfolding take_sync on_sync
sync_refused port a b src cyc e h = refused_by _ _ _ _ a b _ _ _ _ (number_of e) (no_zero e) h
