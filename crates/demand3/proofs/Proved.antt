-- Demand 3, the sharper statements and those of register 26h and of the terminals, for every list of calls on a SIL2 module from
-- power-up: each call is a step.
-- Assumes nothing.
use mathlib.Core.Bool.{true}
use mathlib.Core.List.{List, [], ◌∷◌}
use mathlib.Core.Path.{◌≡◌, refl, sym, ◌∙◌}
use Prim.Native.Nat.{ℕ}
use lib.ListN.{get_or}
use Rattle.rules.specs.Calls.{Call, act}
use Rattle.rules.specs.Fallback.{withheld}
use Rattle.rules.specs.Good.{Good, BytesCall}
use Rattle.rules.specs.PowerUp.{power_up, power_regs}
use Rattle.rules.specs.Registers.{out_rep, low_bytes}
use Rattle.rules.specs.declared.Agent.{Agent}
use Rattle.rules.specs.declared.Fixed.{Fixed}
use Rattle.rules.proofs.GoodNext.{good_next}
use Rattle.rules.proofs.GoodStart.{good_start, start_ground}
use Rattle.rules.proofs.NeverUnsound.{never_unsound}
use Rattle.demand3.specs.Claim.{BytesCalls, Demand3}
use Rattle.demand3.specs.Events.{event_of}
use Rattle.demand3.specs.Grounds.{ShowsGround}
use Rattle.demand3.specs.History.{History, power_on, ◌▸◌, entry, history}
use Rattle.demand3.specs.Numbers.{is_limit}
use Rattle.demand3.specs.Sharper.{Sharpened}
use Rattle.demand3.specs.Terminals.{ShowsTerminals}
use Rattle.demand3.proofs.AskedEvents.{means_asked}
use Rattle.demand3.proofs.CallDid.{step_did}
use Rattle.demand3.proofs.Deposed.{sharper}
use Rattle.demand3.proofs.Device.{HistoryOf, start, step}
use Rattle.demand3.proofs.Grounds.{grounded}
use Rattle.demand3.proofs.SafeModules.{StartsSafe, safe_module, holds}
use Rattle.demand3.proofs.SameNumbers.{same_limit}
use Rattle.demand3.proofs.Terminals.{terminals}
use Rattle.demand3.proofs.ViewFacts.{good_facts}
use Rattle.demand3.proofs.Views.{view_of}

start_rep : (mac iid ver : ℕ) → get_or (power_regs mac iid ver) out_rep 0 ≡ withheld
unfolding power_regs low_bytes
start_rep mac iid ver = refl

at_start : (mac iid ver : ℕ) (fixed : Fixed) → StartsSafe (view_of (power_up mac iid ver fixed))
unfolding power_up
at_start mac iid ver fixed = record { mode = refl; rep = start_rep mac iid ver; ground = start_ground mac iid ver; s = refl; heard = refl; assigned = refl }

-- a good agent, and a history of its effects
pub record Going (h : History) (a : Agent) : Type 0 where
  pub good : Good a
  pub made : HistoryOf safe_module h (view_of a)

pub begun : (mac iid ver : ℕ) (fixed : Fixed) → is_limit fixed.limit ≡ true → Going power_on (power_up mac iid ver fixed)
begun mac iid ver fixed f =
    record { good = good_start mac iid ver fixed (sym (same_limit fixed) ∙ f); made = start (at_start mac iid ver fixed) }

pub goes_on : (h : History) (a : Agent) (call : Call) → BytesCall call → Going h a → Going (h ▸ entry a call (act a call)) (act a call).agent
goes_on h a call b g =
    let s = step_did a call g.good b in
    record {
      good = good_next a call g.good b;
      made = step call (act a call).answer (event_of call (act a call).answer)
          record { facts = good_facts a g.good; effect = s.view; did = s.did; shows = s.shows; sound = never_unsound a call g.good; asked = means_asked call (act a call).answer }
          g.made;
    }

all_along : (calls : List Call) (h : History) (a : Agent) → BytesCalls calls → Going h a → (z : Agent) × Going (history a h calls) z
all_along [] h a b g = (a, g)
all_along (x ∷ xs) h a b g = all_along xs (h ▸ entry a x (act a x)) (act a x).agent b.1 (goes_on h a x b.0 g)

module _ (mac iid ver : ℕ) (fixed : Fixed) (f : is_limit fixed.limit ≡ true) (calls : List Call) (b : BytesCalls calls) where
  whole : (z : Agent) × Going (history (power_up mac iid ver fixed) power_on calls) z
  whole = all_along calls power_on (power_up mac iid ver fixed) b (begun mac iid ver fixed f)

-- the customer's third demand: for every list of calls from power-up
pub demand3 : Demand3
demand3 mac iid ver fixed f calls b = holds (whole mac iid ver fixed f calls b).1.made

pub sharpened : Sharpened
sharpened mac iid ver fixed f calls b = sharper (whole mac iid ver fixed f calls b).1.made

-- request 5: why the module is in fallback
pub shows_ground : ShowsGround
shows_ground mac iid ver fixed f calls b = grounded (whole mac iid ver fixed f calls b).1.made

-- request 14: what the terminals show
pub shows_terminals : ShowsTerminals
shows_terminals mac iid ver fixed f calls b = terminals (whole mac iid ver fixed f calls b).1.made
