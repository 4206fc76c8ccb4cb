-- A call whose answer and agent are those of the rules continues every history. Assumes nothing.
use mathlib.Core.Bool.{true}
use mathlib.Core.List.{List, [], ◌∷◌, ◌++◌}
use mathlib.Core.Path.{◌≡◌, refl, sym, ap, ◌∙◌, subst}
use Prim.Native.Nat.{ℕ}
use Rattle.rules.specs.Calls.{Call, Answers, act}
use Rattle.rules.specs.Good.{BytesCall}
use Rattle.rules.specs.PowerUp.{power_up}
use Rattle.rules.specs.Replies.{outcome}
use Rattle.rules.specs.declared.Agent.{Agent}
use Rattle.rules.specs.declared.Fixed.{Fixed}
use Rattle.rules.proofs.FixedStays.{unfit_start}
use Rattle.demand3.specs.Claim.{BytesCalls, Holds}
use Rattle.demand3.specs.Grounds.{Grounded}
use Rattle.demand3.specs.History.{History, power_on, ◌▸◌, entry_of, entry, history}
use Rattle.demand3.specs.Reached.{agent_after, Reached, Begins, Continues}
use Rattle.demand3.specs.Numbers.{can_be_struck, unsound}
use Rattle.demand3.specs.Sharper.{Sharper}
use Rattle.demand3.specs.Terminals.{Terminals}
use Rattle.demand3.proofs.Proved.{demand3, sharpened, shows_ground, shows_terminals}
use Rattle.demand3.proofs.SameNumbers.{same_limit}
use Rattle.demand3.proofs.Striking.{leaves}

pub reached_holds : {h : History} {a : Agent} → Reached h a → Holds h
reached_holds r = subst Holds r.is_history (demand3 r.mac r.iid r.ver r.fixed r.fit r.calls r.bytes)

pub reached_sharper : {h : History} {a : Agent} → Reached h a → Sharper h
reached_sharper r = subst Sharper r.is_history (sharpened r.mac r.iid r.ver r.fixed r.fit r.calls r.bytes)

pub reached_grounded : {h : History} {a : Agent} → Reached h a → Grounded h
reached_grounded r = subst Grounded r.is_history (shows_ground r.mac r.iid r.ver r.fixed r.fit r.calls r.bytes)

pub reached_terminals : {h : History} {a : Agent} → Reached h a → Terminals h
reached_terminals r = subst Terminals r.is_history (shows_terminals r.mac r.iid r.ver r.fixed r.fit r.calls r.bytes)

-- one call more
pub after_more : (a : Agent) (xs : List Call) (x : Call) → agent_after a (xs ++ (x ∷ [])) ≡ (act (agent_after a xs) x).agent
after_more a [] x = refl
after_more a (y ∷ xs) x = after_more (act a y).agent xs x

history_more : (a : Agent) (h : History) (xs : List Call) (x : Call)
    → history a h (xs ++ (x ∷ [])) ≡ history a h xs ▸ entry (agent_after a xs) x (act (agent_after a xs) x)
history_more a h [] x = refl
history_more a h (y ∷ xs) x = history_more (act a y).agent (h ▸ entry a y (act a y)) xs x

bytes_more : (xs : List Call) (x : Call) → BytesCalls xs → BytesCall x → BytesCalls (xs ++ (x ∷ []))
bytes_more [] x b one = (one, tt)
bytes_more (y ∷ xs) x b one = (b.0, bytes_more xs x b.1 one)

-- power-up begins a history, if the limit of requests is one of the two
pub begins : (mac iid ver : ℕ) (fixed : Fixed) (a : Agent) → a ≡ power_up mac iid ver fixed → Begins fixed a
begins mac iid ver fixed a e = record {
  reached = λ f. record { mac = mac; iid = iid; ver = ver; fixed = fixed; fit = f; calls = []; bytes = tt; is_history = refl; is_agent = sym e };
  unfit = λ f call. subst (λ (b : Agent). act b call ≡ outcome unsound b) (sym e) (unfit_start mac iid ver fixed (sym (same_limit fixed) ∙ f) call);
}

-- a call continues it
module _ (h : History) (a : Agent) (r : Reached h a) (call : Call) (is-bytes : BytesCall call) (answer : ℕ) (b : Agent)
    (does : Answers (act a call) answer b) where
  abbrev fresh : Agent
  fresh = power_up r.mac r.iid r.ver r.fixed

  abbrev end : Agent
  end = agent_after fresh r.calls

  same_history : history fresh power_on (r.calls ++ (call ∷ [])) ≡ h ▸ entry_of a call answer b
  same_history =
      history_more fresh power_on r.calls call
      ∙ ap (λ (g : History). g ▸ entry end call (act end call)) r.is_history
      ∙ ap (λ (c : Agent). h ▸ entry c call (act c call)) r.is_agent
      ∙ ap (λ (n : ℕ). h ▸ entry_of a call n (act a call).agent) (sym does.0)
      ∙ ap (λ (c : Agent). h ▸ entry_of a call answer c) (sym does.1)

  same_agent : agent_after fresh (r.calls ++ (call ∷ [])) ≡ b
  same_agent = after_more fresh r.calls call ∙ ap (λ (c : Agent). (act c call).agent) r.is_agent ∙ sym does.1

  reached_more : Reached (h ▸ entry_of a call answer b) b
  reached_more = record {
    mac = r.mac;
    iid = r.iid;
    ver = r.ver;
    fixed = r.fixed;
    fit = r.fit;
    calls = r.calls ++ (call ∷ []);
    bytes = bytes_more r.calls call r.bytes is-bytes;
    is_history = same_history;
    is_agent = same_agent;
  }

-- a call that can be struck leaves the agent as it was
struck_leaves : (a : Agent) (call : Call) (answer : ℕ) (b : Agent) → Answers (act a call) answer b → can_be_struck answer ≡ true → b ≡ a
struck_leaves a call answer b does s = does.1 ∙ (leaves a call (subst (λ (n : ℕ). can_be_struck n ≡ true) does.0 s)).0

pub continues : (a : Agent) (call : Call) → BytesCall call → (answer : ℕ) (b : Agent) → Answers (act a call) answer b → Continues a call answer b
continues a call is-bytes answer b does h r =
    let more = reached_more h a r call is-bytes answer b does in
    record {
      reached = more;
      holds = reached_holds more;
      sharper = reached_sharper more;
      grounded = reached_grounded more;
      terminals = reached_terminals more;
      struck = struck_leaves a call answer b does;
    }
