-- The link: how the agent's private counters go with the words of the history. Each part names only the fields that it
-- reads, so that an effect on other fields keeps it. And what the claim says of one call. Assumes nothing.
use mathlib.Core.Bool.{Bool, true, false}
use mathlib.Core.List.{List}
use mathlib.Core.Option.{Option, none, some}
use mathlib.Core.Path.{◌≡◌, refl, sym, ◌∙◌, subst}
use Prim.Native.Nat.{ℕ, ◌<◌}
use native.Mathlib.Omega.{arith}
use borrow.Author.Tests.{eqb-true, eqb-false}
use lib.Dec.{eqb}
use Rattle.rules.specs.Calls.{Call}
use Rattle.rules.specs.Registers.{image}
use Rattle.rules.specs.State.{in_run, in_fallback}
use Rattle.demand3.specs.Claim.{Safe, OutputsRight, same, fell}
use Rattle.demand3.specs.Events.{Event, a_tick, a_sync, a_missed_sync, a_request, a_refused_write, an_assignment, nothing, Request}
use Rattle.demand3.specs.History.{History, ◌▸◌, Entry, Seen}
use Rattle.demand3.specs.Sharper.{Takes, accepts, refuses, Fresh}
use Rattle.demand3.specs.Words.{SyncOf, event, last_sync, own_sid, taken, skipped, idle, Differs, AllDiffer, LeavesRun, TickAtCommandLimit}
use Rattle.demand3.proofs.Numbering.{Numbering}
use Rattle.demand3.proofs.Views.{View, Facts}

-- what may be seen of a view, and a call as the history has it
abbrev pub view_seen : View → Seen
view_seen v = record { mode = v.mode; out = v.registers.out; t = v.registers.t; n = v.registers.n; m = v.registers.m; ground = v.registers.ground }

abbrev pub view_entry : View → Call → ℕ → Event → View → Entry
view_entry v call n ev w = record { call = call; answer = n; event = ev; before = view_seen v; after = view_seen w }

-- the own SID, once there is one
pub record Naming (assigned : Bool) (sid : ℕ) (I : Option ℕ) : Type 0 where
  pub known : assigned ≡ true → I ≡ some sid
  pub unknown : assigned ≡ false → I ≡ none

-- a view against what the history says of: the last sync, the own SID, the numbers taken and skipped, the silence of commands
pub record Link (Y : Option SyncOf) (I : Option ℕ) (tk sk : List ℕ) (idl : ℕ) (v : View) : Type 0 where
  pub idle : v.mode ≡ in_run → v.clocks.q ≡ idl
  pub numbering : Numbering v.cycle.heard v.cycle.c v.cycle.k v.cycle.last Y tk sk
  pub naming : Naming v.assigned v.registers.sid I

abbrev pub Linked : History → View → Type 0
Linked h v = Link (last_sync h) (own_sid h) (taken h) (skipped h) (idle h) v

-- what the claim says of one call, but for what is bounded
pub record Fine (h : History) (e : Entry) : Type 0 where
  pub outputs : OutputsRight h e
  pub leaving_run : LeavesRun e → Safe e.after
  pub numbers : AllDiffer (taken (h ▸ e))
  pub command_silence : TickAtCommandLimit h e → Safe e.after

-- a request that is taken is fresh, and its number was not skipped before
pub record Taken (h : History) (r : Request) : Type 0 where
  pub fresh : Fresh h r
  pub unskipped : Differs r.seq (skipped h)

-- a call is fine, so is a request that it takes, and the link is kept
pub record Kept (h : History) (v : View) (call : Call) (n : ℕ) (means : Event) (w : View) : Type 0 where
  pub fine : Fine h (view_entry v call n means w)
  pub taken : (r : Request) → Takes (view_entry v call n means w) r → Taken h r
  pub link : Linked (h ▸ view_entry v call n means w) w

-- ---- modes and events

pub not_both : (m : ℕ) → m ≡ in_run → m ≡ in_fallback → ⊥
not_both m p q = omega arith

pub by_mode : {P : Type 0} (v : View) → Facts v → (v.mode ≡ in_run → P) → (v.mode ≡ in_fallback → P) → P
by_mode {P = P} v f run rest = pick (eqb v.mode in_run) refl
  where
    pick : (b : Bool) → eqb v.mode in_run ≡ b → P
    pick true e = run (eqb-true _ _ e)
    pick false e = rest (f.modes (eqb-false _ _ e))

abbrev pub NotTick : Event → Type 0
NotTick a_tick = ⊥
NotTick (a_sync src cyc) = Unit {0}
NotTick a_missed_sync = Unit {0}
NotTick (a_request r) = Unit {0}
NotTick (a_refused_write r) = Unit {0}
NotTick (an_assignment sid) = Unit {0}
NotTick nothing = Unit {0}

pub no_tick : {v : Event} (w : Event) → NotTick w → v ≡ w → v ≡ a_tick → ⊥
no_tick w n p q = subst NotTick (sym p ∙ q) n

abbrev pub NoRequest : Event → Type 0
NoRequest a_tick = Unit {0}
NoRequest (a_sync src cyc) = Unit {0}
NoRequest a_missed_sync = Unit {0}
NoRequest (a_request r) = ⊥
NoRequest (a_refused_write r) = ⊥
NoRequest (an_assignment sid) = Unit {0}
NoRequest nothing = Unit {0}

-- a call that is no request takes none
pub takes_none : {e : Entry} {h : History} (w : Event) → NoRequest w → event e ≡ w → (r : Request) → Takes e r → Taken h r
takes_none w n p r (accepts q) = absurd (subst NoRequest (sym p ∙ q) n)
takes_none w n p r (refuses q) = absurd (subst NoRequest (sym p ∙ q) n)

-- ---- two kinds of call that are fine

module _ (h : History) (v : View) (f : Facts v) (call : Call) (n : ℕ) (ev : Event) (w : View) where
  -- the module ends in fallback, outputs zero
  pub fine_safe : Safe (view_seen w) → AllDiffer (taken (h ▸ view_entry v call n ev w)) → Fine h (view_entry v call n ev w)
  fine_safe safe differ =
      record {
        outputs = by_mode v f
            (λ p. fell (record { from = p; to = safe.mode }) safe)
            (λ p. same (λ i b. safe.zero i b ∙ sym (f.cold p i b)));
        leaving_run = λ x. safe;
        numbers = differ;
        command_silence = λ x. safe;
      }

  -- no tick; mode and outputs stay
  pub fine_unchanged : w.mode ≡ v.mode → ((i : ℕ) → i < image → w.registers.out i ≡ v.registers.out i) → (ev ≡ a_tick → ⊥)
      → AllDiffer (taken (h ▸ view_entry v call n ev w)) → Fine h (view_entry v call n ev w)
  fine_unchanged mode outs not_tick differ =
      record {
        outputs = same outs;
        leaving_run = λ x. absurd (not_both v.mode x.from (sym mode ∙ x.to));
        numbers = differ;
        command_silence = λ x. absurd (not_tick x.tick);
      }
