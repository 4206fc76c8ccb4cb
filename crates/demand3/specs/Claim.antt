-- Demand 3, one claim about the whole list of calls. Assumes nothing.
use Rattle.std.specs.Prelude.{true, List, [], ◌∷◌, ◌≡◌, ℕ, ◌+◌, ◌-◌, ◌*◌, ◌≤◌, ◌<◌, length, get_or}
use Rattle.std.proofs.Math.Option.{some}
use Rattle.laying.specs.Laying.{body_of}
use Rattle.frame_kinds.specs.Kinds.{app_of}
use Rattle.frame_kinds.specs.declared.kinds.Frame.TheVariants.{SafeWrite}
use Rattle.rules.specs.Calls.{Call, frame}
use Rattle.rules.specs.Good.{BytesCall}
use Rattle.rules.specs.PowerUp.{power_up}
use Rattle.rules.specs.declared.Fixed.{Fixed}
use Rattle.demand3.specs.Events.{a_sync}
use Rattle.demand3.specs.History.{History, power_on, ◌▸◌, Entry, Seen, history}
use Rattle.demand3.specs.Numbers.{in_run, in_fallback, outputs_at, image, is_limit, window, is_accepted, unsound}
use Rattle.demand3.specs.Words.{SyncOf, event, last_sync, own_sid, taken, number_due, FreshNumber, AllDiffer, silence, LeavesRun, EntersRun, TickAtSyncLimit, TickAtCommandLimit, TickAtWindowLimit, SyncInRun, Released}

-- in fallback, outputs zero
pub record Safe (x : Seen) : Type 0 where
  pub mode : x.mode ≡ in_fallback
  pub zero : (i : ℕ) → i < image → x.out i ≡ 0

-- an accepted write in RUN: the body is exactly the one laid down for that write (so both checks are right), to the own
-- SID, from the source and with the cycle of the last accepted sync, with a fresh number: the one due or at most three past
-- it; it changes only the bytes it covers, to its data
pub record Written (h : History) (e : Entry) : Type 0 where
  pub port : ℕ
  pub body : List ℕ
  pub room : ℕ
  pub address : ℕ
  pub dest : ℕ
  pub src : ℕ
  pub cyc : ℕ
  pub seq : ℕ
  pub datl : ℕ
  pub add : ℕ
  pub xs : List ℕ
  pub called : e.call ≡ frame port body room
  pub answered : is_accepted e.answer ≡ true
  pub run : e.before.mode ≡ in_run
  pub laid : body ≡ body_of address (app_of (SafeWrite dest src cyc seq datl add) xs)
  pub length_is : length xs ≡ datl
  pub own : own_sid h ≡ some dest
  pub of_sync : last_sync h ≡ some (src, cyc)
  pub fresh : FreshNumber (number_due h) seq
  pub covered : (i : ℕ) → i < image → add ≤ outputs_at + i → outputs_at + i < add + length xs → e.after.out i ≡ get_or xs (outputs_at + i - add) 0
  pub before : (i : ℕ) → i < image → outputs_at + i < add → e.after.out i ≡ e.before.out i
  pub behind : (i : ℕ) → i < image → add + length xs ≤ outputs_at + i → e.after.out i ≡ e.before.out i

-- the outputs stay; or the call takes the module from RUN into fallback, with all of them zero; or it is such a write
pub data OutputsRight (h : History) (e : Entry) : Type 0 where
  same : ((i : ℕ) → i < image → e.after.out i ≡ e.before.out i) → OutputsRight h e
  fell : LeavesRun e → Safe e.after → OutputsRight h e
  written : Written h e → OutputsRight h e

-- RUN is entered by an accepted sync, after a release
pub record Enters (h : History) (e : Entry) : Type 0 where
  pub src : ℕ
  pub cyc : ℕ
  pub by_sync : event e ≡ a_sync src cyc
  pub released : Released h

-- a sync in its window after the history h: there was an accepted sync before it, and the ticks since then are at least t − w, and
-- at most w from a multiple of t
pub record InWindow (h : History) (t : ℕ) : Type 0 where
  pub earlier : SyncOf
  pub accepted_before : last_sync h ≡ some earlier
  pub least : t - window t ≤ silence h
  pub multiple : ℕ
  pub above : silence h ≤ multiple * t + window t
  pub below : multiple * t - window t ≤ silence h

-- in the history h the call e came right after the calls of `past`
pub data Came (past : History) (e : Entry) : History → Type 0 where
  now : Came past e (past ▸ e)
  earlier : {h : History} {x : Entry} → Came past e h → Came past e (h ▸ x)

-- P holds of every call of the history, with the calls before it
abbrev pub Everywhere : (History → Entry → Type 0) → History → Type 0
Everywhere P h = (past : History) (e : Entry) → Came past e h → P past e

-- for every kind of module: the sync limit, and the way back to RUN
pub record Bounded (h : History) : Type 0 where
  -- silence ends in fallback, outputs zero
  pub sync_silence : Everywhere (λ past e. TickAtSyncLimit past e → Safe e.after) h
  -- from fallback to RUN only in this way
  pub entry_to_run : Everywhere (λ past e. EntersRun e → Enters past e) h
  -- the mode is one of the two, and no call is answered 19
  pub two_modes : Everywhere (λ past e. ((e.after.mode ≡ in_run → ⊥) → e.after.mode ≡ in_fallback)) h
  pub no_19 : Everywhere (λ past e. e.answer ≡ unsound → ⊥) h

-- for a safe module, these too
pub record Holds (h : History) : Type 0 where
  pub bounded : Bounded h
  -- the outputs change only in these ways
  pub outputs : Everywhere OutputsRight h
  -- a call that takes the module from RUN into fallback leaves them all zero
  pub leaving_run : Everywhere (λ past e. LeavesRun e → Safe e.after) h
  -- requests taken between two accepted syncs that follow each other, or after the last, all differ in SEQ
  pub numbers : Everywhere (λ past e. AllDiffer (taken (past ▸ e))) h
  -- silence of commands in RUN ends in fallback too, outputs zero
  pub command_silence : Everywhere (λ past e. TickAtCommandLimit past e → Safe e.after) h
  -- a sync accepted in RUN is in its window
  pub sync_window : Everywhere (λ past e. SyncInRun e → InWindow past e.before.t) h
  -- t does not change in RUN
  pub steady_cycle : Everywhere (λ past e. e.before.mode ≡ in_run → e.after.t ≡ e.before.t) h
  -- a sync outside its window, and none accepted for t ticks, ends in fallback, outputs zero
  pub missed_sync : Everywhere (λ past e. TickAtWindowLimit past e → Safe e.after) h

-- bodies and inputs are bytes, as they are for every call of the code
abbrev pub BytesCalls : List Call → Type 0
BytesCalls [] = Unit {0}
BytesCalls (x ∷ xs) = BytesCall x × BytesCalls xs

-- for every MAC, IID and VER, a limit of requests that is 16 or 64, and every list of calls from power-up
abbrev pub Demand3 : Type 0
Demand3 = (mac iid ver : ℕ) (fixed : Fixed) → is_limit fixed.limit ≡ true
    → (calls : List Call) → BytesCalls calls → Holds (history (power_up mac iid ver fixed) power_on calls)
