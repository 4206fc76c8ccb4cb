-- The sync limit and the way back to RUN, for any module: what one call may do to the mode, to OUT_REP and to the count of
-- silence, and that a history of such calls is bounded. Knows no rules and no registers. Assumes nothing.
use mathlib.Core.Bool.{true}
use mathlib.Core.Path.{◌≡◌, refl, sym, ◌∙◌, subst}
use Prim.Native.Nat.{ℕ, ◌+◌, ◌*◌, ◌≤◌, ◌<◌, min}
use native.Mathlib.Nat.{mul-le-mul}
use native.Mathlib.Omega.{arith}
use borrow.Author.Tests.{ltb-true, ltb-false}
use lib.Dec.{ltb}
use Rattle.base.specs.Choice.{choose}
use Rattle.base.proofs.Choosing.{by_test}
use Rattle.rules.specs.Calls.{Call}
use Rattle.rules.specs.Fallback as fallback
use Rattle.rules.specs.Tick.{silence_end}
use Rattle.demand3.specs.Claim.{Safe, Enters, Bounded}
use Rattle.demand3.specs.Events.{Event, a_tick, a_sync, a_missed_sync, a_request, a_refused_write, an_assignment, nothing, orders_release, Request}
use Rattle.demand3.specs.History.{History, power_on, ◌▸◌, Entry, Seen}
use Rattle.demand3.specs.Numbers.{in_run, in_fallback, unsound}
use Rattle.demand3.specs.Words.{silence_after, silence, EntersRun, TickAtSyncLimit, Released, ordered, still}
use Rattle.demand3.proofs.Device.{Device, move_entry, HistoryOf, after_all_lem, of_each}

-- what matters of a module here: what is seen, OUT_REP, and s
pub record Watchdog : Type 0 where
  pub seen : Seen
  pub rep : ℕ
  pub s : ℕ

abbrev pub more_silence : ℕ → ℕ
more_silence s = choose (ltb s silence_end) (s + 1) silence_end

-- neither a tick nor a sync
abbrev pub Quiet : Event → Type 0
Quiet a_tick = ⊥
Quiet (a_sync src cyc) = ⊥
Quiet a_missed_sync = Unit {0}
Quiet (a_request r) = Unit {0}
Quiet (a_refused_write r) = Unit {0}
Quiet (an_assignment sid) = Unit {0}
Quiet nothing = Unit {0}

pub record Stays (v w : Watchdog) : Type 0 where
  pub mode : w.seen.mode ≡ v.seen.mode
  pub rep : w.rep ≡ v.rep

-- a tick stays below the sync limit; n and t are bytes
pub record Below (v w : Watchdog) : Type 0 where
  pub under : w.s < v.seen.n * v.seen.t
  pub n : v.seen.n ≤ 255
  pub t : v.seen.t ≤ 255

-- what one call may do
pub data MayDo (v : Watchdog) (ev : Event) (w : Watchdog) : Type 0 where
  fell_at_tick : ev ≡ a_tick → w.s ≡ more_silence v.s → w.rep ≡ fallback.withheld → Safe w.seen → MayDo v ev w
  ticked_on : ev ≡ a_tick → w.s ≡ more_silence v.s → Below v w → Stays v w → MayDo v ev w
  heard_only : (src cyc : ℕ) → ev ≡ a_sync src cyc → w.s ≡ 0 → Stays v w → MayDo v ev w
  entered_run : (src cyc : ℕ) → ev ≡ a_sync src cyc → w.s ≡ 0 → v.seen.mode ≡ in_fallback → v.rep ≡ fallback.released → w.seen.mode ≡ in_run → MayDo v ev w
  released : (r : Request) → ev ≡ a_request r → orders_release r.ask ≡ true → w.s ≡ v.s → w.seen.mode ≡ v.seen.mode → MayDo v ev w
  fell : Quiet ev → w.s ≡ v.s → w.rep ≡ fallback.withheld → w.seen.mode ≡ in_fallback → MayDo v ev w
  kept : Quiet ev → w.s ≡ v.s → Stays v w → MayDo v ev w

-- at power-up
pub record StartsBounded (v : Watchdog) : Type 0 where
  pub mode : v.seen.mode ≡ in_fallback
  pub rep : v.rep ≡ fallback.withheld
  pub s : v.s ≡ 0

-- a call so, not answered 19
pub record CallBounded (v : Watchdog) (call : Call) (n : ℕ) (ev : Event) (w : Watchdog) : Type 0 where
  pub sound : n ≡ unsound → ⊥
  pub move : MayDo v ev w

abbrev pub bounded_module : Device
bounded_module = record { State = Watchdog; seen = λ v. v.seen; Starts = StartsBounded; Moves = CallBounded }

-- ---- one call

-- s and OUT_REP against the words of the history
record Link (h : History) (v : Watchdog) : Type 0 where
  modes : (v.seen.mode ≡ in_run → ⊥) → v.seen.mode ≡ in_fallback
  silent : v.s ≡ min (silence h) silence_end
  pending : v.seen.mode ≡ in_fallback → v.rep ≡ fallback.released → Released h

record Right (h : History) (e : Entry) : Type 0 where
  sync_silence : TickAtSyncLimit h e → Safe e.after
  entry_to_run : EntersRun e → Enters h e
  two_modes : (e.after.mode ≡ in_run → ⊥) → e.after.mode ≡ in_fallback
  no_19 : e.answer ≡ unsound → ⊥

record Entered (h : History) (e : Entry) : Type 0 where
  sync_silence : TickAtSyncLimit h e → Safe e.after
  entry_to_run : EntersRun e → Enters h e

pub not_both : (m : ℕ) → m ≡ in_run → m ≡ in_fallback → ⊥
not_both m p q = omega arith

pub counts_on : (s x : ℕ) → s ≡ min x silence_end → more_silence s ≡ min (x + 1) silence_end
counts_on s x e =
    by_test (λ (y : ℕ). y ≡ min (x + 1) silence_end) (ltb s silence_end)
    (λ p. omega (arith, ltb-true s silence_end p)) (λ p. omega (arith, ltb-false s silence_end p))

-- t and n are bytes, so s passes n × t before it stops
pub not_at_limit : (s x n t : ℕ) → s ≡ min x silence_end → n ≤ 255 → t ≤ 255 → s < n * t → n * t ≤ x → ⊥
not_at_limit s x n t e p q under at =
    let small : n * t ≤ 255 * 255 = mul-le-mul p q in
    omega arith

quiet_silence : (ev : Event) (x : ℕ) → Quiet ev → silence_after ev x ≡ x
quiet_silence a_missed_sync x q = refl
quiet_silence (a_request r) x q = refl
quiet_silence (a_refused_write r) x q = refl
quiet_silence (an_assignment sid) x q = refl
quiet_silence nothing x q = refl
quiet_silence a_tick x q = absurd q
quiet_silence (a_sync src cyc) x q = absurd q

no_tick : (ev : Event) → Quiet ev → ev ≡ a_tick → ⊥
no_tick ev q e = subst Quiet e q

sync_no_tick : (ev : Event) (src cyc : ℕ) → ev ≡ a_sync src cyc → ev ≡ a_tick → ⊥
sync_no_tick ev src cyc p q = let z : ◌≡◌ {A = ℕ} 0 1 = cc in omega arith

asks_quietly : {ev : Event} (r : Request) → ev ≡ a_request r → Quiet ev
asks_quietly r e = subst Quiet (sym e) tt

module _ (h : History) (v w : Watchdog) (l : Link h v) (call : Call) (n : ℕ) (ev : Event) where
  abbrev this : Entry
  this = move_entry bounded_module v call n ev w

  -- the mode stays: RUN is not entered, and a release that is pending is pending still
  module _ (no_limit : TickAtSyncLimit h this → ⊥) where
    right_stays : w.seen.mode ≡ v.seen.mode → Entered h this
    right_stays m = record { sync_silence = λ x. absurd (no_limit x); entry_to_run = λ x. absurd (not_both v.seen.mode (sym m ∙ x.to) x.from) }

    link_stays : Stays v w → w.s ≡ min (silence (h ▸ this)) silence_end → Link (h ▸ this) w
    link_stays y s = record {
      modes = λ x. y.mode ∙ l.modes (λ p. x (y.mode ∙ p));
      silent = s;
      pending = λ p q. still (l.pending (sym y.mode ∙ p) (sym y.rep ∙ q)) (λ x. not_both v.seen.mode x.from (sym y.mode ∙ p)) no_limit;
    }

  -- fallback, OUT_REP AAh
  right_fell : (TickAtSyncLimit h this → Safe w.seen) → w.seen.mode ≡ in_fallback → Entered h this
  right_fell safe m = record { sync_silence = safe; entry_to_run = λ x. absurd (not_both w.seen.mode x.to m) }

  link_fell : w.seen.mode ≡ in_fallback → w.rep ≡ fallback.withheld → w.s ≡ min (silence (h ▸ this)) silence_end → Link (h ▸ this) w
  link_fell m r s = record { modes = λ x. m; silent = s; pending = λ p q. absurd (omega (arith, r, q)) }

  quiet_silent : Quiet ev → w.s ≡ v.s → w.s ≡ min (silence (h ▸ this)) silence_end
  quiet_silent q s = rw (quiet_silence ev (silence h) q) (s ∙ l.silent)

  module _ (e : ev ≡ a_tick) (s : w.s ≡ more_silence v.s) where
    tick_silent : w.s ≡ min (silence (h ▸ this)) silence_end
    tick_silent = rw e (s ∙ counts_on v.s (silence h) l.silent)

    no_limit : Below v w → TickAtSyncLimit h this → ⊥
    no_limit b x = not_at_limit w.s (silence (h ▸ this)) v.seen.n v.seen.t tick_silent b.n b.t b.under x.limit

  sync_silent : (src cyc : ℕ) → ev ≡ a_sync src cyc → w.s ≡ 0 → w.s ≡ min (silence (h ▸ this)) silence_end
  sync_silent src cyc e s = rw e (omega arith)

  entered : MayDo v ev w → Entered h this
  entered (fell_at_tick e s r safe) = right_fell (λ x. safe) safe.mode
  entered (ticked_on e s b y) = right_stays (no_limit e s b) y.mode
  entered (heard_only src cyc e s y) = right_stays (λ x. sync_no_tick ev src cyc e x.tick) y.mode
  entered (entered_run src cyc e s m r run) = record {
    sync_silence = λ x. absurd (sync_no_tick ev src cyc e x.tick);
    entry_to_run = λ x. record { src = src; cyc = cyc; by_sync = e; released = l.pending m r };
  }
  entered (released r e o s m) = right_stays (λ x. no_tick ev (asks_quietly r e) x.tick) m
  entered (fell q s r m) = right_fell (λ x. absurd (no_tick ev q x.tick)) m
  entered (kept q s y) = right_stays (λ x. no_tick ev q x.tick) y.mode

  linked : MayDo v ev w → Link (h ▸ this) w
  linked (fell_at_tick e s r safe) = link_fell safe.mode r (tick_silent e s)
  linked (ticked_on e s b y) = link_stays (no_limit e s b) y (tick_silent e s)
  linked (heard_only src cyc e s y) = link_stays (λ x. sync_no_tick ev src cyc e x.tick) y (sync_silent src cyc e s)
  linked (entered_run src cyc e s m r run) = record { modes = λ x. absurd (x run); silent = sync_silent src cyc e s; pending = λ p. absurd (not_both w.seen.mode run p) }
  linked (released r e o s m) = record { modes = λ x. m ∙ l.modes (λ p. x (m ∙ p)); silent = quiet_silent (asks_quietly r e) s; pending = λ p q. ordered r e o }
  linked (fell q s r m) = link_fell m r (quiet_silent q s)
  linked (kept q s y) = link_stays (λ x. no_tick ev q x.tick) y (quiet_silent q s)

  right : CallBounded v call n ev w → Right h this
  right b =
      let x = entered b.move in
      record { sync_silence = x.sync_silence; entry_to_run = x.entry_to_run; two_modes = (linked b.move).modes; no_19 = b.sound }

-- ---- every call of a history

at_rest : (v : Watchdog) → StartsBounded v → Link power_on v
at_rest v r = record { modes = λ x. r.mode; silent = r.s; pending = λ p q. absurd (omega (arith, r.rep, q)) }

-- s counts the silence, as far as it goes
pub counts_silence : {h : History} {v : Watchdog} → HistoryOf bounded_module h v → v.s ≡ min (silence h) silence_end
counts_silence r = (after_all_lem bounded_module Link at_rest (λ h v w call n ev b l. linked h v w l call n ev b.move) r).silent

pub bounded : {h : History} {v : Watchdog} → HistoryOf bounded_module h v → Bounded h
bounded r =
    let all = of_each bounded_module Link at_rest (λ h v w call n ev b l. linked h v w l call n ev b.move) Right (λ h v w call n ev b l. right h v w l call n ev b) r in
    record {
      sync_silence = λ past e c. (all past e c).sync_silence;
      entry_to_run = λ past e c. (all past e c).entry_to_run;
      two_modes = λ past e c. (all past e c).two_modes;
      no_19 = λ past e c. (all past e c).no_19;
    }
