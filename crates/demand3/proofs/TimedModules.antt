-- The window of syncs, for any module that has one: what one call may do to the mode, to t, to the clock of the cycle and to the
-- mark, and that in a history of such calls a sync accepted in RUN is in its window, and a missed one ends in fallback. Knows no
-- rules and no registers. Assumes nothing.
use mathlib.Core.Logic.{◌⊎◌, inl, inr, ⊎_elim}
use mathlib.Core.Option.{Option, none, some, some-injective}
use mathlib.Core.Path.{◌≡◌, refl, sym, ap, ◌∙◌, subst}
use Prim.Native.Nat.{ℕ, ◌+◌, ◌*◌, ◌≤◌, ◌<◌}
use native.Mathlib.Nat.{zero-mul, one-mul, add-mul, mul-le-mul_right}
use native.Mathlib.Omega.{arith}
use Rattle.rules.specs.Calls.{Call}
use Rattle.rules.specs.State.{is_heard, unheard, is_marked, unmarked}
use Rattle.demand3.specs.Claim.{Safe, InWindow, Everywhere}
use Rattle.demand3.specs.Events.{Event, a_tick, a_sync, a_missed_sync, a_request, a_refused_write, an_assignment, nothing}
use Rattle.demand3.specs.History.{History, power_on, ◌▸◌, Entry, Seen}
use Rattle.demand3.specs.Numbers.{in_run, in_fallback, window}
use Rattle.demand3.specs.Words.{SyncOf, sync_after, last_sync, silence_after, silence, missed_after, missed, TickAtWindowLimit, SyncInRun}
use Rattle.demand3.proofs.BoundedModules.{not_both}
use Rattle.demand3.proofs.Device.{Device, move_entry, HistoryOf, after_all_lem, of_each}

-- what matters of a module here: what is seen, whether the cycle is heard, e, and the mark
pub record Timer : Type 0 where
  pub seen : Seen
  pub heard : ℕ
  pub e : ℕ
  pub mark : ℕ

-- neither a tick nor a sync, accepted or missed
abbrev pub Other : Event → Type 0
Other a_tick = ⊥
Other (a_sync src cyc) = ⊥
Other a_missed_sync = ⊥
Other (a_request r) = Unit {0}
Other (a_refused_write r) = Unit {0}
Other (an_assignment sid) = Unit {0}
Other nothing = Unit {0}

-- the window of a sync: that of the next cycle at the end of this one, or that of this cycle, unheard, at its begin
pub data Window (v : Timer) : Type 0 where
  next : v.seen.t ≤ v.e + window v.seen.t → Window v
  same : v.heard ≡ unheard → v.e ≤ window v.seen.t → Window v

-- in RUN after the call, so before it
abbrev pub RanOn : Timer → Timer → Type 0
RanOn v w = w.seen.mode ≡ in_run → v.seen.mode ≡ in_run

-- heard and the mark stay
pub record Kept (v w : Timer) : Type 0 where
  pub heard : w.heard ≡ v.heard
  pub mark : w.mark ≡ v.mark

-- if not in RUN then safe
abbrev pub RunsOrSafe : Timer → Type 0
RunsOrSafe w = (w.seen.mode ≡ in_run → ⊥) → Safe w.seen

-- what one call may do
pub data MayDo (v : Timer) (ev : Event) (w : Timer) : Type 0 where
  fell_at_tick : ev ≡ a_tick → Safe w.seen → MayDo v ev w
  ticked_on : ev ≡ a_tick → RanOn v w → RunsOrSafe w → v.e + 1 < v.seen.t → w.e ≡ v.e + 1 → Kept v w → MayDo v ev w
  cycle_ended : ev ≡ a_tick → RanOn v w → RunsOrSafe w → v.seen.t ≤ v.e + 1 → (v.seen.mode ≡ in_run → v.mark ≡ is_marked → ⊥) → w.e ≡ 0 → w.mark ≡ v.mark → MayDo v ev w
  synced : (src cyc : ℕ) → ev ≡ a_sync src cyc → (v.seen.mode ≡ in_run → Window v) → 0 < w.seen.t → w.e ≡ 0 → w.heard ≡ is_heard → w.mark ≡ unmarked → MayDo v ev w
  missed_one : ev ≡ a_missed_sync → RanOn v w → w.e ≡ v.e → w.heard ≡ v.heard → w.mark ≡ is_marked → MayDo v ev w
  kept : Other ev → RanOn v w → w.e ≡ v.e → Kept v w → MayDo v ev w
  fell : Other ev → w.seen.mode ≡ in_fallback → MayDo v ev w

-- a call so, and t does not change in RUN
pub record CallTimed (v : Timer) (call : Call) (n : ℕ) (ev : Event) (w : Timer) : Type 0 where
  pub steady : v.seen.mode ≡ in_run → w.seen.t ≡ v.seen.t
  pub move : MayDo v ev w

abbrev pub timed_module : Device
timed_module = record { State = Timer; seen = λ v. v.seen; Starts = λ v. v.seen.mode ≡ in_fallback; Moves = CallTimed }

-- ---- the link

-- x ticks are whole cycles and e; at least one cycle if this one is unheard
pub record Whole (t e heard x : ℕ) : Type 0 where
  pub cycles : ℕ
  pub is : x ≡ cycles * t + e
  pub below : e < t
  pub later : heard ≡ unheard → 1 ≤ cycles

-- the ticks since a missed sync are in this cycle, and the mark is set
pub record Marked (e mark x : ℕ) : Type 0 where
  pub is_set : mark ≡ is_marked
  pub in_cycle : x ≤ e

-- a sync was accepted
abbrev pub Accepted : Option SyncOf → Type 0
Accepted y = (sync : SyncOf) × (y ≡ some sync)

-- in RUN, against the words of the history
pub record Link (h : History) (v : Timer) : Type 0 where
  pub synced_once : v.seen.mode ≡ in_run → Accepted (last_sync h)
  pub whole : v.seen.mode ≡ in_run → Whole v.seen.t v.e v.heard (silence h)
  pub marked : v.seen.mode ≡ in_run → (x : ℕ) → missed h ≡ some x → Marked v.e v.mark x
  pub missed_one_lem : v.seen.mode ≡ in_run → v.mark ≡ is_marked → (x : ℕ) × (missed h ≡ some x)

-- what the claim says of one call
pub record Right (h : History) (e : Entry) : Type 0 where
  pub sync_window : SyncInRun e → InWindow h e.before.t
  pub steady_cycle : e.before.mode ≡ in_run → e.after.t ≡ e.before.t
  pub missed_sync : TickAtWindowLimit h e → Safe e.after

-- ---- numbers and words

pub one_cycle : (j t : ℕ) → (j + 1) * t ≡ j * t + t
one_cycle j t = add-mul j 1 t ∙ ap (λ (y : ℕ). j * t + y) (one-mul t)

in_window : (h : History) (v : Timer) → Accepted (last_sync h) → Whole v.seen.t v.e v.heard (silence h) → Window v → InWindow h v.seen.t
in_window h v y l (next p) =
    let c : (l.cycles + 1) * v.seen.t ≡ l.cycles * v.seen.t + v.seen.t = one_cycle l.cycles v.seen.t in
    record {
      earlier = y.0;
      accepted_before = y.1;
      least = omega (arith, l.is);
      multiple = l.cycles + 1;
      above = omega (arith, l.is, l.below);
      below = omega (arith, l.is);
    }
in_window h v y l (same u p) =
    let m : 1 * v.seen.t ≤ l.cycles * v.seen.t = mul-le-mul_right v.seen.t (l.later u) in
    let o : 1 * v.seen.t ≡ v.seen.t = one-mul v.seen.t in
    record {
      earlier = y.0;
      accepted_before = y.1;
      least = omega (arith, l.is);
      multiple = l.cycles;
      above = omega (arith, l.is);
      below = omega (arith, l.is);
    }

-- one tick more since a missed sync
tick_missed : (o : Option ℕ) (y : ℕ) → missed_after a_tick o ≡ some y → (x : ℕ) × (o ≡ some x) × (y ≡ x + 1)
tick_missed none y e = absurd (let z : ◌≡◌ {A = ℕ} 0 1 = cc in omega arith)
tick_missed (some x) y e = (x, refl, sym (some-injective (x + 1) y e))

-- a missed sync: the first, or one more
miss_missed : (o : Option ℕ) (y : ℕ) → missed_after a_missed_sync o ≡ some y → (y ≡ 0) ⊎ (o ≡ some y)
miss_missed none y e = inl (sym (some-injective 0 y e))
miss_missed (some x) y e = inr e

-- there is one, whatever was before
now_missed : (o : Option ℕ) → (x : ℕ) × (missed_after a_missed_sync o ≡ some x)
now_missed none = (0, refl)
now_missed (some x) = (x, refl)

other_silence : (ev : Event) (x : ℕ) → Other ev → silence_after ev x ≡ x
other_silence (a_request r) x q = refl
other_silence (a_refused_write r) x q = refl
other_silence (an_assignment sid) x q = refl
other_silence nothing x q = refl
other_silence a_tick x q = absurd q
other_silence (a_sync src cyc) x q = absurd q
other_silence a_missed_sync x q = absurd q

other_sync : (ev : Event) (y : Option SyncOf) → Other ev → sync_after ev y ≡ y
other_sync (a_request r) y q = refl
other_sync (a_refused_write r) y q = refl
other_sync (an_assignment sid) y q = refl
other_sync nothing y q = refl
other_sync a_tick y q = absurd q
other_sync (a_sync src cyc) y q = absurd q
other_sync a_missed_sync y q = absurd q

other_missed : (ev : Event) (o : Option ℕ) → Other ev → missed_after ev o ≡ o
other_missed (a_request r) o q = refl
other_missed (a_refused_write r) o q = refl
other_missed (an_assignment sid) o q = refl
other_missed nothing o q = refl
other_missed a_tick o q = absurd q
other_missed (a_sync src cyc) o q = absurd q
other_missed a_missed_sync o q = absurd q

-- an event is not two things
tick_no_sync : (src cyc : ℕ) → a_tick ≡ a_sync src cyc → ⊥
tick_no_sync src cyc e = let z : ◌≡◌ {A = ℕ} 0 1 = cc in omega arith

miss_no_sync : (src cyc : ℕ) → a_missed_sync ≡ a_sync src cyc → ⊥
miss_no_sync src cyc e = let z : ◌≡◌ {A = ℕ} 0 1 = cc in omega arith

miss_no_tick : a_missed_sync ≡ a_tick → ⊥
miss_no_tick e = let z : ◌≡◌ {A = ℕ} 0 1 = cc in omega arith

-- ---- one call
module _ (h : History) (v w : Timer) (l : Link h v) (call : Call) (n : ℕ) (ev : Event) where
  abbrev this : Entry
  this = move_entry timed_module v call n ev w

  -- in fallback nothing is linked
  link_fell : w.seen.mode ≡ in_fallback → Link (h ▸ this) w
  link_fell m = record {
    synced_once = λ p. absurd (not_both w.seen.mode p m);
    whole = λ p. absurd (not_both w.seen.mode p m);
    marked = λ p. absurd (not_both w.seen.mode p m);
    missed_one_lem = λ p. absurd (not_both w.seen.mode p m);
  }

  -- the last accepted sync is as it was
  synced_before : last_sync (h ▸ this) ≡ last_sync h → RanOn v w → w.seen.mode ≡ in_run → Accepted (last_sync (h ▸ this))
  synced_before e r run = let y = l.synced_once (r run) in (y.0, e ∙ y.1)

  -- one tick more since the sync that was missed before
  module _ (e : ev ≡ a_tick) (run : v.seen.mode ≡ in_run) (x : ℕ) (m : missed (h ▸ this) ≡ some x) where
    marked_before : (y : ℕ) × Marked v.e v.mark y × (x ≡ y + 1)
    marked_before = let y = tick_missed (missed h) x (rw e at m) in (y.0, l.marked run y.0 y.1, y.2)

  module _ (steady : v.seen.mode ≡ in_run → w.seen.t ≡ v.seen.t) where
    whole_on : ev ≡ a_tick → RanOn v w → v.e + 1 < v.seen.t → w.e ≡ v.e + 1 → w.heard ≡ v.heard → w.seen.mode ≡ in_run
        → Whole w.seen.t w.e w.heard (silence (h ▸ this))
    whole_on e r b y u run =
        let a = l.whole (r run) in
        rw (e, steady (r run), y) record { cycles = a.cycles; is = omega (arith, a.is); below = b; later = λ p. a.later (sym u ∙ p) }

    whole_end : ev ≡ a_tick → RanOn v w → v.seen.t ≤ v.e + 1 → w.e ≡ 0 → w.seen.mode ≡ in_run
        → Whole w.seen.t w.e w.heard (silence (h ▸ this))
    whole_end e r b y run =
        let a = l.whole (r run) in
        let c : (a.cycles + 1) * v.seen.t ≡ a.cycles * v.seen.t + v.seen.t = one_cycle a.cycles v.seen.t in
        rw (e, steady (r run), y)
        record { cycles = a.cycles + 1; is = omega (arith, a.is, a.below); below = omega (arith, a.below); later = λ p. omega arith }

    whole_same : silence (h ▸ this) ≡ silence h → RanOn v w → w.e ≡ v.e → w.heard ≡ v.heard → w.seen.mode ≡ in_run
        → Whole w.seen.t w.e w.heard (silence (h ▸ this))
    whole_same s r y u run =
        let a = l.whole (r run) in
        rw (s, steady (r run), y) record { cycles = a.cycles; is = a.is; below = a.below; later = λ p. a.later (sym u ∙ p) }

    linked : MayDo v ev w → Link (h ▸ this) w
    linked (fell_at_tick e safe) = link_fell safe.mode
    linked (ticked_on e r safe b y k) = record {
      synced_once = synced_before (ap (λ (x : Event). sync_after x (last_sync h)) e) r;
      whole = whole_on e r b y k.heard;
      marked = λ run x m. let a = marked_before e (r run) x m in record { is_set = k.mark ∙ a.1.is_set; in_cycle = omega (arith, a.2, a.1.in_cycle, y) };
      missed_one_lem = λ run m. let a = l.missed_one_lem (r run) (sym k.mark ∙ m) in (a.0 + 1, rw (e, a.1) refl);
    }
    linked (cycle_ended e r safe b u y k) = record {
      synced_once = synced_before (ap (λ (x : Event). sync_after x (last_sync h)) e) r;
      whole = whole_end e r b y;
      marked = λ run x m. absurd (u (r run) (marked_before e (r run) x m).1.is_set);
      missed_one_lem = λ run m. absurd (u (r run) (sym k ∙ m));
    }
    linked (synced src cyc e win pos y u k) = record {
      synced_once = λ run. ((src, cyc), ap (λ (x : Event). sync_after x (last_sync h)) e);
      whole = λ run. let o : 0 * w.seen.t ≡ 0 = zero-mul w.seen.t in
          rw (e, y) record { cycles = 0; is = omega arith; below = pos; later = λ p. absurd (omega (arith, u)) };
      marked = λ run x m. absurd (let none_is : none ≡ some x = rw e at m in let z : ◌≡◌ {A = ℕ} 0 1 = cc in omega arith);
      missed_one_lem = λ run m. absurd (omega (arith, k, m));
    }
    linked (missed_one e r y u k) = record {
      synced_once = synced_before (ap (λ (x : Event). sync_after x (last_sync h)) e) r;
      whole = whole_same (ap (λ (x : Event). silence_after x (silence h)) e) r y u;
      marked = λ run x m. ⊎_elim
          (λ z. record { is_set = k; in_cycle = omega arith })
          (λ o. record { is_set = k; in_cycle = omega (arith, (l.marked (r run) x o).in_cycle, y) })
          (miss_missed (missed h) x (rw e at m));
      missed_one_lem = λ run m. let a = now_missed (missed h) in (a.0, rw e a.1);
    }
    linked (kept q r y k) = record {
      synced_once = synced_before (other_sync ev (last_sync h) q) r;
      whole = whole_same (other_silence ev (silence h) q) r y k.heard;
      marked = λ run x m. let a = l.marked (r run) x (sym (other_missed ev (missed h) q) ∙ m) in
          record { is_set = k.mark ∙ a.is_set; in_cycle = omega (arith, a.in_cycle, y) };
      missed_one_lem = λ run m. let a = l.missed_one_lem (r run) (sym k.mark ∙ m) in (a.0, other_missed ev (missed h) q ∙ a.1);
    }
    linked (fell q m) = link_fell m

  -- the window of an accepted sync
  in_time : MayDo v ev w → SyncInRun this → InWindow h v.seen.t
  in_time (fell_at_tick e safe) s = absurd (tick_no_sync s.src s.cyc (sym e ∙ s.sync))
  in_time (ticked_on e r safe b y k) s = absurd (tick_no_sync s.src s.cyc (sym e ∙ s.sync))
  in_time (cycle_ended e r safe b u y k) s = absurd (tick_no_sync s.src s.cyc (sym e ∙ s.sync))
  in_time (synced src cyc e win pos y u k) s = in_window h v (l.synced_once s.run) (l.whole s.run) (win s.run)
  in_time (missed_one e r y u k) s = absurd (miss_no_sync s.src s.cyc (sym e ∙ s.sync))
  in_time (kept q r y k) s = absurd (subst Other s.sync q)
  in_time (fell q m) s = absurd (subst Other s.sync q)

  -- a tick at the window's limit: not in RUN
  at_limit_lem : MayDo v ev w → TickAtWindowLimit h this → Safe w.seen
  at_limit_lem (fell_at_tick e safe) x = safe
  at_limit_lem (ticked_on e r safe b y k) x =
      safe (λ run. let a = marked_before e (r run) x.ticks x.since in omega (arith, b, a.2, a.1.in_cycle, x.limit))
  at_limit_lem (cycle_ended e r safe b u y k) x = safe (λ run. u (r run) (marked_before e (r run) x.ticks x.since).1.is_set)
  at_limit_lem (synced src cyc e win pos y u k) x = absurd (tick_no_sync src cyc (sym x.tick ∙ e))
  at_limit_lem (missed_one e r y u k) x = absurd (miss_no_tick (sym e ∙ x.tick))
  at_limit_lem (kept q r y k) x = absurd (subst Other x.tick q)
  at_limit_lem (fell q m) x = absurd (subst Other x.tick q)

-- ---- every call of a history
at_rest : (v : Timer) → v.seen.mode ≡ in_fallback → Link power_on v
at_rest v m = record {
  synced_once = λ p. absurd (not_both v.seen.mode p m);
  whole = λ p. absurd (not_both v.seen.mode p m);
  marked = λ p. absurd (not_both v.seen.mode p m);
  missed_one_lem = λ p. absurd (not_both v.seen.mode p m);
}

-- the link holds after every history
pub in_step : {h : History} {v : Timer} → HistoryOf timed_module h v → Link h v
in_step = after_all_lem timed_module Link at_rest (λ h v w call n ev b l. linked h v w l call n ev b.steady b.move)

pub timed : {h : History} {v : Timer} → HistoryOf timed_module h v → Everywhere Right h
timed =
    of_each timed_module Link at_rest (λ h v w call n ev b l. linked h v w l call n ev b.steady b.move) Right
    (λ h v w call n ev b l. record {
      sync_window = in_time h v w l call n ev b.move;
      steady_cycle = b.steady;
      missed_sync = at_limit_lem h v w l call n ev b.move;
    })
