-- Register 26h, of every history of effects on a safe module: it shows the ground of the last passage from RUN to fallback. The
-- counters that lead to fallback are turned into the words of the history by the links. Assumes nothing.
use mathlib.Core.Path.{◌≡◌, sym, ◌∙◌, subst}
use Prim.Native.Nat.{ℕ, ◌+◌, ◌*◌, ◌≤◌, ◌<◌, min}
use native.Mathlib.Omega.{arith}
use borrow.Author.Tests.{eq-eqb, ne_eqb}
use Rattle.base.proofs.Choosing.{choose_true, choose_false}
use Rattle.rules.specs.Calls.{Call}
use Rattle.rules.specs.Grounds.{by_wrong_cycle, by_order}
use Rattle.rules.specs.State.{in_run, in_fallback}
use Rattle.rules.specs.Tick.{silence_end}
use Rattle.demand3.specs.Events.{Event, a_tick}
use Rattle.demand3.specs.Grounds.{Ground, silent, idle, wrong, ordered, late, LastGround, none, passage, still, Grounded}
use Rattle.demand3.specs.History.{History, power_on, ◌▸◌, Entry}
use Rattle.demand3.specs.Words.{silence, TickAtSyncLimit, TickAtCommandLimit}
use Rattle.demand3.proofs.BoundedModules.{counts_on, not_at_limit, counts_silence}
use Rattle.demand3.proofs.Device.{HistoryOf, start, step, of_each}
use Rattle.demand3.proofs.Effects.{shown_by, counted_on, Reaches, at_sync, at_command, at_window, Did, fell_at_tick, fell_at_tick_and_end, ticked_on, ticked_on_and_end, kept, lost, missed, heard_only, entered_run, taken_only, asked, configured, released_by, withdrawn, output, named_first, acknowledged}
use Rattle.demand3.proofs.Link.{view_entry, not_both, by_mode}
use Rattle.demand3.proofs.SafeModules.{StartsSafe, CallSafe, safe_module, linked, as_bounded, as_timed}
use Rattle.demand3.proofs.TimedModules.{one_cycle, in_step}
use Rattle.demand3.proofs.Views.{View, Facts}

-- ---- one call, on a module of the view v that leaves the view u
module _ (h : History) (v : View) (f : Facts v) (made : HistoryOf safe_module h v) (call : Call) (n : ℕ) (ev : Event) (u : View) where
  abbrev this : Entry
  this = view_entry v call n ev u

  -- ---- a tick
  module _ (tick : ev ≡ a_tick) where
    -- s and q with it, against the words of the history
    s_is : (counted_on v).clocks.s ≡ min (silence (h ▸ this)) silence_end
    s_is = rw tick (counts_on v.clocks.s (silence h) (counts_silence (as_bounded made)))

    at_sync_lem : v.registers.n * v.registers.t ≤ (counted_on v).clocks.s → TickAtSyncLimit h this
    at_sync_lem p = record { tick = tick; limit = omega (arith, s_is) }

    not_sync : (counted_on v).clocks.s < v.registers.n * v.registers.t → TickAtSyncLimit h this → ⊥
    not_sync p x = not_at_limit (counted_on v).clocks.s (silence (h ▸ this)) v.registers.n v.registers.t s_is f.n f.t p x.limit

    module _ (run : v.mode ≡ in_run) where
      q_is : (counted_on v).clocks.q ≡ v.clocks.q + 1
      q_is = choose_true (v.clocks.q + 1) v.clocks.q (eq-eqb v.mode in_run run)

      at_command_lem : v.registers.m * v.registers.t ≤ (counted_on v).clocks.q → TickAtCommandLimit h this
      at_command_lem p = record { tick = tick; run = run; limit = rw (tick, run) (omega (arith, q_is, (linked made).idle run)) }

      not_command : (counted_on v).clocks.q < v.registers.m * v.registers.t → TickAtCommandLimit h this → ⊥
      not_command p x =
          let at = rw (tick, run) at x.limit in
          omega (arith, q_is, (linked made).idle run)

    ground_of : (g : ℕ) → v.mode ≡ in_run → Reaches (counted_on v) g → Ground h this g
    ground_of _ run (at_sync p) = silent (at_sync_lem p)
    ground_of _ run (at_command r p q) = idle (at_command_lem run q) (not_sync p)
    ground_of _ run (at_window r b m p) =
        let l = in_step (as_timed made) in
        let w = l.whole run in
        let x = l.missed_one_lem run m in
        let c = one_cycle w.cycles v.registers.t in
        late record { tick = tick; ticks = x.0; since = x.1; cycles = w.cycles + 1; end = rw tick (omega (arith, w.is, w.below, c)) }
        (not_sync b.sync) (not_command run (b.command run))

  -- ---- what 26h shows with it
  module _ (shown : LastGround h v.registers.ground) where
    -- no passage, and 26h as before
    stays : (v.mode ≡ in_run → u.mode ≡ in_run) → u.registers.ground ≡ v.registers.ground → LastGround (h ▸ this) u.registers.ground
    stays m e = rw e (still (λ x. not_both u.mode (m x.from) x.to) shown)

    -- fallback with the ground g: a passage in RUN
    falls : (g : ℕ) → u.mode ≡ in_fallback → u.registers.ground ≡ shown_by v.mode g v.registers.ground → (v.mode ≡ in_run → Ground h this g)
        → LastGround (h ▸ this) u.registers.ground
    falls g m e why =
        by_mode v f
        (λ run. subst (LastGround (h ▸ this)) (sym (e ∙ choose_true g v.registers.ground (eq-eqb v.mode in_run run)))
        (passage record { from = run; to = m } (why run)))
        (λ rest. subst (LastGround (h ▸ this)) (sym (e ∙ choose_false g v.registers.ground (ne_eqb v.mode in_run (λ run. not_both v.mode run rest))))
        (still (λ x. not_both v.mode x.from rest) shown))

    pub shown_by_lem : CallSafe v call n ev u → LastGround (h ▸ this) u.registers.ground
    shown_by_lem c = by_effect c.did c.shows.mode c.shows.registers.ground
      where
        by_effect : {w : View} → Did v call n ev w → u.mode ≡ w.mode → u.registers.ground ≡ w.registers.ground → LastGround (h ▸ this) u.registers.ground
        by_effect (fell_at_tick g e at) m x = falls g m x (λ run. ground_of e g run at)
        by_effect (fell_at_tick_and_end g e at) m x = falls g m x (λ run. ground_of e g run at)
        by_effect (ticked_on e below on) m x = stays (λ run. m ∙ run) x
        by_effect (ticked_on_and_end e below ends) m x = stays (λ run. m ∙ run) x
        by_effect (kept e) m x = stays (λ run. m ∙ run) x
        by_effect (lost e none-asked w) m x = falls by_wrong_cycle m x (λ run. wrong w)
        by_effect (missed e none-asked) m x = stays (λ run. m ∙ run) x
        by_effect (heard_only src cyc e known timely) m x = stays (λ run. m ∙ run) x
        by_effect (entered_run src cyc e known p q) m x = stays (λ run. m) x
        by_effect (taken_only r e reach) m x = stays (λ run. m ∙ run) x
        by_effect (asked r e reach w) m x = stays (λ run. m ∙ run) x
        by_effect (configured r t y z e reach w p) m x = stays (λ run. m ∙ run) x
        by_effect (released_by r e reach w o) m x = stays (λ run. m ∙ run) x
        by_effect (withdrawn r e reach w o) m x = falls by_order m x (λ run. ordered record { request = r; accepted = e; order = o })
        by_effect (output r add xs ok e reach w run laid) m x = stays (λ run. m ∙ run) x
        by_effect (named_first sid e no_one) m x = stays (λ run. m ∙ run) x
        by_effect (acknowledged sid e named-is) m x = stays (λ run. m ∙ run) x

-- ---- every call of a history
record Known (h : History) (v : View) : Type 0 where
  made : HistoryOf safe_module h v
  shown : LastGround h v.registers.ground

record Shown (h : History) (e : Entry) : Type 0 where
  before : LastGround h e.before.ground
  after : LastGround (h ▸ e) e.after.ground

at_start : (v : View) → StartsSafe v → Known power_on v
at_start v s = record { made = start s; shown = rw s.ground none }

pub grounded : {h : History} {v : View} → HistoryOf safe_module h v → Grounded h
grounded m =
    let all =
    of_each safe_module Known at_start
    (λ h v u call n ev c k. record { made = step call n ev c k.made; shown = shown_by_lem h v c.facts k.made call n ev u k.shown c })
    Shown
    (λ h v u call n ev c k. record { before = k.shown; after = shown_by_lem h v c.facts k.made call n ev u k.shown c }) m in
    record { before = λ past e c. (all past e c).before; after = λ past e c. (all past e c).after }
