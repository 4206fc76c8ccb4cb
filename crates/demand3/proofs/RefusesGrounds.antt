-- The statement of register 26h is not empty either: made-up histories in which it shows something else, which the statement
-- refuses. Assumes nothing.
use mathlib.Core.Option.{none}
use mathlib.Core.Path.{◌≡◌, refl}
use Prim.Native.Nat.{ℕ}
use native.Mathlib.Omega.{arith}
use Rattle.rules.specs.Calls.{Call}
use Rattle.rules.specs.State.{in_run, in_fallback}
use Rattle.demand3.specs.Claim.{now}
use Rattle.demand3.specs.Events.{a_request, event_of, Request}
use Rattle.demand3.specs.Grounds.{Ground, silent, idle, wrong, ordered, late, LastGround, passage, still, Grounded}
use Rattle.demand3.specs.Grounds as grounds
use Rattle.demand3.specs.History.{History, power_on, ◌▸◌, Entry, Seen, call_entry}
use Rattle.demand3.specs.Numbers.{cycle}
use Rattle.demand3.specs.Words.{silence, missed, LeavesRun}
use Rattle.demand3.proofs.Refuses.{tick_entry, is_tick}

-- a module that shows g, outputs zero. With t = n = m = 1 every tick is at both limits; with n = m = 200 none is for long
abbrev strict : ℕ → ℕ → Seen
strict mode g = record { mode = mode; out = λ i. 0; t = 1; n = 1; m = 1; ground = g }

abbrev lenient : ℕ → ℕ → ℕ → Seen
lenient t mode g = record { mode = mode; out = λ i. 0; t = t; n = 200; m = 200; ground = g }

-- before the first call, and after a call that leaves RUN
none_shown : {y : ℕ} → LastGround power_on y → y ≡ 0
none_shown grounds.none = refl

ground_shown : {past : History} {e : Entry} → Grounded (past ▸ e) → LeavesRun e → Ground past e e.after.ground
ground_shown {past = past} {e = e} g l = by (g.after past e now)
  where
    by : {y : ℕ} → LastGround (past ▸ e) y → Ground past e y
    by (passage _ p) = p
    by (still no-passage p) = absurd (no-passage l)

-- at power-up it shows FFh
pub not_none_at_power_up : (call : Call) (x : Seen) → Grounded (power_on ▸ call_entry call 0 (strict in_fallback 0xFF) x) → ⊥
not_none_at_power_up call x g = omega (arith, none_shown (g.before _ _ now))

-- ---- a tick at both limits leaves RUN
module _ (y : ℕ) (g : Grounded (power_on ▸ tick_entry (strict in_run 0) (strict in_fallback y))) where
  shows_1 : {z : ℕ} → Ground power_on (tick_entry (strict in_run 0) (strict in_fallback y)) z → z ≡ y → (y ≡ 0 → ⊥) × (y ≡ 2 → ⊥)
  shows_1 (silent p) e = (λ f. omega arith, λ f. omega arith)
  shows_1 (idle p no_sync) e = absurd (no_sync record { tick = is_tick; limit = rw is_tick (omega arith) })
  shows_1 (wrong w) e = (λ f. omega arith, λ f. omega arith)
  shows_1 (ordered o) e = (λ f. omega arith, λ f. omega arith)
  shows_1 (late p no_sync no-command) e = (λ f. omega arith, λ f. omega arith)

  -- and 26h stays as it was
  pub not_stored : y ≡ 0 → ⊥
  not_stored = (shows_1 (ground_shown g record { from = refl; to = refl }) refl).0

  -- or shows 2
  pub both_show_2 : y ≡ 2 → ⊥
  both_show_2 = (shows_1 (ground_shown g record { from = refl; to = refl }) refl).1

-- ---- no passage

-- in fallback a tick at the sync limit is shown as a passage
pub stored_in_fallback : Grounded (power_on ▸ tick_entry (strict in_fallback 0) (strict in_fallback 1)) → ⊥
stored_in_fallback g = last (g.after _ _ now) refl
  where
    last : {y : ℕ} → LastGround (power_on ▸ tick_entry (strict in_fallback 0) (strict in_fallback 1)) y → y ≡ 1 → ⊥
    last (passage l p) e = omega (arith, l.from)
    last (still no-passage p) e = omega (arith, none_shown p, e)

-- the way back to RUN clears it
pub cleared_in_run : (past : History) (sync : Call)
    → Grounded (past ▸ tick_entry (strict in_run 0) (strict in_fallback 1) ▸ call_entry sync 0 (strict in_fallback 1) (strict in_run 0)) → ⊥
cleared_in_run past sync g = last (g.after _ _ now) refl
  where
    why : {y : ℕ} → Ground past (tick_entry (strict in_run 0) (strict in_fallback 1)) y → y ≡ 0 → ⊥
    why (silent p) e = omega arith
    why (idle p no_sync) e = omega arith
    why (wrong w) e = omega arith
    why (ordered o) e = omega arith
    why (late p no_sync no-command) e = omega arith

    before : {y : ℕ} → LastGround (past ▸ tick_entry (strict in_run 0) (strict in_fallback 1)) y → y ≡ 0 → ⊥
    before (passage l p) e = why p e
    before (still no-passage p) e = no-passage record { from = refl; to = refl }

    last : {y : ℕ} → LastGround (past ▸ tick_entry (strict in_run 0) (strict in_fallback 1) ▸ call_entry sync 0 (strict in_fallback 1) (strict in_run 0)) y → y ≡ 0 → ⊥
    last (passage l p) e = omega (arith, l.to)
    last (still no-passage p) e = before p e

-- ---- a ground that was not there
module _ (past : History) (call : Call) (n : ℕ) where
  -- 3, and the answer is not 12
  pub wrong_without_12 : (n ≡ cycle → ⊥) → Grounded (past ▸ call_entry call n (lenient 1 in_run 0) (lenient 1 in_fallback 3)) → ⊥
  wrong_without_12 other g = why (ground_shown g record { from = refl; to = refl }) refl
    where
      why : {y : ℕ} → Ground past (call_entry call n (lenient 1 in_run 0) (lenient 1 in_fallback 3)) y → y ≡ 3 → ⊥
      why (silent p) e = omega arith
      why (idle p no_sync) e = omega arith
      why (wrong w) e = other w.refused
      why (ordered o) e = omega arith
      why (late p no_sync no-command) e = omega arith

  -- 4, and no request was accepted
  pub order_without_request : ((r : Request) → event_of call n ≡ a_request r → ⊥)
      → Grounded (past ▸ call_entry call n (lenient 1 in_run 0) (lenient 1 in_fallback 4)) → ⊥
  order_without_request other g = why (ground_shown g record { from = refl; to = refl }) refl
    where
      why : {y : ℕ} → Ground past (call_entry call n (lenient 1 in_run 0) (lenient 1 in_fallback 4)) y → y ≡ 4 → ⊥
      why (silent p) e = omega arith
      why (idle p no_sync) e = omega arith
      why (wrong w) e = omega arith
      why (ordered o) e = other o.request o.accepted
      why (late p no_sync no-command) e = omega arith

-- 5, with t 16
module _ (past : History) (g : Grounded (past ▸ tick_entry (lenient 16 in_run 0) (lenient 16 in_fallback 5))) where
  -- and no sync was refused with 22
  pub window_without_22 : missed past ≡ none → ⊥
  window_without_22 m = why (ground_shown g record { from = refl; to = refl }) refl
    where
      why : {y : ℕ} → Ground past (tick_entry (lenient 16 in_run 0) (lenient 16 in_fallback 5)) y → y ≡ 5 → ⊥
      why (silent p) e = omega arith
      why (idle p no_sync) e = omega arith
      why (wrong w) e = omega arith
      why (ordered o) e = omega arith
      why (late p no_sync no-command) e = let z : ◌≡◌ {A = ℕ} 0 1 = cc (m, p.since) in omega arith

  -- or in the middle of a cycle: the sixth tick after the last accepted sync
  pub window_before_end : silence past ≡ 5 → ⊥
  window_before_end s = why (ground_shown g record { from = refl; to = refl }) refl
    where
      why : {y : ℕ} → Ground past (tick_entry (lenient 16 in_run 0) (lenient 16 in_fallback 5)) y → y ≡ 5 → ⊥
      why (silent p) e = omega arith
      why (idle p no_sync) e = omega arith
      why (wrong w) e = omega arith
      why (ordered o) e = omega arith
      why (late p no_sync no-command) e = let at = rw is_tick at p.end in omega (arith, s, at)
