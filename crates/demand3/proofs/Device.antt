-- A device as far as histories go: what is seen of its states, how it starts, and what a call may do. What each call keeps
-- holds after every history of it, and what each call gives holds of every call. Assumes nothing.
use mathlib.Core.Path.{◌≡◌}
use Prim.Native.Nat.{ℕ}
use Rattle.rules.specs.Calls.{Call}
use Rattle.demand3.specs.Claim.{now, earlier, Everywhere}
use Rattle.demand3.specs.Events.{Event}
use Rattle.demand3.specs.History.{History, power_on, ◌▸◌, Entry, Seen}

pub record Device : Type 1 where
  pub State : Type 0
  pub seen : State → Seen
  pub Starts : State → Type 0
  -- a call, its answer, what the two mean, and the state that it leaves
  pub Moves : State → Call → ℕ → Event → State → Type 0

module _ (D : Device) where
  abbrev pub move_entry : D.State → Call → ℕ → Event → D.State → Entry
  move_entry s call n ev z = record { call = call; answer = n; event = ev; before = D.seen s; after = D.seen z }

  -- a history of the device, and the state after it
  pub data HistoryOf : History → D.State → Type 0 where
    start : {s : D.State} → D.Starts s → HistoryOf power_on s
    step : {h : History} {s z : D.State} (call : Call) (n : ℕ) (ev : Event) → D.Moves s call n ev z → HistoryOf h s → HistoryOf (h ▸ move_entry s call n ev z) z

  module _ (I : History → D.State → Type 0)
      (starts : (s : D.State) → D.Starts s → I power_on s)
      (keeps : (h : History) (s z : D.State) (call : Call) (n : ℕ) (ev : Event) → D.Moves s call n ev z → I h s → I (h ▸ move_entry s call n ev z) z) where
    pub after_all_lem : {h : History} {s : D.State} → HistoryOf h s → I h s
    after_all_lem (start {s = s} b) = starts s b
    after_all_lem (step {h = h} {s = s} {z = z} call n ev m r) = keeps h s z call n ev m (after_all_lem r)

    module _ (P : History → Entry → Type 0)
        (gives : (h : History) (s z : D.State) (call : Call) (n : ℕ) (ev : Event) → D.Moves s call n ev z → I h s → P h (move_entry s call n ev z)) where
      pub of_each : {h : History} {s : D.State} → HistoryOf h s → Everywhere P h
      of_each (start b) past e c = elim c [ ]
      of_each (step {h = h} {s = s} {z = z} call n ev m r) _ _ now = gives h s z call n ev m (after_all_lem r)
      of_each (step call n ev m r) past e (earlier c) = of_each r past e c

-- one device does as another: what it does, seen through f, the other may do
module _ (D E : Device) (f : D.State → E.State) (same : (s : D.State) → D.seen s ≡ E.seen (f s))
    (starts : (s : D.State) → D.Starts s → E.Starts (f s))
    (moves : (s z : D.State) (call : Call) (n : ℕ) (ev : Event) → D.Moves s call n ev z → E.Moves (f s) call n ev (f z)) where
  pub does_as : {h : History} {s : D.State} → HistoryOf D h s → HistoryOf E h (f s)
  does_as (start {s = s} b) = start (starts s b)
  does_as (step {s = s} {z = z} call n ev m r) = rw (same s, same z) (step call n ev (moves s z call n ev m) (does_as r))
