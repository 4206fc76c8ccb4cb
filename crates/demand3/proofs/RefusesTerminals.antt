-- The statement of the terminals is not empty: made-up histories in which they show something else, which the statement refuses.
-- Assumes nothing.
use mathlib.Core.Bool.{true}
use mathlib.Core.Path.{◌≡◌, sym, ap, ◌∙◌}
use Prim.Native.Nat.{ℕ}
use native.Mathlib.Omega.{arith}
use Rattle.base.proofs.Choosing.{choose_true}
use Rattle.rules.specs.Calls.{Call}
use Rattle.rules.specs.State.{in_run, in_fallback}
use Rattle.demand3.specs.Claim.{now}
use Rattle.demand3.specs.Events.{Event, a_request, a_refused_write, event_of, Request}
use Rattle.demand3.specs.History.{History, power_on, ◌▸◌, Entry, Seen, call_entry}
use Rattle.demand3.specs.Terminals.{covers, byte_for, last_byte_by, last_byte, or_zero, Terminals}
use Rattle.demand3.proofs.Refuses.{shows}

-- an output is on at power-up
pub on_at_power_up : (call : Call) (n : ℕ) (x : Seen) → Terminals (power_on ▸ call_entry call n (shows in_fallback 7) x) → ⊥
on_at_power_up call n x t = omega (arith, t.before _ _ now 0 (omega arith))

module _ (past : History) (call : Call) (n : ℕ) where
  -- in fallback
  pub on_in_fallback : (x : Seen) → Terminals (past ▸ call_entry call n x (shows in_fallback 7)) → ⊥
  on_in_fallback x t = omega (arith, t.after _ _ now 0 (omega arith))

  -- when RUN is entered
  pub on_at_entry : Terminals (past ▸ call_entry call n (shows in_fallback 0) (shows in_run 7)) → ⊥
  on_at_entry t = omega (arith, t.after _ _ now 0 (omega arith))

  -- a write that covers the first output is accepted, and another byte is shown than its own
  pub not_its_byte : (r : Request) → event_of call n ≡ a_request r → covers 0 r.ask ≡ true → (byte_for 0 r.ask ≡ 7 → ⊥)
      → Terminals (past ▸ call_entry call n (shows in_run 0) (shows in_run 7)) → ⊥
  not_its_byte r e c other t =
      other (sym (t.after _ _ now 0 (omega arith)
      ∙ ap (λ (v : Event). or_zero (last_byte_by 0 v (last_byte 0 past))) e
      ∙ ap or_zero (choose_true _ (last_byte 0 past) c)))

-- RUN was entered and nothing written
abbrev entered : Call → Entry
entered sync = call_entry sync 0 (shows in_fallback 0) (shows in_run 0)

-- then a write is refused with 16, and its byte is shown
pub refused_write_shown : (sync call : Call) (n : ℕ) (r : Request) → event_of call n ≡ a_refused_write r
    → Terminals (power_on ▸ entered sync ▸ call_entry call n (shows in_run 0) (shows in_run 7)) → ⊥
refused_write_shown sync call n r e t =
    let is : ◌≡◌ {A = ℕ} 7 0 = t.after _ _ now 0 (omega arith) ∙ ap (λ (v : Event). or_zero (last_byte_by 0 v (last_byte 0 (power_on ▸ entered sync)))) e in
    omega arith
