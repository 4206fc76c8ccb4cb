-- What the sharper statements say of numbers, with made-up histories that they refuse: a number four past the one due, and one
-- that was skipped and comes later. Assumes nothing.
use mathlib.Core.List.{[], ◌∷◌}
use mathlib.Core.Option.{some, some-injective}
use mathlib.Core.Path.{◌≡◌, refl}
use Prim.Native.Nat.{ℕ, ◌+◌, ◌%◌, ◌≤◌}
use native.Mathlib.Omega.{arith}
use Rattle.rules.specs.Calls.{Call}
use Rattle.rules.specs.State.{in_run}
use Rattle.demand3.specs.Claim.{now}
use Rattle.demand3.specs.Events.{Request, a_sync, a_request, event_of}
use Rattle.demand3.specs.History.{History, power_on, ◌▸◌, call_entry}
use Rattle.demand3.specs.Sharper.{Sharper, accepts, Brings, here, there}
use Rattle.demand3.specs.Words.{FreshNumber, number_due, skipped, Differs}
use Rattle.demand3.proofs.Refuses.{shows}

-- a number further off than three from the one due
not_fresh : (due seq : ℕ) → FreshNumber (some due) seq → ((past : ℕ) → past ≤ 3 → seq ≡ (due + past) % 256 → ⊥) → ⊥
not_fresh due seq f far = far f.past f.few (rw (some-injective due f.due f.is_due) f.number)

module _ (sync : Call) (synced : event_of sync 0 ≡ a_sync 7 0x10) where
  -- after a sync with cycle 10h, so that F0h is due
  abbrev pub past : History
  past = power_on ▸ call_entry sync 0 (shows in_run 0) (shows in_run 0)

  due_first : number_due past ≡ some 0xF0
  due_first = rw synced refl

  -- four past it
  pub four_past : (call : Call) (r : Request) → event_of call 0 ≡ a_request r → r.seq ≡ 0xF4
      → Sharper (past ▸ call_entry call 0 (shows in_run 0) (shows in_run 0)) → ⊥
  four_past call r e is h =
      let f : FreshNumber (some 0xF0) r.seq = rw due_first at (h.fresh _ _ now r (accepts e)).fresh in
      not_fresh 0xF0 r.seq f (λ p few number. omega arith)

  -- F2h is taken, so F0h and F1h are skipped
  module _ (call : Call) (r : Request) (e : event_of call 0 ≡ a_request r) (is : r.seq ≡ 0xF2) where
    abbrev pub later : History
    later = past ▸ call_entry call 0 (shows in_run 0) (shows in_run 0)

    pub are_skipped : skipped later ≡ 0xF0 ∷ 0xF1 ∷ []
    are_skipped = rw (e, synced, is) refl

    -- F0h is taken after it, though no number is taken twice
    pub skipped_taken : (again : Call) (q : Request) → event_of again 0 ≡ a_request q → q.seq ≡ 0xF0
        → Sharper (later ▸ call_entry again 0 (shows in_run 0) (shows in_run 0)) → ⊥
    skipped_taken again q f is-first h =
        let d : Differs q.seq (0xF0 ∷ 0xF1 ∷ []) = rw are_skipped at (h.unskipped _ _ now q (accepts f)) in
        d.0 is-first

    -- a call that brings F1h changes an output, whatever it is answered
    pub skipped_changes : (again : Call) (answer src : ℕ) → Brings again src 0xF1
        → Sharper (later ▸ call_entry again answer (shows in_run 0) (shows in_run 7)) → ⊥
    skipped_changes again answer src b h =
        omega (arith, (h.late _ _ now src 0xF1 b (rw are_skipped (there here))).outputs 0 (omega arith))
