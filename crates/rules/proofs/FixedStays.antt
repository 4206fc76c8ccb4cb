-- What is fixed at power-up stays: no call changes it, whatever the state. With a limit that is neither 16 nor 64 every call
-- answers 19 and leaves the agent as it is. Assumes nothing.
use mathlib.Core.Bool.{Bool, true, false, not, ◌&&◌}
use mathlib.Core.List.{List}
use mathlib.Core.Path.{◌≡◌, refl, sym, ap, ◌∙◌}
use Prim.Native.Nat.{ℕ, ◌+◌, ◌-◌, ◌%◌}
use lib.Dec.{eqb, leb}
use lib.ListN.{length, get_or}
use Rattle.base.specs.Choice.{choose}
use Rattle.base.proofs.Choosing.{never, by_test, choose_false}
use Rattle.frame_kinds.specs.declared.kinds.Frame.{Frame}
use Rattle.rules.specs.Answers.{unsound}
use Rattle.rules.specs.Calls.{tick_call, frame_call, Call, tick, frame, act}
use Rattle.rules.specs.Fallback.{released, withheld, enter_fallback, enter_run}
use Rattle.rules.specs.Grounds.{by_order}
use Rattle.rules.specs.Fixed.{fits}
use Rattle.rules.specs.Inputs.{with_inputs}
use Rattle.rules.specs.PowerUp.{power_up}
use Rattle.rules.specs.Registers.{out_rep}
use Rattle.rules.specs.Refusals.{sequence_fall, window_mark, request_taken, row_of, read_of, is_sync, reads_sync, skips_by, skips_read}
use Rattle.rules.specs.Replies.{Deed, Outcome, outcome}
use Rattle.rules.specs.Requests.{distance}
use Rattle.rules.specs.Sound.{sound}
use Rattle.rules.specs.Sources.{recorded}
use Rattle.rules.specs.State.{unheard, running, reg, t_of, with_cycle, store_all}
use Rattle.rules.specs.Sync.{heard_sync, synced}
use Rattle.rules.specs.Tick.{sync_limit, command_limit, window_limit, counted, limited, cycle_ended, ticked}
use Rattle.rules.specs.Writes.{span_of, written}
use Rattle.rules.specs.declared.Agent.{Agent}
use Rattle.rules.specs.declared.Fixed.{Fixed}
use Rattle.rules.specs.declared.Span.{Span}
use Rattle.rules.specs.declared.Span.TheVariants.{Release, CycleTime, Limits, Counters, Config, Outputs, Outside}
use Rattle.rules.proofs.ButFor.{but_for}
use Rattle.rules.proofs.Cases.{taken_by, Accepts, heard, read, wrote, renamed, first, again, later, KindCase, refuses, fell, missed, outside, accepts, FrameCase, unread, read_as, CallCase, unsoundly, hosts, ticks, frames, call_case, by_sent}
use Rattle.rules.proofs.SoundParts.{of_fixed, parts}

-- what is fixed is the same in both
abbrev Same : Agent → Agent → Type 0
Same a b = b.fixed ≡ a.fixed

either : (a : Agent) (b : Bool) (x y : Agent) → Same a x → Same a y → Same a (choose b x y)
either a true x y p q = p
either a false x y p q = q

-- ---- the parts of a call
synced_same : (src cyc : ℕ) (a : Agent) → Same a (synced src cyc a)
unfolding synced heard_sync enter_run
synced_same src cyc a =
    either a (not (running a) && eqb (reg a out_rep) released) (enter_run (heard_sync src cyc a)) (heard_sync src cyc a) refl refl

written_same : (span : Span) (a : Agent) (add : ℕ) (xs : List ℕ) → Same a (written span a add xs)
unfolding enter_fallback
written_same Release a add xs = either a (eqb (get_or xs 0 0) withheld) (enter_fallback by_order a) (store_all add xs a) refl refl
written_same CycleTime a add xs = refl
written_same Limits a add xs = refl
written_same Counters a add xs = refl
written_same Config a add xs = refl
written_same Outputs a add xs = refl
written_same Outside a add xs = refl

counted_same : (a : Agent) → Same a (counted a)
unfolding counted
counted_same a = refl

limited_same : (a : Agent) → Same a (limited a)
unfolding limited enter_fallback
limited_same a =
    by_test (Same a) (sync_limit a) (λ e. refl)
    (λ e. by_test (Same a) (command_limit a) (λ e. refl) (λ e. by_test (Same a) (window_limit a) (λ e. refl) (λ e. refl)))

ended_same : (a : Agent) → Same a (cycle_ended a)
unfolding cycle_ended
ended_same a = either a (leb (t_of a) a.elapsed) (with_cycle ((a.cycle + 1) % 256) unheard 0 0 a) a refl refl

ticked_same : (xs : List ℕ) (a : Agent) → Same a (ticked (with_inputs xs a))
unfolding ticked with_inputs
ticked_same xs a =
    let b : Agent = with_inputs xs a in
    ended_same (limited (counted b)) ∙ limited_same (counted b) ∙ counted_same b

-- ---- case by case
taken_same : (seq cyc : ℕ) (a : Agent) → Same a (taken_by seq cyc a)
taken_same seq cyc a = (but_for a (request_taken (distance seq cyc - a.taken))).fixed

module _ {a : Agent} where
  accepted_same : {f : Frame} {xs : List ℕ} {b : Agent} → Accepts a f xs b → Same a b
  unfolding recorded
  accepted_same (heard {src = src} {cyc = cyc} h) = synced_same src cyc a
  accepted_same (read {cyc = cyc} {seq = seq} p) = taken_same seq cyc a
  accepted_same (wrote {cyc = cyc} {seq = seq} {add = add} {xs = xs} p e) =
      written_same (span_of add (length xs)) (taken_by seq cyc a) add xs ∙ taken_same seq cyc a
  accepted_same (renamed e) = refl
  accepted_same (first s n i) = refl
  accepted_same (again n) = refl
  accepted_same (later s n i e) = refl

  kind_same : {f : Frame} {xs : List ℕ} {d : Deed} → KindCase a f xs d → Same a d.agent
  kind_same {f = f} (refuses n h) = (but_for a (row_of (is_sync f && running a) (skips_by a f) n)).fixed
  kind_same (fell e) = (but_for a sequence_fall).fixed
  kind_same (missed e) = (but_for a window_mark).fixed
  kind_same (outside {cyc = cyc} {seq = seq} p) = taken_same seq cyc a
  kind_same (accepts c) = accepted_same c

  frame_same : {body : List ℕ} {d : Deed} → FrameCase a body d → Same a d.agent
  frame_same {body = body} (unread n h) = (but_for a (row_of (reads_sync (read_of body) && running a) (skips_read a (read_of body)) n)).fixed
  frame_same (read_as f v e c) = kind_same c

  call_same : {call : Call} {o : Outcome} → CallCase a call o → Same a o.agent
  call_same (unsoundly e) = refl
  call_same (hosts n h) = refl
  call_same (ticks {xs = xs} e) = ticked_same xs a
  call_same (frames {d = d} c) = by_sent (λ o. Same a o.agent) d (frame_same c) (λ f. frame_same c)

-- no call changes what is fixed at power-up
pub fixed_stays : (a : Agent) (call : Call) → (act a call).agent.fixed ≡ a.fixed
fixed_stays a call = call_same (call_case a call)

-- ---- what does not fit
false_of : (b : Bool) → (b ≡ true → ⊥) → b ≡ false
false_of true h = absurd (h refl)
false_of false h = refl

unfit_unsound : (a : Agent) → fits a.fixed ≡ false → sound a ≡ false
unfit_unsound a e = false_of (sound a) (λ s. never (sym e ∙ of_fixed a.fixed (parts a s).fixed))

-- every call answers 19, and the agent stays
pub unfit : (a : Agent) (call : Call) → fits a.fixed ≡ false → act a call ≡ outcome unsound a
unfolding tick_call frame_call
unfit a (tick xs) e = choose_false _ _ (unfit_unsound a e)
unfit a (frame port body room) e = choose_false _ _ (unfit_unsound a e)

start_fixed : (mac iid ver : ℕ) (fixed : Fixed) → (power_up mac iid ver fixed).fixed ≡ fixed
unfolding power_up
start_fixed mac iid ver fixed = refl

-- so it is from power-up on
pub unfit_start : (mac iid ver : ℕ) (fixed : Fixed) → fits fixed ≡ false → (call : Call)
    → act (power_up mac iid ver fixed) call ≡ outcome unsound (power_up mac iid ver fixed)
unfit_start mac iid ver fixed e call = unfit (power_up mac iid ver fixed) call (ap fits (start_fixed mac iid ver fixed) ∙ e)
