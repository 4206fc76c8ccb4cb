-- Demand 1, over every call and every agent: a refusal sends nothing, leaves the reply buffer untouched, and changes exactly
-- what its number's row says. Assumes nothing.
use mathlib.Core.Bool.{Bool, true, not, ◌&&◌}
use mathlib.Core.List.{List, []}
use mathlib.Core.Path.{◌≡◌, refl, sym, ap, ◌∙◌, subst}
use Prim.Native.Nat.{ℕ, ◌+◌, ◌-◌, ◌≤◌}
use native.Mathlib.Omega.{arith}
use borrow.Author.Tests.{eqb-true, leb-true, le-leb}
use lib.Dec.{eqb, leb}
use Rattle.std.specs.Prelude.{None}
use Rattle.base.proofs.Choosing.{never, and_left, and_right, and_true, or_cases}
use Rattle.frame_kinds.specs.declared.kinds.Frame.{Frame}
use Rattle.frame_forms.specs.Forms.{Read}
use Rattle.rules.specs.Answers.{accepted, body_length, reserved, elsewhere, form, crc, source, addressee, cycle, too_many, not_allowed, eight_others, unsound, reply_room, host_input, outside_window}
use Rattle.rules.specs.Calls.{Call, frame, act}
use Rattle.rules.specs.Refusals.{Change, nothing, is_refusal, row_of, changed, leaves_all, leaves_too, read_of, is_sync, reads_sync, sync_in_run, skips_by, skips_read, skips, Refused}
use Rattle.rules.specs.Replies.{Deed, Outcome, outcome, sent}
use Rattle.rules.specs.Marks.{skip_marked}
use Rattle.rules.specs.Requests.{distance}
use Rattle.rules.specs.State.{running, with_taken}
use Rattle.rules.specs.Sync.{cycle_fits}
use Rattle.rules.specs.declared.Agent.{Agent}
use Rattle.rules.proofs.ButFor.{but_for}
use Rattle.rules.proofs.Cases.{is_hosts, KindCase, refuses, fell, missed, outside, accepts, FrameCase, unread, read_as, CallCase, read_of_body, unsoundly, hosts, ticks, frames, call_case, by_sent, sent_silent}
use Rattle.rules.proofs.Makes.{makes}
use Rattle.rules.proofs.MarkSteps.{only_marks, is_frames, is_marking}

pub sent_answer : (d : Deed) → (sent d).answer ≡ d.answer
sent_answer d = by_sent (λ o. o.answer ≡ d.answer) d refl (λ f. refl)

-- a deed that is refused: its number, no reply, and the agent of its row
record RefusedDeed (a : Agent) (sync : Bool) (skips : ℕ) (d : Deed) : Type 0 where
  number : is_refusal d.answer ≡ true
  silent : d.reply ≡ None
  state : d.agent ≡ changed (row_of (sync && running a) skips d.answer) a

marking_number : (b : Bool) (s n : ℕ) → is_marking b s n ≡ true → is_refusal n ≡ true
marking_number b s n h =
    let e : is_frames n ≡ true = and_left (is_frames n) (only_marks (row_of b s n)) h in
    let high : n ≤ outside_window = omega (arith, leb-true n eight_others (and_right (leb body_length n) (leb n eight_others) e)) in
    and_true (leb body_length n) (leb n outside_window) (and_left (leb body_length n) (leb n eight_others) e) (le-leb n outside_window high)

hosts_number : (n : ℕ) → is_hosts n ≡ true → is_refusal n ≡ true
hosts_number n h = or_cases (eqb n reply_room) (eqb n host_input) h (λ e. rw (eqb-true n reply_room e) refl) (λ e. rw (eqb-true n host_input e) refl)

module _ {a : Agent} where
  kind_refused : {f : Frame} {xs : List ℕ} {d : Deed} → KindCase a f xs d → (d.answer ≡ accepted → ⊥) → RefusedDeed a (is_sync f) (skips_by a f) d
  kind_refused {f = f} (refuses n h) z =
      record { number = marking_number (is_sync f && running a) (skips_by a f) n h; silent = refl; state = refl }
  kind_refused (fell {cyc = cyc} e) z =
      let run : running a ≡ true = and_left (running a) (not (cycle_fits a cyc)) e in
      record { number = refl; silent = refl; state = sym (ap (λ (b : Bool). changed (row_of b 0 cycle) a) run) }
  kind_refused (missed e) z = record { number = refl; silent = refl; state = refl }
  kind_refused (outside {cyc = cyc} {seq = seq} p) z =
      let n : ℕ = distance seq cyc - a.taken in
      let k : distance seq cyc ≡ a.taken + n = omega (arith, p.low) in
      record { number = refl; silent = refl; state = ap (λ (k : ℕ). with_taken (k + 1) (skip_marked n a)) k }
  kind_refused (accepts c) z = absurd (z refl)

  frame_refused : {body : List ℕ} {d : Deed} → FrameCase a body d → (d.answer ≡ accepted → ⊥) → RefusedDeed a (reads_sync (read_of body)) (skips_read a (read_of body)) d
  frame_refused {body = body} (unread n h) z = record {
    number = marking_number (reads_sync (read_of body) && running a) (skips_read a (read_of body)) n h;
    silent = refl;
    state = refl;
  }
  frame_refused {body = body} (read_as {d = d} f v e c) z =
      subst (λ (r : Read). RefusedDeed a (reads_sync r) (skips_read a r) d) (sym (read_of_body body v ∙ e)) (kind_refused c z)

  -- the statement, from its number, what is sent and the agent
  refusal : (call : Call) (n : ℕ) (b : Agent) → is_refusal n ≡ true → b ≡ changed (row_of (sync_in_run a call) (skips a call) n) a → Refused a call (outcome n b)
  refusal call n b h e = record {
    number = h;
    silent = refl;
    buffer = λ bytes. refl;
    state = e;
    others = rw e (but_for a (row_of (sync_in_run a call) (skips a call) n));
    named = λ l. rw e (makes a l (row_of (sync_in_run a call) (skips a call) n));
  }

  hosts_row : (b : Bool) (s n : ℕ) → is_hosts n ≡ true → a ≡ changed (row_of b s n) a
  hosts_row b s n h = or_cases (eqb n reply_room) (eqb n host_input) h (λ e. rw (eqb-true n reply_room e) refl) (λ e. rw (eqb-true n host_input e) refl)

  call_refused : {call : Call} {o : Outcome} → CallCase a call o → (o.answer ≡ accepted → ⊥) → Refused a call o
  call_refused {call = call} (unsoundly e) z = refusal call _ a refl refl
  call_refused {call = call} (hosts n h) z = refusal call n a (hosts_number n h) (hosts_row (sync_in_run a call) (skips a call) n h)
  call_refused (ticks e) z = absurd (z refl)
  call_refused (frames {port = port} {room = room} {body = body} {d = d} c) z =
      let w = frame_refused c (λ e. z (sent_answer d ∙ e)) in
      subst (Refused a (frame port body room)) (sym (sent_silent d w.silent)) (refusal (frame port body room) d.answer d.agent w.number w.state)

pub refused : (a : Agent) (call : Call) → ((act a call).answer ≡ accepted → ⊥) → Refused a call (act a call)
refused a call = call_refused (call_case a call)

-- the number is one of those, so its row is empty
kept_row : (b : Bool) (s n : ℕ) → leaves_all n ≡ true → row_of b s n ≡ nothing
kept_row b s n h =
    or_cases (eqb n elsewhere) _ h (λ e. rw (eqb-true n elsewhere e) refl)
    (λ h1. or_cases (eqb n crc) _ h1 (λ e. rw (eqb-true n crc e) refl)
    (λ h2. or_cases (eqb n source) _ h2 (λ e. rw (eqb-true n source e) refl)
    (λ h3. or_cases (eqb n addressee) _ h3 (λ e. rw (eqb-true n addressee e) refl) (λ e. rw (eqb-true n _ e) refl))))

-- and so for the others
kept_row_too : (b : Bool) (s n : ℕ) → leaves_too n ≡ true → row_of b s n ≡ nothing
kept_row_too b s n h =
    or_cases (eqb n reserved) _ h (λ e. rw (eqb-true n reserved e) refl)
    (λ h1. or_cases (eqb n form) _ h1 (λ e. rw (eqb-true n form e) refl)
    (λ h2. or_cases (eqb n too_many) _ h2 (λ e. rw (eqb-true n too_many e) refl)
    (λ h3. or_cases (eqb n not_allowed) _ h3 (λ e. rw (eqb-true n not_allowed e) refl)
    (λ h4. or_cases (eqb n eight_others) _ h4 (λ e. rw (eqb-true n eight_others e) refl)
    (λ h5. or_cases (eqb n unsound) _ h5 (λ e. rw (eqb-true n unsound e) refl)
    (λ h6. or_cases (eqb n reply_room) (eqb n host_input) h6 (λ e. rw (eqb-true n reply_room e) refl) (λ e. rw (eqb-true n host_input e) refl)))))))

-- a refusal with an empty row leaves the agent as it is, and sends nothing
emptied : (a : Agent) (call : Call) → ((act a call).answer ≡ accepted → ⊥) → row_of (sync_in_run a call) (skips a call) (act a call).answer ≡ nothing
    → ((act a call).agent ≡ a) × ((act a call).line ≡ [])
emptied a call z e = let r = refused a call z in (r.state ∙ ap (λ (c : Change). changed c a) e, r.silent)

-- 6, 9, 10, 11 and 13 leave no trace
pub untouched : (a : Agent) (call : Call) → leaves_all (act a call).answer ≡ true → ((act a call).agent ≡ a) × ((act a call).line ≡ [])
untouched a call h =
    emptied a call (λ z. never (subst (λ (n : ℕ). leaves_all n ≡ true) z h)) (kept_row (sync_in_run a call) (skips a call) (act a call).answer h)

-- and so do 5, 8, 15 and 17 to 21
pub untouched_too : (a : Agent) (call : Call) → leaves_too (act a call).answer ≡ true → ((act a call).agent ≡ a) × ((act a call).line ≡ [])
untouched_too a call h =
    emptied a call (λ z. never (subst (λ (n : ℕ). leaves_too n ≡ true) z h)) (kept_row_too (sync_in_run a call) (skips a call) (act a call).answer h)
