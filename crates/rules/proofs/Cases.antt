-- What a call does: one case for each effect, with what is known where it happens; a refusal leaves what its row says.
-- Whoever proves something of every call matches on these, and need not take the rules apart. Assumes nothing.
use mathlib.Core.Bool.{Bool, true, false, not, ◌&&◌, ◌||◌}
use mathlib.Core.List.{List}
use mathlib.Core.Path.{◌≡◌, refl, sym, ap, subst}
use Prim.Native.Nat.{ℕ, ◌+◌, ◌≤◌, ◌<◌}
use borrow.Author.Tests.{eqb-true, eqb-false, ltb-false, leb-false, not-false}
use lib.Bits.{bit_and}
use lib.Dec.{eqb, leb, ltb}
use lib.ListN.{length}
use Rattle.base.specs.Choice.{choose}
use Rattle.base.proofs.Choosing.{by_test, and_left, and_right, or_left_false, or_right_false}
use Rattle.std.specs.Prelude.{Ok, Err, Option, Some, None}
use Rattle.wire.specs.Body.{ReadBody, read_body}
use Rattle.wire.specs.declared.LineFault.TheVariants as line
use Rattle.frame_kinds.specs.Kinds.{data_in}
use Rattle.frame_kinds.specs.declared.kinds.Frame.{Frame}
use Rattle.frame_kinds.specs.declared.kinds.Frame.TheVariants.{Sync, SafeRead, SafeWrite, PlainRead, PlainWrite, SafeResponse, PlainSyncResponse, PlainResponse, TidAssignment, SidAssignment, SidAssignment4, Acknowledgement, Invariants}
use Rattle.frame_forms.specs.Forms.{Read}
use Rattle.frame_forms.specs.declared.FrameFault.TheVariants.{Kind, Form, Check}
use Rattle.frame_writing.specs.Writing.{frame_line}
use Rattle.rules.specs.Answers.{accepted, body_length, stuffing, unstuffed_length, fcs, reserved, elsewhere, typ, form, crc, source, addressee, cycle, repeat, out_of_order, too_many, outside_rules, not_allowed, eight_others, unsound, reply_room, host_input, outside_window}
use Rattle.rules.specs.Assignments.{assignable, on_tid, on_first_sid, on_later_sid, on_sid}
use Rattle.rules.specs.Calls.{least_room, tick_call, frame_call, Call, tick, frame, act}
use Rattle.rules.specs.Fixed.{limit_of}
use Rattle.rules.specs.FrameCall.{agent_read, on_kind, on_read, is_own, on_app, on_body, on_frame}
use Rattle.rules.specs.Inputs.{with_inputs}
use Rattle.rules.specs.Registers.{mac_at, iid_at, tid_at, sid_at, statut, ad_ref, sz_ref, image, low_bytes, low_number}
use Rattle.rules.specs.Marks.{sequence_marked}
use Rattle.rules.specs.Refusals.{sequence_fall, window_mark, changed, row_of, address_of, data_of, read_of, is_sync, reads_sync, skips_by, skips_read}
use Rattle.rules.specs.Replies.{Deed, Outcome, outcome, does, sync_reply, read_reply, acknowledges, muted, reply_data, send_reply, sent, send_frame}
use Rattle.rules.specs.Requests.{distance, most_skipped, taken_at, Ask, reads, writes, on_ask, on_distance, on_request}
use Rattle.rules.specs.Sound.{sound}
use Rattle.rules.specs.Sources.{is_recorded, recorded, sid_of}
use Rattle.rules.specs.State.{is_heard, nobody, running, reg, store, store_all}
use Rattle.rules.specs.Sync.{is_repeat, cycle_fits, synced, on_sync}
use Rattle.rules.specs.Tick.{ticked}
use Rattle.rules.specs.Window.{in_window}
use Rattle.rules.specs.Writes.{span_of, allowed, written, on_write}
use Rattle.rules.specs.declared.Agent.{Agent}
use Rattle.rules.proofs.MarkSteps.{is_marking}

-- the host's numbers for a call with a sound agent
abbrev pub is_hosts : ℕ → Bool
is_hosts n = eqb n reply_room || eqb n host_input

-- ---- the cases

-- the agent that a request finds once it is taken
abbrev pub taken_by : ℕ → ℕ → Agent → Agent
taken_by seq cyc a = taken_at (distance seq cyc) a

-- a sync that is accepted
pub record Hears (a : Agent) (src cyc : ℕ) : Type 0 where
  pub known : is_recorded a src ≡ true
  pub somebody : src ≡ nobody → ⊥
  pub fresh : is_repeat a src cyc ≡ false
  pub fits : (running a && not (cycle_fits a cyc)) ≡ false
  pub timely : (running a && not (in_window a cyc)) ≡ false

-- a request from the source and with the cycle of the last accepted sync, to the own SID
pub record Addressed (a : Agent) (dest src cyc : ℕ) : Type 0 where
  pub somebody : src ≡ nobody → ⊥
  pub last : src ≡ a.last
  pub sid : dest ≡ sid_of a
  pub heard : a.heard ≡ is_heard
  pub same : cyc ≡ a.cycle

-- a request that is taken: with the number due or at most three past it, below the limit
pub record Passes (a : Agent) (dest src cyc seq : ℕ) : Type 0 where
  pub addressed : Addressed a dest src cyc
  pub low : a.taken ≤ distance seq cyc
  pub high : distance seq cyc ≤ a.taken + most_skipped
  pub few : distance seq cyc < limit_of a

-- a frame with its data that is answered 0, and the agent it leaves before a reply is sent
pub data Accepts (a : Agent) : Frame → List ℕ → Agent → Type 0 where
  heard : {src cyc : ℕ} {xs : List ℕ} → Hears a src cyc → Accepts a (Sync src cyc) xs (synced src cyc a)
  read : {dest src cyc seq datl add : ℕ} {xs : List ℕ} → Passes a dest src cyc seq → Accepts a (SafeRead dest src cyc seq datl add) xs (taken_by seq cyc a)
  wrote : {dest src cyc seq datl add : ℕ} {xs : List ℕ} → Passes a dest src cyc seq → allowed (span_of add (length xs)) (taken_by seq cyc a) add xs ≡ true
      → Accepts a (SafeWrite dest src cyc seq datl add) xs (written (span_of add (length xs)) (taken_by seq cyc a) add xs)
  renamed : {src iid tid : ℕ} {xs : List ℕ} → assignable tid ≡ true → Accepts a (TidAssignment src iid tid) xs (store tid_at tid a)
  first : {src sec mac sid : ℕ} {xs : List ℕ} → (src ≡ nobody → ⊥) → eqb a.count 0 ≡ true → (sid ≡ nobody → ⊥)
      → Accepts a (SidAssignment src sec mac sid) xs (recorded src (store_all sid_at (low_bytes 3 sid) a))
  again : {src sec mac sid : ℕ} {xs : List ℕ} → eqb a.count 0 ≡ false → Accepts a (SidAssignment src sec mac sid) xs a
  later : {src sec mac sid : ℕ} {xs : List ℕ} → (src ≡ nobody → ⊥) → eqb a.count 0 ≡ false → is_recorded a src ≡ false → a.count < 8
      → Accepts a (SidAssignment src sec mac sid) xs (recorded src a)

-- what a frame with its data does; a refusal leaves the agent of its row
pub data KindCase (a : Agent) : Frame → List ℕ → Deed → Type 0 where
  refuses : {f : Frame} {xs : List ℕ} (n : ℕ) → is_marking (is_sync f && running a) (skips_by a f) n ≡ true
      → KindCase a f xs (does n (changed (row_of (is_sync f && running a) (skips_by a f) n) a))
  fell : {src cyc : ℕ} {xs : List ℕ} → (running a && not (cycle_fits a cyc)) ≡ true → KindCase a (Sync src cyc) xs (does cycle (changed sequence_fall a))
  missed : {src cyc : ℕ} {xs : List ℕ} → (running a && not (in_window a cyc)) ≡ true → KindCase a (Sync src cyc) xs (does outside_window (changed window_mark a))
  outside : {dest src cyc seq datl add : ℕ} {xs : List ℕ} → Passes a dest src cyc seq
      → KindCase a (SafeWrite dest src cyc seq datl add) xs (does outside_rules (taken_by seq cyc a))
  accepts : {f : Frame} {xs : List ℕ} {b : Agent} {r : Option Frame} → Accepts a f xs b → KindCase a f xs (record { answer = accepted; agent = b; reply = r })

-- what a body on a port does
pub data FrameCase (a : Agent) (body : List ℕ) : Deed → Type 0 where
  unread : (n : ℕ) → is_marking (reads_sync (read_of body) && running a) (skips_read a (read_of body)) n ≡ true
      → FrameCase a body (does n (changed (row_of (reads_sync (read_of body) && running a) (skips_read a (read_of body)) n) a))
  read_as : {d : Deed} {addr : ℕ} {s : List ℕ} (f : Frame) → read_body body ≡ Ok (addr, s) → agent_read addr s ≡ Ok f
      → KindCase a f (data_in f s) d → FrameCase a body d

-- what the module reads of a body is what it reads of the body's application data
pub read_of_body : (body : List ℕ) {addr : ℕ} {s : List ℕ} → read_body body ≡ Ok (addr, s) → read_of body ≡ agent_read addr s
read_of_body body v = ap (λ (b : ReadBody). agent_read (address_of b) (data_of b)) v

-- what a call does
pub data CallCase (a : Agent) : Call → Outcome → Type 0 where
  unsoundly : {call : Call} → sound a ≡ false → CallCase a call (outcome unsound a)
  hosts : {call : Call} (n : ℕ) → is_hosts n ≡ true → CallCase a call (outcome n a)
  ticks : {xs : List ℕ} → length xs ≡ image → CallCase a (tick xs) (outcome accepted (ticked (with_inputs xs a)))
  frames : {port room : ℕ} {body : List ℕ} {d : Deed} → FrameCase a body d → CallCase a (frame port body room) (sent d)

-- ---- the rules taken apart
module _ (port : ℕ) (a : Agent) where
  module _ {f : Frame} {xs : List ℕ} where
    -- a test that refuses, and what follows it
    unless : (b : Bool) {x y : Deed} → KindCase a f xs x → (b ≡ false → KindCase a f xs y) → KindCase a f xs (choose b x y)
    unless b c k = by_test (KindCase a f xs) b (λ e. c) k

    -- 12, to a frame that is no sync
    other_cycle : is_sync f ≡ false → KindCase a f xs (does cycle (sequence_marked a))
    other_cycle e =
        let s : (is_sync f && running a) ≡ false = ap (λ (b : Bool). b && running a) e in
        subst (λ (b : Bool). KindCase a f xs (does cycle (changed (row_of b (skips_by a f) cycle) a))) s
        (refuses cycle (subst (λ (b : Bool). is_marking b (skips_by a f) cycle ≡ true) (sym s) refl))

    request_case : is_sync f ≡ false → (dest src cyc seq : ℕ) (ask : Ask) → (Passes a dest src cyc seq → KindCase a f xs (on_ask port (taken_by seq cyc a) src seq ask))
        → KindCase a f xs (on_request port a dest src cyc seq ask)
    unfolding on_request on_distance
    request_case other dest src cyc seq ask serve =
        let d : ℕ = distance seq cyc in
        unless (eqb src nobody || not (eqb src a.last)) (refuses source refl)
        (λ p. unless (not (eqb dest (sid_of a))) (refuses addressee refl)
        (λ q. unless (not (eqb a.heard is_heard && eqb cyc a.cycle)) (other_cycle other)
        (λ r. unless _ (refuses repeat refl)
        (λ up. unless (ltb (a.taken + most_skipped) d) (refuses out_of_order refl)
        (λ down. unless (leb (limit_of a) d) (refuses too_many refl)
        (λ few. let both = not-false (eqb a.heard is_heard && eqb cyc a.cycle) r in
        serve record {
          addressed = record {
            somebody = eqb-false src nobody (or_left_false (eqb src nobody) _ p);
            last = eqb-true src a.last (not-false _ (or_right_false (eqb src nobody) _ p));
            sid = eqb-true dest (sid_of a) (not-false _ q);
            heard = eqb-true a.heard is_heard (and_left _ _ both);
            same = eqb-true cyc a.cycle (and_right (eqb a.heard is_heard) _ both);
          };
          low = ltb-false _ _ up;
          high = ltb-false (a.taken + most_skipped) d down;
          few = leb-false (limit_of a) d few;
        }))))))

  sync_case : (src cyc : ℕ) (xs : List ℕ) → KindCase a (Sync src cyc) xs (on_sync port a src cyc)
  unfolding on_sync sync_reply
  sync_case src cyc xs =
      let b : Agent = synced src cyc a in
      unless (eqb src nobody || not (is_recorded a src)) (refuses source refl)
      (λ p. unless (is_repeat a src cyc) (refuses repeat refl)
      (λ q. by_test (KindCase a (Sync src cyc) xs) (running a && not (cycle_fits a cyc)) (λ e. fell e)
      (λ r. by_test (KindCase a (Sync src cyc) xs) (running a && not (in_window a cyc)) (λ e. missed e)
      (λ w. let h : Hears a src cyc = record {
        known = not-false _ (or_right_false (eqb src nobody) _ p);
        somebody = eqb-false src nobody (or_left_false (eqb src nobody) _ p);
        fresh = q;
        fits = r;
        timely = w;
      } in
      by_test (KindCase a (Sync src cyc) xs) (eqb (reg b sz_ref) 0 || eqb (reg b sz_ref) 255 || ltb 256 (reg b ad_ref + reg b sz_ref)) (λ e. accepts (heard h)) (λ e. accepts (heard h))))))

  read_case : (dest src cyc seq datl add : ℕ) (xs : List ℕ) → Passes a dest src cyc seq
      → KindCase a (SafeRead dest src cyc seq datl add) xs (read_reply port (taken_by seq cyc a) src seq datl add)
  unfolding read_reply
  read_case dest src cyc seq datl add xs p =
      unless (eqb datl 0 || eqb datl 255 || ltb 256 (add + datl)) (accepts (read p)) (λ e. accepts (read p))

  write_case : (dest src cyc seq datl add : ℕ) (xs : List ℕ) → Passes a dest src cyc seq
      → KindCase a (SafeWrite dest src cyc seq datl add) xs (on_write (taken_by seq cyc a) add xs)
  unfolding on_write
  write_case dest src cyc seq datl add xs p =
      by_test (KindCase a (SafeWrite dest src cyc seq datl add) xs) (allowed (span_of add (length xs)) (taken_by seq cyc a) add xs) (λ e. accepts (wrote p e)) (λ e. outside p)

  tid_case : (src iid tid : ℕ) (xs : List ℕ) → KindCase a (TidAssignment src iid tid) xs (on_tid a iid tid)
  unfolding on_tid
  tid_case src iid tid xs =
      unless (not (eqb iid (low_number a.regs iid_at 8))) (refuses addressee refl)
      (λ p. by_test (KindCase a (TidAssignment src iid tid) xs) (assignable tid) (λ e. accepts (renamed e)) (λ e. refuses not_allowed refl))

  sid_case : (src sec mac sid : ℕ) (xs : List ℕ) → KindCase a (SidAssignment src sec mac sid) xs (on_sid a src sec mac sid)
  unfolding on_sid on_first_sid on_later_sid acknowledges
  sid_case src sec mac sid xs =
      unless (eqb src nobody) (refuses source refl)
      (λ p. unless (not (eqb mac (low_number a.regs mac_at 8))) (refuses addressee refl)
      (λ q. by_test (KindCase a (SidAssignment src sec mac sid) xs) (eqb a.count 0)
      (λ none. unless (eqb sid nobody) (refuses not_allowed refl) (λ s. accepts (first (eqb-false src nobody p) none (eqb-false sid nobody s))))
      (λ some. unless (not (eqb sid (sid_of a))) (refuses not_allowed refl)
      (λ s. unless (is_recorded a src) (accepts (again some))
      (λ new. unless (leb 8 a.count) (refuses eight_others refl)
      (λ few. accepts (later (eqb-false src nobody p) some new (leb-false 8 a.count few))))))))

  pub kind_case : (f : Frame) (xs : List ℕ) → KindCase a f xs (on_kind port a f xs)
  kind_case (Sync src cyc) xs = sync_case src cyc xs
  kind_case (SafeRead dest src cyc seq datl add) xs = request_case refl dest src cyc seq (reads datl add) (read_case dest src cyc seq datl add xs)
  kind_case (SafeWrite dest src cyc seq datl add) xs = request_case refl dest src cyc seq (writes add xs) (write_case dest src cyc seq datl add xs)
  kind_case (TidAssignment src iid tid) xs = tid_case src iid tid xs
  kind_case (SidAssignment src sec mac sid) xs = sid_case src sec mac sid xs
  kind_case (PlainRead src datl add) xs = refuses typ refl
  kind_case (PlainWrite src datl add) xs = refuses typ refl
  kind_case (SafeResponse dest src cyc seq kind datl add stat) xs = refuses typ refl
  kind_case (PlainSyncResponse src datl add stat) xs = refuses typ refl
  kind_case (PlainResponse src kind datl add) xs = refuses typ refl
  kind_case (SidAssignment4 src sec mac sid sid2 src2) xs = refuses form refl
  kind_case (Acknowledgement src dst sec mac) xs = refuses typ refl
  kind_case (Invariants dest src cyc seq config logic) xs = refuses typ refl

  module _ (body : List ℕ) where
    read_as_lem : (addr : ℕ) (s : List ℕ) → read_body body ≡ Ok (addr, s) → (r : Read) → agent_read addr s ≡ r → FrameCase a body (on_read port a r s)
    read_as_lem addr s v (Ok f) e = read_as f v e (kind_case f (data_in f s))
    read_as_lem addr s v (Err Kind) e = unread typ refl
    read_as_lem addr s v (Err Form) e = unread form refl
    read_as_lem addr s v (Err Check) e = unread crc refl

    body_case : (b : ReadBody) → read_body body ≡ b → FrameCase a body (on_body port a b)
    unfolding on_app on_body
    body_case (Ok (addr, s)) e =
        by_test (FrameCase a body) (is_own a addr) (λ own. read_as_lem addr s e (agent_read addr s) refl) (λ other. unread elsewhere refl)
    body_case (Err line.Length) e = unread body_length refl
    body_case (Err line.Stuffing) e = unread stuffing refl
    body_case (Err line.Size) e = unread unstuffed_length refl
    body_case (Err line.Check) e = unread fcs refl
    body_case (Err line.Reserved) e = unread reserved refl

    pub frame_case : FrameCase a body (on_frame port a body)
    unfolding on_frame
    frame_case = body_case (read_body body) refl

pub call_case : (a : Agent) (call : Call) → CallCase a call (act a call)
unfolding tick_call frame_call
call_case a (tick xs) =
    by_test (CallCase a (tick xs)) (sound a)
    (λ e. by_test (CallCase a (tick xs)) (eqb (length xs) image) (λ h. ticks (eqb-true (length xs) image h)) (λ h. hosts host_input refl))
    unsoundly
call_case a (frame port body room) =
    by_test (CallCase a (frame port body room)) (sound a)
    (λ e. by_test (CallCase a (frame port body room)) (ltb room least_room) (λ h. hosts reply_room refl)
    (λ h. by_test (CallCase a (frame port body room)) (eqb port 1 || eqb port 2) (λ p. frames (frame_case port a body)) (λ p. hosts host_input refl)))
    unsoundly

-- ---- a deed with its reply sent
abbrev pub cleared : Agent → Agent
cleared a = store statut (bit_and (reg a statut) 0x80) a

-- as it is, or with STATUT cleared but for bit 7 and the frame on the line
pub by_sent {κ} : (P : Outcome → Type κ) (d : Deed) → P (outcome d.answer d.agent)
    → ((f : Frame) → P record { answer = d.answer; agent = cleared d.agent; line = frame_line 0xF0 f (reply_data d.agent f) }) → P (sent d)
unfolding sent send_frame
by_sent P d p q = go d.reply
  where
    go : (r : Option Frame) → P (send_reply r d.answer d.agent)
    go None = p
    go (Some f) = by_test P (muted d.agent) (λ e. p) (λ e. q f)

-- with no reply, as it is
pub sent_silent : (d : Deed) → d.reply ≡ None → sent d ≡ outcome d.answer d.agent
unfolding sent
sent_silent d e = ap (λ (r : Option Frame). send_reply r d.answer d.agent) e
