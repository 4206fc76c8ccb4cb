-- A frame that one flipped bit may have made is a write of at least 118 bytes or none that is served; and no span has more than 64
-- registers. Assumes nothing.
use mathlib.Core.Path.{◌≡◌, sym, ◌∙◌, subst}
use mathlib.Core.Bool.{Bool, true, ◌&&◌, ◌||◌}
use mathlib.Core.List.{List}
use Prim.Native.Nat.{ℕ, ◌+◌, ◌≤◌}
use native.Mathlib.Omega.{arith}
use borrow.Author.Tests.{eqb-true}
use lib.Dec.{eqb, ltb}
use lib.ListN.{length}
use Rattle.base.specs.Bytes.{Bytes}
use Rattle.base.proofs.Choosing.{never, by_test, and_left, and_right}
use Rattle.std.specs.Prelude.{Ok}
use Rattle.wire.specs.Body.{read_body}
use Rattle.wire.proofs.ReadBytes.{data_bytes}
use Rattle.frame_kinds.specs.Kinds.{data_len, data_in}
use Rattle.frame_kinds.specs.declared.kinds.Frame.{Frame}
use Rattle.frame_reading.specs.Reading.{read_app, read_frame}
use Rattle.frame_reading.proofs.Receiving.{read_holds}
use Rattle.frame_writing.specs.Writing.{fits, fields_fit}
use Rattle.frame_writing.proofs.BothWays.{read_then_written}
use Rattle.rules.specs.Answers.{accepted}
use Rattle.rules.specs.Calls.{least_room, frame_call, frame, act}
use Rattle.rules.specs.FrameCall.{on_frame}
use Rattle.rules.specs.Replies.{Deed, Outcome}
use Rattle.rules.specs.Sound.{sound}
use Rattle.rules.specs.Refusals.{row_of, read_of, is_sync, reads_sync, skips_by, skips_read}
use Rattle.rules.specs.State.{running}
use Rattle.rules.specs.Writes.{span_end, span_of, allowed}
use Rattle.rules.specs.declared.Agent.{Agent}
use Rattle.rules.specs.declared.Span.{Span}
use Rattle.rules.specs.declared.Span.TheVariants as span
use Rattle.rules.proofs.Cases.{Accepts, heard, read, wrote, renamed, first, again, later, KindCase, refuses, fell, missed, outside, accepts, FrameCase, unread, read_as, frame_case}
use Rattle.rules.proofs.MarkSteps.{is_frames, only_marks, is_marking}
use Rattle.rules.proofs.Refused.{sent_answer, refused}
use Rattle.rules.proofs.ServedFrames.{reads_frame}
use Rattle.rules.proofs.Spans.{span_start, Placed, inside, span_placed}
use Rattle.rules.proofs.Spans as spans
use Rattle.distance.specs.OnTheWire.{CanPass}
use Rattle.distance.proofs.FrameFlip.{other_frame}
use Rattle.one_flip.specs.OneFlip.{OneFlip}

-- ---- spans
span_size : (s : Span) → span_end s ≤ span_start s + 64
span_size span.Release = omega arith
span_size span.CycleTime = omega arith
span_size span.Limits = omega arith
span_size span.Counters = omega arith
span_size span.Config = omega arith
span_size span.Outputs = omega arith
span_size span.Outside = omega arith

write_size : (add : ℕ) (xs : List ℕ) (a : Agent) (s : Span) → Placed add (length xs) s → allowed s a add xs ≡ true → length xs ≤ 64
write_size add xs a s (inside _ some low high) h = omega (arith, span_size s)
write_size add xs a span.Outside spans.outside h = never h

-- ---- a frame that may have been made so is not accepted
module _ (a : Agent) where
  no_mark : (b : Bool) (s n : ℕ) → is_marking b s n ≡ true → n ≡ accepted → ⊥
  no_mark b s n h e = never (subst (λ (m : ℕ). is_frames m ≡ true) e (and_left (is_frames n) (only_marks (row_of b s n)) h))

  not_served : {g : Frame} {xs : List ℕ} {b : Agent} → CanPass g → length xs ≡ data_len g → Accepts a g xs b → ⊥
  not_served p n (heard h) = p
  not_served p n (read h) = p
  not_served {xs = xs} p n (wrote {add = add} h w) = omega (arith, write_size add xs _ (span_of add (length xs)) (span_placed add (length xs)) w)
  not_served p n (renamed h) = p
  not_served p n (first h k s) = p
  not_served p n (again h) = p
  not_served p n (later h k s m) = p

  not_accepted : {g : Frame} {xs : List ℕ} {d : Deed} → CanPass g → length xs ≡ data_len g → KindCase a g xs d → d.answer ≡ accepted → ⊥
  not_accepted p n (refuses {f = g} m h) e = no_mark (is_sync g && running a) (skips_by a g) m h e
  not_accepted p n (fell h) e = omega arith
  not_accepted p n (missed h) e = omega arith
  not_accepted p n (outside h) e = omega arith
  not_accepted p n (accepts h) e = not_served p n h

  module _ (got : List ℕ) (h : Bytes got) (p : (addr : ℕ) (g : Frame) (app : List ℕ) → read_frame got ≡ Ok (addr, g, app) → CanPass g) where
    passes : (addr : ℕ) (g : Frame) (app : List ℕ) → read_body got ≡ Ok (addr, app) → read_app addr app ≡ Ok g → CanPass g
    unfolding read_frame
    passes addr g app v r = p addr g app (read_holds (read_body got) addr g app v r)

    data_length : (addr : ℕ) (g : Frame) (app : List ℕ) → Bytes app → read_app addr app ≡ Ok g → length (data_in g app) ≡ data_len g
    unfolding fits
    data_length addr g app b r =
        eqb-true (length (data_in g app)) (data_len g)
        (and_right (fields_fit addr g) (eqb (length (data_in g app)) (data_len g)) (read_then_written addr app g b r).1)

    not_acted_on : {d : Deed} → FrameCase a got d → d.answer ≡ accepted → ⊥
    not_acted_on (unread n m) e = no_mark (reads_sync (read_of got) && running a) (skips_read a (read_of got)) n m e
    not_acted_on (read_as {addr = addr} {s = app} g v r c) e =
        let s : read_app addr app ≡ Ok g = reads_frame addr app g r in
        not_accepted (passes addr g app v s) (data_length addr g app (data_bytes got addr app h v) s) c e

    -- nor by a call, whatever its port and its reply buffer
    no_call : (port room : ℕ) → (act a (frame port got room)).answer ≡ accepted → ⊥
    unfolding frame_call
    no_call port room =
        by_test (λ (o : Outcome). o.answer ≡ accepted → ⊥) (sound a)
        (λ s. by_test (λ (o : Outcome). o.answer ≡ accepted → ⊥) (ltb room least_room) (λ r e. omega arith)
        (λ r. by_test (λ (o : Outcome). o.answer ≡ accepted → ⊥) (eqb port 1 || eqb port 2)
        (λ q e. not_acted_on (frame_case port a got) (sym (sent_answer (on_frame port a got)) ∙ e)) (λ q e. omega arith)))
        (λ s e. omega arith)

pub one_flip : OneFlip
one_flip a port room b f app was got hs hg l d e =
    refused a (frame port got room) (no_call a got hg (λ c g ys r. (other_frame b c f g app ys was got hs hg l (omega arith) e r).1) port room)
