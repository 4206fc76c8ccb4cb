-- A body that the frame writer lays down for a frame that this module serves is acted on as that frame with its data: none
-- of 1 to 5 and 7 to 9 comes, and 6 only for another's address. Assumes nothing.
use mathlib.Core.Bool.{true, false, ◌||◌}
use mathlib.Core.List.{List}
use mathlib.Core.Path.{◌≡◌, refl, ap, ◌∙◌}
use Prim.Native.Nat.{ℕ, ◌≤◌}
use borrow.Author.Tests.{eqb-true, le-ltb}
use lib.Dec.{eqb}
use lib.ListN.{length}
use Rattle.base.specs.Bytes.{number_at}
use Rattle.base.specs.Choice.{choose}
use Rattle.base.proofs.Choosing.{never, and_left, and_right}
use Rattle.std.specs.Prelude.{Ok}
use Rattle.wire.specs.Body.{reserved_addr}
use Rattle.laying.specs.Laying.{body_of}
use Rattle.laying.proofs.BodyBothWays.{laid_then_read}
use Rattle.frame_kinds.specs.Kinds.{data_len, app_of}
use Rattle.frame_kinds.specs.Sized.{Sized}
use Rattle.frame_writing.specs.Writing.{fields_fit, fits}
use Rattle.frame_kinds.specs.declared.kinds.Frame.{Frame}
use Rattle.frame_kinds.specs.declared.kinds.Frame.TheVariants.{Sync, SafeRead, SafeWrite, PlainRead, PlainWrite, SafeResponse, PlainSyncResponse, PlainResponse, TidAssignment, SidAssignment, SidAssignment4, Acknowledgement, Invariants}
use Rattle.frame_forms.specs.Forms.{Read}
use Rattle.frame_writing.proofs.BothWays.{written_then_read}
use Rattle.frame_writing.proofs.Fits.{fitting}
use Rattle.frame_writing.proofs.WritingLaws.{app_bounds}
use Rattle.frame_writing.proofs.Standing.{Stands, written_stands}
use Rattle.rules.specs.Answers.{elsewhere, unsound}
use Rattle.rules.specs.Calls.{least_room, frame_call}
use Rattle.rules.specs.FrameCall.{on_kind, serves, served, is_sil4, agent_read, on_read, is_own, on_app, on_body, on_frame}
use Rattle.rules.specs.Replies.{does, outcome, sent}
use Rattle.rules.specs.Sound.{sound}
use Rattle.rules.specs.declared.Agent.{Agent}
use Rattle.rules.proofs.ServedFrames.{first_field}

-- its TYP is served, and it is no SIL4 assignment
module _ {a : ℕ} (s : List ℕ) where
  typ_served : (f : Frame) → Stands a s f → serves f ≡ true → served (number_at s 0 1) ≡ true
  unfolding served
  typ_served (Sync src cyc) st e = rw (first_field s _ _ _ st.head) refl
  typ_served (SafeRead dest src cyc seq datl add) st e = rw (first_field s _ _ _ st.head) refl
  typ_served (SafeWrite dest src cyc seq datl add) st e = rw (first_field s _ _ _ st.head) refl
  typ_served (TidAssignment src iid tid) st e = rw (first_field s _ _ _ st.head) refl
  typ_served (SidAssignment src sec mac sid) st e = rw (first_field s _ _ _ st.head) refl
  typ_served (PlainRead src datl add) st e = never e
  typ_served (PlainWrite src datl add) st e = never e
  typ_served (SafeResponse dest src cyc seq kind datl add stat) st e = never e
  typ_served (PlainSyncResponse src datl add stat) st e = never e
  typ_served (PlainResponse src kind datl add) st e = never e
  typ_served (SidAssignment4 src sec mac sid sid2 src2) st e = never e
  typ_served (Acknowledgement src dst sec mac) st e = never e
  typ_served (Invariants dest src cyc seq config logic) st e = never e

  not_sil4 : (f : Frame) → Stands a s f → serves f ≡ true → is_sil4 s ≡ false
  not_sil4 (Sync src cyc) st e = rw (first_field s _ _ _ st.head) refl
  not_sil4 (SafeRead dest src cyc seq datl add) st e = rw (first_field s _ _ _ st.head) refl
  not_sil4 (SafeWrite dest src cyc seq datl add) st e = rw (first_field s _ _ _ st.head) refl
  not_sil4 (TidAssignment src iid tid) st e = rw (first_field s _ _ _ st.head) refl
  not_sil4 (SidAssignment src sec mac sid) st e = rw (first_field s _ _ _ st.head, st.size) refl
  not_sil4 (PlainRead src datl add) st e = never e
  not_sil4 (PlainWrite src datl add) st e = never e
  not_sil4 (SafeResponse dest src cyc seq kind datl add stat) st e = never e
  not_sil4 (PlainSyncResponse src datl add stat) st e = never e
  not_sil4 (PlainResponse src kind datl add) st e = never e
  not_sil4 (SidAssignment4 src sec mac sid sid2 src2) st e = never e
  not_sil4 (Acknowledgement src dst sec mac) st e = never e
  not_sil4 (Invariants dest src cyc seq config logic) st e = never e

-- the frame and its data for an address: one that the module serves and the writer lays down
pub record Layable (addr : ℕ) (f : Frame) (xs : List ℕ) : Type 0 where
  pub is_served : serves f ≡ true
  pub sized : Sized f
  pub fit : fits addr f (length xs) ≡ true
  pub free : reserved_addr addr ≡ false

module _ (addr : ℕ) (f : Frame) (xs : List ℕ) (l : Layable addr f xs) where
  field_fit : fields_fit addr f ≡ true
  unfolding fits
  field_fit = and_left (fields_fit addr f) (eqb (length xs) (data_len f)) l.fit

  data_fit : length xs ≡ data_len f
  unfolding fits
  data_fit = eqb-true (length xs) (data_len f) (and_right (fields_fit addr f) (eqb (length xs) (data_len f)) l.fit)

  stands : Stands addr (app_of f xs) f
  stands = written_stands addr f xs (fitting addr f l.sized field_fit) field_fit data_fit

  read_back : agent_read addr (app_of f xs) ≡ Ok f
  unfolding agent_read
  read_back =
      rw (typ_served (app_of f xs) f stands l.is_served, not_sil4 (app_of f xs) f stands l.is_served) (written_then_read addr f xs l.sized l.fit).0

  module _ (port : ℕ) (a : Agent) where
    -- 6, or the frame
    body_acts : on_frame port a (body_of addr (app_of f xs)) ≡ choose (is_own a addr) (on_kind port a f xs) (does elsewhere a)
    unfolding on_frame on_body on_app
    body_acts =
        let ys : List ℕ = app_of f xs in
        let r = app_bounds addr f xs l.sized l.fit in
        ap (on_body port a) (laid_then_read addr ys l.free r.0 r.1)
        ∙ ap (λ (x : Read). choose (is_own a addr) (on_read port a x ys) (does elsewhere a)) read_back
        ∙ ap (λ (d : List ℕ). choose (is_own a addr) (on_kind port a f d) (does elsewhere a)) (written_then_read addr f xs l.sized l.fit).1

    pub frame_acts : (room : ℕ) → least_room ≤ room → (eqb port 1 || eqb port 2) ≡ true
        → frame_call a port (body_of addr (app_of f xs)) room
        ≡ choose (sound a) (sent (choose (is_own a addr) (on_kind port a f xs) (does elsewhere a))) (outcome unsound a)
    unfolding frame_call
    frame_acts room h p = rw (le-ltb room least_room h, p, body_acts) refl
