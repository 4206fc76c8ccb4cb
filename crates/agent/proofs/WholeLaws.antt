-- A frame that this module reads is whole: its source has 24 bits, and the data of a write are all there, from 12 on.
-- Assumes nothing.
use mathlib.Core.Path.{◌≡◌, refl, sym, ap, ◌∙◌}
use mathlib.Core.List.{List}
use Prim.Native.Nat.{ℕ}
use native.Mathlib.Omega.{arith}
use lib.ListN.{take, drop}
use Rattle.base.specs.Bytes.{Bytes, number_at}
use Rattle.base.proofs.Choosing.{by_test}
use Rattle.fields.proofs.Tables.{length_laid}
use Rattle.frame_kinds.specs.Kinds.{head_of, data_place, data_in}
use Rattle.frame_reading.specs.Reading.{read_app}
use Rattle.frame_kinds.specs.declared.kinds.Frame.{Frame}
use Rattle.frame_kinds.specs.declared.kinds.Frame.TheVariants.{Sync, SafeRead, SafeWrite, PlainRead, PlainWrite, SafeResponse, PlainSyncResponse, PlainResponse, TidAssignment, SidAssignment, SidAssignment4, Acknowledgement, Invariants}
use Rattle.frame_forms.specs.Forms.{Read}
use Rattle.std.specs.Prelude.{Ok, Err}
use Rattle.frame_writing.proofs.Fits.{FittingFrame}
use Rattle.frame_writing.proofs.Standing.{Stands, stands_fitting}
use Rattle.frame_writing.proofs.ValidStands.{stands}
use Rattle.rules.specs.FrameCall.{on_kind, served, is_sil4, agent_read}
use Rattle.rules.specs.Replies.{Deed}
use Rattle.rules.specs.Requests.{writes, on_request}
use Rattle.rules.specs.declared.Agent.{Agent}
use Rattle.agent.specs.Whole.{Whole, WholeRead}

module _ (addr : ℕ) (s : List ℕ) where
  by_kind : (f : Frame) → Stands addr s f → FittingFrame f → Whole f s
  by_kind (Sync src cyc) st h = omega arith
  by_kind (SafeRead dest src cyc seq datl add) st h = omega arith
  by_kind (SafeWrite dest src cyc seq datl add) st h = omega (arith, st.size)
  by_kind (SidAssignment src sec mac sid) st h = omega arith
  by_kind (PlainRead src datl add) st h = tt
  by_kind (PlainWrite src datl add) st h = tt
  by_kind (SafeResponse dest src cyc seq «com» datl add stat) st h = tt
  by_kind (PlainSyncResponse src datl add stat) st h = tt
  by_kind (PlainResponse src «com» datl add) st h = tt
  by_kind (TidAssignment src iid tid) st h = tt
  by_kind (SidAssignment4 src sec mac sid sid2 src2) st h = tt
  by_kind (Acknowledgement src dst sec mac) st h = tt
  by_kind (Invariants dest src cyc seq config logic) st h = tt

  module _ (bs : Bytes s) where
    by_read : (r : Read) → read_app addr s ≡ r → WholeRead r s
    by_read (Ok f) e = let st = stands addr s bs f e in by_kind f st (stands_fitting addr s f bs st)
    by_read (Err x) e = tt

    pub read_whole : WholeRead (agent_read addr s) s
    unfolding agent_read
    read_whole =
        by_test (λ r. WholeRead r s) (served (number_at s 0 1))
        (λ p. by_test (λ r. WholeRead r s) (is_sil4 s) (λ q. tt) (λ q. by_read (read_app addr s) refl))
        (λ p. tt)

-- the data of a write
pub write_data : (dest src cyc seq datl add : ℕ) (s : List ℕ) → data_in (SafeWrite dest src cyc seq datl add) s ≡ take datl (drop 12 s)
unfolding data_place
write_data dest src cyc seq datl add s =
    ap (λ (n : ℕ). take datl (drop n s)) (length_laid (head_of (SafeWrite dest src cyc seq datl add)))

module _ (port : ℕ) (a : Agent) (s : List ℕ) where
  -- as the reader hands them out
  pub write_asked : (dest src cyc seq datl add : ℕ) (xs : List ℕ) (r : Deed) → xs ≡ take datl (drop 12 s) → r ≡ on_request port a dest src cyc seq (writes add xs)
      → r ≡ on_kind port a (SafeWrite dest src cyc seq datl add) (data_in (SafeWrite dest src cyc seq datl add) s)
  write_asked dest src cyc seq datl add xs r d e =
      e ∙ ap (λ (ys : List ℕ). on_request port a dest src cyc seq (writes add ys)) (d ∙ sym (write_data dest src cyc seq datl add s))
