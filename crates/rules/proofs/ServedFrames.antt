-- The module reads only frames that it serves: a TYP that is not served is 7 before anything else is read, and a SIL4
-- assignment is told apart by its length. Assumes nothing.
use mathlib.Core.Bool.{Bool, true, false}
use mathlib.Core.Path.{◌≡◌, refl, sym, ap, ◌∙◌}
use mathlib.Core.List.{List, ◌∷◌}
use Prim.Native.Nat.{ℕ}
use native.Mathlib.Omega.{arith}
use lib.ListN.{get_or}
use Rattle.base.specs.Bytes.{Bytes, number_at}
use Rattle.base.specs.Choice.{choose}
use Rattle.base.proofs.Choosing.{never}
use Rattle.fields.specs.Fields.{fields_at, numbers}
use Rattle.frame_reading.specs.Reading.{read_app}
use Rattle.frame_kinds.specs.declared.kinds.Frame.{Frame}
use Rattle.frame_kinds.specs.declared.kinds.Frame.TheVariants.{Sync, SafeRead, SafeWrite, PlainRead, PlainWrite, SafeResponse, PlainSyncResponse, PlainResponse, TidAssignment, SidAssignment, SidAssignment4, Acknowledgement, Invariants}
use Rattle.std.specs.Prelude.{Ok, Err}
use Rattle.frame_forms.specs.Forms.{Read}
use Rattle.frame_forms.specs.declared.FrameFault.TheVariants.{Kind, Form}
use Rattle.frame_writing.proofs.Standing.{Stands}
use Rattle.frame_writing.proofs.ValidStands.{stands}
use Rattle.rules.specs.FrameCall.{serves, served, is_sil4, agent_read}

-- which arms of the choice a frame can have come through
record Through (b c : Bool) (r : Read) (f : Frame) : Type 0 where
  typ_served : b ≡ true
  not_sil4 : c ≡ false
  read : r ≡ Ok f

through : (b c : Bool) (r : Read) (f : Frame) → choose b (choose c (Err Form) r) (Err Kind) ≡ Ok f → Through b c r f
through true false r f e = record { typ_served = refl; not_sil4 = refl; read = e }
through true true r f e = absurd (let z : ◌≡◌ {A = ℕ} 0 1 = cc in omega arith)
through false c r f e = absurd (let z : ◌≡◌ {A = ℕ} 0 1 = cc in omega arith)

-- TYP, as it stands at the head of a frame
pub first_field : (s : List ℕ) (n : ℕ) (fs : List (ℕ × ℕ)) (ws : List ℕ) → fields_at s 0 (1 ∷ ws) ≡ (1, n) ∷ fs → number_at s 0 1 ≡ n
unfolding fields_at
first_field s n fs ws e = ap (λ (l : List (ℕ × ℕ)). get_or (numbers l) 0 0) e

-- a frame that stands in application data whose TYP is served, and that is no SIL4 assignment
module _ (a : ℕ) (s : List ℕ) (p : served (number_at s 0 1) ≡ true) (q : is_sil4 s ≡ false) where
  unserved : {P : Type 0} (n : ℕ) (fs : List (ℕ × ℕ)) (ws : List ℕ) → fields_at s 0 (1 ∷ ws) ≡ (1, n) ∷ fs → served n ≡ false → P
  unserved n fs ws e h = never (sym h ∙ ap served (sym (first_field s n fs ws e)) ∙ p)

  standing_served : (f : Frame) → Stands a s f → serves f ≡ true
  unfolding served
  standing_served (Sync src cyc) st = refl
  standing_served (SafeRead dest src cyc seq datl add) st = refl
  standing_served (SafeWrite dest src cyc seq datl add) st = refl
  standing_served (TidAssignment src iid tid) st = refl
  standing_served (SidAssignment src sec mac sid) st = refl
  standing_served (PlainRead src datl add) st = unserved _ _ _ st.head refl
  standing_served (PlainWrite src datl add) st = unserved _ _ _ st.head refl
  standing_served (SafeResponse dest src cyc seq kind datl add stat) st = unserved _ _ _ st.head refl
  standing_served (PlainSyncResponse src datl add stat) st = unserved _ _ _ st.head refl
  standing_served (PlainResponse src kind datl add) st = unserved _ _ _ st.head refl
  standing_served (SidAssignment4 src sec mac sid sid2 src2) st = never (sym q ∙ rw (first_field s _ _ _ st.head, st.size) refl)
  standing_served (Acknowledgement src dst sec mac) st = unserved _ _ _ st.head refl
  standing_served (Invariants dest src cyc seq config logic) st = unserved _ _ _ st.head refl

-- a frame that the module reads is the one that the reader of frames reads
pub reads_frame : (addr : ℕ) (s : List ℕ) (f : Frame) → agent_read addr s ≡ Ok f → read_app addr s ≡ Ok f
unfolding agent_read
reads_frame addr s f e = (through (served (number_at s 0 1)) (is_sil4 s) (read_app addr s) f e).read

pub reads_served : (addr : ℕ) (s : List ℕ) (f : Frame) → Bytes s → agent_read addr s ≡ Ok f → serves f ≡ true
unfolding agent_read
reads_served addr s f bs e =
    let t = through (served (number_at s 0 1)) (is_sil4 s) (read_app addr s) f e in
    standing_served addr s t.typ_served t.not_sil4 f (stands addr s bs f t.read)
