-- A frame's numbers, put into a frame of its kind again, give that frame. Assumes nothing.
use mathlib.Core.Path.{◌≡◌}
use Prim.Native.Nat.{ℕ}
use native.Mathlib.Nat.{mod-eq_of_lt}
use Rattle.frame_kinds.specs.Kinds.{data_len}
use Rattle.frame_kinds.specs.Sized.{Sized}
use Rattle.frame_kinds.specs.declared.kinds.Frame.{Frame}
use Rattle.frame_kinds.specs.declared.kinds.Frame.TheVariants.{Sync, SafeRead, SafeWrite, PlainRead, PlainWrite, SafeResponse, PlainSyncResponse, PlainResponse, TidAssignment, SidAssignment, SidAssignment4, Acknowledgement, Invariants}
use Rattle.frame_fields.specs.Numbers.{kind_of, numbers_of, frame_of}

pub frame_back : (a : ℕ) (f : Frame) → Sized f → frame_of (kind_of f) (numbers_of a f) (data_len f) ≡ f
frame_back a (Sync src cyc) h = rw (mod-eq_of_lt h.0, mod-eq_of_lt h.1)
frame_back a (SafeRead dest src cyc seq datl add) h = rw (mod-eq_of_lt h.0, mod-eq_of_lt h.1, mod-eq_of_lt h.2, mod-eq_of_lt h.3, mod-eq_of_lt h.4, mod-eq_of_lt h.5)
frame_back a (SafeWrite dest src cyc seq datl add) h = rw (mod-eq_of_lt h.0, mod-eq_of_lt h.1, mod-eq_of_lt h.2, mod-eq_of_lt h.3, mod-eq_of_lt h.5)
frame_back a (PlainRead src datl add) h = rw (mod-eq_of_lt h.0, mod-eq_of_lt h.1, mod-eq_of_lt h.2)
frame_back a (PlainWrite src datl add) h = rw (mod-eq_of_lt h.0, mod-eq_of_lt h.2)
frame_back a (SafeResponse dest src cyc seq «com» datl add stat) h = rw (mod-eq_of_lt h.0, mod-eq_of_lt h.1, mod-eq_of_lt h.2, mod-eq_of_lt h.3, mod-eq_of_lt h.4, mod-eq_of_lt h.6, mod-eq_of_lt h.7)
frame_back a (PlainSyncResponse src datl add stat) h = rw (mod-eq_of_lt h.0, mod-eq_of_lt h.2, mod-eq_of_lt h.3)
frame_back a (PlainResponse src «com» datl add) h = rw (mod-eq_of_lt h.0, mod-eq_of_lt h.1, mod-eq_of_lt h.3)
frame_back a (TidAssignment src iid tid) h = rw (mod-eq_of_lt h.0, mod-eq_of_lt h.2)
frame_back a (SidAssignment src sec mac sid) h = rw (mod-eq_of_lt h.0, mod-eq_of_lt h.1, mod-eq_of_lt h.3)
frame_back a (SidAssignment4 src sec mac sid sid2 src2) h = rw (mod-eq_of_lt h.0, mod-eq_of_lt h.1, mod-eq_of_lt h.3, mod-eq_of_lt h.4, mod-eq_of_lt h.5)
frame_back a (Acknowledgement src dst sec mac) h = rw (mod-eq_of_lt h.0, mod-eq_of_lt h.1, mod-eq_of_lt h.2)
frame_back a (Invariants dest src cyc seq config logic) h = rw (mod-eq_of_lt h.0, mod-eq_of_lt h.1, mod-eq_of_lt h.2, mod-eq_of_lt h.3, mod-eq_of_lt h.4, mod-eq_of_lt h.5)
