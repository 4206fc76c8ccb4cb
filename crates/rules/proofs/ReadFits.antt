-- The fields of a frame that is read from bytes fit their lengths. Assumes nothing.
use mathlib.Core.Path.{◌≡◌}
use mathlib.Core.List.{List}
use Prim.Native.Nat.{ℕ}
use Rattle.base.specs.Bytes.{Bytes}
use Rattle.frame_reading.specs.Reading.{read_app}
use Rattle.frame_kinds.specs.declared.kinds.Frame.{Frame}
use Rattle.std.specs.Prelude.{Ok}
use Rattle.frame_writing.proofs.Fits.{FittingFrame}
use Rattle.frame_writing.proofs.Standing.{stands_fitting}
use Rattle.frame_writing.proofs.ValidStands.{stands}

pub read_fitting : (a : ℕ) (s : List ℕ) (f : Frame) → Bytes s → read_app a s ≡ Ok f → FittingFrame f
read_fitting a s f bs e = stands_fitting a s f bs (stands a s bs f e)
