-- A reply carries at most 254 data bytes, and its application data are at most 269. Assumes nothing.
use mathlib.Core.Bool.{false, ◌||◌}
use mathlib.Core.Path.{◌≡◌, ap}
use Prim.Native.Nat.{ℕ, ◌+◌, ◌≤◌, ◌<◌}
use native.Mathlib.Omega.{arith}
use borrow.Author.Tests.{eqb-false}
use lib.Dec.{eqb, ltb}
use lib.ListN.{length, length-append, length-take}
use Rattle.base.proofs.Choosing.{by_test, or_left_false, or_right_false}
use Rattle.base.proofs.Numbers.{length_bytes_of}
use Rattle.fields.proofs.Tables.{length_laid}
use Rattle.frame_kinds.specs.Kinds.{app_of}
use Rattle.frame_kinds.specs.declared.kinds.Frame.{Frame}
use Rattle.frame_kinds.proofs.Parts.{app_parts}
use Rattle.rules.specs.Registers.{ad_ref, sz_ref}
use Rattle.rules.specs.Replies.{Deed, does, replies, response, sync_reply, read_reply, reply_data}
use Rattle.rules.specs.State.{reg}
use Rattle.rules.specs.declared.Agent.{Agent}

-- ---- what is short

-- no reply, or one with at most 269 bytes of application data: 254 data bytes and the 15 others of a safe response
pub data Short : Deed → Type 0 where
  silent : {n : ℕ} {a : Agent} → Short (does n a)
  says : (a : Agent) (f : Frame) → length (app_of f (reply_data a f)) ≤ 269 → Short (replies a f)

-- ---- the replies

-- DATL of a response, where it is no error: it is a byte, and neither 0 nor 255
datl_most : (n add : ℕ) → n < 256 → (eqb n 0 || eqb n 255 || ltb 256 (add + n)) ≡ false → n ≤ 254
datl_most n add h e = omega (arith, eqb-false n 255 (or_right_false (eqb n 0) _ (or_left_false (eqb n 0 || eqb n 255) _ e)))

module _ (port : ℕ) (a : Agent) where
  pub response_short : {src seq kind n add : ℕ} → n ≤ 254 → Short (replies a (response port a src seq kind n add))
  response_short {src} {seq} {kind} {n} {add} h =
      let f : Frame = response port a src seq kind n add in
      says a f (omega (arith, simp (length-append, length_laid, length_bytes_of, length-take) at (ap length (app_parts f (reply_data a f)))))

  pub sync_short : (src cyc : ℕ) → reg a sz_ref < 256 → Short (sync_reply port a src cyc)
  unfolding sync_reply
  sync_short src cyc h = by_test Short _ (λ e. response_short (omega arith)) (λ e. response_short (datl_most (reg a sz_ref) (reg a ad_ref) h e))

  pub read_short : (src seq datl add : ℕ) → datl < 256 → Short (read_reply port a src seq datl add)
  unfolding read_reply
  read_short src seq datl add h = by_test Short _ (λ e. response_short (omega arith)) (λ e. response_short (datl_most datl add h e))
