-- The spans that replies carry can be laid down. Assumes nothing.
use Rattle.std.proofs.Common.{◌≡◌, ℕ, ◌+◌, ◌<◌, ◌≤◌, true, false, ◌||◌, eqb, ltb, refl, arith, ltb-false, lt-ltb}
use borrow.Author.Tests.{eqb-false}
use Rattle.base.proofs.Choosing.{or_left_false, or_right_false}
use Rattle.frame_forms.specs.Forms.{safe_com}
use Rattle.agent_replies.specs.Fitting.{Spans}

-- ---- spans
-- an error says no data
pub sync_error : (add : ℕ) → add < 256 → Spans 0xAA 0 add
unfolding safe_com
sync_error add h = (refl, omega arith)

pub read_error : (add : ℕ) → add < 256 → Spans 0x55 0 add
unfolding safe_com
read_error add h = (refl, omega arith)

-- a span that can be said
module _ (datl add : ℕ) (h : datl < 256) (e : (eqb datl 0 || eqb datl 255 || ltb 256 (add + datl)) ≡ false) where
  few : ltb datl 255 ≡ true
  few =
      let n = eqb-false datl 255 (or_right_false (eqb datl 0) (eqb datl 255) (or_left_false (eqb datl 0 || eqb datl 255) (ltb 256 (add + datl)) e)) in
      lt-ltb datl 255 (omega (arith, n))

  room : add + datl ≤ 256
  room = ltb-false 256 (add + datl) (or_right_false (eqb datl 0 || eqb datl 255) (ltb 256 (add + datl)) e)

  pub sync_said : Spans 0x07 datl add
  unfolding safe_com
  sync_said = (few, room)

  pub read_said : Spans 0x70 datl add
  unfolding safe_com
  read_said = (few, room)
