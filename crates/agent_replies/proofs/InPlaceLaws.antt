-- A reply is laid down from the registers themselves, in which 19h shows STAT for a while. Assumes nothing.
use Rattle.std.proofs.Common.{◌≡◌, ℕ, false, List, ◌++◌, length, drop, refl, ap}
use Rattle.std.specs.Int.Bits.{bit_and}
use lib.Seq.{set-set}
use Rattle.frame_kinds.specs.declared.kinds.Frame.{Frame}
use Rattle.frame_writing.specs.Writing.{frame_line}
use Rattle.rules.specs.Calls.{AnswersFrame}
use Rattle.rules.specs.Registers.{statut}
use Rattle.rules.specs.Replies.{muted, reply_data, send_frame}
use Rattle.rules.specs.State.{reg, store, with_regs}
use Rattle.rules.specs.declared.Agent.{Agent}

stored_twice : (a : Agent) (i x y : ℕ) → store i y (store i x a) ≡ store i y a
stored_twice a i x y = ap (λ (r : List ℕ). with_regs r a) (set-set a.regs i x y)

pub sent_in_place : (a : Agent) (f : Frame) (x n k : ℕ) (before after : List ℕ) → false ≡ muted a
    → n ≡ length (frame_line 0xF0 f (reply_data a f))
    → after ≡ frame_line 0xF0 f (reply_data a f) ++ drop (length (frame_line 0xF0 f (reply_data a f))) before
    → AnswersFrame (send_frame f k a) k (store statut (bit_and (reg a statut) 0x80) (store statut x a)) n before after
unfolding send_frame
sent_in_place a f x n k before after m p q = rw (← m) (refl, stored_twice a statut x (bit_and (reg a statut) 0x80), p, q)
