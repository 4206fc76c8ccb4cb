-- A reply that fits is sent whole: its data bytes are those of the registers that the code lends, it takes at most 545
-- bytes, and the writer does not refuse it. Assumes nothing.
use Rattle.std.proofs.Common.{◌≡◌, ℕ, ◌+◌, ◌-◌, ◌≤◌, true, ◌&&◌, eqb, List, ◌++◌, length, take, drop, set, sym, refl, ap, ◌∙◌, ap₂, arith, length-drop, length-set, length-take-le, lt-ltb, eq-eqb}
use Rattle.std.specs.Prelude.{Ok}
use Rattle.std.specs.Result.{result_unwrap_or}
use Rattle.base.proofs.Choosing.{and_true}
use Rattle.wire.specs.Body.{reserved_addr, fcs_of}
use Rattle.laying.specs.Laying.{Laid, left_by}
use Rattle.laying.proofs.LayingLaws.{line_most}
use Rattle.frame_kinds.specs.Kinds.{data_len, app_of}
use Rattle.frame_forms.specs.Forms.{safe_com}
use Rattle.frame_kinds.specs.Sized.{Sized}
use Rattle.frame_writing.specs.Writing.{is24, fields_fit, fits, frame_line, written_of}
use Rattle.frame_kinds.specs.declared.kinds.Frame.{Frame}
use Rattle.frame_kinds.specs.declared.kinds.Frame.TheVariants.{Sync, SafeRead, SafeWrite, PlainRead, PlainWrite, SafeResponse, PlainSyncResponse, PlainResponse, TidAssignment, SidAssignment, SidAssignment4, Acknowledgement, Invariants}
use Rattle.frame_writing.proofs.Sending.{sent}
use Rattle.frame_writing.proofs.WritingLaws.{app_bounds}
use Rattle.rules.specs.Registers.{statut}
use Rattle.rules.specs.Replies.{reply_data}
use Rattle.rules.specs.declared.Agent.{Agent}
use Rattle.agent_replies.specs.Fitting.{Laying}
use Rattle.agent_replies.specs.Handling.{part_of}
use Rattle.agent_replies.specs.declared.sending.Part.{Part}

-- ---- the registers that a reply shows
-- they lie in the registers, as many as the frame says, and the frame can be laid down
record Shown (a : Agent) (f : Frame) : Type 0 where
  inside : (part_of f).add + (part_of f).datl ≤ 256
  many : (part_of f).datl ≡ data_len f
  fit : fields_fit 0xF0 f ≡ true
  same : take (part_of f).datl (drop (part_of f).add (set a.regs statut (part_of f).stat)) ≡ reply_data a f

shown : (a : Agent) (f : Frame) → Laying f → Shown a f
unfolding fields_fit
shown a (SafeResponse dest src cyc seq «com» datl add stat) h = record {
  inside = h.2.1;
  many = refl;
  fit =
      and_true (is24 dest && is24 src) (safe_com «com» datl)
      (and_true (is24 dest) (is24 src) (lt-ltb dest 0x1000000 h.0) (lt-ltb src 0x1000000 h.1)) h.2.0;
  same = refl;
}
shown a (Acknowledgement src dst sec mac) h = record {
  inside = omega arith;
  many = refl;
  fit = and_true (is24 src) (is24 dst) (lt-ltb src 0x1000000 h.0) (lt-ltb dst 0x1000000 h.1);
  same = refl;
}
shown a (Sync src cyc) h = absurd h
shown a (SafeRead dest src cyc seq datl add) h = absurd h
shown a (SafeWrite dest src cyc seq datl add) h = absurd h
shown a (PlainRead src datl add) h = absurd h
shown a (PlainWrite src datl add) h = absurd h
shown a (PlainSyncResponse src datl add stat) h = absurd h
shown a (PlainResponse src «com» datl add) h = absurd h
shown a (TidAssignment src iid tid) h = absurd h
shown a (SidAssignment src sec mac sid) h = absurd h
shown a (SidAssignment4 src sec mac sid sid2 src2) h = absurd h
shown a (Invariants dest src cyc seq config logic) h = absurd h

module _ (a : Agent) (f : Frame) (h : Laying f) where
  pub part_inside : (p : Part) → p ≡ part_of f → p.add + p.datl ≤ 256
  part_inside p e = rw e (shown a f h).inside

  -- what the code lends of them
  pub part_lent : (p : Part) → p ≡ part_of f → take (p.add + p.datl - p.add) (drop p.add (set a.regs statut p.stat)) ≡ reply_data a f
  part_lent p e =
      let n : p.add + p.datl - p.add ≡ p.datl = omega arith in
      ap (λ (k : ℕ). take k (drop p.add (set a.regs statut p.stat))) n
      ∙ ap (λ (q : Part). take q.datl (drop q.add (set a.regs statut q.stat))) e ∙ (shown a f h).same

  -- ---- sent
  module _ (regs : length a.regs ≡ 256) (z : Sized f) where
    abbrev xs : List ℕ
    xs = reply_data a f

    reply_fits : fits 0xF0 f (length xs) ≡ true
    unfolding fits
    reply_fits =
        let s = shown a f h in
        let r : List ℕ = set a.regs statut (part_of f).stat in
        let d : length xs ≡ data_len f =
        ap length (sym s.same)
        ∙ length-take-le (part_of f).datl (drop (part_of f).add r) (omega (arith, s.inside, length-drop (part_of f).add r, length-set a.regs statut (part_of f).stat))
        ∙ s.many in
        and_true (fields_fit 0xF0 f) (eqb (length xs) (data_len f)) s.fit (eq-eqb (length xs) (data_len f) d)

    pub reply_most : length (frame_line 0xF0 f xs) ≤ 545
    reply_most =
        let ys : List ℕ = app_of f xs in
        omega (arith, line_most (fcs_of 0xF0 ys) 0xF0 ys, app_bounds 0xF0 f xs z reply_fits)

    -- of n bytes of the buffer; l is the writer's answer for the data d
    module _ (n : ℕ) (k : 545 ≤ n) (d : List ℕ) (e : d ≡ xs) (l : Laid) (w : l ≡ written_of n 0xF0 f d) where
      is_sent : l ≡ Ok (length (frame_line 0xF0 f xs))
      unfolding reserved_addr
      is_sent = w ∙ ap (written_of n 0xF0 f) e ∙ sent n 0xF0 f xs refl reply_fits (omega (arith, reply_most))

      pub sent_length : result_unwrap_or l 0 ≡ length (frame_line 0xF0 f xs)
      sent_length = ap (λ (m : Laid). result_unwrap_or m 0) is_sent

      pub sent_left : (before : List ℕ) → left_by l (frame_line 0xF0 f d) before ≡ frame_line 0xF0 f xs ++ drop (length (frame_line 0xF0 f xs)) before
      sent_left before = ap₂ (λ (m : Laid) (x : List ℕ). left_by m (frame_line 0xF0 f x) before) is_sent e
