-- Document 01, "Who causes which number": counters not named there change only by writes, STATUT bits 4, 3, 2 and 0 only
-- when a sent reply clears them. Assumes nothing.
use Rattle.std.specs.Prelude.{Bool, true, List, [], ◌⊎◌, ◌≡◌, ℕ, ◌+◌, ◌≤◌, ◌<◌, length, Ok}
use Rattle.std.specs.Int.Bits.{bit_and}
use Rattle.base.specs.Choice.{within}
use Rattle.wire.specs.Body.{read_body}
use Rattle.frame_kinds.specs.Kinds.{data_in}
use Rattle.frame_kinds.specs.declared.kinds.Frame.{Frame}
use Rattle.frame_kinds.specs.declared.kinds.Frame.TheVariants.{SafeWrite}
use Rattle.rules.specs.Answers.{accepted, typ, cycle, out_of_order, outside_rules}
use Rattle.rules.specs.Calls.{Call, frame}
use Rattle.rules.specs.Marks.{counter, counter_by}
use Rattle.rules.specs.Refusals.{data_of, read_of, skips_by}
use Rattle.rules.specs.Registers.{statut, cpt_seq, cpt_for}
use Rattle.rules.specs.Replies.{Outcome}
use Rattle.rules.specs.State.{reg}
use Rattle.rules.specs.declared.Agent.{Agent}

-- the counters: 1Eh to 24h
abbrev pub is_counter : ℕ → Bool
is_counter i = within 0x1E 0x24 i

-- a call brings a frame with its data
pub data Brings : Call → Frame → List ℕ → Type 0 where
  brings : {port room : ℕ} {body : List ℕ} {f : Frame} → read_of body ≡ Ok f
      → Brings (frame port body room) f (data_in f (data_of (read_body body)))

-- what a call with answer n may do to register i, a counter
pub data Counter (a : Agent) (call : Call) (n : ℕ) (b : Agent) (i : ℕ) : Type 0 where
  as_before : reg b i ≡ reg a i → Counter a call n b i
  -- an accepted write covers it
  written : {dest src cyc seq datl add : ℕ} {xs : List ℕ} → Brings call (SafeWrite dest src cyc seq datl add) xs → n ≡ accepted
      → add ≤ i → i < add + length xs → Counter a call n b i
  -- CPT_SEQ + 1 with 12 or 14, CPT_FOR + 1 with 7; both stop at 255
  out_of_sequence : i ≡ cpt_seq → (n ≡ cycle) ⊎ (n ≡ out_of_order) → reg b i ≡ counter (reg a i) → Counter a call n b i
  not_served : i ≡ cpt_for → n ≡ typ → reg b i ≡ counter (reg a i) → Counter a call n b i
  -- CPT_SEQ + 1 for each number that a request skips, with 0 or 16
  skipped : {f : Frame} {xs : List ℕ} → Brings call f xs → i ≡ cpt_seq → (n ≡ accepted) ⊎ (n ≡ outside_rules)
      → reg b i ≡ counter_by (skips_by a f) (reg a i) → Counter a call n b i

-- STATUT bits 4, 3, 2 and 0
abbrev pub quiet_bits : Agent → ℕ
quiet_bits a = bit_and (reg a statut) 0x1D

pub record Counts (a : Agent) (call : Call) (o : Outcome) : Type 0 where
  pub counters : (i : ℕ) → is_counter i ≡ true → Counter a call o.answer o.agent i
  pub bits : (quiet_bits o.agent ≡ quiet_bits a) ⊎ ((o.line ≡ [] → ⊥) × (quiet_bits o.agent ≡ 0))
