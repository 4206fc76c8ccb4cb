-- What each change of the table of refusals makes of the parts that it names, in an agent of 256 registers. Assumes nothing.
use mathlib.Core.Bool.{true, false}
use mathlib.Core.List.{[], ◌∷◌}
use mathlib.Core.Path.{◌≡◌, refl, ap, ◌∙◌, subst, sym}
use Prim.Native.Nat.{ℕ, zero, suc, ◌<◌}
use native.Mathlib.Omega.{arith}
use borrow.Author.Tests.{eqb-true}
use lib.Bits.{bit_or}
use lib.Dec.{eqb}
use lib.ListN.{length, replicate}
use lib.Seq.{length-sets, get_or-set_same}
use Rattle.base.specs.Choice.{choose}
use Rattle.base.proofs.Choosing.{never}
use Rattle.base.proofs.Stored.{stored_before}
use Rattle.rules.specs.Fallback.{withheld, ground_after, enter_fallback}
use Rattle.rules.specs.Grounds.{by_wrong_cycle}
use Rattle.rules.specs.Marks.{counter, counter_by, line_marked, format_marked, sequence_marked, skip_marked, window_marked}
use Rattle.rules.specs.Refusals.{Change, nothing, line_mark, format_mark, sequence_mark, sequence_fall, window_mark, request_taken, names_mode, names_taken, names_mark, changed, status_by, raises, count_of, Makes}
use Rattle.rules.specs.Registers.{out_rep, statut, cpt_seq, cpt_for, ground_at, outputs_at, image}
use Rattle.rules.specs.State.{running, reg, store}
use Rattle.rules.specs.declared.Agent.{Agent}
use Rattle.rules.proofs.BusTraps.{fallback_clears}
use Rattle.rules.proofs.ButFor.{but_for, other_stored, fallback_others}

stored_there : (i x : ℕ) (a : Agent) → i < length a.regs → reg (store i x a) i ≡ x
stored_there i x a h = get_or-set_same a.regs i x 0 h

module _ (a : Agent) (size : length a.regs ≡ 256) where
  line_status : reg (line_marked a) statut ≡ bit_or (reg a statut) 0x20
  unfolding line_marked
  line_status = stored_there statut (bit_or (reg a statut) 0x20) a (omega (arith, size))

  format_status : reg (format_marked a) statut ≡ bit_or (reg a statut) 0x20
  unfolding format_marked
  format_status = other_stored cpt_for (counter (reg a cpt_for)) (line_marked a) statut refl ∙ line_status

  format_counter : reg (format_marked a) cpt_for ≡ counter (reg a cpt_for)
  unfolding format_marked
  format_counter = stored_there cpt_for (counter (reg a cpt_for)) (line_marked a) (omega (arith, size, (but_for a line_mark).size))

  sequence_status : reg (sequence_marked a) statut ≡ bit_or (reg a statut) 0x02
  unfolding sequence_marked
  sequence_status =
      let x : ℕ = bit_or (reg a statut) 0x02 in
      other_stored cpt_seq (counter (reg a cpt_seq)) (store statut x a) statut refl ∙ stored_there statut x a (omega (arith, size))

  sequence_counter : reg (sequence_marked a) cpt_seq ≡ counter (reg a cpt_seq)
  unfolding sequence_marked
  sequence_counter =
      let x : ℕ = bit_or (reg a statut) 0x02 in
      stored_there cpt_seq (counter (reg a cpt_seq)) (store statut x a) (omega (arith, size, length-sets a.regs statut (x ∷ [])))

  skip_status : (n : ℕ) → reg (skip_marked n a) statut ≡ status_by (request_taken n) (reg a statut)
  unfolding skip_marked
  skip_status zero = refl
  skip_status (suc n) =
      let x : ℕ = bit_or (reg a statut) 0x02 in
      other_stored cpt_seq (counter_by (suc n) (reg a cpt_seq)) (store statut x a) statut refl ∙ stored_there statut x a (omega (arith, size))

  skip_counter : (n : ℕ) → reg (skip_marked n a) cpt_seq ≡ counter_by n (reg a cpt_seq)
  unfolding skip_marked
  skip_counter zero = refl
  skip_counter (suc n) =
      let x : ℕ = bit_or (reg a statut) 0x02 in
      stored_there cpt_seq (counter_by (suc n) (reg a cpt_seq)) (store statut x a) (omega (arith, size, length-sets a.regs statut (x ∷ [])))

  module _ (g : ℕ) where
    marked : Agent
    marked = store statut (bit_or (reg a statut) 0x80) a

    held : Agent
    held = store out_rep withheld marked

    held_size : length held.regs ≡ 256
    unfolding marked held
    held_size = length-sets marked.regs out_rep (withheld ∷ []) ∙ length-sets a.regs statut (bit_or (reg a statut) 0x80 ∷ []) ∙ size

    below_outputs : (i : ℕ) → i < outputs_at → reg (enter_fallback g a) i ≡ reg (store ground_at (ground_after g a) held) i
    unfolding marked held enter_fallback
    below_outputs i h = stored_before (store ground_at (ground_after g a) held).regs outputs_at (replicate image 0) i h

    fallen_status : reg (enter_fallback g a) statut ≡ bit_or (reg a statut) 0x80
    unfolding marked held
    fallen_status =
        below_outputs statut (omega arith) ∙ other_stored ground_at (ground_after g a) held statut refl
        ∙ other_stored out_rep withheld marked statut refl ∙ stored_there statut (bit_or (reg a statut) 0x80) a (omega (arith, size))

    fallen_release : reg (enter_fallback g a) out_rep ≡ withheld
    unfolding marked held
    fallen_release =
        let x : ℕ = bit_or (reg a statut) 0x80 in
        below_outputs out_rep (omega arith) ∙ other_stored ground_at (ground_after g a) held out_rep refl
        ∙ stored_there out_rep withheld marked (omega (arith, size, length-sets a.regs statut (x ∷ [])))

    pub fallen_ground : reg (enter_fallback g a) ground_at ≡ ground_after g a
    fallen_ground = below_outputs ground_at (omega arith) ∙ stored_there ground_at (ground_after g a) held (omega (arith, held_size))

-- a change that names neither mode nor k nor the mark
only_marks_lem : (c : Change) (a b : Agent) → names_mode c ≡ false → names_taken c ≡ false → names_mark c ≡ false
    → reg b statut ≡ status_by c (reg a statut) → ((i : ℕ) → raises c i ≡ true → reg b i ≡ counter_by (count_of c) (reg a i)) → Makes c a b
only_marks_lem c a b m t r e h = record {
  status = e;
  counters = h;
  fallback = λ x. never (sym m ∙ x);
  not_released = λ x. never (sym m ∙ x);
  ground = λ x. never (sym m ∙ x);
  outputs = λ x. never (sym m ∙ x);
  k = λ x. never (sym t ∙ x);
  mark = λ x. never (sym r ∙ x);
}

-- at one counter
at_counter : (n : ℕ) (a b : Agent) (j : ℕ) → reg b j ≡ counter_by n (reg a j) → (i : ℕ) → eqb i j ≡ true → reg b i ≡ counter_by n (reg a i)
at_counter n a b j e i h = subst (λ (k : ℕ). reg b k ≡ counter_by n (reg a k)) (sym (eqb-true i j h)) e

module _ (a : Agent) (size : length a.regs ≡ 256) where
  fell_makes : Makes sequence_fall a (enter_fallback by_wrong_cycle (sequence_marked a))
  unfolding enter_fallback sequence_marked
  fell_makes =
      let b : Agent = sequence_marked a in
      let l : length b.regs ≡ 256 = (but_for a sequence_mark).size ∙ size in
      record {
        status = fallen_status b l by_wrong_cycle ∙ ap (λ (x : ℕ). bit_or x 0x80) (sequence_status a size);
        counters = at_counter 1 a (enter_fallback by_wrong_cycle b) cpt_seq (fallback_others b by_wrong_cycle cpt_seq refl refl refl refl ∙ sequence_counter a size);
        fallback = λ e. (refl, refl);
        not_released = λ e. fallen_release b l by_wrong_cycle;
        ground = λ e. fallen_ground b l by_wrong_cycle ∙ ap (λ (x : ℕ). choose (running a) by_wrong_cycle x) ((but_for a sequence_mark).registers ground_at refl);
        outputs = λ e. fallback_clears by_wrong_cycle b l;
        k = never;
        mark = λ e. refl;
      }

  window_makes : Makes window_mark a (window_marked a)
  unfolding window_marked
  window_makes = record {
    status = stored_there statut (bit_or (reg a statut) 0x02) a (omega (arith, size));
    counters = λ i. never;
    fallback = never;
    not_released = never;
    ground = never;
    outputs = λ e. never e;
    k = never;
    mark = λ e. refl;
  }

  pub makes : (c : Change) → Makes c a (changed c a)
  makes nothing = only_marks_lem nothing a a refl refl refl refl (λ i. never)
  makes line_mark = only_marks_lem line_mark a (line_marked a) refl refl refl (line_status a size) (λ i. never)
  makes format_mark =
      only_marks_lem format_mark a (format_marked a) refl refl refl (format_status a size) (at_counter 1 a (format_marked a) cpt_for (format_counter a size))
  makes sequence_mark =
      only_marks_lem sequence_mark a (sequence_marked a) refl refl refl (sequence_status a size) (at_counter 1 a (sequence_marked a) cpt_seq (sequence_counter a size))
  makes sequence_fall = fell_makes
  makes window_mark = window_makes
  makes (request_taken skips) = record {
    status = skip_status a size skips;
    counters = at_counter skips a (skip_marked skips a) cpt_seq (skip_counter a size skips);
    fallback = never;
    not_released = never;
    ground = never;
    outputs = λ e. never e;
    k = λ e. refl;
    mark = never;
  }
