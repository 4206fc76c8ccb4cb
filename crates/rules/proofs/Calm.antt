-- Stores that leave the counters and STATUT bits 4, 3, 2 and 0, whatever the number of registers. Assumes nothing.
use mathlib.Core.Bool.{Bool, true, false, not, ◌&&◌}
use mathlib.Core.List.{List, [], ◌∷◌}
use mathlib.Core.Path.{◌≡◌, refl, sym, ap, ◌∙◌, subst}
use Prim.Native.Nat.{ℕ, ◌+◌, ◌≤◌}
use native.Mathlib.Omega.{arith}
use borrow.Author.Tests.{ltb-true, ltb-false, leb-true}
use lib.Bits.{bit_and, bit_or}
use lib.Dec.{eqb, leb, ltb}
use lib.ListN.{length, get_or, replicate, set, get_or-eq_default}
use lib.Seq.{sets, get_or-set_same, set_out}
use Rattle.base.proofs.Choosing.{by_test, and_left, and_right}
use Rattle.base.proofs.Stored.{stored_before, stored_behind}
use Rattle.rules.specs.Counters.{is_counter}
use Rattle.rules.specs.Fallback.{released, withheld, ground_after, enter_fallback, enter_run}
use Rattle.rules.specs.Registers.{out_rep, statut, ground_at, outputs_at, image}
use Rattle.rules.specs.State.{running, reg, t_of}
use Rattle.rules.specs.Sync.{heard_sync, synced}
use Rattle.rules.specs.Tick.{counted, sync_limit, command_limit, window_limit, limited, cycle_ended, ticked}
use Rattle.rules.specs.declared.Agent.{Agent}
use Rattle.rules.proofs.QuietBits.{quiet_fallback, quiet_run, quiet_cleared}

-- where the counters stand
pub counter_low : (i : ℕ) → is_counter i ≡ true → 0x1E ≤ i
counter_low i e = leb-true 0x1E i (and_left (leb 0x1E i) (leb i 0x24) e)

pub counter_high : (i : ℕ) → is_counter i ≡ true → i ≤ 0x24
counter_high i e = leb-true i 0x24 (and_right (leb 0x1E i) (leb i 0x24) e)

-- a store takes place, or there is no such register
pub by_stored {κ} : (P : ℕ → Type κ) (r : List ℕ) (i x : ℕ) → P x → (length r ≤ i → P (get_or r i 0)) → P (get_or (sets r i (x ∷ [])) i 0)
by_stored P r i x p q = go (ltb i (length r)) refl
  where
    go : (b : Bool) → ltb i (length r) ≡ b → P (get_or (set r i x) i 0)
    go true e = subst P (sym (get_or-set_same r i x 0 (ltb-true i (length r) e))) p
    go false e = subst (λ (l : List ℕ). P (get_or l i 0)) (sym (set_out r i x (ltb-false i (length r) e))) (q (ltb-false i (length r) e))

pub record Calm (r q : List ℕ) : Type 0 where
  pub counters : (i : ℕ) → is_counter i ≡ true → get_or q i 0 ≡ get_or r i 0
  pub bits : bit_and (get_or q statut 0) 0x1D ≡ bit_and (get_or r statut 0) 0x1D

pub calm_same : (r : List ℕ) → Calm r r
calm_same r = record { counters = λ i e. refl; bits = refl }

pub calm_then : {r q p : List ℕ} → Calm r q → Calm q p → Calm r p
calm_then x y = record { counters = λ i e. y.counters i e ∙ x.counters i e; bits = y.bits ∙ x.bits }

module _ (r : List ℕ) (add : ℕ) (xs : List ℕ) where
  -- a run of stores that ends before STATUT, one behind the counters, and one between the two
  pub calm_before : add + length xs ≤ statut → Calm r (sets r add xs)
  calm_before h = record {
    counters = λ i e. stored_behind r add xs i (omega (arith, counter_low i e));
    bits = ap (λ (x : ℕ). bit_and x 0x1D) (stored_behind r add xs statut h);
  }

  pub calm_behind : 0x25 ≤ add → Calm r (sets r add xs)
  calm_behind h = record {
    counters = λ i e. stored_before r add xs i (omega (arith, counter_high i e));
    bits = ap (λ (x : ℕ). bit_and x 0x1D) (stored_before r add xs statut (omega arith));
  }

  pub calm_between : 0x1A ≤ add → add + length xs ≤ 0x1E → Calm r (sets r add xs)
  calm_between h k = record {
    counters = λ i e. stored_behind r add xs i (omega (arith, counter_low i e));
    bits = ap (λ (x : ℕ). bit_and x 0x1D) (stored_before r add xs statut (omega arith));
  }

-- STATUT with the same bits
pub calm_status : (r : List ℕ) (x : ℕ) → bit_and x 0x1D ≡ bit_and (get_or r statut 0) 0x1D → Calm r (sets r statut (x ∷ []))
calm_status r x e = record {
  counters = λ i h. stored_behind r statut (x ∷ []) i (omega (arith, counter_low i h));
  bits = by_stored (λ y. bit_and y 0x1D ≡ bit_and (get_or r statut 0) 0x1D) r statut x e (λ h. refl);
}

-- bit 7 alone
pub quiet_sent : (r : List ℕ) → bit_and (get_or (sets r statut (bit_and (get_or r statut 0) 0x80 ∷ [])) statut 0) 0x1D ≡ 0
quiet_sent r =
    by_stored (λ y. bit_and y 0x1D ≡ 0) r statut (bit_and (get_or r statut 0) 0x80) (quiet_cleared (get_or r statut 0))
    (λ h. ap (λ (y : ℕ). bit_and y 0x1D) (get_or-eq_default r 0 h))

-- ---- what rules are made of
module _ (a : Agent) where
  pub calm_fallen : (g : ℕ) → Calm a.regs (enter_fallback g a).regs
  unfolding enter_fallback
  calm_fallen g =
      let x : ℕ = bit_or (reg a statut) 0x80 in
      let r : List ℕ = sets a.regs statut (x ∷ []) in
      let q : List ℕ = sets r out_rep (withheld ∷ []) in
      let p : List ℕ = sets q ground_at (ground_after g a ∷ []) in
      calm_then (calm_status a.regs x (quiet_fallback (reg a statut)))
      (calm_then (calm_before r out_rep (withheld ∷ []) (omega arith))
      (calm_then (calm_behind q ground_at (ground_after g a ∷ []) (omega arith)) (calm_behind p outputs_at (replicate image 0) (omega arith))))

  pub calm_synced : (src cyc : ℕ) → Calm a.regs (synced src cyc a).regs
  unfolding synced heard_sync enter_run
  calm_synced src cyc =
      by_test (λ (b : Agent). Calm a.regs b.regs) (not (running a) && eqb (reg a out_rep) released)
      (λ e. calm_status a.regs (bit_and (reg a statut) 0x7F) (quiet_run (reg a statut))) (λ e. calm_same a.regs)

module _ (a : Agent) where
  calm_limited : Calm a.regs (limited (counted a)).regs
  unfolding limited counted
  calm_limited =
      by_test (λ (b : Agent). Calm a.regs b.regs) (sync_limit (counted a)) (λ e. calm_fallen (counted a) _)
      (λ e. by_test (λ (b : Agent). Calm a.regs b.regs) (command_limit (counted a)) (λ h. calm_fallen (counted a) _)
      (λ h. by_test (λ (b : Agent). Calm a.regs b.regs) (window_limit (counted a)) (λ w. calm_fallen (counted a) _) (λ w. calm_same a.regs)))

  pub calm_ticked : Calm a.regs (ticked a).regs
  unfolding ticked cycle_ended
  calm_ticked =
      let b : Agent = limited (counted a) in
      by_test (λ (x : Agent). Calm a.regs x.regs) (leb (t_of b) b.elapsed) (λ e. calm_limited) (λ e. calm_limited)
