-- How the changes that the rules make to an agent show in its view. Assumes nothing.
use mathlib.Core.Bool.{true, false, not}
use mathlib.Core.Path.{◌≡◌, refl, sym, ◌∙◌, ap, ap₂}
use mathlib.Core.List.{List, [], ◌∷◌}
use Prim.Native.Nat.{ℕ, ◌+◌, ◌-◌, ◌^◌, ◌≤◌, ◌<◌}
use native.Mathlib.Omega.{arith}
use borrow.Author.Tests.{ne_eqb, leb-true}
use lib.Bits.{bit_and, bit_or}
use lib.Dec.{eqb, leb}
use lib.ListN.{length, get_or, replicate, length-replicate, get_or-replicate}
use lib.Seq.{sets, length-sets}
use Rattle.base.proofs.Choosing.{and_left, and_right}
use Rattle.base.proofs.Stored.{stored_in}
use Rattle.rules.specs.Fallback.{released, withheld, ground_after, enter_fallback, enter_run}
use Rattle.rules.specs.Marks.{counter, window_marked}
use Rattle.rules.specs.Registers.{sid_at, out_rep, tcyc, statut, cnf_rep, cnf_cyc, ground_at, outputs_at, image, low_bytes}
use Rattle.rules.specs.Sources.{recorded}
use Rattle.rules.specs.State.{reg, t_of, n_of, m_of, with_idle, store, store_all}
use Rattle.rules.specs.declared.Agent.{Agent}
use Rattle.rules.proofs.MarkSteps.{Marks, none, counts}
use Rattle.rules.proofs.LowBytes.{low_stored, low_same}
use Rattle.demand3.proofs.Effects.{commanded, shown_by, fallen, misses, runs, limits, releases, outputs, named}
use Rattle.demand3.proofs.RegisterViews.{Apart, apart_same, apart_status, apart_middle}
use Rattle.demand3.proofs.StoredPlaces.{stored_outside, stored_choice}
use Rattle.demand3.proofs.Views.{RegisterView, View, registers_of, view_of, SameRegisters, Agree}

-- ---- what agrees

-- views that differ at most in what the registers show
by_registers : {v w : View} → v.mode ≡ w.mode → v.assigned ≡ w.assigned → v.mark ≡ w.mark → v.cycle ≡ w.cycle → v.clocks ≡ w.clocks
    → SameRegisters v.registers w.registers → Agree v w
by_registers m a k y x r = record { mode = m; assigned = a; mark = k; registers = r; cycle = y; clocks = x }

same_refl : (r : RegisterView) → SameRegisters r r
same_refl r = record { rep = refl; t = refl; n = refl; m = refl; ground = refl; out = λ i h. refl; sid = refl }

pub agree_refl : (v : View) → Agree v v
agree_refl v = by_registers refl refl refl refl refl (same_refl v.registers)

pub agree_trans : {u v w : View} → Agree u v → Agree v w → Agree u w
agree_trans x y = record {
  mode = x.mode ∙ y.mode;
  assigned = x.assigned ∙ y.assigned;
  mark = x.mark ∙ y.mark;
  registers = record {
    rep = x.registers.rep ∙ y.registers.rep;
    t = x.registers.t ∙ y.registers.t;
    n = x.registers.n ∙ y.registers.n;
    m = x.registers.m ∙ y.registers.m;
    ground = x.registers.ground ∙ y.registers.ground;
    out = λ i h. x.registers.out i h ∙ y.registers.out i h;
    sid = x.registers.sid ∙ y.registers.sid;
  };
  cycle = x.cycle ∙ y.cycle;
  clocks = x.clocks ∙ y.clocks;
}

-- ---- stores that do not show
pub apart_view : (i : ℕ) (xs : List ℕ) (a : Agent) → Apart i (length xs) → Agree (view_of (store_all i xs a)) (view_of a)
apart_view i xs a h = by_registers refl refl refl refl refl (apart_same a.regs i xs h)

pub status_view : (x : ℕ) (a : Agent) → Agree (view_of (store statut x a)) (view_of a)
status_view x a = apart_view statut (x ∷ []) a apart_status

-- what a refusal marks
pub marks_view : {a b : Agent} → Marks a b → Agree (view_of b) (view_of a)
marks_view {a = a} none = agree_refl (view_of a)
marks_view (Marks.sets {b = b} m e s) = agree_trans (status_view (bit_or (reg b statut) m) b) (marks_view s)
marks_view (counts {b = b} i x e s) =
    let low = leb-true 0x1E i (and_left (leb 0x1E i) _ e) in
    let high = leb-true i 0x24 (and_right (leb 0x1E i) _ e) in
    agree_trans (apart_view i (counter x ∷ []) b (apart_middle i 1 (omega arith) (omega arith))) (marks_view s)

pub marks_size : {a b : Agent} → Marks a b → length b.regs ≡ length a.regs
marks_size none = refl
marks_size (Marks.sets {b = b} m e s) = length-sets b.regs statut (bit_or (reg b statut) m ∷ []) ∙ marks_size s
marks_size (counts {b = b} i x e s) = length-sets b.regs i (counter x ∷ []) ∙ marks_size s

-- ---- fallback and RUN
fallback_view : (g : ℕ) (a : Agent) → length a.regs ≡ 256 → Agree (view_of (enter_fallback g a)) (fallen g (view_of a))
unfolding enter_fallback
fallback_view g a size =
    let r : List ℕ = a.regs in
    let zeros : List ℕ = replicate image 0 in
    let s : List ℕ = sets r statut (bit_or (reg a statut) 0x80 ∷ []) in
    let w : List ℕ = sets s out_rep (withheld ∷ []) in
    let u : List ℕ = sets w ground_at (ground_after g a ∷ []) in
    let n : length zeros ≡ image = length-replicate {A = ℕ} image 0 in
    let size-s : length s ≡ 256 = length-sets r statut (bit_or (reg a statut) 0x80 ∷ []) ∙ size in
    let size-w : length w ≡ 256 = length-sets s out_rep (withheld ∷ []) ∙ size-s in
    let size-u : length u ≡ 256 = length-sets w ground_at (ground_after g a ∷ []) ∙ size-w in
    let same : SameRegisters (registers_of s) (registers_of r) = apart_same r statut (bit_or (reg a statut) 0x80 ∷ []) apart_status in
    let before : (j : ℕ) → j < outputs_at → get_or (sets u outputs_at zeros) j 0 ≡ get_or u j 0 = λ j h. stored_outside u outputs_at zeros j (λ p q. omega arith) in
    let below : (j : ℕ) → j < ground_at → get_or u j 0 ≡ get_or w j 0 = λ j h. stored_outside w ground_at (ground_after g a ∷ []) j (λ p q. omega arith) in
    let other : (j : ℕ) → j < ground_at → (j ≡ out_rep → ⊥) → get_or u j 0 ≡ get_or s j 0 = λ j k h. below j k ∙ stored_outside s out_rep (withheld ∷ []) j (λ p q. h (omega arith)) in
    by_registers refl refl refl refl refl (record {
      rep = before out_rep (omega arith) ∙ below out_rep (omega arith) ∙ stored_in s out_rep (withheld ∷ []) out_rep (omega arith) (omega arith) (omega arith);
      t = before tcyc (omega arith) ∙ other tcyc (omega arith) (λ e. omega arith) ∙ same.t;
      n = before cnf_cyc (omega arith) ∙ other cnf_cyc (omega arith) (λ e. omega arith) ∙ same.n;
      m = before cnf_rep (omega arith) ∙ other cnf_rep (omega arith) (λ e. omega arith) ∙ same.m;
      ground = before ground_at (omega arith) ∙ stored_in w ground_at (ground_after g a ∷ []) ground_at (omega arith) (omega arith) (omega arith);
      out = λ i h. stored_in u outputs_at zeros (outputs_at + i) (omega arith) (omega arith) (omega arith)
          ∙ get_or-replicate {A = ℕ} image (outputs_at + i - outputs_at) 0 0 (omega arith);
      sid = low_same s (sets u outputs_at zeros) sid_at 3 (λ j p q. before j (omega arith) ∙ other j (omega arith) (λ e. omega arith)) ∙ same.sid;
    })

fallen_agree : (g : ℕ) {v w : View} → Agree v w → Agree (fallen g v) (fallen g w)
fallen_agree g e = record {
  mode = refl;
  assigned = e.assigned;
  mark = refl;
  registers = record {
    rep = refl;
    t = e.registers.t;
    n = e.registers.n;
    m = e.registers.m;
    ground = ap₂ (λ (x y : ℕ). shown_by x g y) e.mode e.registers.ground;
    out = λ i h. refl;
    sid = e.registers.sid;
  };
  cycle = e.cycle;
  clocks = ap commanded e.clocks;
}

pub fallen_view : (g : ℕ) (a : Agent) (v : View) → length a.regs ≡ 256 → Agree (view_of a) v → Agree (view_of (enter_fallback g a)) (fallen g v)
fallen_view g a v size e = agree_trans (fallback_view g a size) (fallen_agree g e)

-- a sync outside its window
pub missed_view : (a : Agent) → Agree (view_of (window_marked a)) (misses (view_of a))
unfolding window_marked
missed_view a = by_registers refl refl refl refl refl (status_view (bit_or (reg a statut) 0x02) a).registers

pub run_view : (a : Agent) → Agree (view_of (enter_run a)) (runs (view_of a))
unfolding enter_run
run_view a = by_registers refl refl refl refl refl (status_view (bit_and (reg a statut) 0x7F) a).registers

-- ---- writes that show
pub release_view : (a : Agent) (i : ℕ) (xs : List ℕ) → length a.regs ≡ 256 → i ≡ out_rep → length xs ≡ 1 → get_or xs 0 0 ≡ released
    → Agree (view_of (store_all i xs a)) (releases (view_of a))
release_view a i xs size at one e =
    let r : List ℕ = a.regs in
    let other : (j : ℕ) → (j ≡ out_rep → ⊥) → get_or (sets r i xs) j 0 ≡ get_or r j 0 = λ j h. stored_outside r i xs j (λ p q. h (omega arith)) in
    by_registers refl refl refl refl refl (record {
      rep = stored_in r i xs out_rep (omega arith) (omega arith) (omega arith) ∙ ap (λ (j : ℕ). get_or xs j 0) (let z : out_rep - i ≡ 0 = omega arith in z) ∙ e;
      t = other tcyc (λ e. omega arith);
      n = other cnf_cyc (λ e. omega arith);
      m = other cnf_rep (λ e. omega arith);
      ground = other ground_at (λ e. omega arith);
      out = λ j h. other (outputs_at + j) (λ e. omega arith);
      sid = low_same r (sets r i xs) sid_at 3 (λ j p q. other j (λ e. omega arith));
    })

pub limits_view : (a : Agent) (i : ℕ) (xs : List ℕ) → 0x18 ≤ i → i + length xs ≤ 0x26
    → Agree (view_of (store_all i xs a)) (limits (t_of (store_all i xs a)) (n_of (store_all i xs a)) (m_of (store_all i xs a)) (view_of a))
limits_view a i xs low high =
    let r : List ℕ = a.regs in
    by_registers refl refl refl refl refl (record {
      rep = stored_outside r i xs out_rep (λ p q. omega arith);
      t = refl;
      n = refl;
      m = refl;
      ground = stored_outside r i xs ground_at (λ p q. omega arith);
      out = λ j h. stored_outside r i xs (outputs_at + j) (λ p q. omega arith);
      sid = low_same r (sets r i xs) sid_at 3 (λ j p q. stored_outside r i xs j (λ u v. omega arith));
    })

pub outputs_view : (a : Agent) (i : ℕ) (xs : List ℕ) → length a.regs ≡ 256 → 0x80 ≤ i → i + length xs ≤ 0xC0
    → Agree (view_of (with_idle 0 (store_all i xs a))) (outputs i xs (view_of a))
outputs_view a i xs size low high =
    let r : List ℕ = a.regs in
    by_registers refl refl refl refl refl (record {
      rep = stored_outside r i xs out_rep (λ p q. omega arith);
      t = stored_outside r i xs tcyc (λ p q. omega arith);
      n = stored_outside r i xs cnf_cyc (λ p q. omega arith);
      m = stored_outside r i xs cnf_rep (λ p q. omega arith);
      ground = stored_outside r i xs ground_at (λ p q. omega arith);
      out = λ j h. stored_choice r i xs (outputs_at + j) (omega arith);
      sid = low_same r (sets r i xs) sid_at 3 (λ j p q. stored_outside r i xs j (λ u v. omega arith));
    })

-- ---- the first source recorded, with the SID, and a later one
some_count : (x : ℕ) → not (eqb (x + 1) 0) ≡ true
some_count x = ap not (ne_eqb (x + 1) 0 (λ e. omega arith))

pub named_view : (a : Agent) (src sid : ℕ) → length a.regs ≡ 256 → sid < 256 ^ 3
    → Agree (view_of (recorded src (store_all sid_at (low_bytes 3 sid) a))) (named sid (view_of a))
unfolding recorded low_bytes
named_view a src sid size small =
    let r : List ℕ = a.regs in
    let xs : List ℕ = low_bytes 3 sid in
    let other : (j : ℕ) → out_rep ≤ j → get_or (sets r sid_at xs) j 0 ≡ get_or r j 0 = λ j h. stored_outside r sid_at xs j (λ p q. omega arith) in
    by_registers refl (some_count a.count) refl refl refl (record {
      rep = other out_rep (omega arith);
      t = other tcyc (omega arith);
      n = other cnf_cyc (omega arith);
      m = other cnf_rep (omega arith);
      ground = other ground_at (omega arith);
      out = λ i h. other (outputs_at + i) (omega arith);
      sid = low_stored r sid_at 3 sid small (omega arith);
    })

pub recorded_view : (a : Agent) (src : ℕ) → eqb a.count 0 ≡ false → Agree (view_of (recorded src a)) (view_of a)
unfolding recorded
recorded_view a src e = by_registers refl (some_count a.count ∙ sym (ap not e)) refl refl refl (same_refl (registers_of a.regs))
