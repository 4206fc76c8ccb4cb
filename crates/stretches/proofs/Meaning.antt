-- What the worst stretch is, stretch by stretch and without the list of sums: a stretch with that sum starts with that line, none has a
-- larger sum, and each that starts before it has a smaller one. Assumes nothing.
use Rattle.std.proofs.Common.{◌≡◌, ℕ, zero, suc, ◌+◌, ◌-◌, ◌<◌, ◌≤◌, Bool, true, false, eqb, List, [], ◌∷◌, length, get_or, take, drop, sym, refl, ap, ◌∙◌, arith, eqb-true}
use borrow.Author.Tests.{eqb-false}
use Rattle.base.specs.Choice.{choose}
use Rattle.stretches.specs.Stretches.{stretch, first_number, sum, sums, largest, earliest, Worst, worst_of}
use Rattle.stretches.proofs.SumLaws.{sums_length, sums_at}

-- ---- the largest of some sums
largest_most : (ss : List ℕ) (i : ℕ) → i < length ss → get_or ss i 0 ≤ largest ss
unfolding largest
largest_most [] i h = absurd (omega arith)
largest_most (s ∷ ss) zero h = omega arith
largest_most (s ∷ ss) (suc i) h = omega (arith, largest_most ss i (omega arith))

-- ---- the earliest that has it, where they are numbered from n on
record Earliest (n m : ℕ) (ss : List ℕ) (e : ℕ) : Type 0 where
  from : n ≤ e
  to : e < n + length ss
  has : get_or ss (e - n) 0 ≡ m
  first : (i : ℕ) → n + i < e → get_or ss i 0 < m

-- the first of them has it, or only later ones do
first_has : (n m : ℕ) (ss : List ℕ) → Earliest n m (m ∷ ss) n
first_has n m ss = record {
  from = omega arith;
  to = omega arith;
  has = ap (λ (i : ℕ). get_or (m ∷ ss) i 0) (let z : n - n ≡ 0 = omega arith in z);
  first = λ i h. absurd (omega arith);
}

later_has : (n m s e : ℕ) (ss : List ℕ) → s < m → Earliest (n + 1) m ss e → Earliest n m (s ∷ ss) e
later_has n m s e ss h r = record {
  from = omega (arith, r.from);
  to = omega (arith, r.to);
  has = ap (λ (i : ℕ). get_or (s ∷ ss) i 0) (let z : e - n ≡ suc (e - (n + 1)) = omega (arith, r.from) in z) ∙ r.has;
  first = before;
}
  where
    before : (i : ℕ) → n + i < e → get_or (s ∷ ss) i 0 < m
    before zero l = h
    before (suc i) l = r.first i (omega arith)

-- where the first has not the largest sum, there are more, and it is the largest of them
more_than : (m s : ℕ) (ss : List ℕ) → m ≡ largest (s ∷ ss) → (s ≡ m → ⊥) → (s < m) × (m ≡ largest ss) × (0 < length ss)
unfolding largest
more_than m s [] q d = absurd (d (let z : s ≡ m = omega arith in z))
more_than m s (t ∷ ss) q d = (omega arith, omega arith, omega arith)

earliest_is : (n m : ℕ) (ss : List ℕ) → 0 < length ss → m ≡ largest ss → Earliest n m ss (earliest n m ss)
unfolding earliest
earliest_is n m [] h q = absurd (omega arith)
earliest_is n m (s ∷ ss) h q = by (eqb s m) refl (λ l r. earliest_is (n + 1) m ss l r)
  where
    by : (t : Bool) → eqb s m ≡ t → (0 < length ss → m ≡ largest ss → Earliest (n + 1) m ss (earliest (n + 1) m ss)) → Earliest n m (s ∷ ss) (choose t n (earliest (n + 1) m ss))
    by true t r = rw (eqb-true s m t) (first_has n m ss)
    by false t r =
        let d = more_than m s ss q (eqb-false s m t) in
        later_has n m s (earliest (n + 1) m ss) ss d.0 (r d.2 d.1)

-- ---- the worst stretch of a journey
-- the sum of the stretch that starts with line i + 1
abbrev pub sum_from : ℕ → List ℕ → ℕ
sum_from i cs = sum (take stretch (drop i cs))

-- there is such a stretch; no stretch has a larger sum; those that start before it have a smaller one
pub record IsWorst (cs : List ℕ) (w : Worst) : Type 0 where
  pub starts : 1 ≤ w.first
  pub ends : w.first - 1 + stretch ≤ length cs
  pub has : sum_from (w.first - 1) cs ≡ w.sum
  pub most : (i : ℕ) → i + stretch ≤ length cs → sum_from i cs ≤ w.sum
  pub earliest : (i : ℕ) → i + 1 < w.first → sum_from i cs < w.sum

pub worst_is : (cs : List ℕ) → stretch ≤ length cs → IsWorst cs (worst_of cs)
unfolding worst_of
worst_is cs h =
    let ss : List ℕ = sums stretch cs in
    let l : length ss ≡ length cs + 1 - stretch = sums_length stretch (omega arith) cs in
    let e = earliest_is first_number (largest ss) ss (omega arith) refl in
    record {
      starts = e.from;
      ends = omega (arith, e.to, e.from);
      has = sym (sums_at stretch (omega arith) (earliest first_number (largest ss) ss - 1) cs (omega (arith, e.to, e.from))) ∙ e.has;
      most = λ i k. rw (← sums_at stretch (omega arith) i cs k) (largest_most ss i (omega arith));
      earliest = λ i k. rw (← sums_at stretch (omega arith) i cs (omega (arith, e.to))) (e.first i (omega arith));
    }
