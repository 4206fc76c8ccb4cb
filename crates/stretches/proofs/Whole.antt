-- THE WHOLE: what is kept after any counts has the worst stretch, as it is defined over the list of counts. Assumes nothing.
use Rattle.std.proofs.Common.{◌≡◌, ℕ, zero, suc, ◌+◌, ◌-◌, ◌*◌, ◌^◌, ◌<◌, ◌≤◌, Bool, true, false, ltb, leb, List, [], ◌∷◌, ◌++◌, length, drop, set, replicate, sym, refl, ap, ◌∙◌, ap₂, append_assoc, append-nil, arith, length-append, length-drop, length-set, drop_at, ltb-false, ltb-true, leb-false, leb-true}
use lib.ListN.{length-replicate}
use lib.Seq.{drop-nil}
use Rattle.base.specs.Choice.{choose}
use Rattle.stretches.specs.Stretches.{stretch, most_count, first_number, sum, sums, Worst, worst_of}
use Rattle.stretches.specs.Rolling.{begun, place, oldest, after, after_all, worst_so_far, judged}
use Rattle.stretches.specs.declared.Kept.{Kept}
use Rattle.stretches.specs.declared.Tally.{Tally}
use Rattle.stretches.proofs.SumLaws.{sum_append, sum_none, sum_one, sum_cons, sums_short, sums_front, sums_drop}
use Rattle.stretches.proofs.LargestLaws.{worst, worst_after, after_none, after_one, after_all_lem}
use Rattle.stretches.proofs.StepLaws.{counted_fits, judged_lines, judged_sum, larger, not_larger, none_ended}
use Rattle.stretches.proofs.Window.{window, window_front, window_step, window_length}

-- counts that are at most 255
abbrev pub Counts : List ℕ → Type 0
Counts [] = Unit
Counts (c ∷ cs) = (c ≤ most_count) × Counts cs

-- the last counts of a journey, the oldest first
abbrev last_of : Kept → List ℕ
last_of s = window (place s.tally.lines) s.last

-- what holds after every count: the sum is that of the last counts, and none of them is above 255
pub record Holds (s : Kept) : Type 0 where
  pub size : length s.last ≡ stretch
  pub small : Counts (last_of s)
  pub total : s.tally.sum ≡ sum (last_of s)

-- ---- counts that are at most 255
counts_append : (xs ys : List ℕ) → Counts xs → Counts ys → Counts (xs ++ ys)
counts_append [] ys h k = k
counts_append (x ∷ xs) ys h k = (h.0, counts_append xs ys h.1 k)

counts_rest : (xs : List ℕ) → Counts xs → Counts (drop 1 xs)
counts_rest [] h = h
counts_rest (x ∷ xs) h = h.1

counts_sum : (xs : List ℕ) → Counts xs → sum xs ≤ most_count * length xs
unfolding sum
counts_sum [] h = omega arith
counts_sum (x ∷ xs) h = omega (arith, h.0, counts_sum xs h.1)

counts_none : (n : ℕ) → Counts (replicate n 0)
counts_none zero = tt
counts_none (suc n) = (omega arith, counts_none n)

-- ---- one count more
module _ (s : Kept) (h : Holds s) (c : ℕ) (b : c ≤ most_count) (f : s.tally.lines + 1 < 2 ^ 32) where
  abbrev p : Tally
  p = s.tally

  abbrev w : List ℕ
  w = last_of s

  abbrev w' : List ℕ
  w' = drop 1 w ++ (c ∷ [])

  place_in : place p.lines < length s.last
  place_in = omega (arith, h.size)

  w_front : w ≡ oldest s.last p ∷ drop 1 w
  w_front = window_front s.last (place p.lines) c place_in

  w_length : length w ≡ stretch
  w_length = window_length s.last (place p.lines) ∙ h.size

  w_sum : sum w ≡ oldest s.last p + sum (drop 1 w)
  w_sum = ap sum w_front ∙ sum_cons (oldest s.last p) (drop 1 w)

  pub w'_sum : sum w' ≡ sum (drop 1 w) + c
  w'_sum = sum_append (drop 1 w) (c ∷ []) ∙ ap (λ (n : ℕ). sum (drop 1 w) + n) (sum_one c)

  w_most : sum w ≤ most_count * stretch
  w_most = omega (arith, counts_sum w h.small, w_length)

  -- nothing wraps
  step_is : (after s c).tally ≡ judged p (p.lines + 1) (sum w')
  step_is =
      counted_fits p (oldest s.last p) c (sum w') f (omega (arith, w_sum, w'_sum, h.total)) (omega (arith, w_sum, w'_sum, w_most)) (omega (arith, w_sum, w_most))

  pub step_lines : (after s c).tally.lines ≡ p.lines + 1
  step_lines = ap (λ (r : Tally). r.lines) step_is ∙ judged_lines p (p.lines + 1) (sum w')

  last_after : last_of (after s c) ≡ w'
  last_after = ap (λ (n : ℕ). window (place n) (set s.last (place p.lines) c)) step_lines ∙ window_step s.last p.lines c h.size

  pub holds_after : Holds (after s c)
  holds_after = record {
    size = length-set s.last (place p.lines) c ∙ h.size;
    small = rw last_after (counts_append (drop 1 w) (c ∷ []) (counts_rest w h.small) (b, tt));
    total = ap (λ (r : Tally). r.sum) step_is ∙ judged_sum p (p.lines + 1) (sum w') ∙ ap sum (sym last_after);
  }

  -- the sums of the stretches that end with this count and the next ones
  sums_after : (cs : List ℕ) → sums stretch (drop 1 w ++ (c ∷ cs)) ≡ sum w' ∷ sums stretch (drop 1 (last_of (after s c)) ++ cs)
  sums_after cs =
      ap (sums stretch) (sym (append_assoc (drop 1 w) (c ∷ []) cs))
      ∙ sums_front stretch w' cs (omega (arith, length-append (drop 1 w) (c ∷ []), length-drop 1 w, w_length)) (omega arith)
      ∙ ap (λ (t : List ℕ). sum w' ∷ sums stretch (drop 1 t ++ cs)) (sym last_after)

  -- before the thousandth line
  step_early : p.lines + 1 < stretch → worst_so_far (after s c).tally ≡ worst_so_far p
  step_early k = ap worst_so_far (step_is ∙ none_ended p (p.lines + 1) (sum w') k)

  -- and from there on
  step_worst : stretch ≤ p.lines + 1 → worst_so_far (after s c).tally ≡ choose (ltb p.largest (sum w')) (worst (sum w') (p.lines + 1 - stretch + first_number)) (worst_so_far p)
  step_worst k = ap worst_so_far step_is ∙ by (ltb p.largest (sum w')) refl
    where
      by : (t : Bool) → ltb p.largest (sum w') ≡ t → worst_so_far (judged p (p.lines + 1) (sum w')) ≡ choose t (worst (sum w') (p.lines + 1 - stretch + first_number)) (worst_so_far p)
      by true t = ap worst_so_far (larger p (p.lines + 1) (sum w') k (ltb-true _ _ t))
      by false t = ap worst_so_far (not_larger p (p.lines + 1) (sum w') (ltb-false _ _ t))

-- ---- all counts
-- after n lines: how many more end no stretch, and the number of the stretch that ends with the line after those
abbrev waits : ℕ → ℕ
waits n = stretch - 1 - n

abbrev number : ℕ → ℕ
number n = n + waits n + 1 - stretch + first_number

-- what the counts to come make of the worst so far
abbrev rest : Kept → List ℕ → Worst
rest s cs = worst_after (worst_so_far s.tally) (number s.tally.lines) (drop (waits s.tally.lines) (sums stretch (drop 1 (last_of s) ++ cs)))

rest_none : (s : Kept) → Holds s → rest s [] ≡ worst_so_far s.tally
rest_none s h =
    let n : ℕ = s.tally.lines in
    let l = window_length s.last (place s.tally.lines) ∙ h.size in
    ap (λ (t : List ℕ). worst_after (worst_so_far s.tally) (number n) (drop (waits n) t))
    (sums_short stretch (drop 1 (last_of s) ++ []) (omega (arith, l, length-append (drop 1 (last_of s)) [], length-drop 1 (last_of s))))
    ∙ ap (worst_after (worst_so_far s.tally) (number n)) (drop-nil (waits n))
    ∙ after_none (worst_so_far s.tally) (number n)

-- a stretch that ends with the next line counts from the thousandth line on
module _ (v v' : Worst) (n n' x : ℕ) (xs : List ℕ) (e : n' ≡ n + 1) where
  turn_early : n + 1 < stretch → v' ≡ v → worst_after v (number n) (drop (waits n) (x ∷ xs)) ≡ worst_after v' (number n') (drop (waits n') xs)
  turn_early h q =
      let a : waits n ≡ suc (waits n') = omega arith in
      let b : number n ≡ number n' = omega arith in
      ap₂ (λ (m k : ℕ). worst_after v m (drop k (x ∷ xs))) b a ∙ ap (λ (u : Worst). worst_after u (number n') (drop (waits n') xs)) (sym q)

  turn_ended : stretch ≤ n + 1 → v' ≡ choose (ltb v.sum x) (worst x (n + 1 - stretch + first_number)) v
      → worst_after v (number n) (drop (waits n) (x ∷ xs)) ≡ worst_after v' (number n') (drop (waits n') xs)
  turn_ended h q =
      let a : waits n ≡ 0 = omega arith in
      let b : number n ≡ n + 1 - stretch + first_number = omega arith in
      let c : waits n' ≡ 0 = omega arith in
      let d : number n' ≡ n + 1 - stretch + first_number + 1 = omega arith in
      ap₂ (λ (m k : ℕ). worst_after v m (drop k (x ∷ xs))) b a
      ∙ after_one v (n + 1 - stretch + first_number) x xs
      ∙ ap (λ (u : Worst). worst_after u (n + 1 - stretch + first_number + 1) xs) (sym q)
      ∙ ap₂ (λ (m k : ℕ). worst_after v' m (drop k xs)) (sym d) (sym c)

rest_turn : (s : Kept) (h : Holds s) (c : ℕ) (cs : List ℕ) → c ≤ most_count → s.tally.lines + 1 < 2 ^ 32 → rest s (c ∷ cs) ≡ rest (after s c) cs
rest_turn s h c cs b f =
    let n : ℕ = s.tally.lines in
    ap (λ (t : List ℕ). worst_after (worst_so_far s.tally) (number n) (drop (waits n) t)) (sums_after s h c b f cs) ∙ by (leb stretch (n + 1)) refl
  where
    by : (t : Bool) → leb stretch (s.tally.lines + 1) ≡ t
        → worst_after (worst_so_far s.tally) (number s.tally.lines)
        (drop (waits s.tally.lines) (sum (drop 1 (last_of s) ++ (c ∷ [])) ∷ sums stretch (drop 1 (last_of (after s c)) ++ cs)))
        ≡ rest (after s c) cs
    by true t = turn_ended _ _ _ _ _ _ (step_lines s h c b f) (leb-true _ _ t) (step_worst s h c b f (leb-true _ _ t))
    by false t = turn_early _ _ _ _ _ _ (step_lines s h c b f) (leb-false _ _ t) (step_early s h c b f (leb-false _ _ t))

from : (cs : List ℕ) (s : Kept) → Holds s → Counts cs → s.tally.lines + length cs < 2 ^ 32 → worst_so_far (after_all s cs).tally ≡ rest s cs
from [] s h k f = sym (rest_none s h)
from (c ∷ cs) s h k f =
    let g : s.tally.lines + 1 < 2 ^ 32 = omega arith in
    from cs (after s c) (holds_after s h c k.0 g) k.1 (omega (arith, step_lines s h c k.0 g)) ∙ sym (rest_turn s h c cs k.0 g)

-- what holds after every count holds after all of them, and each line counts
holds_from : (cs : List ℕ) (s : Kept) → Holds s → Counts cs → s.tally.lines + length cs < 2 ^ 32
    → Holds (after_all s cs) × ((after_all s cs).tally.lines ≡ s.tally.lines + length cs)
holds_from [] s h k f = (h, omega arith)
holds_from (c ∷ cs) s h k f =
    let g : s.tally.lines + 1 < 2 ^ 32 = omega arith in
    let e = step_lines s h c k.0 g in
    let r = holds_from cs (after s c) (holds_after s h c k.0 g) k.1 (omega (arith, e)) in
    (r.0, omega (arith, r.1, e))

-- ---- from the start
-- the counts of 0 before the first line
zeros_window : (n : ℕ) → drop 1 (window 0 (replicate (suc n) 0)) ≡ replicate n 0
zeros_window n = append-nil (replicate n 0)

zeros_counts : (n : ℕ) → Counts (window 0 (replicate n 0))
zeros_counts n = rw (append-nil {A = ℕ} (replicate n 0)) (counts_none n)

zeros_sum : (n : ℕ) → sum (window 0 (replicate n 0)) ≡ 0
zeros_sum n = ap sum (append-nil (replicate n 0)) ∙ none n
  where
    none : (n : ℕ) → sum (replicate n 0) ≡ 0
    none zero = sum_none
    none (suc n) = omega (arith, sum_cons 0 (replicate n 0), none n)

-- and their stretches left out
zeros_off : (k n : ℕ) (cs : List ℕ) → drop n (sums k (replicate n 0 ++ cs)) ≡ sums k cs
zeros_off k n cs = sums_drop k n (replicate n 0 ++ cs) ∙ ap (sums k) (drop_at (replicate n 0) cs n (length-replicate n 0))

holds_begun : Holds begun
holds_begun = record { size = length-replicate {A = ℕ} stretch 0; small = zeros_counts stretch; total = sym (zeros_sum stretch) }

module _ (cs : List ℕ) (k : Counts cs) (f : length cs < 2 ^ 32) where
  pub counts_lines : (after_all begun cs).tally.lines ≡ length cs
  counts_lines = (holds_from cs begun holds_begun k (omega arith)).1 ∙ (let z : 0 + length cs ≡ length cs = omega arith in z)

  -- 255 × 1,000: no sum wraps
  pub sum_fits : (after_all begun cs).tally.sum ≤ most_count * stretch
  sum_fits =
      let h = (holds_from cs begun holds_begun k (omega arith)).0 in
      let s : Kept = after_all begun cs in
      omega (arith, h.total, h.size, counts_sum (last_of s) h.small, window_length s.last (place s.tally.lines))

-- THE THEOREM: for any counts, of a number that 32 bits hold
pub counts_worst : (cs : List ℕ) → Counts cs → length cs < 2 ^ 32 → worst_so_far (after_all begun cs).tally ≡ worst_of cs
unfolding worst_of
counts_worst cs k f =
    from cs begun holds_begun k (omega arith)
    ∙ ap (λ (t : List ℕ). worst_after (worst 0 first_number) first_number (drop 999 (sums stretch (t ++ cs)))) (zeros_window 999)
    ∙ ap (worst_after (worst 0 first_number) first_number) (zeros_off stretch 999 cs)
    ∙ after_all_lem first_number (sums stretch cs)
