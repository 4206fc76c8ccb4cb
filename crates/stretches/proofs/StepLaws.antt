-- Laws of a step: the sum with a count more and the oldest off, and which stretch is the worst so far. Assumes nothing.
use Rattle.std.proofs.Common.{◌≡◌, ℕ, ◌+◌, ◌-◌, ◌%◌, ◌^◌, ◌<◌, ◌≤◌, Bool, true, false, ◌&&◌, ltb, leb, refl, ap, ◌∙◌, arith, le-ltb, lt-ltb, le-leb}
use borrow.Author.Tests.{lt-leb}
use Rattle.base.proofs.Choosing.{choose_true, choose_false, by_test, and_true}
use Rattle.stretches.specs.Stretches.{stretch, first_number}
use lib.ListN.{set}
use Rattle.stretches.specs.Rolling.{kept, place, oldest, sum_after, lines_after, judged, counted, after}
use Rattle.stretches.specs.declared.Tally.{Tally}
use Rattle.stretches.specs.declared.Kept.{Kept}

-- ---- the sum, where nothing wraps
pub sum_after_is : (s c o : ℕ) → o ≤ s + c → s + c - o < 2 ^ 32 → o < 2 ^ 32 → sum_after s o c ≡ s + c - o
unfolding sum_after
sum_after_is s c o h k l = omega arith

pub lines_after_is : (n : ℕ) → n + 1 < 2 ^ 32 → lines_after n ≡ n + 1
unfolding lines_after
lines_after_is n h = omega arith

-- ---- the worst stretch so far
and_no : (a b : Bool) → b ≡ false → (a && b) ≡ false
and_no true b e = e
and_no false b e = refl

no_and : (a b : Bool) → a ≡ false → (a && b) ≡ false
no_and a b e = ap (λ (t : Bool). t && b) e

module _ (p : Tally) (lines sum : ℕ) where
  -- a larger sum
  pub larger : stretch ≤ lines → p.largest < sum → judged p lines sum ≡ record { lines = lines; sum = sum; largest = sum; first = lines - stretch + first_number }
  unfolding judged
  larger h k = choose_true _ _ (and_true _ _ (le-leb stretch lines h) (lt-ltb p.largest sum k))

  -- one that is not larger
  pub not_larger : sum ≤ p.largest → judged p lines sum ≡ record { lines = lines; sum = sum; largest = p.largest; first = p.first }
  unfolding judged
  not_larger k = choose_false _ _ (and_no (leb stretch lines) _ (le-ltb p.largest sum k))

  -- no stretch ends before the thousandth line
  pub none_ended : lines < stretch → judged p lines sum ≡ record { lines = lines; sum = sum; largest = p.largest; first = p.first }
  unfolding judged
  none_ended h = choose_false _ _ (no_and _ _ (lt-leb stretch lines h))

  pub judged_lines : (judged p lines sum).lines ≡ lines
  unfolding judged
  judged_lines = by_test (λ (r : Tally). r.lines ≡ lines) (leb stretch lines && ltb p.largest sum) (λ e. refl) (λ e. refl)

  pub judged_sum : (judged p lines sum).sum ≡ sum
  unfolding judged
  judged_sum = by_test (λ (r : Tally). r.sum ≡ sum) (leb stretch lines && ltb p.largest sum) (λ e. refl) (λ e. refl)

-- the parts of a step
pub counted_is : (p : Tally) (o c lines sum : ℕ) (r : Tally) → lines ≡ (p.lines + 1) % 2 ^ 32 → sum ≡ sum_after p.sum o c → r ≡ judged p lines sum → r ≡ counted p o c
unfolding counted lines_after
counted_is p o c lines sum r e f g = g ∙ ap (λ (n : ℕ). judged p n sum) e ∙ ap (judged p ((p.lines + 1) % 2 ^ 32)) f

pub after_is : (s : Kept) (c lines sum : ℕ) (p : Tally) → lines ≡ (s.tally.lines + 1) % 2 ^ 32 → sum ≡ sum_after s.tally.sum (oldest s.last s.tally) c
    → p ≡ judged s.tally lines sum → kept (set s.last (place s.tally.lines) c) p ≡ after s c
after_is s c lines sum p e f g = ap (kept (set s.last (place s.tally.lines) c)) (counted_is s.tally (oldest s.last s.tally) c lines sum p e f g)

-- a step where nothing wraps
pub counted_fits : (p : Tally) (o c s : ℕ) → p.lines + 1 < 2 ^ 32 → o + s ≡ p.sum + c → s < 2 ^ 32 → o < 2 ^ 32 → counted p o c ≡ judged p (p.lines + 1) s
unfolding counted
counted_fits p o c s h e k l =
    let f : sum_after p.sum o c ≡ s = sum_after_is p.sum c o (omega arith) (omega arith) l ∙ (let q : p.sum + c - o ≡ s = omega arith in q) in
    ap (λ (n : ℕ). judged p n (sum_after p.sum o c)) (lines_after_is p.lines h) ∙ ap (judged p (p.lines + 1)) f

pub counted_lines : (p : Tally) (o c : ℕ) → p.lines + 1 < 2 ^ 32 → (counted p o c).lines ≡ p.lines + 1
unfolding counted
counted_lines p o c h = judged_lines p (lines_after p.lines) (sum_after p.sum o c) ∙ lines_after_is p.lines h
