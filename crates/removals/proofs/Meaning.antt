-- What the answer says in the request's words: a line removed from the list, and what is left of it played. Each answer is right of
-- one kind of script, and the right one is given. Assumes nothing.
use mathlib.Core.Bool.{Bool, true, false, not}
use mathlib.Core.List.{List, [], ◌∷◌, ◌++◌}
use mathlib.Core.Logic.{◌⊎◌, inl, inr}
use mathlib.Core.Path.{◌≡◌, refl, sym, ap, ap₂, ◌∙◌}
use Prim.Native.Nat.{ℕ, zero, suc, ◌+◌, ◌-◌, ◌≤◌, ◌<◌}
use native.Mathlib.Omega.{arith}
use borrow.Author.Tests.{ltb-true, ltb-false}
use lib.Dec.{ltb}
use lib.ListN.{length, take, drop, length-append}
use Rattle.std.specs.Prelude.{Option, Some, None, Ok, Err}
use lib.Seq.{split_at, length-take-le}
use Rattle.base.proofs.Choosing.{never, by_test, and_left, and_right, and_true, or_cases, or_left_false, or_right_false}
use Rattle.console.specs.Lines.{lines_of}
use Rattle.rules.specs.State.{running}
use Rattle.script_lines.specs.Doing.{script_module}
use Rattle.script_lines.specs.Forms.{line_of}
use Rattle.removals.specs.Removals.{after_lines, ends_in_fallback, is_frame, line_at, without, matters, smallest, Which, which_line, most_lines, most_bytes, is_long, which_of}
use Rattle.removals.specs.declared.searching.NoSearch.TheVariants.{Long, Fallback}
use Rattle.removals.proofs.Whole.{line_here, others_here}

-- ---- the words
-- the module after these lines, from power-up, is in RUN
abbrev pub runs : List (List ℕ) → Bool
runs ls = running (after_lines script_module ls)

-- the line with number n is a frame, and without it the others, as they stand before and after it, end in fallback
pub record Matters (ls : List (List ℕ)) (n : ℕ) : Type 0 where
  pub before : List (List ℕ)
  pub line : List ℕ
  pub after : List (List ℕ)
  pub split : ls ≡ before ++ (line ∷ after)
  pub number : n ≡ length before + 1
  pub brings : is_frame (line_of line) ≡ true
  pub falls : runs (before ++ after) ≡ false

-- what each answer says of lines that are not too many
abbrev pub Means : List (List ℕ) → Which → Type 0
Means ls (Err Long) = ⊥
Means ls (Err Fallback) = runs ls ≡ false
Means ls (Ok (Some n)) = (runs ls ≡ true) × Matters ls n × ((m : ℕ) → m < n → Matters ls m → ⊥)
Means ls (Ok None) = (runs ls ≡ true) × ((m : ℕ) → Matters ls m → ⊥)

-- and of the bytes of a script
abbrev pub Fits : List ℕ → Type 0
Fits input = (length input ≤ most_bytes) × (length (lines_of input) ≤ most_lines)

abbrev pub Says : List ℕ → Which → Type 0
Says input (Err Long) = (most_bytes < length input) ⊎ (most_lines < length (lines_of input))
Says input (Err Fallback) = Fits input × Means (lines_of input) (Err Fallback)
Says input (Ok (Some n)) = Fits input × Means (lines_of input) (Ok (Some n))
Says input (Ok None) = Fits input × Means (lines_of input) (Ok None)

-- ---- the test of a line says that it matters
tested : (ls : List (List ℕ)) (n : ℕ) → Matters ls n → matters ls n ≡ true
unfolding matters
tested ls n x =
    let e : matters ls n ≡ matters (x.before ++ (x.line ∷ x.after)) (length x.before + 1) = ap₂ matters x.split x.number in
    e ∙ and_true _ _ (ap (λ (l : List ℕ). is_frame (line_of l)) (line_here x.before x.line x.after) ∙ x.brings) (ap ends_in_fallback (others_here x.before x.line x.after) ∙ ap not x.falls)

not_not : (b : Bool) → not b ≡ true → b ≡ false
not_not true e = sym e
not_not false e = refl

from_test : (ls : List (List ℕ)) (n : ℕ) → 1 ≤ n → n ≤ length ls → matters ls n ≡ true → Matters ls n
unfolding matters
from_test ls n h k e =
    let s : suc (n - 1) ≡ n = omega arith in
    record {
      before = take (n - 1) ls;
      line = line_at n ls;
      after = drop n ls;
      split = split_at ls (n - 1) [] (omega arith) ∙ ap (λ (i : ℕ). take (n - 1) ls ++ (line_at n ls ∷ drop i ls)) s;
      number = omega (arith, length-take-le (n - 1) ls (omega arith));
      brings = and_left (is_frame (line_of (line_at n ls))) (ends_in_fallback (without n ls)) e;
      falls = not_not (runs (without n ls)) (and_right (is_frame (line_of (line_at n ls))) (ends_in_fallback (without n ls)) e);
    }

within : (ls : List (List ℕ)) (n : ℕ) → Matters ls n → (1 ≤ n) × (n < 1 + length ls)
within ls n x = (omega (arith, x.number), omega (arith, x.number, ap length x.split, length-append x.before (x.line ∷ x.after)))

untested : (ls : List (List ℕ)) (n : ℕ) → matters ls n ≡ false → Matters ls n → ⊥
untested ls n e x = never (sym e ∙ tested ls n x)

-- ---- the smallest number that passes a test
abbrev Least : (ℕ → Bool) → ℕ → ℕ → Option ℕ → Type 0
Least test n count (Some k) = (n ≤ k) × (k < n + count) × (test k ≡ true) × ((m : ℕ) → n ≤ m → m < k → test m ≡ false)
Least test n count None = (m : ℕ) → n ≤ m → m < n + count → test m ≡ false

-- a number in front that does not pass
least_more : (test : ℕ → Bool) (n count : ℕ) (w : Option ℕ) → test n ≡ false → Least test (n + 1) count w → Least test n (suc count) w
least_more test n count (Some k) e x = (omega (arith, x.0), omega (arith, x.1), x.2, λ m p q. by m p q (ltb n m) refl)
  where
    by : (m : ℕ) → n ≤ m → m < k → (t : Bool) → ltb n m ≡ t → test m ≡ false
    by m p q true t = x.3 m (omega (arith, ltb-true n m t)) q
    by m p q false t = let z : m ≡ n = omega (arith, ltb-false n m t) in ap test z ∙ e
least_more test n count None e x = λ m p q. by m p q (ltb n m) refl
  where
    by : (m : ℕ) → n ≤ m → m < n + suc count → (t : Bool) → ltb n m ≡ t → test m ≡ false
    by m p q true t = x m (omega (arith, ltb-true n m t)) (omega arith)
    by m p q false t = let z : m ≡ n = omega (arith, ltb-false n m t) in ap test z ∙ e

least : (test : ℕ → Bool) (n count : ℕ) → Least test n count (smallest test n count)
unfolding smallest
least test n zero = λ m p q. absurd (omega arith)
least test n (suc count) =
    by_test (Least test n (suc count)) (test n) (λ e. (omega arith, omega arith, e, λ m p q. absurd (omega arith)))
    (λ e. least_more test n count (smallest test (n + 1) count) e (least test (n + 1) count))

-- ---- the answer is right
found : (ls : List (List ℕ)) (w : Option ℕ) → runs ls ≡ true → Least (matters ls) 1 (length ls) w → Means ls (Ok w)
found ls (Some n) r x =
    (r, from_test ls n x.0 (omega (arith, x.1)) x.2, λ m p y. untested ls m (x.3 m (within ls m y).0 p) y)
found ls None r x = (r, λ m y. untested ls m (x m (within ls m y).0 (within ls m y).1) y)

not_false : (b : Bool) → not b ≡ false → b ≡ true
not_false true e = refl
not_false false e = sym e

pub which_means : (ls : List (List ℕ)) → Means ls (which_line ls)
unfolding which_line
which_means ls =
    by_test (Means ls) (ends_in_fallback ls) (λ e. not_not _ e) (λ e. found ls (smallest (matters ls) 1 (length ls)) (not_false _ e) (least (matters ls) 1 (length ls)))

-- ---- and no other answer is
no_both : {P : Type 0} (b : Bool) → b ≡ true → b ≡ false → P
no_both b e f = never (sym f ∙ e)

same_number : (ls : List (List ℕ)) (n k : ℕ) → Means ls (Ok (Some n)) → Means ls (Ok (Some k)) → n ≡ k
same_number ls n k x y = by (ltb n k) refl (ltb k n) refl
  where
    by : (t : Bool) → ltb n k ≡ t → (u : Bool) → ltb k n ≡ u → n ≡ k
    by true t u v = absurd (y.2 n (ltb-true n k t) x.1)
    by false t true v = absurd (x.2 k (ltb-true k n v) y.1)
    by false t false v = omega (arith, ltb-false n k t, ltb-false k n v)

pub one_means : (ls : List (List ℕ)) (v w : Which) → Means ls v → Means ls w → v ≡ w
one_means ls (Err Long) w x y = absurd x
one_means ls (Err Fallback) (Err Long) x y = absurd y
one_means ls (Err Fallback) (Err Fallback) x y = refl
one_means ls (Err Fallback) (Ok (Some k)) x y = no_both _ y.0 x
one_means ls (Err Fallback) (Ok None) x y = no_both _ y.0 x
one_means ls (Ok (Some n)) (Err Long) x y = absurd y
one_means ls (Ok (Some n)) (Err Fallback) x y = no_both _ x.0 y
one_means ls (Ok (Some n)) (Ok (Some k)) x y = ap (λ (m : ℕ). Ok (Some m)) (same_number ls n k x y)
one_means ls (Ok (Some n)) (Ok None) x y = absurd (y.1 n x.1)
one_means ls (Ok None) (Err Long) x y = absurd y
one_means ls (Ok None) (Err Fallback) x y = no_both _ x.0 y
one_means ls (Ok None) (Ok (Some k)) x y = absurd (x.1 k y.1)
one_means ls (Ok None) (Ok None) x y = refl

-- ---- with the limits
-- THE MEANING: the answer to the bytes of a script is right, and it is the only one
fit_says : (input : List ℕ) (w : Which) → Fits input → Means (lines_of input) w → Says input w
fit_says input (Err Long) f x = absurd x
fit_says input (Err Fallback) f x = (f, x)
fit_says input (Ok (Some n)) f x = (f, x)
fit_says input (Ok None) f x = (f, x)

pub which_says : (input : List ℕ) → Says input (which_of input)
unfolding which_of
which_says input =
    by_test (Says input) (is_long input) (λ e. or_cases (ltb most_bytes (length input)) _ e (λ t. inl (ltb-true _ _ t)) (λ t. inr (ltb-true _ _ t)))
    (λ e.
    let b : ltb most_bytes (length input) ≡ false = or_left_false _ _ e in
    let l : ltb most_lines (length (lines_of input)) ≡ false = or_right_false (ltb most_bytes (length input)) _ e in
    fit_says input (which_line (lines_of input)) (ltb-false _ _ b, ltb-false _ _ l) (which_means (lines_of input)))

long_unfit : {P : Type 0} (input : List ℕ) → Says input (Err Long) → Fits input → P
long_unfit input (inl x) f = absurd (omega (arith, f.0))
long_unfit input (inr x) f = absurd (omega (arith, f.1))

pub one_says : (input : List ℕ) (v w : Which) → Says input v → Says input w → v ≡ w
one_says input (Err Long) (Err Long) x y = refl
one_says input (Err Long) (Err Fallback) x y = long_unfit input x y.0
one_says input (Err Long) (Ok (Some k)) x y = long_unfit input x y.0
one_says input (Err Long) (Ok None) x y = long_unfit input x y.0
one_says input (Err Fallback) (Err Long) x y = long_unfit input y x.0
one_says input (Err Fallback) (Err Fallback) x y = refl
one_says input (Err Fallback) (Ok (Some k)) x y = one_means (lines_of input) (Err Fallback) (Ok (Some k)) x.1 y.1
one_says input (Err Fallback) (Ok None) x y = one_means (lines_of input) (Err Fallback) (Ok None) x.1 y.1
one_says input (Ok (Some n)) (Err Long) x y = long_unfit input y x.0
one_says input (Ok (Some n)) (Err Fallback) x y = one_means (lines_of input) (Ok (Some n)) (Err Fallback) x.1 y.1
one_says input (Ok (Some n)) (Ok (Some k)) x y = one_means (lines_of input) (Ok (Some n)) (Ok (Some k)) x.1 y.1
one_says input (Ok (Some n)) (Ok None) x y = one_means (lines_of input) (Ok (Some n)) (Ok None) x.1 y.1
one_says input (Ok None) (Err Long) x y = long_unfit input y x.0
one_says input (Ok None) (Err Fallback) x y = one_means (lines_of input) (Ok None) (Err Fallback) x.1 y.1
one_says input (Ok None) (Ok (Some k)) x y = one_means (lines_of input) (Ok None) (Ok (Some k)) x.1 y.1
one_says input (Ok None) (Ok None) x y = refl
