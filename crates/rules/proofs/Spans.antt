-- Where a write into a span lies: at least one byte, from the span's first register at the earliest, up to its last.
-- Assumes nothing.
use mathlib.Core.Path.{◌≡◌, subst}
use mathlib.Core.Bool.{Bool, true, false, ◌&&◌}
use Prim.Native.Nat.{ℕ, ◌+◌, ◌≤◌}
use native.Mathlib.Omega.{arith}
use borrow.Author.Tests.{eqb-true, leb-true}
use lib.Dec.{eqb, leb}
use Rattle.base.specs.Choice.{within}
use Rattle.base.proofs.Choosing.{by_test, and_left, and_right, never}
use Rattle.rules.specs.Writes.{span_at, span_end, span_of}
use Rattle.rules.specs.declared.Span.{Span}
use Rattle.rules.specs.declared.Span.TheVariants.{Release, CycleTime, Limits, Counters, Config, Outputs, Outside}

-- the first register of a span
abbrev pub span_start : Span → ℕ
span_start Release = 0x17
span_start CycleTime = 0x18
span_start Limits = 0x1A
span_start Counters = 0x1E
span_start Config = 0x25
span_start Outputs = 0x80
span_start Outside = 0x00

-- n bytes from a register on lie in a span, at least one, or it is none
pub data Placed (add n : ℕ) : Span → Type 0 where
  inside : (s : Span) → 1 ≤ n → span_start s ≤ add → add + n ≤ span_end s → Placed add n s
  outside : Placed add n Outside

-- the register lies behind the start of its span
record From (add : ℕ) (s : Span) : Type 0 where
  low : span_start s ≤ add

within_low : (lo hi n : ℕ) → within lo hi n ≡ true → lo ≤ n
within_low lo hi n e = leb-true lo n (and_left (leb lo n) (leb n hi) e)

span_from : (add : ℕ) → From add (span_at add)
unfolding span_at
span_from add =
    by_test (From add) (eqb add 0x17) (λ e. record { low = omega (arith, eqb-true add 0x17 e) })
    (λ n1. by_test (From add) (eqb add 0x18) (λ e. record { low = omega (arith, eqb-true add 0x18 e) })
    (λ n2. by_test (From add) (within 0x1A 0x1D add) (λ e. record { low = within_low 0x1A 0x1D add e })
    (λ n3. by_test (From add) (within 0x1E 0x24 add) (λ e. record { low = within_low 0x1E 0x24 add e })
    (λ n4. by_test (From add) (eqb add 0x25) (λ e. record { low = omega (arith, eqb-true add 0x25 e) })
    (λ n5. by_test (From add) (within 0x80 0xBF add) (λ e. record { low = within_low 0x80 0xBF add e })
    (λ n6. record { low = omega arith }))))))

pub span_placed : (add n : ℕ) → Placed add n (span_of add n)
unfolding span_of
span_placed add n =
    by_test (Placed add n) (leb 1 n && leb (add + n) (span_end (span_at add)))
    (λ e. inside (span_at add)
    (leb-true 1 n (and_left (leb 1 n) (leb (add + n) (span_end (span_at add))) e))
    (span_from add).low
    (leb-true (add + n) (span_end (span_at add)) (and_right (leb 1 n) (leb (add + n) (span_end (span_at add))) e)))
    (λ e. outside)

-- ---- of a span by its name
abbrev pub is_span : Span → Bool
is_span Release = true
is_span CycleTime = true
is_span Limits = true
is_span Counters = true
is_span Config = true
is_span Outputs = true
is_span Outside = false

pub record InSpan (add n : ℕ) (s : Span) : Type 0 where
  pub some : 1 ≤ n
  pub low : span_start s ≤ add
  pub high : add + n ≤ span_end s

placed_in : {add n : ℕ} {s : Span} → Placed add n s → is_span s ≡ true → InSpan add n s
placed_in (inside s some low high) h = record { some = some; low = low; high = high }
placed_in outside h = never h

pub in_span : (add n : ℕ) (s : Span) → span_of add n ≡ s → is_span s ≡ true → InSpan add n s
in_span add n s e = subst (λ (s : Span). is_span s ≡ true → InSpan add n s) e (placed_in (span_placed add n))
