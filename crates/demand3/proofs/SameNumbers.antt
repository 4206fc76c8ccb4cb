-- The claim's numbers joined to the rules' own: a release order, an order to fall back, the grounds, an output write, the first SEQ, the limit of requests and the
-- width of the window mean the same in both. Assumes nothing.
use mathlib.Core.Bool.{Bool, true, false, ◌&&◌}
use mathlib.Core.List.{List}
use mathlib.Core.Path.{◌≡◌, refl, sym, ap, ◌∙◌, subst}
use Prim.Native.Nat.{ℕ, ◌+◌, ◌≤◌}
use native.Mathlib.Omega.{arith}
use borrow.Author.Tests.{eqb-true, eq-eqb, leb-true, le-leb}
use lib.Dec.{eqb, leb}
use lib.ListN.{length, get_or}
use Rattle.base.specs.Choice.{within}
use Rattle.base.proofs.Choosing.{never, choose_true, by_test, and_left, and_right, and_true}
use Rattle.rules.specs.Answers as Answers
use Rattle.rules.specs.Fallback.{released, withheld}
use Rattle.rules.specs.Fixed as Limit
use Rattle.rules.specs.Grounds as Grounds
use Rattle.rules.specs.Refusals.{leaves_all}
use Rattle.rules.specs.Registers as Registers
use Rattle.rules.specs.Requests as Requests
use Rattle.rules.specs.State as State
use Rattle.rules.specs.Window.{width}
use Rattle.rules.specs.Writes.{span_at, span_end, span_of}
use Rattle.rules.specs.declared.Fixed.{Fixed}
use Rattle.rules.specs.declared.Span.{Span}
use Rattle.rules.specs.declared.Span.TheVariants.{Release, CycleTime, Limits, Counters, Config, Outputs, Outside}
use Rattle.rules.proofs.SoundParts.{fits_is}
use Rattle.rules.proofs.Spans.{InSpan, in_span}
use Rattle.demand3.specs.Numbers.{in_run, in_fallback, tcyc, cnf_rep, cnf_cyc, ground_at, outputs_at, last_output, image, is_limit, most_skipped, window, no_ground, by_sync_silence, by_command_silence, by_wrong_cycle, by_order, by_window, accepted, cycle, outside_rules, unsound, outside_window, can_be_struck, is_accepted, first_seq, writes_release, writes_fallback, writes_within_outputs}

pub same_modes : (in_run ≡ State.in_run) × (in_fallback ≡ State.in_fallback)
same_modes = (refl, refl)

pub same_registers : (tcyc ≡ Registers.tcyc) × (cnf_rep ≡ Registers.cnf_rep) × (cnf_cyc ≡ Registers.cnf_cyc) × (ground_at ≡ Registers.ground_at) × (outputs_at ≡ Registers.outputs_at) × (image ≡ Registers.image)
same_registers = (refl, refl, refl, refl, refl, refl)

pub same_grounds : (no_ground ≡ Grounds.no_ground) × (by_sync_silence ≡ Grounds.by_sync_silence) × (by_command_silence ≡ Grounds.by_command_silence) × (by_wrong_cycle ≡ Grounds.by_wrong_cycle) × (by_order ≡ Grounds.by_order) × (by_window ≡ Grounds.by_window)
same_grounds = (refl, refl, refl, refl, refl, refl)

pub same_answers : (accepted ≡ Answers.accepted) × (cycle ≡ Answers.cycle) × (outside_rules ≡ Answers.outside_rules) × (unsound ≡ Answers.unsound) × (outside_window ≡ Answers.outside_window)
same_answers = (refl, refl, refl, refl, refl)

pub same_accepted : (n : ℕ) → is_accepted n ≡ Answers.is_accepted n
same_accepted n = refl

pub same_struck : (n : ℕ) → can_be_struck n ≡ leaves_all n
same_struck n = refl

pub same_first_seq : (cyc : ℕ) → first_seq cyc ≡ Requests.first_seq cyc
same_first_seq cyc = refl

pub same_limit : (fixed : Fixed) → is_limit fixed.limit ≡ Limit.fits fixed
same_limit fixed = sym (fits_is fixed)

pub same_most_skipped : most_skipped ≡ Requests.most_skipped
same_most_skipped = refl

pub same_window : (t : ℕ) → window t ≡ width t
unfolding width
same_window t = refl

-- ---- the span of such a write

release_at : (add : ℕ) → add ≡ 0x17 → span_at add ≡ Release
unfolding span_at
release_at add e = choose_true _ _ (eq-eqb add 0x17 e)

outputs_at_lem : (add : ℕ) → outputs_at ≤ add → add ≤ last_output → span_at add ≡ Outputs
unfolding span_at
outputs_at_lem add low high =
    let P : Span → Type 0 = λ s. s ≡ Outputs in
    by_test P (eqb add 0x17) (λ e. absurd (omega (arith, eqb-true add 0x17 e)))
    (λ e. by_test P (eqb add 0x18) (λ e. absurd (omega (arith, eqb-true add 0x18 e)))
    (λ e. by_test P (within 0x1A 0x1D add) (λ e. absurd (omega (arith, leb-true add 0x1D (and_right (leb 0x1A add) _ e))))
    (λ e. by_test P (within 0x1E 0x24 add) (λ e. absurd (omega (arith, leb-true add 0x24 (and_right (leb 0x1E add) _ e))))
    (λ e. by_test P (eqb add 0x25) (λ e. absurd (omega (arith, eqb-true add 0x25 e)))
    (λ e. choose_true Outputs Outside (and_true _ _ (le-leb 0x80 add low) (le-leb add 0xBF high)))))))

span_is : (add n : ℕ) (span : Span) → span_at add ≡ span → 1 ≤ n → add + n ≤ span_end span → span_of add n ≡ span
unfolding span_of
span_is add n span e some high =
    choose_true (span_at add) Outside
    (and_true _ _ (le-leb 1 n some) (le-leb (add + n) (span_end (span_at add)) (subst (λ (s : Span). add + n ≤ span_end s) (sym e) high)))
    ∙ e

-- one byte to 17h, and only that, lies in the span of the release
pub release_span : (add n : ℕ) → add ≡ 0x17 → n ≡ 1 → span_of add n ≡ Release
release_span add n at one = span_is add n Release (release_at add at) (omega arith) (omega arith)

pub span_release : (add n : ℕ) → span_of add n ≡ Release → (add ≡ 0x17) × (n ≡ 1)
span_release add n e =
    let p : InSpan add n Release = in_span add n Release e refl in
    (omega (arith, p.some, p.low, p.high), omega (arith, p.some, p.low, p.high))

-- at least one byte within 80h to BFh, and only that, lies in the span of the outputs
pub outputs_span : (add n : ℕ) → 1 ≤ n → outputs_at ≤ add → add + n ≤ last_output + 1 → span_of add n ≡ Outputs
outputs_span add n some low high = span_is add n Outputs (outputs_at_lem add low (omega arith)) some high

pub span_outputs : (add n : ℕ) → span_of add n ≡ Outputs → (1 ≤ n) × (outputs_at ≤ add) × (add + n ≤ last_output + 1)
span_outputs add n e = let p : InSpan add n Outputs = in_span add n Outputs e refl in (p.some, p.low, p.high)

-- ---- as tests

abbrev pub is_release : Span → Bool
is_release Release = true
is_release CycleTime = false
is_release Limits = false
is_release Counters = false
is_release Config = false
is_release Outputs = false
is_release Outside = false

abbrev pub is_outputs : Span → Bool
is_outputs Release = false
is_outputs CycleTime = false
is_outputs Limits = false
is_outputs Counters = false
is_outputs Config = false
is_outputs Outputs = true
is_outputs Outside = false

only_release : (s : Span) → is_release s ≡ true → s ≡ Release
only_release Release h = refl
only_release CycleTime h = never h
only_release Limits h = never h
only_release Counters h = never h
only_release Config h = never h
only_release Outputs h = never h
only_release Outside h = never h

only_outputs : (s : Span) → is_outputs s ≡ true → s ≡ Outputs
only_outputs Release h = never h
only_outputs CycleTime h = never h
only_outputs Limits h = never h
only_outputs Counters h = never h
only_outputs Config h = never h
only_outputs Outputs h = refl
only_outputs Outside h = never h

same_test : (p q : Bool) → (p ≡ true → q ≡ true) → (q ≡ true → p ≡ true) → p ≡ q
same_test true q f g = sym (f refl)
same_test false true f g = g refl
same_test false false f g = refl

module _ (add : ℕ) (xs : List ℕ) where
  -- a write of x to 17h
  order_of : (x : ℕ) → (eqb add 0x17 && eqb (length xs) 1 && eqb (get_or xs 0 0) x) ≡ (is_release (span_of add (length xs)) && eqb (get_or xs 0 0) x)
  order_of x =
      same_test (eqb add 0x17 && eqb (length xs) 1 && eqb (get_or xs 0 0) x) (is_release (span_of add (length xs)) && eqb (get_or xs 0 0) x)
      (λ h. let both = and_left (eqb add 0x17 && eqb (length xs) 1) _ h in
      and_true _ _
      (ap is_release (release_span add (length xs) (eqb-true add 0x17 (and_left (eqb add 0x17) _ both)) (eqb-true (length xs) 1 (and_right (eqb add 0x17) _ both))))
      (and_right (eqb add 0x17 && eqb (length xs) 1) _ h))
      (λ h. let p = span_release add (length xs) (only_release (span_of add (length xs)) (and_left (is_release (span_of add (length xs))) _ h)) in
      and_true _ _ (and_true _ _ (eq-eqb add 0x17 p.0) (eq-eqb (length xs) 1 p.1)) (and_right (is_release (span_of add (length xs))) _ h))

  pub release_order : writes_release add xs ≡ (is_release (span_of add (length xs)) && eqb (get_or xs 0 0) released)
  release_order = order_of released

  pub fallback_order : writes_fallback add xs ≡ (is_release (span_of add (length xs)) && eqb (get_or xs 0 0) withheld)
  fallback_order = order_of withheld

  pub output_write : writes_within_outputs add xs ≡ is_outputs (span_of add (length xs))
  output_write =
      same_test (writes_within_outputs add xs) (is_outputs (span_of add (length xs)))
      (λ h. let both = and_left (leb 1 (length xs) && leb outputs_at add) _ h in
      ap is_outputs
      (outputs_span add (length xs) (leb-true 1 (length xs) (and_left (leb 1 (length xs)) _ both)) (leb-true outputs_at add (and_right (leb 1 (length xs)) _ both))
      (leb-true (add + length xs) (last_output + 1) (and_right (leb 1 (length xs) && leb outputs_at add) _ h))))
      (λ h. let p = span_outputs add (length xs) (only_outputs (span_of add (length xs)) h) in
      and_true _ _ (and_true _ _ (le-leb 1 (length xs) p.0) (le-leb outputs_at add p.1)) (le-leb (add + length xs) (last_output + 1) p.2))
