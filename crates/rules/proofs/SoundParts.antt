-- The test for soundness passes exactly where the parts hold. Nothing above this looks into the test. Assumes nothing.
use mathlib.Core.Path.{◌≡◌, refl, sym, ap, ◌∙◌}
use mathlib.Core.Bool.{Bool, true, not, ◌&&◌, ◌||◌, beq}
use mathlib.Core.List.{List}
use mathlib.Core.Logic.{◌⊎◌, inl, inr, ⊎_elim}
use Prim.Native.Nat.{ℕ, zero, suc, ◌+◌, ◌*◌, ◌≤◌, ◌<◌}
use native.Mathlib.Omega.{arith}
use borrow.Author.Tests.{eqb-true, eqb-false, eq-eqb, ne_eqb, ltb-true, lt-ltb, leb-true, le-leb, not-true}
use lib.Dec.{eqb, leb, ltb}
use lib.ListN.{get_or}
use Rattle.base.proofs.Choosing.{and_left, and_right, and_true, or_first, or_second, or_cases}
use Rattle.base.proofs.Facts.{not_zero, zero_not, either_of, of_either, same_test, test_same}
use Rattle.base.proofs.Joined.{four_parts, four_true, six_parts, six_true}
use Rattle.base.proofs.Choosing.{and_parts}
use Rattle.rules.specs.Assignments.{assignable}
use Rattle.rules.specs.Fallback.{released, withheld}
use Rattle.rules.specs.Fixed.{lighting_limit, doors_limit, is_limit, limit_of, fits}
use Rattle.rules.specs.Grounds.{is_ground}
use Rattle.rules.specs.Registers.{typ_at, tid_at, sid_at, out_rep, tcyc, cnf_rep, cnf_cyc, ground_at, outputs_at, image, low_number}
use Rattle.rules.specs.Sound.{settings_sound, sources_sound, counters_sound, outputs_zero, run_sound, fallback_sound, sound}
use Rattle.rules.specs.Sources.{holds, distinct, below24, is_recorded, sid_of}
use Rattle.rules.specs.State.{in_run, in_fallback, is_heard, unheard, is_marked, unmarked, nobody}
use Rattle.rules.specs.declared.Agent.{Agent}
use Rattle.rules.specs.declared.Fixed.{Fixed}
use Rattle.rules.proofs.Parts.{mode_bits, Settings, Sources, Named, LastIs, Running, Resting, ModeParts, FixedParts, SoundParts}
use Rattle.rules.proofs.Recorded.{last_or, distinct_each, each_distinct, below_each, each_below}

-- ---- the outputs
outputs_each : (r : List ℕ) (n : ℕ) → outputs_zero r n ≡ true → (i : ℕ) → i < n → get_or r (outputs_at + i) 0 ≡ 0
unfolding outputs_zero
outputs_each r zero e i h = absurd (omega arith)
outputs_each r (suc n) e i h =
    last_or n i h
    (λ p. ap (λ (k : ℕ). get_or r (outputs_at + k) 0) p
    ∙ eqb-true (get_or r (outputs_at + n) 0) 0 (and_right (outputs_zero r n) (eqb (get_or r (outputs_at + n) 0) 0) e))
    (λ p. outputs_each r n (and_left (outputs_zero r n) (eqb (get_or r (outputs_at + n) 0) 0) e) i p)

each_output : (r : List ℕ) (n : ℕ) → ((i : ℕ) → i < n → get_or r (outputs_at + i) 0 ≡ 0) → outputs_zero r n ≡ true
unfolding outputs_zero
each_output r zero f = refl
each_output r (suc n) f =
    and_true (outputs_zero r n) (eqb (get_or r (outputs_at + n) 0) 0)
    (each_output r n (λ i p. f i (omega arith)))
    (eq-eqb (get_or r (outputs_at + n) 0) 0 (f n (omega arith)))

-- ---- what is fixed
pub fits_is : (f : Fixed) → fits f ≡ is_limit f.limit
unfolding fits
fits_is f = refl

pub fixed_of : (f : Fixed) → fits f ≡ true → FixedParts f
fixed_of f e = record {
  limit_is = either_of (eqb f.limit lighting_limit) (eqb f.limit doors_limit) (eqb-true f.limit lighting_limit) (eqb-true f.limit doors_limit) (sym (fits_is f) ∙ e);
}

pub of_fixed : (f : Fixed) → FixedParts f → fits f ≡ true
of_fixed f p =
    fits_is f
    ∙ of_either (eqb f.limit lighting_limit) (eqb f.limit doors_limit) (eq-eqb f.limit lighting_limit) (eq-eqb f.limit doors_limit) p.limit_is

module _ (a : Agent) where
  -- ---- what is read
  abbrev r : List ℕ
  r = a.regs

  abbrev t : ℕ
  t = get_or r tcyc 0

  abbrev n : ℕ
  n = get_or r cnf_cyc 0

  abbrev m : ℕ
  m = get_or r cnf_rep 0

  abbrev rep : ℕ
  rep = get_or r out_rep 0

  abbrev tid : ℕ
  tid = get_or r tid_at 0

  abbrev typ : ℕ
  typ = get_or r typ_at 0

  abbrev ground : ℕ
  ground = get_or r ground_at 0

  abbrev sid : ℕ
  sid = low_number r sid_at 3

  -- ---- settings
  abbrev rep_test : Bool
  rep_test = eqb rep released || eqb rep withheld

  abbrev tid_test : Bool
  tid_test = eqb tid 0x8F || assignable tid

  abbrev tests : Bool
  tests = not (eqb t 0) && not (eqb n 0) && not (eqb m 0) && rep_test && tid_test && eqb typ 0x82

  settings_of : settings_sound a ≡ true → Settings r × FixedParts a.fixed
  unfolding settings_sound
  settings_of e =
      let both = and_parts (tests && is_ground ground) (fits a.fixed) e in
      let most = and_parts tests (is_ground ground) both.0 in
      let w = six_parts (not (eqb t 0)) (not (eqb n 0)) (not (eqb m 0)) rep_test tid_test (eqb typ 0x82) most.0 in
      let s : Settings r = record {
        t_set = not_zero t w.0;
        n_set = not_zero n w.1;
        m_set = not_zero m w.2;
        rep_is = either_of (eqb rep released) (eqb rep withheld) (eqb-true rep released) (eqb-true rep withheld) w.3;
        tid_is = either_of (eqb tid 0x8F) (assignable tid) (eqb-true tid 0x8F) (λ h. h) w.4;
        typ_is = eqb-true typ 0x82 w.5;
        ground_is = most.1;
      } in
      (s, fixed_of a.fixed both.1)

  of_settings : Settings r → FixedParts a.fixed → settings_sound a ≡ true
  unfolding settings_sound
  of_settings s f =
      and_true (tests && is_ground ground) (fits a.fixed)
      (and_true tests (is_ground ground)
      (six_true (not (eqb t 0)) (not (eqb n 0)) (not (eqb m 0)) rep_test tid_test (eqb typ 0x82)
      (zero_not t s.t_set) (zero_not n s.n_set) (zero_not m s.m_set)
      (of_either (eqb rep released) (eqb rep withheld) (eq-eqb rep released) (eq-eqb rep withheld) s.rep_is)
      (of_either (eqb tid 0x8F) (assignable tid) (eq-eqb tid 0x8F) (λ h. h) s.tid_is)
      (eq-eqb typ 0x82 s.typ_is))
      s.ground_is)
      (of_fixed a.fixed f)

  -- ---- the recorded, and the SID
  abbrev name_test : Bool
  name_test = beq (eqb a.count 0) (eqb sid nobody)

  named_of : name_test ≡ true → Named r a.count
  named_of e =
      let both : eqb a.count 0 ≡ eqb sid nobody = same_test (eqb a.count 0) (eqb sid nobody) e in
      record {
        no_sid = λ h. eqb-true sid nobody (sym both ∙ eq-eqb a.count 0 h);
        no_source = λ h. eqb-true a.count 0 (both ∙ eq-eqb sid nobody h);
      }

  of_named : Named r a.count → name_test ≡ true
  of_named s =
      test_same (eqb a.count 0) (eqb sid nobody)
      (λ h. eq-eqb sid nobody (s.no_sid (eqb-true a.count 0 h)))
      (λ h. eq-eqb a.count 0 (s.no_source (eqb-true sid nobody h)))

  sources_of : sources_sound a ≡ true → Sources a.known a.count × Named r a.count
  unfolding sources_sound sid_of
  sources_of e =
      let w = four_parts (leb a.count 8) (distinct a.known a.count) (below24 a.known a.count) name_test e in
      let s : Sources a.known a.count = record {
        at_most_8 = leb-true a.count 8 w.0;
        all_differ = distinct_each a.known a.count w.1;
        all_below = below_each a.known a.count w.2;
      } in
      (s, named_of w.3)

  of_sources : Sources a.known a.count → Named r a.count → sources_sound a ≡ true
  unfolding sources_sound sid_of
  of_sources s e =
      four_true (leb a.count 8) (distinct a.known a.count) (below24 a.known a.count) name_test
      (le-leb a.count 8 s.at_most_8)
      (each_distinct a.known a.count s.all_differ)
      (each_below a.known a.count s.all_below)
      (of_named e)

  -- ---- counters and flags
  abbrev no_last : Bool
  no_last = eqb a.last nobody && eqb a.heard unheard

  abbrev last_test : Bool
  last_test = holds a.known a.count a.last || no_last

  abbrev heard_test : Bool
  heard_test = eqb a.heard is_heard || eqb a.heard unheard

  abbrev mark_test : Bool
  mark_test = eqb a.mark is_marked || eqb a.mark unmarked

  abbrev Last : Type 0
  Last = LastIs a.known a.count a.last a.heard

  abbrev Heard : Type 0
  Heard = (a.heard ≡ is_heard) ⊎ (a.heard ≡ unheard)

  abbrev Mark : Type 0
  Mark = (a.mark ≡ is_marked) ⊎ (a.mark ≡ unmarked)

  last_of : last_test ≡ true → Last
  last_of =
      either_of (holds a.known a.count a.last) no_last (λ h. h)
      (λ h. let w = and_parts (eqb a.last nobody) (eqb a.heard unheard) h in (eqb-true a.last nobody w.0, eqb-true a.heard unheard w.1))

  of_last : Last → last_test ≡ true
  of_last =
      of_either (holds a.known a.count a.last) no_last (λ h. h)
      (λ h. and_true (eqb a.last nobody) (eqb a.heard unheard) (eq-eqb a.last nobody h.0) (eq-eqb a.heard unheard h.1))

  heard_of : heard_test ≡ true → Heard
  heard_of = either_of (eqb a.heard is_heard) (eqb a.heard unheard) (eqb-true a.heard is_heard) (eqb-true a.heard unheard)

  of_heard : Heard → heard_test ≡ true
  of_heard = of_either (eqb a.heard is_heard) (eqb a.heard unheard) (eq-eqb a.heard is_heard) (eq-eqb a.heard unheard)

  mark_of : mark_test ≡ true → Mark
  mark_of = either_of (eqb a.mark is_marked) (eqb a.mark unmarked) (eqb-true a.mark is_marked) (eqb-true a.mark unmarked)

  of_mark : Mark → mark_test ≡ true
  of_mark = of_either (eqb a.mark is_marked) (eqb a.mark unmarked) (eq-eqb a.mark is_marked) (eq-eqb a.mark unmarked)

  abbrev counts : Bool
  counts = leb a.taken (limit_of a) && leb a.elapsed 254 && last_test && heard_test

  counters_of : counters_sound a ≡ true → (a.taken ≤ limit_of a) × (a.elapsed ≤ 254) × Last × Heard × Mark
  unfolding counters_sound is_recorded
  counters_of e =
      let both = and_parts counts mark_test e in
      let w = four_parts (leb a.taken (limit_of a)) (leb a.elapsed 254) last_test heard_test both.0 in
      (leb-true a.taken (limit_of a) w.0, leb-true a.elapsed 254 w.1, last_of w.2, heard_of w.3, mark_of both.1)

  of_counters : SoundParts a → counters_sound a ≡ true
  unfolding counters_sound is_recorded
  of_counters p =
      and_true counts mark_test
      (four_true (leb a.taken (limit_of a)) (leb a.elapsed 254) last_test heard_test
      (le-leb a.taken (limit_of a) p.k_most) (le-leb a.elapsed 254 p.e_most) (of_last p.last_is) (of_heard p.heard_is))
      (of_mark p.mark_is)

  -- ---- the two modes
  abbrev Runs : Type 0
  Runs = Running r a.silence a.idle a.last

  run_of : run_sound a ≡ true → (a.mode ≡ in_run) × Runs
  unfolding run_sound
  run_of e =
      let w =
      six_parts (eqb a.mode in_run) (eqb (mode_bits r) 0x00) (eqb rep released) (ltb a.silence (n * t)) (ltb a.idle (m * t)) (not (eqb a.last nobody)) e in
      let x : Runs = record {
        bits = eqb-true (mode_bits r) 0x00 w.1;
        rep_55 = eqb-true rep released w.2;
        s_below = ltb-true a.silence (n * t) w.3;
        q_below = ltb-true a.idle (m * t) w.4;
        has_last = eqb-false a.last nobody (not-true (eqb a.last nobody) w.5);
      } in
      (eqb-true a.mode in_run w.0, x)

  of_run : a.mode ≡ in_run → Runs → run_sound a ≡ true
  unfolding run_sound
  of_run e x =
      six_true (eqb a.mode in_run) (eqb (mode_bits r) 0x00) (eqb rep released) (ltb a.silence (n * t)) (ltb a.idle (m * t)) (not (eqb a.last nobody))
      (eq-eqb a.mode in_run e)
      (eq-eqb (mode_bits r) 0x00 x.bits)
      (eq-eqb rep released x.rep_55)
      (lt-ltb a.silence (n * t) x.s_below)
      (lt-ltb a.idle (m * t) x.q_below)
      (ap not (ne_eqb a.last nobody x.has_last))

  fallback_of : fallback_sound a ≡ true → (a.mode ≡ in_fallback) × Resting r a.idle
  unfolding fallback_sound
  fallback_of e =
      let w = four_parts (eqb a.mode in_fallback) (eqb (mode_bits r) 0x80) (eqb a.idle 0) (outputs_zero r image) e in
      let x : Resting r a.idle =
      record { bits = eqb-true (mode_bits r) 0x80 w.1; q_zero = eqb-true a.idle 0 w.2; outputs_zero_lem = outputs_each r image w.3 } in
      (eqb-true a.mode in_fallback w.0, x)

  of_fallback : a.mode ≡ in_fallback → Resting r a.idle → fallback_sound a ≡ true
  unfolding fallback_sound
  of_fallback e x =
      four_true (eqb a.mode in_fallback) (eqb (mode_bits r) 0x80) (eqb a.idle 0) (outputs_zero r image)
      (eq-eqb a.mode in_fallback e)
      (eq-eqb (mode_bits r) 0x80 x.bits)
      (eq-eqb a.idle 0 x.q_zero)
      (each_output r image x.outputs_zero_lem)

  abbrev Mode : Type 0
  Mode = ModeParts r a.silence a.idle a.last a.mode

  mode_of : (run_sound a || fallback_sound a) ≡ true → Mode
  mode_of e =
      or_cases (run_sound a) (fallback_sound a) e
      (λ h. let w = run_of h in record { mode_is = inl w.0; in_run_lem = λ e. w.1; in_fallback_lem = λ e. absurd (omega (arith, w.0, e)) })
      (λ h. let w = fallback_of h in record { mode_is = inr w.0; in_run_lem = λ e. absurd (omega (arith, w.0, e)); in_fallback_lem = λ e. w.1 })

  of_mode : Mode → (run_sound a || fallback_sound a) ≡ true
  of_mode p =
      ⊎_elim
      (λ e. or_first (run_sound a) (fallback_sound a) (of_run e (p.in_run_lem e)))
      (λ e. or_second (run_sound a) (fallback_sound a) (of_fallback e (p.in_fallback_lem e)))
      p.mode_is

  -- ---- the whole
  pub parts : sound a ≡ true → SoundParts a
  unfolding sound
  parts e =
      let w = four_parts (settings_sound a) (sources_sound a) (counters_sound a) (run_sound a || fallback_sound a) e in
      let both = settings_of w.0 in
      let s = sources_of w.1 in
      let c = counters_of w.2 in
      record {
        settings = both.0;
        sources = s.0;
        named = s.1;
        fixed = both.1;
        k_most = c.0;
        e_most = c.1;
        last_is = c.2;
        heard_is = c.3;
        mark_is = c.4;
        by_mode = mode_of w.3;
      }

  pub sound_of : SoundParts a → sound a ≡ true
  unfolding sound
  sound_of p =
      four_true (settings_sound a) (sources_sound a) (counters_sound a) (run_sound a || fallback_sound a)
      (of_settings p.settings p.fixed) (of_sources p.sources p.named) (of_counters p) (of_mode p.by_mode)
