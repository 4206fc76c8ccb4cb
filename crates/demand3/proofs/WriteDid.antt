-- What a write that is taken does: by the span in which it lies. Assumes nothing.
use mathlib.Core.Bool.{Bool, true, false, not, ◌&&◌}
use mathlib.Core.Path.{◌≡◌, refl, sym, ap, ◌∙◌}
use mathlib.Core.List.{List}
use Prim.Native.Nat.{ℕ, ◌+◌, ◌-◌, ◌≤◌}
use native.Mathlib.Omega.{arith}
use borrow.Author.Tests.{eqb-true, eqb-false, le-ltb, not-true}
use lib.Dec.{eqb, leb}
use lib.ListN.{length, get_or}
use Rattle.base.proofs.Choosing.{by_test, and_left, and_true, or_cases}
use Rattle.rules.specs.Fallback.{released, withheld}
use Rattle.rules.specs.Grounds.{by_order}
use Rattle.rules.specs.Good.{Good}
use Rattle.rules.specs.Registers.{outputs_at}
use Rattle.rules.specs.Requests.{taken_at, writes}
use Rattle.rules.specs.State.{in_run, running, t_of, n_of, m_of, with_idle, store_all}
use Rattle.rules.specs.Writes.{span_of, allowed, written}
use Rattle.rules.specs.declared.Agent.{Agent}
use Rattle.rules.specs.declared.Span.{Span}
use Rattle.rules.specs.declared.Span.TheVariants.{Release, CycleTime, Limits, Counters, Config, Outputs, Outside}
use Rattle.rules.proofs.MarkSteps.{skip_marks}
use Rattle.rules.proofs.Spans.{InSpan, in_span}
use Rattle.demand3.specs.Events.{a_request, orders_release, orders_fallback, writes_outputs, Request}
use Rattle.demand3.specs.Numbers.{is_accepted}
use Rattle.demand3.specs.Terminals.{covers}
use Rattle.demand3.proofs.AgentViews.{agree_trans, apart_view, marks_view, marks_size, fallen_view, release_view, limits_view, outputs_view}
use Rattle.demand3.proofs.AgreeingViews.{takes_agree, releases_agree, limits_agree, outputs_agree}
use Rattle.demand3.proofs.Effects.{Told, fallen, takes, limits, releases, outputs, InReach, LaidWrite, Spares, asked, configured, released_by, withdrawn, output}
use Rattle.demand3.proofs.RegisterViews.{apart_middle}
use Rattle.demand3.proofs.SameNumbers.{is_release, is_outputs, release_order, fallback_order, output_write}
use Rattle.demand3.proofs.ViewFacts.{two_modes}
use Rattle.demand3.proofs.Steps.{Leaves}
use Rattle.demand3.proofs.Views.{View, view_of, Agree}

-- a request at the distance d taken: the numbers skipped are not seen, only k is
pub taken_view : (d : ℕ) (a : Agent) → Agree (view_of (taken_at d a)) (takes d (view_of a))
taken_view d a = takes_agree d (marks_view (skip_marks a (d - a.taken)))

taken_size : (d : ℕ) (a : Agent) → Good a → length (taken_at d a).regs ≡ 256
taken_size d a good = marks_size (skip_marks a (d - a.taken)) ∙ good.registers

ends_before : (a b : Bool) → b ≡ false → (a && b) ≡ false
ends_before true b e = e
ends_before false b e = refl

module _ (a : Agent) (good : Good a) (call : Told) (n : ℕ) (ok : is_accepted n ≡ true) (r : Request) (done : call.means n ≡ a_request r)
    {d : ℕ} (reach : InReach (view_of a) r d) (add : ℕ) (xs : List ℕ) (is : r.ask ≡ writes add xs)
    (laid : LaidWrite call.call r add xs) where
  -- the agent that the write finds
  abbrev found : Agent
  found = taken_at d a

  abbrev taking : View
  taking = takes d (view_of a)

  found_view : Agree (view_of found) taking
  found_view = taken_view d a

  outputs_of : (span : Span) → span_of add (length xs) ≡ span → writes_outputs r.ask ≡ is_outputs span
  outputs_of span e = ap writes_outputs is ∙ output_write add xs ∙ ap is_outputs e

  -- a write that ends below 26h
  spared : (span : Span) → span_of add (length xs) ≡ span → is_outputs span ≡ false → add + length xs ≤ 0x26 → Spares r
  spared span e o high = record {
    no_write = outputs_of span e ∙ o;
    none_covered = λ i b. ap (covers i) is ∙ ends_before (leb add (outputs_at + i)) _ (le-ltb (outputs_at + i) (add + length xs) (omega arith));
  }

  release_of : span_of add (length xs) ≡ Release → eqb (get_or xs 0 0) released ≡ true → orders_release r.ask ≡ true
  release_of e o = ap orders_release is ∙ release_order add xs ∙ and_true _ _ (ap is_release e) o

  fallback_of : span_of add (length xs) ≡ Release → eqb (get_or xs 0 0) withheld ≡ true → orders_fallback r.ask ≡ true
  fallback_of e o = ap orders_fallback is ∙ fallback_order add xs ∙ and_true _ _ (ap is_release e) o

  -- 17h: 55h releases, AAh means fallback
  release_did : span_of add (length xs) ≡ Release → allowed Release found add xs ≡ true → Leaves a call n (written Release found add xs)
  release_did e h =
      let p : InSpan add (length xs) Release = in_span add (length xs) Release e refl in
      by_test (Leaves a call n) (eqb (get_or xs 0 0) withheld)
      (λ w. record {
        view = fallen by_order taking;
        did = withdrawn r done reach (spared Release e refl (omega arith)) (fallback_of e w);
        shows = fallen_view by_order found taking (taken_size d a good) found_view;
      })
      (λ w. or_cases (eqb (get_or xs 0 0) released) (eqb (get_or xs 0 0) withheld) h
      (λ o. record {
        view = releases taking;
        did = released_by r done reach (spared Release e refl (omega arith)) (release_of e o);
        shows = agree_trans (release_view found add xs (taken_size d a good) (omega arith) (omega arith) (eqb-true (get_or xs 0 0) released o))
            (releases_agree found_view);
      })
      (λ o. absurd (let z : ◌≡◌ {A = ℕ} 0 1 = cc in omega arith)))

  -- 18h, and 1Ah to 1Dh, in fallback
  settings_did : (span : Span) → span_of add (length xs) ≡ span → is_outputs span ≡ false → 0x18 ≤ add → add + length xs ≤ 0x26
      → not (running found) ≡ true → Leaves a call n (store_all add xs found)
  settings_did span e o low high f =
      let b : Agent = store_all add xs found in
      record {
        view = limits (t_of b) (n_of b) (m_of b) taking;
        did = configured r (t_of b) (n_of b) (m_of b) done reach (spared span e o high)
            (two_modes a good (λ run. eqb-false found.mode in_run (not-true (running found) f) (found_view.mode ∙ run)));
        shows = agree_trans (limits_view found add xs low high) (limits_agree (t_of b) (n_of b) (m_of b) found_view);
      }

  -- 1Eh to 24h, and 25h
  counters_did : (span : Span) → span_of add (length xs) ≡ span → is_outputs span ≡ false → 0x1C ≤ add → add + length xs ≤ 0x26
      → Leaves a call n (store_all add xs found)
  counters_did span e o low high = record {
    view = taking;
    did = asked r done reach (spared span e o high);
    shows = agree_trans (apart_view add xs found (apart_middle add (length xs) low high)) found_view;
  }

  -- 80h to BFh, in RUN
  outputs_did : span_of add (length xs) ≡ Outputs → running found ≡ true → Leaves a call n (with_idle 0 (store_all add xs found))
  outputs_did e h =
      let p : InSpan add (length xs) Outputs = in_span add (length xs) Outputs e refl in
      record {
        view = outputs add xs taking;
        did = output r add xs ok done reach (outputs_of Outputs e) (sym found_view.mode ∙ eqb-true found.mode in_run h) laid;
        shows = agree_trans (outputs_view found add xs (taken_size d a good) p.low p.high) (outputs_agree add xs found_view);
      }

  pub span_did : (span : Span) → span_of add (length xs) ≡ span → allowed span found add xs ≡ true → Leaves a call n (written span found add xs)
  span_did Release e h = release_did e h
  span_did CycleTime e h =
      let p : InSpan add (length xs) CycleTime = in_span add (length xs) CycleTime e refl in
      settings_did CycleTime e refl p.low (omega arith) (and_left _ _ h)
  span_did Limits e h =
      let p : InSpan add (length xs) Limits = in_span add (length xs) Limits e refl in
      settings_did Limits e refl (omega arith) (omega arith) (and_left _ _ (and_left _ _ h))
  span_did Counters e h =
      let p : InSpan add (length xs) Counters = in_span add (length xs) Counters e refl in
      counters_did Counters e refl (omega arith) (omega arith)
  span_did Config e h =
      let p : InSpan add (length xs) Config = in_span add (length xs) Config e refl in
      counters_did Config e refl (omega arith) (omega arith)
  span_did Outputs e h = outputs_did e h
  span_did Outside e h = absurd (let z : ◌≡◌ {A = ℕ} 0 1 = cc in omega arith)
