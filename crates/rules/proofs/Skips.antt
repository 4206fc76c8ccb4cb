-- A request by its distance, in every state and whatever the limit: 13 below k, 14 past k + 3, 15 from the limit on, else taken;
-- and what a skip counts. Assumes nothing.
use mathlib.Core.Bool.{true, false, not, ◌||◌}
use mathlib.Core.Path.{◌≡◌, refl, sym, ap, ◌∙◌}
use Prim.Native.Nat.{ℕ, zero, suc, ◌+◌, ◌-◌, ◌≤◌, ◌<◌}
use native.Mathlib.Omega.{arith}
use borrow.Author.Tests.{eq-eqb, ne_eqb, ltb-true, ltb-false, lt-ltb, le-ltb, le-leb, lt-leb}
use lib.Bits.{bit_or}
use lib.Dec.{eqb, leb, ltb}
use Rattle.base.specs.Choice.{choose}
use Rattle.base.proofs.Choosing.{by_test, choose_true, choose_false, and_true}
use Rattle.rules.specs.Answers.{repeat, out_of_order, too_many}
use Rattle.rules.specs.Fixed.{limit_of}
use Rattle.rules.specs.Marks.{counter, counter_by, sequence_marked, skip_marked}
use Rattle.rules.specs.Registers.{statut, cpt_seq}
use Rattle.rules.specs.Replies.{does}
use Rattle.rules.specs.Requests.{distance, most_skipped, taken_at, Ask, on_ask, on_distance, on_request}
use Rattle.rules.specs.Sound.{sound}
use Rattle.rules.specs.Sources.{sid_of}
use Rattle.rules.specs.State.{is_heard, nobody, reg, store, with_taken}
use Rattle.rules.specs.declared.Agent.{Agent}
use Rattle.rules.proofs.Cases.{Addressed}
use Rattle.rules.proofs.SoundParts.{parts}

-- ---- by the distance
module _ (port : ℕ) (a : Agent) (dest src cyc seq : ℕ) (ask : Ask) (p : Addressed a dest src cyc) where
  stranger : (eqb src nobody || not (eqb src a.last)) ≡ false
  stranger = rw (ne_eqb src nobody p.somebody, eq-eqb src a.last p.last) refl

  by_distance : on_request port a dest src cyc seq ask ≡ on_distance port a src seq (distance seq cyc) ask
  unfolding on_request
  by_distance =
      choose_false _ _ stranger
      ∙ choose_false _ _ (ap not (eq-eqb dest (sid_of a) p.sid))
      ∙ choose_false _ _ (ap not (and_true (eqb a.heard is_heard) (eqb cyc a.cycle) (eq-eqb a.heard is_heard p.heard) (eq-eqb cyc a.cycle p.same)))

  -- below k, taken or skipped before: 13, and nothing changes
  pub below : distance seq cyc < a.taken → on_request port a dest src cyc seq ask ≡ does repeat a
  unfolding on_distance
  below h = by_distance ∙ choose_true _ _ (lt-ltb (distance seq cyc) a.taken h)

  -- more than three past k: 14
  pub beyond : a.taken + most_skipped < distance seq cyc → on_request port a dest src cyc seq ask ≡ does out_of_order (sequence_marked a)
  unfolding on_distance
  beyond h =
      by_distance ∙ choose_false _ _ (le-ltb (distance seq cyc) a.taken (omega arith))
      ∙ choose_true _ _ (lt-ltb (a.taken + most_skipped) (distance seq cyc) h)

  module _ (low : a.taken ≤ distance seq cyc) (high : distance seq cyc ≤ a.taken + most_skipped) where
    by_limit : on_request port a dest src cyc seq ask
        ≡ choose (leb (limit_of a) (distance seq cyc)) (does too_many a) (on_ask port (taken_at (distance seq cyc) a) src seq ask)
    unfolding on_distance
    by_limit =
        by_distance ∙ choose_false _ _ (le-ltb (distance seq cyc) a.taken low)
        ∙ choose_false _ _ (le-ltb (a.taken + most_skipped) (distance seq cyc) high)

    -- from the limit on: 15, and nothing changes
    pub past_limit : limit_of a ≤ distance seq cyc → on_request port a dest src cyc seq ask ≡ does too_many a
    past_limit h = by_limit ∙ choose_true _ _ (le-leb (limit_of a) (distance seq cyc) h)

    -- below it the request is taken
    pub in_reach : distance seq cyc < limit_of a → on_request port a dest src cyc seq ask ≡ on_ask port (taken_at (distance seq cyc) a) src seq ask
    in_reach h = by_limit ∙ choose_false _ _ (lt-leb (limit_of a) (distance seq cyc) h)

  -- as document 02 writes it, in a sound state: d from the limit to the limit + 3 and at most k + 3 is 15
  pub as_written : sound a ≡ true → limit_of a ≤ distance seq cyc → distance seq cyc ≤ limit_of a + most_skipped
      → distance seq cyc ≤ a.taken + most_skipped → on_request port a dest src cyc seq ask ≡ does too_many a
  as_written s low top high = past_limit (omega (arith, (parts a s).k_most)) high low

-- and no d past the limit + 3 is at most k + 3 there
pub only_these : (a : Agent) (d : ℕ) → sound a ≡ true → d ≤ a.taken + most_skipped → d ≤ limit_of a + most_skipped
only_these a d s high = omega (arith, (parts a s).k_most)

-- ---- what a skip counts

-- none: only k goes up
pub none_skipped : (a : Agent) → taken_at a.taken a ≡ with_taken (a.taken + 1) a
unfolding skip_marked
none_skipped a = ap (λ (n : ℕ). with_taken (a.taken + 1) (skip_marked n a)) (let z : a.taken - a.taken ≡ 0 = omega arith in z)

-- some: bit 1, and as many in CPT_SEQ
pub some_skipped : (n : ℕ) (a : Agent) → (n ≡ 0 → ⊥) → skip_marked n a ≡ store cpt_seq (counter_by n (reg a cpt_seq)) (store statut (bit_or (reg a statut) 0x02) a)
unfolding skip_marked
some_skipped zero a h = absurd (h refl)
some_skipped (suc n) a h = refl

-- one by one or at once, a byte stops at 255
pub counter_by_lem : (n x : ℕ) → x ≤ 255 → counter_by n x ≡ choose (ltb n (255 - x)) (x + n) 255
counter_by_lem zero x h = by_test (λ z. x ≡ z) (ltb 0 (255 - x)) (λ e. omega arith) (λ e. omega (arith, ltb-false 0 (255 - x) e))
counter_by_lem (suc n) x h = ap counter (counter_by_lem n x h) ∙ one_more
  where
    one_more : counter (choose (ltb n (255 - x)) (x + n) 255) ≡ choose (ltb (suc n) (255 - x)) (x + suc n) 255
    one_more =
        by_test (λ z. counter z ≡ choose (ltb (suc n) (255 - x)) (x + suc n) 255) (ltb n (255 - x))
        (λ e. let less = ltb-true n (255 - x) e in
        choose_true _ _ (lt-ltb (x + n) 255 (omega (arith, less)))
        ∙ by_test (λ z. x + n + 1 ≡ z) (ltb (suc n) (255 - x)) (λ u. omega arith) (λ u. omega (arith, less, ltb-false (suc n) (255 - x) u)))
        (λ e. sym (choose_false _ _ (le-ltb (suc n) (255 - x) (omega (arith, ltb-false n (255 - x) e)))))
