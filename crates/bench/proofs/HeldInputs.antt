-- Ticks with the inputs that the module holds: they are stored where they stand already, so that only the ticks are left to
-- compute. Assumes nothing.
use mathlib.Core.List.{List, [], ◌∷◌, ◌++◌, append-nil}
use mathlib.Core.Path.{◌≡◌, refl, sym, ap, ◌∙◌}
use Prim.Native.Nat.{ℕ, zero, suc, ◌+◌, ◌≤◌, ◌<◌}
use native.Mathlib.Omega.{arith}
use lib.Dec.{leb}
use lib.ListN.{length, take, drop, replicate, set, take-append-drop, drop_of_length-le}
use lib.Bits.{bit_or}
use lib.Seq.{sets, set_comm, sets-eq}
use Rattle.base.specs.Choice.{choose}
use Rattle.base.proofs.Choosing.{by_test, choose_true, choose_false}
use Rattle.rules.specs.Calls.{tick, tick_call, act}
use Rattle.rules.specs.Fallback.{withheld, ground_after, enter_fallback}
use Rattle.rules.specs.Grounds.{by_sync_silence, by_command_silence, by_window}
use Rattle.rules.specs.Inputs.{with_inputs}
use Rattle.rules.specs.Registers.{out_rep, statut, ground_at, outputs_at, inputs_at, image}
use Rattle.rules.specs.Replies.{Outcome}
use Rattle.rules.specs.Sound.{sound}
use Rattle.rules.specs.State.{reg, t_of, with_regs}
use Rattle.rules.specs.Tick.{counted, sync_limit, command_limit, window_limit, limited, cycle_ended, ticked}
use Rattle.rules.specs.declared.Agent.{Agent}
use Rattle.bench.specs.BusCalls.{after, inputs, silent}

-- ---- two runs of stores apart from each other, in either order
set_before : (xs l : List ℕ) (i j y : ℕ) → i < j → sets (set l i y) j xs ≡ set (sets l j xs) i y
set_before [] l i j y h = refl
set_before (x ∷ xs) l i j y h =
    ap (λ (m : List ℕ). sets m (suc j) xs) (set_comm l i j y x (λ e. omega arith)) ∙ set_before xs (set l j x) i (suc j) y (omega arith)

sets_before : (xs ys l : List ℕ) (i j : ℕ) → i + length xs ≤ j → sets (sets l i xs) j ys ≡ sets (sets l j ys) i xs
sets_before [] ys l i j h = refl
sets_before (x ∷ xs) ys l i j h =
    sets_before xs ys (set l i x) (suc i) j (omega arith) ∙ ap (λ (m : List ℕ). sets m (suc i) xs) (set_before ys l i j x (omega arith))

-- ---- the module holds the inputs of `silent`, and goes on to
abbrev pub Held : Agent → Type 0
Held a = sets a.regs inputs_at inputs ≡ a.regs

pub held_at : (r : List ℕ) → length r ≡ 256 → drop inputs_at r ≡ inputs → sets r inputs_at inputs ≡ r
held_at r size e =
    sets-eq inputs r inputs_at (omega arith)
    ∙ ap (λ (l : List ℕ). take inputs_at r ++ inputs ++ l) (drop_of_length-le r {i = 256} (omega arith))
    ∙ append-nil (take inputs_at r ++ inputs)
    ∙ ap (λ (l : List ℕ). take inputs_at r ++ l) (sym e)
    ∙ take-append-drop inputs_at r

held_before : (xs r : List ℕ) (i : ℕ) → i + length xs ≤ inputs_at → sets r inputs_at inputs ≡ r → sets (sets r i xs) inputs_at inputs ≡ sets r i xs
held_before xs r i h e = sets_before xs inputs r i inputs_at h ∙ ap (λ (m : List ℕ). sets m i xs) e

held_fallen : (g : ℕ) (a : Agent) → Held a → Held (enter_fallback g a)
unfolding enter_fallback
held_fallen g a e =
    let r : List ℕ = sets a.regs statut (bit_or (reg a statut) 0x80 ∷ []) in
    let q : List ℕ = sets r out_rep (withheld ∷ []) in
    let p : List ℕ = sets q ground_at (ground_after g a ∷ []) in
    held_before (replicate image 0) p outputs_at (omega arith)
    (held_before (ground_after g a ∷ []) q ground_at (omega arith)
    (held_before (withheld ∷ []) r out_rep (omega arith) (held_before (bit_or (reg a statut) 0x80 ∷ []) a.regs statut (omega arith) e)))

held_limited : (a : Agent) → Held a → Held (limited a)
unfolding limited
held_limited a e =
    by_test Held (sync_limit a) (λ h. held_fallen by_sync_silence a e)
    (λ h. by_test Held (command_limit a) (λ k. held_fallen by_command_silence a e)
    (λ k. by_test Held (window_limit a) (λ w. held_fallen by_window a e) (λ w. e)))

held_ticked : (a : Agent) → Held a → Held (ticked a)
unfolding ticked cycle_ended counted
held_ticked a e =
    let b : Agent = limited (counted a) in
    let h : Held b = held_limited (counted a) e in
    by_test Held (leb (t_of b) b.elapsed) (λ k. h) (λ k. h)

-- ---- n ticks of a sound agent, and nothing else
abbrev once : Agent → Agent
once a = choose (sound a) (ticked a) a

abbrev pub ticks : ℕ → Agent → Agent
ticks zero a = a
ticks (suc n) a = ticks n (once a)

tick_once : (a : Agent) → Held a → (act a (tick inputs)).agent ≡ once a
unfolding tick_call with_inputs
tick_once a e =
    by_test (λ (o : Outcome). o.agent ≡ once a) (sound a)
    (λ s. ap (λ (r : List ℕ). ticked (with_regs r a)) e ∙ sym (choose_true (ticked a) a s))
    (λ s. sym (choose_false (ticked a) a s))

held_once : (a : Agent) → Held a → Held (once a)
held_once a e = by_test Held (sound a) (λ s. held_ticked a e) (λ s. e)

pub after_silent : (n : ℕ) (a : Agent) → Held a → after (silent n) a ≡ ticks n a
after_silent zero a e = refl
after_silent (suc n) a e = ap (after (silent n)) (tick_once a e) ∙ after_silent n (once a) (held_once a e)
