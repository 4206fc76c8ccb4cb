-- Laws of a module at rest: a tick call with the inputs held moves its clock and nothing else, and leaves it at rest. Assumes nothing.
use Rattle.std.proofs.Common.{◌≡◌, ℕ, zero, suc, ◌+◌, ◌*◌, ◌%◌, ◌<◌, ◌≤◌, Bool, true, false, not, ◌&&◌, eqb, leb, ◌⊎◌, List, [], ◌∷◌, ◌++◌, length, get_or, take, drop, replicate, sym, refl, ap, ◌∙◌, inr, ⊎_elim, append_assoc, add-zero, mod-eq_of_lt, arith, length-drop, take-append-drop, length-take-le, drop-drop, eq-eqb, eqb-true, leb-false}
use lib.Bits.{bit_and, bit_or}
use lib.Seq.{sets, sets-eq, set-get_or}
use Rattle.base.specs.Choice.{choose}
use Rattle.base.proofs.AllBytes.{same_bytes}
use Rattle.base.proofs.Choosing.{by_test, choose_true, choose_false, and_left, and_right, and_true, never}
use Rattle.rules.specs.Calls.{tick_call}
use Rattle.rules.specs.Fallback.{withheld, enter_fallback}
use Rattle.rules.specs.Fixed.{limit_of}
use Rattle.rules.specs.Grounds.{by_sync_silence}
use Rattle.rules.specs.Inputs.{with_inputs}
use Rattle.rules.specs.Registers.{out_rep, statut, ground_at, outputs_at, inputs_at, image}
use Rattle.rules.specs.Sound.{sound}
use Rattle.rules.specs.State.{in_run, in_fallback, is_heard, unheard, unmarked, running, reg, t_of, m_of, with_regs, with_mode, with_mark, with_clock}
use Rattle.rules.specs.Tick.{counted, sync_limit, command_limit, cycle_over, window_limit, limited, cycle_ended, ticked}
use Rattle.rules.specs.Window.{marked}
use Rattle.rules.specs.declared.Agent.{Agent}
use Rattle.rules.proofs.Parts.{LastIs, Resting}
use Rattle.rules.proofs.SoundParts.{parts, sound_of}
use Rattle.rules.proofs.Ticking.{last_unheard}
use Rattle.agent_rest.specs.Rest.{is_calm, at_rest, Rests, clock_of, with_clock_of, more_silence, clock_tick}
use Rattle.agent_rest.specs.declared.Clock.{Clock}

-- ---- what is stored where it stands already
same_set : (l : List ℕ) (i x : ℕ) → x ≡ get_or l i 0 → sets l i (x ∷ []) ≡ l
same_set l i x e = ap (λ (v : ℕ). sets l i (v ∷ [])) e ∙ set-get_or l i 0

same_zeros : (n : ℕ) (l : List ℕ) (i : ℕ) → ((j : ℕ) → j < n → get_or l (i + j) 0 ≡ 0) → sets l i (replicate n 0) ≡ l
same_zeros zero l i h = refl
same_zeros (suc n) l i h =
    let z : get_or l i 0 ≡ 0 = ap (λ (k : ℕ). get_or l k 0) (sym (add-zero i)) ∙ h 0 (omega arith) in
    ap (λ (m : List ℕ). sets m (suc i) (replicate n 0)) (same_set l i 0 (sym z))
    ∙ same_zeros n l (suc i) (λ j k. let e : suc i + j ≡ i + suc j = omega arith in ap (λ (m : ℕ). get_or l m 0) e ∙ h (suc j) (omega arith))

-- bit 7 where it is set
bit_kept : (x : ℕ) → x < 256 → bit_and x 0xC0 ≡ 0x80 → bit_or x 0x80 ≡ x
bit_kept x h e =
    sym (choose_true (bit_or x 0x80) x (eq-eqb _ _ e))
    ∙ same_bytes (λ y. choose (eqb (bit_and y 0xC0) 0x80) (bit_or y 0x80) y) (λ y. y) tt x h

-- the inputs held
held_same : (l : List ℕ) → length l ≡ 256 → sets l inputs_at (take image (drop inputs_at l)) ≡ l
held_same l e =
    let n : length (take image (drop inputs_at l)) ≡ image = length-take-le image (drop inputs_at l) (omega (arith, length-drop inputs_at l)) in
    sets-eq (take image (drop inputs_at l)) l inputs_at (omega arith)
    ∙ ap (λ (r : List ℕ). take inputs_at l ++ take image (drop inputs_at l) ++ r) (ap (λ (m : ℕ). drop (inputs_at + m) l) n ∙ sym (drop-drop image inputs_at l))
    ∙ append_assoc (take inputs_at l) (take image (drop inputs_at l)) (drop image (drop inputs_at l))
    ∙ ap (λ (r : List ℕ). take inputs_at l ++ r) (take-append-drop image (drop inputs_at l))
    ∙ take-append-drop inputs_at l

-- ---- at rest
module _ (a : Agent) (x : Rests a) where
  calm : is_calm a ≡ true
  unfolding at_rest
  calm = and_left (is_calm a) (sound a) x.rest_is

  rest_sound : sound a ≡ true
  unfolding at_rest
  rest_sound = and_right (is_calm a) (sound a) x.rest_is

  held : (not (running a) && eqb (reg a out_rep) withheld) ≡ true
  held = and_left (not (running a) && eqb (reg a out_rep) withheld) (eqb a.mark unmarked) calm

  stopped : running a ≡ false
  stopped = by (running a) (and_left (not (running a)) (eqb (reg a out_rep) withheld) held)
    where
      by : (b : Bool) → not b ≡ true → b ≡ false
      by true e = sym e
      by false e = refl

  rep_is : reg a out_rep ≡ withheld
  rep_is = eqb-true _ _ (and_right (not (running a)) (eqb (reg a out_rep) withheld) held)

  mark_none : a.mark ≡ unmarked
  mark_none = eqb-true _ _ (and_right (not (running a) && eqb (reg a out_rep) withheld) (eqb a.mark unmarked) calm)

  mode_is : a.mode ≡ in_fallback
  mode_is = ⊎_elim (λ e. never (sym stopped ∙ eq-eqb a.mode in_run e)) (λ e. e) (parts a rest_sound).by_mode.mode_is

  resting : Resting a.regs a.idle
  resting = (parts a rest_sound).by_mode.in_fallback_lem mode_is

-- ---- entering fallback changes nothing
same_agent : (b : Agent) (r : List ℕ) (q m k : ℕ) → r ≡ b.regs → q ≡ b.idle → m ≡ b.mode → k ≡ b.mark → with_mark k (with_mode m q (with_regs r b)) ≡ b
same_agent b r q m k e f g h = rw (e, f, g, h)

module _ (a : Agent) (x : Rests a) (e s : ℕ) where
  -- the module with its counters raised
  abbrev raised : Agent
  raised = with_clock e s a.idle a

  fallback_regs : (g : ℕ) → g ≡ reg a ground_at
      → sets (sets (sets (sets a.regs statut (bit_or (reg a statut) 0x80 ∷ [])) out_rep (withheld ∷ [])) ground_at (g ∷ [])) outputs_at (replicate image 0) ≡ a.regs
  fallback_regs g q =
      ap (λ (r : List ℕ). sets (sets (sets r out_rep (withheld ∷ [])) ground_at (g ∷ [])) outputs_at (replicate image 0))
      (same_set a.regs statut _ (bit_kept (reg a statut) x.status_byte (resting a x).bits))
      ∙ ap (λ (r : List ℕ). sets (sets r ground_at (g ∷ [])) outputs_at (replicate image 0)) (same_set a.regs out_rep withheld (sym (rep_is a x)))
      ∙ ap (λ (r : List ℕ). sets r outputs_at (replicate image 0)) (same_set a.regs ground_at g q)
      ∙ same_zeros image a.regs outputs_at (resting a x).outputs_zero_lem

  falls_same : enter_fallback by_sync_silence raised ≡ raised
  unfolding enter_fallback
  falls_same =
      same_agent raised _ 0 in_fallback unmarked (fallback_regs _ (choose_false by_sync_silence (reg a ground_at) (stopped a x)))
      (sym (resting a x).q_zero) (sym (mode_is a x)) (sym (mark_none a x))

  limited_same : limited raised ≡ raised
  unfolding limited
  limited_same =
      by_test (λ (b : Agent). b ≡ raised) (sync_limit raised) (λ h. falls_same)
      (λ h.
      let c : command_limit raised ≡ false = ap (λ (r : Bool). r && leb (m_of a * t_of a) a.idle) (stopped a x) in
      let w : window_limit raised ≡ false = ap (λ (r : Bool). r && marked raised && cycle_over raised) (stopped a x) in
      choose_false _ _ c ∙ choose_false _ _ w)

-- ---- a tick moves the clock and nothing else
module _ (a : Agent) (x : Rests a) where
  abbrev ticked_clock : Clock
  ticked_clock = clock_tick (t_of a) (clock_of a)

  counted_is : counted a ≡ raised a x (a.elapsed + 1) (more_silence a.silence)
  unfolding counted
  counted_is = ap (λ (q : ℕ). with_clock (a.elapsed + 1) (more_silence a.silence) q a) (choose_false (a.idle + 1) a.idle (stopped a x))

  e_next : (a.elapsed + 1) % 256 ≡ a.elapsed + 1
  e_next = mod-eq_of_lt (omega (arith, (parts a (rest_sound a x)).e_most))

  cycle_is : cycle_ended (raised a x (a.elapsed + 1) (more_silence a.silence)) ≡ with_clock_of ticked_clock a
  unfolding cycle_ended clock_tick
  cycle_is = by (leb (t_of a) (a.elapsed + 1)) refl
    where
      by : (b : Bool) → leb (t_of a) (a.elapsed + 1) ≡ b → cycle_ended (raised a x (a.elapsed + 1) (more_silence a.silence)) ≡ with_clock_of ticked_clock a
      by true t = choose_true _ _ t ∙ sym (ap (λ (k : Clock). with_clock_of k a) (choose_true _ _ (ap (leb (t_of a)) e_next ∙ t)))
      by false t =
          choose_false _ _ t
          ∙ ap (λ (n : ℕ). with_clock n (more_silence a.silence) a.idle a) (sym e_next)
          ∙ sym (ap (λ (k : Clock). with_clock_of k a) (choose_false _ _ (ap (leb (t_of a)) e_next ∙ t)))

  ticked_is : ticked a ≡ with_clock_of ticked_clock a
  unfolding ticked
  ticked_is = ap (λ (b : Agent). cycle_ended (limited b)) counted_is ∙ ap cycle_ended (limited_same a x _ _) ∙ cycle_is

  -- THE LAW: a tick call with the inputs held
  pub rest_tick : (tick_call a (take image (drop inputs_at a.regs))).agent ≡ with_clock_of ticked_clock a
  unfolding tick_call with_inputs
  rest_tick =
      let n : length (take image (drop inputs_at a.regs)) ≡ image = length-take-le image (drop inputs_at a.regs) (omega (arith, x.registers, length-drop inputs_at a.regs)) in
      rw (rest_sound a x, eq-eqb _ image n) (ap (λ (r : List ℕ). ticked (with_regs r a)) (held_same a.regs x.registers) ∙ ticked_is)

  -- ---- and leaves the module at rest
  abbrev Moved : Clock → Type 0
  Moved k = (k.elapsed ≤ 254) × (k.taken ≤ limit_of a) × LastIs a.known a.count a.last k.heard × ((k.heard ≡ is_heard) ⊎ (k.heard ≡ unheard))

  moved : Moved ticked_clock
  unfolding clock_tick
  moved =
      let p = parts a (rest_sound a x) in
      by_test Moved (leb (t_of a) ((a.elapsed + 1) % 256))
      (λ h. (omega arith, omega arith, last_unheard a.known a.count a.last a.heard p.last_is, inr refl))
      (λ h. (omega (arith, leb-false (t_of a) ((a.elapsed + 1) % 256) h, x.t_byte), p.k_most, p.last_is, p.heard_is))

  still_sound : sound (with_clock_of ticked_clock a) ≡ true
  still_sound =
      let p = parts a (rest_sound a x) in
      sound_of (with_clock_of ticked_clock a) (record {
        settings = p.settings;
        sources = p.sources;
        named = p.named;
        fixed = p.fixed;
        k_most = moved.1;
        e_most = moved.0;
        last_is = moved.2;
        heard_is = moved.3;
        mark_is = p.mark_is;
        by_mode = record { mode_is = inr (mode_is a x); in_run_lem = λ m. absurd (omega (arith, m, mode_is a x)); in_fallback_lem = λ m. resting a x };
      })

  pub rest_stays : Rests (with_clock_of ticked_clock a)
  unfolding at_rest
  rest_stays = record {
    rest_is = and_true (is_calm a) (sound (with_clock_of ticked_clock a)) (calm a x) still_sound;
    registers = x.registers;
    status_byte = x.status_byte;
    t_byte = x.t_byte;
  }
