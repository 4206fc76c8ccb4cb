-- What holds of every good agent, by name. Nothing above this opens the test for soundness. Assumes nothing.
use mathlib.Core.Path.{◌≡◌, subst}
use mathlib.Core.Bool.{true}
use mathlib.Core.Logic.{◌⊎◌, ⊎_elim}
use Prim.Native.Nat.{ℕ, ◌+◌, ◌*◌, ◌≤◌, ◌<◌}
use native.Mathlib.Nat.{mul-le-mul}
use native.Mathlib.Omega.{arith}
use lib.Bits.{bit_and}
use lib.ListN.{get_or}
use Rattle.rules.specs.Assignments.{assignable}
use Rattle.rules.specs.Fallback.{released, withheld}
use Rattle.rules.specs.Fixed.{limit_of}
use Rattle.rules.specs.Good.{Good}
use Rattle.rules.specs.Registers.{typ_at, tid_at, out_rep, statut, outputs_at, image}
use Rattle.rules.specs.Sources.{is_recorded, sid_of}
use Rattle.rules.specs.State.{in_run, in_fallback, is_heard, unheard, is_marked, unmarked, nobody, reg, t_of, n_of, m_of}
use Rattle.rules.specs.declared.Agent.{Agent}
use Rattle.rules.proofs.Parts.{Running, Resting, SoundParts}
use Rattle.rules.proofs.Recorded.{holds_where}
use Rattle.rules.proofs.SoundParts.{parts}

module _ (a : Agent) (g : Good a) where
  pub good_sound : SoundParts a
  good_sound = parts a g.sound_is

  -- ---- registers
  pub good_byte : (i : ℕ) → reg a i < 256
  good_byte i = g.bytes i

  pub good_t : 0 < t_of a
  good_t = good_sound.settings.t_set

  pub good_n : 0 < n_of a
  good_n = good_sound.settings.n_set

  pub good_m : 0 < m_of a
  good_m = good_sound.settings.m_set

  pub good_rep : (reg a out_rep ≡ released) ⊎ (reg a out_rep ≡ withheld)
  good_rep = good_sound.settings.rep_is

  pub good_tid_is : (reg a tid_at ≡ 0x8F) ⊎ (assignable (reg a tid_at) ≡ true)
  good_tid_is = good_sound.settings.tid_is

  pub good_typ : reg a typ_at ≡ 0x82
  good_typ = good_sound.settings.typ_is

  -- both limits are below where s stops
  pub good_limit : (i j : ℕ) → reg a i * reg a j ≤ 65025
  good_limit i j = mul-le-mul (below (reg a i) (good_byte i)) (below (reg a j) (good_byte j))
    where
      below : (x : ℕ) → x < 256 → x ≤ 255
      below x h = omega arith

  -- ---- counters
  pub good_e : a.elapsed ≤ 254
  good_e = good_sound.e_most

  pub good_k : a.taken ≤ limit_of a
  good_k = good_sound.k_most

  pub good_heard : (a.heard ≡ is_heard) ⊎ (a.heard ≡ unheard)
  good_heard = good_sound.heard_is

  pub good_mark : (a.mark ≡ is_marked) ⊎ (a.mark ≡ unmarked)
  good_mark = good_sound.mark_is

  -- ---- the recorded
  pub good_few : a.count ≤ 8
  good_few = good_sound.sources.at_most_8

  pub good_differ : (i j : ℕ) → i < j → j < a.count → get_or a.known i 0 ≡ get_or a.known j 0 → ⊥
  good_differ = good_sound.sources.all_differ

  pub good_last : (is_recorded a a.last ≡ true) ⊎ ((a.last ≡ nobody) × (a.heard ≡ unheard))
  unfolding is_recorded
  good_last = good_sound.last_is

  pub good_heard_last : a.heard ≡ is_heard → is_recorded a a.last ≡ true
  good_heard_last h = ⊎_elim (λ e. e) (λ e. absurd (omega (arith, h, e.1))) good_last

  pub good_recorded : (x : ℕ) → is_recorded a x ≡ true → x < nobody
  unfolding is_recorded
  good_recorded x e =
      let w = holds_where a.known a.count x e in
      subst (λ (n : ℕ). n < nobody) w.2 (good_sound.sources.all_below w.0 w.1)

  pub good_no_sid : a.count ≡ 0 → sid_of a ≡ nobody
  unfolding sid_of
  good_no_sid = good_sound.named.no_sid

  pub good_no_source : sid_of a ≡ nobody → a.count ≡ 0
  unfolding sid_of
  good_no_source = good_sound.named.no_source

  -- ---- the modes
  pub good_modes : (a.mode ≡ in_run) ⊎ (a.mode ≡ in_fallback)
  good_modes = good_sound.by_mode.mode_is

  pub run_parts : a.mode ≡ in_run → Running a.regs a.silence a.idle a.last
  run_parts = good_sound.by_mode.in_run_lem

  pub run_released : a.mode ≡ in_run → reg a out_rep ≡ released
  run_released m = (run_parts m).rep_55

  pub run_silence : a.mode ≡ in_run → a.silence < n_of a * t_of a
  run_silence m = (run_parts m).s_below

  pub run_idle : a.mode ≡ in_run → a.idle < m_of a * t_of a
  run_idle m = (run_parts m).q_below

  pub run_last : a.mode ≡ in_run → is_recorded a a.last ≡ true
  run_last m = ⊎_elim (λ e. e) (λ e. absurd ((run_parts m).has_last e.0)) good_last

  pub run_bits : a.mode ≡ in_run → bit_and (reg a statut) 0xC0 ≡ 0x00
  run_bits m = (run_parts m).bits

  pub fallback_parts : a.mode ≡ in_fallback → Resting a.regs a.idle
  fallback_parts = good_sound.by_mode.in_fallback_lem

  pub fallback_zero : a.mode ≡ in_fallback → (i : ℕ) → i < image → reg a (outputs_at + i) ≡ 0
  fallback_zero m = (fallback_parts m).outputs_zero_lem

  pub fallback_idle : a.mode ≡ in_fallback → a.idle ≡ 0
  fallback_idle m = (fallback_parts m).q_zero

  pub fallback_bits : a.mode ≡ in_fallback → bit_and (reg a statut) 0xC0 ≡ 0x80
  fallback_bits m = (fallback_parts m).bits
