-- Soundness part by part, as facts and not as tests. Each part names only the values that it reads, so that it still
-- holds if a change leaves those alone. Assumes nothing.
use mathlib.Core.Path.{◌≡◌}
use mathlib.Core.Bool.{true}
use mathlib.Core.List.{List}
use mathlib.Core.Logic.{◌⊎◌}
use Prim.Native.Nat.{ℕ, ◌+◌, ◌*◌, ◌≤◌, ◌<◌}
use lib.Bits.{bit_and}
use lib.ListN.{get_or}
use Rattle.rules.specs.Assignments.{assignable}
use Rattle.rules.specs.Fallback.{released, withheld}
use Rattle.rules.specs.Fixed.{lighting_limit, doors_limit, limit_of}
use Rattle.rules.specs.Grounds.{is_ground}
use Rattle.rules.specs.Registers.{typ_at, tid_at, sid_at, out_rep, tcyc, statut, cnf_rep, cnf_cyc, ground_at, outputs_at, image, low_number}
use Rattle.rules.specs.Sources.{holds}
use Rattle.rules.specs.State.{in_run, in_fallback, is_heard, unheard, is_marked, unmarked, nobody}
use Rattle.rules.specs.declared.Agent.{Agent}
use Rattle.rules.specs.declared.Fixed.{Fixed}

-- bits 7 and 6 of STATUT
abbrev pub mode_bits : List ℕ → ℕ
mode_bits r = bit_and (get_or r statut 0) 0xC0

pub record Settings (r : List ℕ) : Type 0 where
  pub t_set : 0 < get_or r tcyc 0
  pub n_set : 0 < get_or r cnf_cyc 0
  pub m_set : 0 < get_or r cnf_rep 0
  pub rep_is : (get_or r out_rep 0 ≡ released) ⊎ (get_or r out_rep 0 ≡ withheld)
  pub tid_is : (get_or r tid_at 0 ≡ 0x8F) ⊎ (assignable (get_or r tid_at 0) ≡ true)
  pub typ_is : get_or r typ_at 0 ≡ 0x82
  pub ground_is : is_ground (get_or r ground_at 0) ≡ true

-- the first n of a list, as the recorded concentrators
pub record Sources (l : List ℕ) (n : ℕ) : Type 0 where
  pub at_most_8 : n ≤ 8
  pub all_differ : (i j : ℕ) → i < j → j < n → get_or l i 0 ≡ get_or l j 0 → ⊥
  pub all_below : (i : ℕ) → i < n → get_or l i 0 < nobody

-- there is a SID exactly when there is a recorded one
pub record Named (r : List ℕ) (n : ℕ) : Type 0 where
  pub no_sid : n ≡ 0 → low_number r sid_at 3 ≡ nobody
  pub no_source : low_number r sid_at 3 ≡ nobody → n ≡ 0

abbrev pub LastIs : List ℕ → ℕ → ℕ → ℕ → Type 0
LastIs l n last heard = (holds l n last ≡ true) ⊎ ((last ≡ nobody) × (heard ≡ unheard))

pub record Running (r : List ℕ) (s q last : ℕ) : Type 0 where
  pub bits : mode_bits r ≡ 0x00
  pub rep_55 : get_or r out_rep 0 ≡ released
  pub s_below : s < get_or r cnf_cyc 0 * get_or r tcyc 0
  pub q_below : q < get_or r cnf_rep 0 * get_or r tcyc 0
  pub has_last : last ≡ nobody → ⊥

pub record Resting (r : List ℕ) (q : ℕ) : Type 0 where
  pub bits : mode_bits r ≡ 0x80
  pub q_zero : q ≡ 0
  pub outputs_zero_lem : (i : ℕ) → i < image → get_or r (outputs_at + i) 0 ≡ 0

-- by the mode
pub record ModeParts (r : List ℕ) (s q last mode : ℕ) : Type 0 where
  pub mode_is : (mode ≡ in_run) ⊎ (mode ≡ in_fallback)
  pub in_run_lem : mode ≡ in_run → Running r s q last
  pub in_fallback_lem : mode ≡ in_fallback → Resting r q

-- what is fixed at power-up
pub record FixedParts (f : Fixed) : Type 0 where
  pub limit_is : (f.limit ≡ lighting_limit) ⊎ (f.limit ≡ doors_limit)

-- the parts, with e at most `most`
pub record PartsTo (most : ℕ) (a : Agent) : Type 0 where
  pub settings : Settings a.regs
  pub sources : Sources a.known a.count
  pub named : Named a.regs a.count
  pub fixed : FixedParts a.fixed
  pub k_most : a.taken ≤ limit_of a
  pub e_most : a.elapsed ≤ most
  pub last_is : LastIs a.known a.count a.last a.heard
  pub heard_is : (a.heard ≡ is_heard) ⊎ (a.heard ≡ unheard)
  pub mark_is : (a.mark ≡ is_marked) ⊎ (a.mark ≡ unmarked)
  pub by_mode : ModeParts a.regs a.silence a.idle a.last a.mode

-- sound: e is at most 254
abbrev pub SoundParts : Agent → Type 0
SoundParts = PartsTo 254
