-- Entering fallback and entering RUN make a good agent of a good one. Assumes nothing.
use mathlib.Core.Path.{◌≡◌, refl, sym, ap, ◌∙◌}
use mathlib.Core.Bool.{true, not}
use mathlib.Core.List.{List, [], ◌∷◌}
use mathlib.Core.Logic.{◌⊎◌, inl, inr, ⊎_elim}
use Prim.Native.Nat.{ℕ, ◌+◌, ◌*◌, ◌≤◌, ◌<◌}
use native.Mathlib.Nat.{mul-pos}
use native.Mathlib.Omega.{arith}
use borrow.Author.Tests.{eq-eqb, leb-true, not-true}
use lib.Bits.{bit_and, bit_or}
use lib.Dec.{eqb}
use lib.ListN.{length, get_or, replicate, length-replicate, get_or-replicate}
use lib.Seq.{sets, length-sets}
use Rattle.base.proofs.Bytes.{bytes_single, bytes_replicate}
use Rattle.base.proofs.Outside.{Outside, outside_sets, same_before}
use Rattle.base.proofs.Stored.{stored_before, stored_behind, stored_at, stored_in}
use Rattle.base.proofs.Choosing.{never, by_test}
use Rattle.rules.specs.Fallback.{released, withheld, ground_after, enter_fallback, enter_run}
use Rattle.rules.specs.Grounds.{is_ground}
use Rattle.rules.specs.Registers.{typ_at, tid_at, out_rep, tcyc, statut, cnf_rep, cnf_cyc, ground_at, outputs_at, image}
use Rattle.rules.specs.State.{in_run, in_fallback, nobody, running, reg, with_clock}
use Rattle.rules.specs.declared.Agent.{Agent}
use Rattle.rules.proofs.Kept.{SameSettings, same_but_status, sid_before, settings_kept, running_kept, named_kept, ByteRegisters, registers_stored, GoodTo}
use Rattle.rules.proofs.Marking.{two_mode_bits}
use Rattle.rules.proofs.Masks.{bits_set, bits_cleared, or_byte, and_byte}
use Rattle.rules.proofs.Parts.{mode_bits, Settings, ModeParts, PartsTo}

-- what is not RUN is fallback
pub rests : (r : List ℕ) (s q last mode : ℕ) → ModeParts r s q last mode → not (eqb mode in_run) ≡ true → mode ≡ in_fallback
rests r s q last mode p e = ⊎_elim (λ m. never (sym (not-true (eqb mode in_run) e) ∙ eq-eqb mode in_run m)) (λ m. m) p.mode_is

-- ---- the registers of an agent that fell
abbrev fallen_regs : List ℕ → ℕ → ℕ → List ℕ
fallen_regs r x g = sets (sets (sets (sets r statut (x ∷ [])) out_rep (withheld ∷ [])) ground_at (g ∷ [])) outputs_at (replicate image 0)

module _ (r : List ℕ) (x g : ℕ) (z : ByteRegisters r) where
  marked : List ℕ
  marked = sets r statut (x ∷ [])

  held : List ℕ
  held = sets marked out_rep (withheld ∷ [])

  shown : List ℕ
  shown = sets held ground_at (g ∷ [])

  shown_size : length shown ≡ 256
  unfolding marked held shown
  shown_size = length-sets held ground_at (g ∷ []) ∙ length-sets marked out_rep (withheld ∷ []) ∙ length-sets r statut (x ∷ []) ∙ z.are_256

  below_outputs : (j : ℕ) → j < 0x80 → get_or (fallen_regs r x g) j 0 ≡ get_or shown j 0
  unfolding marked held shown
  below_outputs j h = stored_before shown outputs_at (replicate image 0) j h

  below_ground : (j : ℕ) → j < 0x26 → get_or (fallen_regs r x g) j 0 ≡ get_or held j 0
  unfolding marked held shown
  below_ground j h = below_outputs j (omega arith) ∙ stored_before held ground_at (g ∷ []) j h

  fallen_low : (j : ℕ) → j < 0x17 → get_or (fallen_regs r x g) j 0 ≡ get_or r j 0
  unfolding marked held
  fallen_low j h =
      below_ground j (omega arith) ∙ stored_before marked out_rep (withheld ∷ []) j h ∙ stored_before r statut (x ∷ []) j (omega arith)

  fallen_rep : get_or (fallen_regs r x g) out_rep 0 ≡ withheld
  unfolding marked held
  fallen_rep =
      below_ground out_rep (omega arith)
      ∙ stored_in marked out_rep (withheld ∷ []) out_rep (omega arith) (omega arith) (omega (arith, length-sets r statut (x ∷ []), z.are_256))

  fallen_t : get_or (fallen_regs r x g) tcyc 0 ≡ get_or r tcyc 0
  unfolding marked held
  fallen_t =
      below_ground tcyc (omega arith) ∙ stored_behind marked out_rep (withheld ∷ []) tcyc (omega arith) ∙ stored_before r statut (x ∷ []) tcyc (omega arith)

  fallen_status : get_or (fallen_regs r x g) statut 0 ≡ x
  unfolding marked held
  fallen_status =
      below_ground statut (omega arith) ∙ stored_behind marked out_rep (withheld ∷ []) statut (omega arith)
      ∙ stored_in r statut (x ∷ []) statut (omega arith) (omega arith) (omega (arith, z.are_256))

  fallen_high : (j : ℕ) → 0x1A ≤ j → j < 0x26 → get_or (fallen_regs r x g) j 0 ≡ get_or r j 0
  unfolding marked held
  fallen_high j h k =
      below_ground j k ∙ stored_behind marked out_rep (withheld ∷ []) j (omega arith) ∙ stored_behind r statut (x ∷ []) j h

  fallen_ground : get_or (fallen_regs r x g) ground_at 0 ≡ g
  unfolding marked held shown
  fallen_ground =
      below_outputs ground_at (omega arith)
      ∙ stored_in held ground_at (g ∷ []) ground_at (omega arith) (omega arith) (omega (arith, shown_size, length-sets held ground_at (g ∷ [])))

  fallen_outputs : (i : ℕ) → i < image → get_or (fallen_regs r x g) (outputs_at + i) 0 ≡ 0
  unfolding marked held shown
  fallen_outputs i h =
      stored_at shown outputs_at (replicate image 0) i (omega (arith, length-replicate {A = ℕ} image 0))
      (omega (arith, length-replicate {A = ℕ} image 0, shown_size))
      ∙ get_or-replicate image i 0 0 h

  fallen_registers : x < 256 → is_ground g ≡ true → ByteRegisters (fallen_regs r x g)
  unfolding marked held shown
  fallen_registers b is =
      registers_stored shown outputs_at (replicate image 0) (bytes_replicate image 0 (omega arith))
      (registers_stored held ground_at (g ∷ []) (bytes_single g (omega (arith, leb-true g _ is)))
      (registers_stored marked out_rep (withheld ∷ []) (bytes_single withheld (omega arith)) (registers_stored r statut (x ∷ []) (bytes_single x b) z)))

  fallen_settings : is_ground g ≡ true → Settings r → Settings (fallen_regs r x g)
  fallen_settings is s = record {
    t_set = rw fallen_t s.t_set;
    n_set = rw (fallen_high cnf_cyc (omega arith) (omega arith)) s.n_set;
    m_set = rw (fallen_high cnf_rep (omega arith) (omega arith)) s.m_set;
    rep_is = inr fallen_rep;
    tid_is = rw (fallen_low tid_at (omega arith)) s.tid_is;
    typ_is = fallen_low typ_at (omega arith) ∙ s.typ_is;
    ground_is = ap is_ground fallen_ground ∙ is;
  }

-- ---- fallback, whatever the clock says
bit_7 : (y : ℕ) → (y ≡ 0x00) ⊎ (y ≡ 0x80) → bit_or y 0x80 ≡ 0x80
bit_7 y = ⊎_elim (λ e. rw e) (λ e. rw e)

-- 26h afterwards is a ground too
ground_after_is : (ground : ℕ) (a : Agent) → is_ground ground ≡ true → is_ground (reg a ground_at) ≡ true → is_ground (ground_after ground a) ≡ true
ground_after_is ground a p q = by_test (λ (x : ℕ). is_ground x ≡ true) (running a) (λ e. p) (λ e. q)

pub good_fallen_at : (ground : ℕ) → is_ground ground ≡ true → (most later : ℕ) (a : Agent) (e s q : ℕ) → e ≤ later → GoodTo most a
    → GoodTo later (enter_fallback ground (with_clock e s q a))
unfolding enter_fallback
good_fallen_at ground is-ground most later a e s q h g =
    let r : List ℕ = a.regs in
    let z : ByteRegisters r = g.registers in
    let p : PartsTo most a = g.parts in
    let x : ℕ = bit_or (get_or r statut 0) 0x80 in
    let b : get_or r statut 0 < 256 = z.are_bytes statut in
    let y : ℕ = ground_after ground a in
    let f : is_ground y ≡ true = ground_after_is ground a is-ground p.settings.ground_is in
    record {
      parts = record {
        settings = fallen_settings r x y z f p.settings;
        sources = p.sources;
        named = named_kept r (fallen_regs r x y) a.count (sid_before r (fallen_regs r x y) (fallen_low r x y z)) p.named;
        fixed = p.fixed;
        k_most = p.k_most;
        e_most = h;
        last_is = p.last_is;
        heard_is = p.heard_is;
        mark_is = inr refl;
        by_mode = record {
          mode_is = inr refl;
          in_run_lem = λ m. absurd (omega (arith, m));
          in_fallback_lem = λ m. record {
            bits = ap (λ (n : ℕ). bit_and n 0xC0) (fallen_status r x y z) ∙ bits_set (get_or r statut 0) b
                ∙ bit_7 (mode_bits r) (two_mode_bits r a.silence a.idle a.last a.mode p.by_mode);
            q_zero = refl;
            outputs_zero_lem = fallen_outputs r x y z;
          };
        };
      };
      registers = fallen_registers r x y z (or_byte (get_or r statut 0) 0x80 b (omega arith)) f;
      places = g.places;
    }

pub good_fallen : (ground : ℕ) → is_ground ground ≡ true → (most : ℕ) (a : Agent) → GoodTo most a → GoodTo most (enter_fallback ground a)
good_fallen ground h most a g = good_fallen_at ground h most most a a.elapsed a.silence a.idle g.parts.e_most g

-- ---- RUN
pub positive : (x y : ℕ) → 0 < x → 0 < y → 0 < x * y
positive x y h k = mul-pos h k

-- from fallback, released, with s below its limit and a source
pub good_running : (most : ℕ) (a : Agent) → GoodTo most a → a.mode ≡ in_fallback → reg a out_rep ≡ released
    → a.silence < reg a cnf_cyc * reg a tcyc → (a.last ≡ nobody → ⊥) → GoodTo most (enter_run a)
unfolding enter_run
good_running most a g resting rep s last =
    let r : List ℕ = a.regs in
    let z : ByteRegisters r = g.registers in
    let p : PartsTo most a = g.parts in
    let x : ℕ = bit_and (get_or r statut 0) 0x7F in
    let b : get_or r statut 0 < 256 = z.are_bytes statut in
    let q : List ℕ = sets r statut (x ∷ []) in
    let o : Outside 0x19 0x1A r q = outside_sets 0x19 0x1A r statut (x ∷ []) (omega arith) (omega arith) in
    let f : SameSettings r q = same_but_status r q o in
    let st : get_or q statut 0 ≡ x = stored_in r statut (x ∷ []) statut (omega arith) (omega arith) (omega (arith, z.are_256)) in
    record {
      parts = record {
        settings = settings_kept r q f p.settings;
        sources = p.sources;
        named = named_kept r q a.count (sid_before r q (λ j h. same_before 0x19 0x1A r q o j (omega arith))) p.named;
        fixed = p.fixed;
        k_most = p.k_most;
        e_most = p.e_most;
        last_is = p.last_is;
        heard_is = p.heard_is;
        mark_is = p.mark_is;
        by_mode = record {
          mode_is = inl refl;
          in_run_lem = λ m. running_kept r q a.silence 0 a.last f.limits
              (ap (λ (n : ℕ). bit_and n 0xC0) st ∙ bits_cleared (get_or r statut 0) b ∙ ap (λ (n : ℕ). bit_and n 0x7F) (p.by_mode.in_fallback_lem resting).bits)
              rep s (positive (get_or r cnf_rep 0) (get_or r tcyc 0) p.settings.m_set p.settings.t_set) last;
          in_fallback_lem = λ m. absurd (omega (arith, m));
        };
      };
      registers = registers_stored r statut (x ∷ []) (bytes_single x (and_byte (get_or r statut 0) 0x7F b (omega arith))) z;
      places = g.places;
    }
