-- The agent at power-up is good, whatever MAC, IID and VER, if what is fixed at power-up fits. Assumes nothing.
use mathlib.Core.Bool.{true}
use mathlib.Core.Path.{◌≡◌, refl, ap, ◌∙◌}
use mathlib.Core.List.{List, [], ◌∷◌}
use mathlib.Core.Logic.{inl, inr}
use Prim.Native.Nat.{ℕ, ◌+◌, ◌-◌, ◌≤◌, ◌<◌}
use native.Mathlib.Omega.{arith}
use lib.Bits.{bit_and}
use lib.ListN.{get_or, replicate, length-replicate, get_or-replicate}
use lib.Seq.{sets}
use Rattle.base.proofs.Bytes.{bytes_single, bytes_replicate, bytes_written}
use Rattle.base.proofs.Stored.{stored_before, stored_behind, stored_in}
use Rattle.rules.specs.Fixed.{is_limit, fixed_by, fits}
use Rattle.rules.specs.Good.{Good}
use Rattle.rules.specs.Grounds.{no_ground, is_ground}
use Rattle.rules.specs.PowerUp.{settings, power_regs, power_up}
use Rattle.rules.specs.Registers.{mac_at, iid_at, typ_at, ver_at, tid_at, sid_at, out_rep, tcyc, statut, cnf_rep, cnf_cyc, ground_at, outputs_at, image, low_bytes, low_number}
use Rattle.rules.specs.State.{nobody}
use Rattle.rules.specs.declared.Fixed.{Fixed}
use Rattle.rules.proofs.GoodNext.{parts_good}
use Rattle.rules.proofs.Kept.{ByteRegisters, registers_stored, GoodTo}
use Rattle.rules.proofs.LowBytes.{length_low, bytes_low}
use Rattle.rules.proofs.Parts.{Settings, FixedParts}
use Rattle.rules.proofs.SoundParts.{fits_is, fixed_of}

-- both limits of requests fit
pub limit_fits : (limit : ℕ) → is_limit limit ≡ true → fits (fixed_by limit) ≡ true
limit_fits limit e = fits_is (fixed_by limit) ∙ e

module _ (mac iid ver : ℕ) where
  -- the registers after each store, up to the last
  macs : List ℕ
  macs = sets (replicate 256 0) mac_at (low_bytes 8 mac)

  iids : List ℕ
  iids = sets macs iid_at (low_bytes 8 iid)

  typs : List ℕ
  typs = sets iids typ_at (0x82 ∷ [])

  vers : List ℕ
  vers = sets typs ver_at (low_bytes 2 ver)

  sets13 : List ℕ
  sets13 = sets vers tid_at settings

  r : List ℕ
  r = power_regs mac iid ver

  -- ---- they are 256 bytes
  zeros : ByteRegisters (replicate 256 0)
  zeros = record { are_256 = length-replicate {A = ℕ} 256 0; are_bytes = bytes_replicate 256 0 (omega arith) }

  iids_are : ByteRegisters iids
  unfolding macs iids
  iids_are =
      registers_stored macs iid_at (low_bytes 8 iid) (bytes_low 8 iid) (registers_stored (replicate 256 0) mac_at (low_bytes 8 mac) (bytes_low 8 mac) zeros)

  vers_are : ByteRegisters vers
  unfolding typs vers
  vers_are =
      registers_stored typs ver_at (low_bytes 2 ver) (bytes_low 2 ver)
      (registers_stored iids typ_at (0x82 ∷ []) (bytes_single 0x82 (omega arith)) iids_are)

  start_registers : ByteRegisters r
  unfolding power_regs macs iids typs vers sets13 r
  start_registers =
      registers_stored sets13 0x27 (replicate 89 0xFF) (bytes_replicate 89 0xFF (omega arith))
      (registers_stored vers tid_at settings (bytes_written settings refl) vers_are)

  -- ---- TYP, the settings, and the outputs
  start_typ : get_or r typ_at 0 ≡ 0x82
  unfolding power_regs macs iids typs vers sets13 r
  start_typ =
      stored_before sets13 0x27 (replicate 89 0xFF) typ_at (omega arith)
      ∙ stored_before vers tid_at settings typ_at (omega arith)
      ∙ stored_before typs ver_at (low_bytes 2 ver) typ_at (omega arith)
      ∙ stored_in iids typ_at (0x82 ∷ []) typ_at (omega arith) (omega arith) (omega (arith, iids_are.are_256))

  -- 13h to 1Dh
  start_setting : (j : ℕ) → 0x13 ≤ j → j < 0x1E → get_or r j 0 ≡ get_or settings (j - 0x13) 0
  unfolding power_regs macs iids typs vers sets13 r
  start_setting j l h =
      stored_before sets13 0x27 (replicate 89 0xFF) j (omega arith)
      ∙ stored_in vers tid_at settings j l h (omega (arith, vers_are.are_256))

  start_output : (i : ℕ) → i < image → get_or r (outputs_at + i) 0 ≡ 0
  unfolding power_regs macs iids typs vers sets13 r
  start_output i h =
      let j : ℕ = outputs_at + i in
      stored_behind sets13 0x27 (replicate 89 0xFF) j (omega (arith, length-replicate {A = ℕ} 89 0xFF))
      ∙ stored_behind vers tid_at settings j (omega arith)
      ∙ stored_behind typs ver_at (low_bytes 2 ver) j (omega (arith, length_low 2 ver))
      ∙ stored_behind iids typ_at (0x82 ∷ []) j (omega arith)
      ∙ stored_behind macs iid_at (low_bytes 8 iid) j (omega (arith, length_low 8 iid))
      ∙ stored_behind (replicate 256 0) mac_at (low_bytes 8 mac) j (omega (arith, length_low 8 mac))
      ∙ get_or-replicate 256 j 0 0 (omega arith)

  -- 26h: no ground
  pub start_ground : get_or (power_regs mac iid ver) ground_at 0 ≡ no_ground
  unfolding power_regs macs iids typs vers sets13
  start_ground =
      stored_before sets13 0x27 (replicate 89 0xFF) ground_at (omega arith)
      ∙ stored_behind vers tid_at settings ground_at (omega arith)
      ∙ stored_behind typs ver_at (low_bytes 2 ver) ground_at (omega (arith, length_low 2 ver))
      ∙ stored_behind iids typ_at (0x82 ∷ []) ground_at (omega arith)
      ∙ stored_behind macs iid_at (low_bytes 8 iid) ground_at (omega (arith, length_low 8 iid))
      ∙ stored_behind (replicate 256 0) mac_at (low_bytes 8 mac) ground_at (omega (arith, length_low 8 mac))
      ∙ get_or-replicate 256 ground_at 0 0 (omega arith)

  start_sid : low_number r sid_at 3 ≡ nobody
  unfolding low_number
  start_sid =
      rw (start_setting 0x14 (omega arith) (omega arith), start_setting 0x15 (omega arith) (omega arith), start_setting 0x16 (omega arith) (omega arith))

  start_settings : Settings r
  unfolding r
  start_settings = record {
    t_set = rw (start_setting tcyc (omega arith) (omega arith)) (omega arith);
    n_set = rw (start_setting cnf_cyc (omega arith) (omega arith)) (omega arith);
    m_set = rw (start_setting cnf_rep (omega arith) (omega arith)) (omega arith);
    rep_is = inr (start_setting out_rep (omega arith) (omega arith));
    tid_is = inl (start_setting tid_at (omega arith) (omega arith));
    typ_is = start_typ;
    ground_is = ap is_ground start_ground;
  }

  start_good : (fixed : Fixed) → FixedParts fixed → GoodTo 254 (power_up mac iid ver fixed)
  unfolding power_up r
  start_good fixed f = record {
    parts = record {
      settings = start_settings;
      sources = record { at_most_8 = omega arith; all_differ = λ i j p q. absurd (omega arith); all_below = λ i h. absurd (omega arith) };
      named = record { no_sid = λ e. start_sid; no_source = λ e. refl };
      fixed = f;
      k_most = omega arith;
      e_most = omega arith;
      last_is = inr (refl, refl);
      heard_is = inr refl;
      mark_is = inr refl;
      by_mode = record {
        mode_is = inr refl;
        in_run_lem = λ m. absurd (omega (arith, m));
        in_fallback_lem = λ m. record {
          bits = ap (λ (x : ℕ). bit_and x 0xC0) (start_setting statut (omega arith) (omega arith));
          q_zero = refl;
          outputs_zero_lem = start_output;
        };
      };
    };
    registers = start_registers;
    places = length-replicate {A = ℕ} 8 nobody;
  }

  pub good_start : (fixed : Fixed) → fits fixed ≡ true → Good (power_up mac iid ver fixed)
  good_start fixed e = parts_good (power_up mac iid ver fixed) (start_good fixed (fixed_of fixed e))
