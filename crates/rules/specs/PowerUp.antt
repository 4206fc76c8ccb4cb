-- The agent at power-up. Assumes nothing.
use Rattle.std.specs.Prelude.{List, [], ◌∷◌, ℕ, replicate}
use Rattle.std.proofs.lemmas.List.Edits.{sets}
use Rattle.rules.specs.Registers.{mac_at, iid_at, typ_at, ver_at, tid_at, low_bytes}
use Rattle.rules.specs.State.{in_fallback, unheard, unmarked, nobody}
use Rattle.rules.specs.declared.Agent.{Agent}
use Rattle.rules.specs.declared.Fixed.{Fixed}

-- TID, SID (3), OUT_REP, TCYC, STATUT, CNF_REP, CNF_CYC, AD_REF, SZ_REF: 13h to 1Dh
abbrev pub settings : List ℕ
settings = 0x8F ∷ 0xFF ∷ 0xFF ∷ 0xFF ∷ 0xAA ∷ 0xFF ∷ 0x80 ∷ 0x05 ∷ 0x02 ∷ 0x80 ∷ 0x08 ∷ []

-- all 256 registers start at zero, then: MAC, IID, TYP 82h and VER, the settings, 27h to 7Fh = FFh (89 bytes); 26h stays 0, no
-- ground
unfoldable pub power_regs : ℕ → ℕ → ℕ → List ℕ
power_regs mac iid ver =
    sets
    (sets
    (sets
    (sets
    (sets
    (sets (replicate 256 0) mac_at (low_bytes 8 mac))
    iid_at (low_bytes 8 iid))
    typ_at (0x82 ∷ []))
    ver_at (low_bytes 2 ver))
    tid_at settings)
    0x27 (replicate 89 0xFF)

-- fallback, unheard, no mark, counters 0, no source; with what is fixed
unfoldable pub power_up : ℕ → ℕ → ℕ → Fixed → Agent
power_up mac iid ver fixed = record {
  regs = power_regs mac iid ver;
  known = replicate 8 nobody;
  last = nobody;
  silence = 0;
  idle = 0;
  cycle = 0;
  elapsed = 0;
  taken = 0;
  mode = in_fallback;
  heard = unheard;
  mark = unmarked;
  count = 0;
  fixed = fixed;
}
