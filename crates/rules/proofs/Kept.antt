-- A change of registers that leaves alone what soundness reads of them keeps a state sound. Assumes nothing.
use mathlib.Core.Path.{◌≡◌, sym, ap, ◌∙◌}
use mathlib.Core.List.{List, [], ◌∷◌}
use mathlib.Core.Logic.{◌⊎◌}
use Prim.Native.Nat.{ℕ, ◌+◌, ◌*◌, ◌≤◌, ◌<◌}
use native.Mathlib.Omega.{arith}
use lib.Bits.{bit_and}
use lib.ListN.{length, get_or}
use lib.Seq.{sets, length-sets}
use Rattle.base.specs.Bytes.{Bytes}
use Rattle.base.proofs.Outside.{Outside, same_before, same_behind, outside_sets}
use Rattle.base.proofs.Stored.{stored_in, stored_bytes}
use Rattle.rules.specs.Fallback.{released}
use Rattle.rules.specs.Fixed.{limit_of}
use Rattle.rules.specs.Grounds.{is_ground}
use Rattle.rules.specs.Registers.{typ_at, tid_at, sid_at, out_rep, tcyc, statut, cnf_rep, cnf_cyc, ground_at, outputs_at, image, low_number}
use Rattle.rules.specs.State.{is_heard, unheard, is_marked, unmarked, nobody, with_regs}
use Rattle.rules.specs.declared.Agent.{Agent}
use Rattle.rules.proofs.Parts.{mode_bits, Settings, Named, LastIs, Running, ModeParts, PartsTo}

-- OUT_REP and the limits are the same in q as in r
pub record SameLimits (r q : List ℕ) : Type 0 where
  pub rep : get_or q out_rep 0 ≡ get_or r out_rep 0
  pub t : get_or q tcyc 0 ≡ get_or r tcyc 0
  pub m : get_or q cnf_rep 0 ≡ get_or r cnf_rep 0
  pub n : get_or q cnf_cyc 0 ≡ get_or r cnf_cyc 0

-- and TYP, TID and the ground
pub record SameSettings (r q : List ℕ) : Type 0 where
  pub typ : get_or q typ_at 0 ≡ get_or r typ_at 0
  pub tid : get_or q tid_at 0 ≡ get_or r tid_at 0
  pub ground : get_or q ground_at 0 ≡ get_or r ground_at 0
  pub limits : SameLimits r q

abbrev pub SameOutputs : List ℕ → List ℕ → Type 0
SameOutputs r q = (i : ℕ) → i < image → get_or q (outputs_at + i) 0 ≡ get_or r (outputs_at + i) 0

-- and all that soundness reads of registers
pub record SameFor (r q : List ℕ) : Type 0 where
  pub same : SameSettings r q
  pub sid : low_number q sid_at 3 ≡ low_number r sid_at 3
  pub bits : mode_bits q ≡ mode_bits r
  pub outputs : SameOutputs r q

-- ---- which changes are such
pub sid_same : (r q : List ℕ) → get_or q 0x14 0 ≡ get_or r 0x14 0 → get_or q 0x15 0 ≡ get_or r 0x15 0 → get_or q 0x16 0 ≡ get_or r 0x16 0
    → low_number q sid_at 3 ≡ low_number r sid_at 3
unfolding low_number
sid_same r q e f g = rw (e, f, g)

pub sid_before : (r q : List ℕ) → ((j : ℕ) → j < 0x17 → get_or q j 0 ≡ get_or r j 0) → low_number q sid_at 3 ≡ low_number r sid_at 3
sid_before r q low = sid_same r q (low 0x14 (omega arith)) (low 0x15 (omega arith)) (low 0x16 (omega arith))

-- all below STATUT, the limits and the ground
same_from : (r q : List ℕ) → ((j : ℕ) → j < 0x19 → get_or q j 0 ≡ get_or r j 0) → get_or q cnf_rep 0 ≡ get_or r cnf_rep 0
    → get_or q cnf_cyc 0 ≡ get_or r cnf_cyc 0 → get_or q ground_at 0 ≡ get_or r ground_at 0 → SameSettings r q
same_from r q low m n g = record {
  typ = low 0x10 (omega arith);
  tid = low 0x13 (omega arith);
  ground = g;
  limits = record { rep = low 0x17 (omega arith); t = low 0x18 (omega arith); m = m; n = n };
}

pub same_behind_settings : (lo hi : ℕ) (r q : List ℕ) → 0x1C ≤ lo → Outside lo hi r q → get_or q ground_at 0 ≡ get_or r ground_at 0 → SameSettings r q
same_behind_settings lo hi r q h o g =
    let low : (j : ℕ) → j < 0x1C → get_or q j 0 ≡ get_or r j 0 = λ j p. same_before lo hi r q o j (omega arith) in
    same_from r q (λ j p. low j (omega arith)) (low 0x1A (omega arith)) (low 0x1B (omega arith)) g

pub same_but_status : (r q : List ℕ) → Outside 0x19 0x1A r q → SameSettings r q
same_but_status r q o = same_from r q (λ j h. same_before 0x19 0x1A r q o j h) (o 0x1A tt) (o 0x1B tt) (o ground_at tt)

-- 1Ch to 25h: AD_REF, SZ_REF, counters, CONF
pub same_middle : (r q : List ℕ) → Outside 0x1C 0x26 r q → SameFor r q
same_middle r q o = record {
  same = same_behind_settings 0x1C 0x26 r q (omega arith) o (o ground_at tt);
  sid = sid_before r q (λ j h. same_before 0x1C 0x26 r q o j (omega arith));
  bits = ap (λ (x : ℕ). bit_and x 0xC0) (o 0x19 tt);
  outputs = λ i h. same_behind 0x1C 0x26 r q o (outputs_at + i) (omega arith);
}

-- C0h to FFh: inputs
pub same_inputs : (r q : List ℕ) → Outside 0xC0 0x100 r q → SameFor r q
same_inputs r q o = record {
  same = same_behind_settings 0xC0 0x100 r q (omega arith) o (o ground_at tt);
  sid = sid_before r q (λ j h. same_before 0xC0 0x100 r q o j (omega arith));
  bits = ap (λ (x : ℕ). bit_and x 0xC0) (o 0x19 tt);
  outputs = λ i h. same_before 0xC0 0x100 r q o (outputs_at + i) (omega arith);
}

-- STATUT, with the same bits 7 and 6
pub same_status : (r : List ℕ) (x : ℕ) → length r ≡ 256 → bit_and x 0xC0 ≡ mode_bits r → SameFor r (sets r statut (x ∷ []))
same_status r x l e =
    let q : List ℕ = sets r statut (x ∷ []) in
    let o : Outside 0x19 0x1A r q = outside_sets 0x19 0x1A r statut (x ∷ []) (omega arith) (omega arith) in
    record {
      same = same_but_status r q o;
      sid = sid_before r q (λ j h. same_before 0x19 0x1A r q o j (omega arith));
      bits = ap (λ (x : ℕ). bit_and x 0xC0) (stored_in r statut (x ∷ []) statut (omega arith) (omega arith) (omega arith)) ∙ e;
      outputs = λ i h. same_behind 0x19 0x1A r q o (outputs_at + i) (omega arith);
    }

-- ---- soundness stays
pub settings_kept : (r q : List ℕ) → SameSettings r q → Settings r → Settings q
settings_kept r q f s =
    let l : SameLimits r q = f.limits in
    record {
      t_set = rw l.t s.t_set;
      n_set = rw l.n s.n_set;
      m_set = rw l.m s.m_set;
      rep_is = rw l.rep s.rep_is;
      tid_is = rw f.tid s.tid_is;
      typ_is = f.typ ∙ s.typ_is;
      ground_is = ap is_ground f.ground ∙ s.ground_is;
    }

pub running_kept : (r q : List ℕ) (s i l : ℕ) → SameLimits r q → mode_bits q ≡ 0x00 → get_or r out_rep 0 ≡ released
    → s < get_or r cnf_cyc 0 * get_or r tcyc 0 → i < get_or r cnf_rep 0 * get_or r tcyc 0 → (l ≡ nobody → ⊥) → Running q s i l
running_kept r q s i l f b e p k h =
    record { bits = b; rep_55 = f.rep ∙ e; s_below = rw (f.n, f.t) p; q_below = rw (f.m, f.t) k; has_last = h }

pub named_kept : (r q : List ℕ) (n : ℕ) → low_number q sid_at 3 ≡ low_number r sid_at 3 → Named r n → Named q n
named_kept r q n e s = record { no_sid = λ h. e ∙ s.no_sid h; no_source = λ h. s.no_source (sym e ∙ h) }

pub mode_kept : (r q : List ℕ) (s i l m : ℕ) → SameLimits r q → mode_bits q ≡ mode_bits r → SameOutputs r q → ModeParts r s i l m → ModeParts q s i l m
mode_kept r q s i l m f b o x = record {
  mode_is = x.mode_is;
  in_run_lem = λ e. let y = x.in_run_lem e in running_kept r q s i l f (b ∙ y.bits) y.rep_55 y.s_below y.q_below y.has_last;
  in_fallback_lem = λ e. let y = x.in_fallback_lem e in record { bits = b ∙ y.bits; q_zero = y.q_zero; outputs_zero_lem = λ i h. o i h ∙ y.outputs_zero_lem i h };
}

pub parts_kept : (most : ℕ) (a : Agent) (q : List ℕ) → SameFor a.regs q → PartsTo most a → PartsTo most (with_regs q a)
parts_kept most a q f p = record {
  settings = settings_kept a.regs q f.same p.settings;
  sources = p.sources;
  named = named_kept a.regs q a.count f.sid p.named;
  fixed = p.fixed;
  k_most = p.k_most;
  e_most = p.e_most;
  last_is = p.last_is;
  heard_is = p.heard_is;
  mark_is = p.mark_is;
  by_mode = mode_kept a.regs q a.silence a.idle a.last a.mode f.same.limits f.bits f.outputs p.by_mode;
}

-- ---- and with it that registers are 256 bytes
pub record ByteRegisters (r : List ℕ) : Type 0 where
  pub are_256 : length r ≡ 256
  pub are_bytes : Bytes r

pub registers_stored : (r : List ℕ) (i : ℕ) (xs : List ℕ) → Bytes xs → ByteRegisters r → ByteRegisters (sets r i xs)
registers_stored r i xs b z = record { are_256 = length-sets r i xs ∙ z.are_256; are_bytes = stored_bytes r i xs z.are_bytes b }

-- good, with e at most `most`
pub record GoodTo (most : ℕ) (a : Agent) : Type 0 where
  pub parts : PartsTo most a
  pub registers : ByteRegisters a.regs
  pub places : length a.known ≡ 8

pub good_kept : (most : ℕ) (a : Agent) (q : List ℕ) → SameFor a.regs q → ByteRegisters q → GoodTo most a → GoodTo most (with_regs q a)
good_kept most a q f z g = record { parts = parts_kept most a q f g.parts; registers = z; places = g.places }

-- ---- other counters, flags and last source
abbrev counting : Agent → ℕ → ℕ → ℕ → ℕ → ℕ → ℕ → ℕ → ℕ → ℕ → Agent
counting a last s q c e k mode heard mark =
    record { regs = a.regs; known = a.known; last = last; silence = s; idle = q; cycle = c; elapsed = e; taken = k; mode = mode; heard = heard; mark = mark; count = a.count; fixed = a.fixed }

pub good_counting : (most later : ℕ) (a : Agent) {last s q c e k mode heard mark : ℕ} → GoodTo most a → k ≤ limit_of a → e ≤ later
    → LastIs a.known a.count last heard → (heard ≡ is_heard) ⊎ (heard ≡ unheard) → (mark ≡ is_marked) ⊎ (mark ≡ unmarked)
    → ModeParts a.regs s q last mode → GoodTo later (counting a last s q c e k mode heard mark)
good_counting most later a g hk he hl hh hr hm = record {
  parts = record {
    settings = g.parts.settings;
    sources = g.parts.sources;
    named = g.parts.named;
    fixed = g.parts.fixed;
    k_most = hk;
    e_most = he;
    last_is = hl;
    heard_is = hh;
    mark_is = hr;
    by_mode = hm;
  };
  registers = g.registers;
  places = g.places;
}
