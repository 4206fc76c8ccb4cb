-- An accepted TID assignment, or SID assignment, makes a good agent of a good one. Assumes nothing.
use mathlib.Core.Path.{◌≡◌, sym, ap, ◌∙◌}
use mathlib.Core.Bool.{true, false, not, ◌||◌}
use mathlib.Core.List.{List, [], ◌∷◌}
use mathlib.Core.Logic.{inr}
use Prim.Native.Nat.{ℕ, ◌+◌, ◌^◌, ◌<◌}
use native.Mathlib.Omega.{arith}
use borrow.Author.Tests.{leb-true}
use lib.Bits.{bit_and}
use lib.Dec.{eqb, leb}
use lib.ListN.{length, get_or, set, length-set}
use lib.Seq.{sets}
use Rattle.base.specs.Choice.{within}
use Rattle.base.proofs.Bytes.{bytes_single}
use Rattle.base.proofs.Choosing.{and_left, and_right}
use Rattle.base.proofs.Outside.{Outside, outside_sets, same_behind}
use Rattle.base.proofs.Stored.{stored_in}
use Rattle.rules.specs.Assignments.{assignable}
use Rattle.rules.specs.Grounds.{is_ground}
use Rattle.rules.specs.Registers.{typ_at, tid_at, sid_at, out_rep, tcyc, statut, cnf_rep, cnf_cyc, ground_at, outputs_at, low_bytes, low_number}
use Rattle.rules.specs.Sources.{holds, recorded}
use Rattle.rules.specs.State.{nobody, store, store_all}
use Rattle.rules.specs.declared.Agent.{Agent}
use Rattle.rules.proofs.Kept.{SameLimits, sid_same, settings_kept, mode_kept, named_kept, registers_stored, GoodTo}
use Rattle.rules.proofs.LowBytes.{length_low, bytes_low, low_stored}
use Rattle.rules.proofs.Parts.{Sources, LastIs}
use Rattle.rules.proofs.Recorded.{more_sources, more_last}

assignable_byte : (tid : ℕ) → assignable tid ≡ true → tid < 256
assignable_byte tid e =
    let low : within 0x01 0x8E tid ≡ true = and_left (within 0x01 0x8E tid) (not (eqb tid 0x7D || eqb tid 0x7E)) e in
    omega (arith, leb-true tid 0x8E (and_right (leb 0x01 tid) (leb tid 0x8E) low))

-- ---- TID
pub good_tid : (a : Agent) (tid : ℕ) → GoodTo 254 a → assignable tid ≡ true → GoodTo 254 (store tid_at tid a)
good_tid a tid g ok =
    let r : List ℕ = a.regs in
    let q : List ℕ = sets r tid_at (tid ∷ []) in
    let p = g.parts in
    let s = p.settings in
    let o : Outside 0x13 0x14 r q = outside_sets 0x13 0x14 r tid_at (tid ∷ []) (omega arith) (omega arith) in
    let e : get_or q tid_at 0 ≡ tid = stored_in r tid_at (tid ∷ []) tid_at (omega arith) (omega arith) (omega (arith, g.registers.are_256)) in
    record {
      parts = record {
        settings = record {
          t_set = rw (o tcyc tt) s.t_set;
          n_set = rw (o cnf_cyc tt) s.n_set;
          m_set = rw (o cnf_rep tt) s.m_set;
          rep_is = rw (o out_rep tt) s.rep_is;
          tid_is = inr (rw e ok);
          typ_is = o typ_at tt ∙ s.typ_is;
          ground_is = ap is_ground (o ground_at tt) ∙ s.ground_is;
        };
        sources = p.sources;
        named = named_kept r q a.count (sid_same r q (o 0x14 tt) (o 0x15 tt) (o 0x16 tt)) p.named;
        fixed = p.fixed;
        k_most = p.k_most;
        e_most = p.e_most;
        last_is = p.last_is;
        heard_is = p.heard_is;
        mark_is = p.mark_is;
        by_mode = mode_kept r q a.silence a.idle a.last a.mode
            record { rep = o out_rep tt; t = o tcyc tt; m = o cnf_rep tt; n = o cnf_cyc tt }
            (ap (λ (x : ℕ). bit_and x 0xC0) (o statut tt))
            (λ i h. same_behind 0x13 0x14 r q o (outputs_at + i) (omega arith)) p.by_mode;
      };
      registers = registers_stored r tid_at (tid ∷ []) (bytes_single tid (assignable_byte tid ok)) g.registers;
      places = g.places;
    }

-- ---- SID: a source that is new
module _ (a : Agent) (src : ℕ) (g : GoodTo 254 a) (few : a.count < 8) (someone : src < nobody) (new : holds a.known a.count src ≡ false) where
  room : a.count < length a.known
  room = rw g.places few

  sources_more : Sources (set a.known a.count src) (a.count + 1)
  sources_more = more_sources a.known a.count src room few someone new g.parts.sources

  last_more : LastIs (set a.known a.count src) (a.count + 1) a.last a.heard
  last_more = more_last a.known a.count src room a.last a.heard g.parts.last_is

  places_more : length (set a.known a.count src) ≡ 8
  places_more = length-set a.known a.count src ∙ g.places

  -- a later assignment
  pub good_later : (a.count ≡ 0 → ⊥) → GoodTo 254 (recorded src a)
  unfolding recorded
  good_later some =
      let p = g.parts in
      record {
        parts = record {
          settings = p.settings;
          sources = sources_more;
          named = record { no_sid = λ e. absurd (omega (arith, e)); no_source = λ e. absurd (some (p.named.no_source e)) };
          fixed = p.fixed;
          k_most = p.k_most;
          e_most = p.e_most;
          last_is = last_more;
          heard_is = p.heard_is;
          mark_is = p.mark_is;
          by_mode = p.by_mode;
        };
        registers = g.registers;
        places = places_more;
      }

  -- the first one gives the SID
  pub good_first : (sid : ℕ) → sid < 256 ^ 3 → (sid ≡ nobody → ⊥) → GoodTo 254 (recorded src (store_all sid_at (low_bytes 3 sid) a))
  unfolding recorded
  good_first sid b other =
      let r : List ℕ = a.regs in
      let q : List ℕ = sets r sid_at (low_bytes 3 sid) in
      let p = g.parts in
      let o : Outside 0x14 0x17 r q = outside_sets 0x14 0x17 r sid_at (low_bytes 3 sid) (omega arith) (omega (arith, length_low 3 sid)) in
      let l : SameLimits r q = record { rep = o out_rep tt; t = o tcyc tt; m = o cnf_rep tt; n = o cnf_cyc tt } in
      let e : low_number q sid_at 3 ≡ sid = low_stored r sid_at 3 sid b (omega (arith, g.registers.are_256)) in
      record {
        parts = record {
          settings = settings_kept r q record { typ = o typ_at tt; tid = o tid_at tt; ground = o ground_at tt; limits = l } p.settings;
          sources = sources_more;
          named = record { no_sid = λ h. absurd (omega (arith, h)); no_source = λ h. absurd (other (sym e ∙ h)) };
          fixed = p.fixed;
          k_most = p.k_most;
          e_most = p.e_most;
          last_is = last_more;
          heard_is = p.heard_is;
          mark_is = p.mark_is;
          by_mode = mode_kept r q a.silence a.idle a.last a.mode l (ap (λ (x : ℕ). bit_and x 0xC0) (o statut tt))
              (λ i h. same_behind 0x14 0x17 r q o (outputs_at + i) (omega arith)) p.by_mode;
        };
        registers = registers_stored r sid_at (low_bytes 3 sid) (bytes_low 3 sid) g.registers;
        places = places_more;
      }
