-- What demand 3 looks at in an agent, part by part: what its registers show, the numbering of requests, the clocks, the mark.
-- When two views agree, and what a sound state says of its view. Assumes nothing.
use mathlib.Core.Bool.{Bool, true, not}
use mathlib.Core.List.{List}
use mathlib.Core.Path.{◌≡◌}
use Prim.Native.Nat.{ℕ, ◌+◌, ◌≤◌, ◌<◌}
use lib.Dec.{eqb}
use lib.ListN.{get_or}
use Rattle.rules.specs.Registers.{sid_at, out_rep, tcyc, cnf_rep, cnf_cyc, ground_at, outputs_at, image, low_number}
use Rattle.rules.specs.State.{in_run, in_fallback, nobody}
use Rattle.rules.specs.declared.Agent.{Agent}

-- what its registers show: OUT_REP, t, n, m, the ground, the outputs, the SID
pub record RegisterView : Type 0 where
  pub rep : ℕ
  pub t : ℕ
  pub n : ℕ
  pub m : ℕ
  pub ground : ℕ
  pub out : ℕ → ℕ
  pub sid : ℕ

-- the numbering of requests: the source of the last sync, whether the cycle is heard, c and k
pub record Cycle : Type 0 where
  pub last : ℕ
  pub heard : ℕ
  pub c : ℕ
  pub k : ℕ

-- the clocks: s, q and e
pub record Clocks : Type 0 where
  pub s : ℕ
  pub q : ℕ
  pub e : ℕ

-- with the mode, whether a SID is assigned, and the mark
pub record View : Type 0 where
  pub mode : ℕ
  pub assigned : Bool
  pub mark : ℕ
  pub registers : RegisterView
  pub cycle : Cycle
  pub clocks : Clocks

abbrev pub registers_of : List ℕ → RegisterView
registers_of r = record {
  rep = get_or r out_rep 0;
  t = get_or r tcyc 0;
  n = get_or r cnf_cyc 0;
  m = get_or r cnf_rep 0;
  ground = get_or r ground_at 0;
  out = λ i. get_or r (outputs_at + i) 0;
  sid = low_number r sid_at 3;
}

abbrev pub view_of : Agent → View
view_of a = record {
  mode = a.mode;
  assigned = not (eqb a.count 0);
  mark = a.mark;
  registers = registers_of a.regs;
  cycle = record { last = a.last; heard = a.heard; c = a.cycle; k = a.taken };
  clocks = record { s = a.silence; q = a.idle; e = a.elapsed };
}

-- two views agree, the outputs one by one
pub record SameRegisters (x y : RegisterView) : Type 0 where
  pub rep : x.rep ≡ y.rep
  pub t : x.t ≡ y.t
  pub n : x.n ≡ y.n
  pub m : x.m ≡ y.m
  pub ground : x.ground ≡ y.ground
  pub out : (i : ℕ) → i < image → x.out i ≡ y.out i
  pub sid : x.sid ≡ y.sid

pub record Agree (v w : View) : Type 0 where
  pub mode : v.mode ≡ w.mode
  pub assigned : v.assigned ≡ w.assigned
  pub mark : v.mark ≡ w.mark
  pub registers : SameRegisters v.registers w.registers
  pub cycle : v.cycle ≡ w.cycle
  pub clocks : v.clocks ≡ w.clocks

-- what a sound state says of its view
pub record Facts (v : View) : Type 0 where
  pub modes : (v.mode ≡ in_run → ⊥) → v.mode ≡ in_fallback
  pub cold : v.mode ≡ in_fallback → (i : ℕ) → i < image → v.registers.out i ≡ 0
  pub t : v.registers.t ≤ 255
  pub t_set : 0 < v.registers.t
  pub n : v.registers.n ≤ 255
  pub known : (v.cycle.last ≡ nobody → ⊥) → v.assigned ≡ true
