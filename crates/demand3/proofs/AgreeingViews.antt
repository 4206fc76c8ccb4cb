-- An effect of a request on two views that agree leaves two that agree. Assumes nothing.
use mathlib.Core.Path.{refl, ap}
use mathlib.Core.List.{List}
use Prim.Native.Nat.{ℕ, ◌+◌, ◌-◌}
use lib.Dec.{ltb, leb}
use lib.ListN.{length, get_or}
use Rattle.base.specs.Choice.{choose}
use Rattle.rules.specs.Registers.{outputs_at}
use Rattle.demand3.proofs.Effects.{commanded, taken_to, takes, limits, releases, outputs}
use Rattle.demand3.proofs.Views.{View, Agree}

pub takes_agree : (d : ℕ) {v w : View} → Agree v w → Agree (takes d v) (takes d w)
takes_agree d e = record {
  mode = e.mode;
  assigned = e.assigned;
  mark = e.mark;
  registers = e.registers;
  cycle = ap (taken_to d) e.cycle;
  clocks = e.clocks;
}

pub releases_agree : {v w : View} → Agree v w → Agree (releases v) (releases w)
releases_agree e = record {
  mode = e.mode;
  assigned = e.assigned;
  mark = e.mark;
  registers = record {
    rep = refl;
    t = e.registers.t;
    n = e.registers.n;
    m = e.registers.m;
    ground = e.registers.ground;
    out = e.registers.out;
    sid = e.registers.sid;
  };
  cycle = e.cycle;
  clocks = e.clocks;
}

pub limits_agree : (t n m : ℕ) {v w : View} → Agree v w → Agree (limits t n m v) (limits t n m w)
limits_agree t n m e = record {
  mode = e.mode;
  assigned = e.assigned;
  mark = e.mark;
  registers = record {
    rep = e.registers.rep;
    t = refl;
    n = refl;
    m = refl;
    ground = e.registers.ground;
    out = e.registers.out;
    sid = e.registers.sid;
  };
  cycle = e.cycle;
  clocks = e.clocks;
}

pub outputs_agree : (add : ℕ) (xs : List ℕ) {v w : View} → Agree v w → Agree (outputs add xs v) (outputs add xs w)
outputs_agree add xs e = record {
  mode = e.mode;
  assigned = e.assigned;
  mark = e.mark;
  registers = record {
    rep = e.registers.rep;
    t = e.registers.t;
    n = e.registers.n;
    m = e.registers.m;
    ground = e.registers.ground;
    out = λ i h. let j : ℕ = outputs_at + i in
        ap (λ (x : ℕ). choose (leb add j) (choose (ltb j (add + length xs)) (get_or xs (j - add) 0) x) x) (e.registers.out i h);
    sid = e.registers.sid;
  };
  cycle = e.cycle;
  clocks = ap commanded e.clocks;
}
