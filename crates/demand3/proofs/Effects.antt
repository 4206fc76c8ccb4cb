-- What a call can do to the parts of the agent that demand 3 is about: one case for each kind of effect. The rules are
-- taken apart once to show that every call is one of these; what builds on it looks at nothing else. Assumes nothing.
use mathlib.Core.Bool.{true, false}
use mathlib.Core.List.{List}
use mathlib.Core.Path.{◌≡◌}
use Prim.Native.Nat.{ℕ, ◌+◌, ◌-◌, ◌*◌, ◌%◌, ◌≤◌, ◌<◌}
use lib.Dec.{eqb, ltb, leb}
use lib.ListN.{length, get_or}
use Rattle.base.specs.Choice.{choose}
use Rattle.laying.specs.Laying.{body_of}
use Rattle.frame_kinds.specs.Kinds.{app_of}
use Rattle.frame_kinds.specs.declared.kinds.Frame.TheVariants.{SafeWrite}
use Rattle.rules.specs.Calls.{Call, frame}
use Rattle.rules.specs.Fallback.{released, withheld}
use Rattle.rules.specs.Grounds.{by_sync_silence, by_command_silence, by_wrong_cycle, by_order, by_window}
use Rattle.rules.specs.Registers.{outputs_at, image}
use Rattle.rules.specs.Replies.{Outcome}
use Rattle.rules.specs.Requests.{writes}
use Rattle.rules.specs.State.{in_run, in_fallback, is_heard, unheard, is_marked, unmarked, nobody}
use Rattle.rules.specs.Tick.{silence_end}
use Rattle.rules.specs.declared.Agent.{Agent}
use Rattle.demand3.specs.Events.{Event, a_tick, a_sync, a_missed_sync, a_request, a_refused_write, an_assignment, nothing, event_of, orders_release, orders_fallback, writes_outputs, Request}
use Rattle.demand3.specs.Grounds.{WrongSync}
use Rattle.demand3.specs.Numbers.{most_skipped, window, is_accepted, first_seq}
use Rattle.demand3.specs.Sharper.{Brings}
use Rattle.demand3.specs.Terminals.{covers}
use Rattle.demand3.proofs.Views.{RegisterView, Cycle, Clocks, View, view_of, Agree}

-- ---- the effects, part by part

abbrev cold : ℕ → RegisterView → RegisterView
cold ground r = record { rep = withheld; t = r.t; n = r.n; m = r.m; ground = ground; out = λ i. 0; sid = r.sid }

abbrev with_rep : ℕ → RegisterView → RegisterView
with_rep rep r = record { rep = rep; t = r.t; n = r.n; m = r.m; ground = r.ground; out = r.out; sid = r.sid }

abbrev with_limits : ℕ → ℕ → ℕ → RegisterView → RegisterView
with_limits t n m r = record { rep = r.rep; t = t; n = n; m = m; ground = r.ground; out = r.out; sid = r.sid }

abbrev with_sid : ℕ → RegisterView → RegisterView
with_sid sid r = record { rep = r.rep; t = r.t; n = r.n; m = r.m; ground = r.ground; out = r.out; sid = sid }

-- the bytes xs from register add on
abbrev stored : ℕ → List ℕ → RegisterView → RegisterView
stored add xs r = record {
  rep = r.rep;
  t = r.t;
  n = r.n;
  m = r.m;
  ground = r.ground;
  out = λ i. choose (leb add (outputs_at + i)) (choose (ltb (outputs_at + i) (add + length xs)) (get_or xs (outputs_at + i - add) 0) (r.out i)) (r.out i);
  sid = r.sid;
}

-- q from 0 on
abbrev pub commanded : Clocks → Clocks
commanded x = record { s = x.s; q = 0; e = x.e }

-- e from 0 on
abbrev pub restarted : Clocks → Clocks
restarted x = record { s = x.s; q = x.q; e = 0 }

-- no request yet, and the sync of this cycle not heard
abbrev pub next_one : Cycle → Cycle
next_one y = record { last = y.last; heard = unheard; c = (y.c + 1) % 256; k = 0 }

-- the request at the distance d taken
abbrev pub taken_to : ℕ → Cycle → Cycle
taken_to d y = record { last = y.last; heard = y.heard; c = y.c; k = d + 1 }

-- one tick, in that mode
abbrev pub clocks_on : ℕ → Clocks → Clocks
clocks_on mode x = record { s = choose (ltb x.s silence_end) (x.s + 1) silence_end; q = choose (eqb mode in_run) (x.q + 1) x.q; e = x.e + 1 }

abbrev with_registers : RegisterView → View → View
with_registers r v = record { mode = v.mode; assigned = v.assigned; mark = v.mark; registers = r; cycle = v.cycle; clocks = v.clocks }

abbrev with_cycle : Cycle → View → View
with_cycle y v = record { mode = v.mode; assigned = v.assigned; mark = v.mark; registers = v.registers; cycle = y; clocks = v.clocks }

abbrev with_clocks : Clocks → View → View
with_clocks x v = record { mode = v.mode; assigned = v.assigned; mark = v.mark; registers = v.registers; cycle = v.cycle; clocks = x }

abbrev with_mark : ℕ → View → View
with_mark x v = record { mode = v.mode; assigned = v.assigned; mark = x; registers = v.registers; cycle = v.cycle; clocks = v.clocks }

-- ---- and of the view

-- 26h shows the ground if the module was in RUN, else what it showed before
abbrev pub shown_by : ℕ → ℕ → ℕ → ℕ
shown_by mode ground shown = choose (eqb mode in_run) ground shown

abbrev pub fallen : ℕ → View → View
fallen g v = record {
  mode = in_fallback;
  assigned = v.assigned;
  mark = unmarked;
  registers = cold (shown_by v.mode g v.registers.ground) v.registers;
  cycle = v.cycle;
  clocks = commanded v.clocks;
}

abbrev pub counted_on : View → View
counted_on v = with_clocks (clocks_on v.mode v.clocks) v

abbrev pub next_cycle : View → View
next_cycle v = with_cycle (next_one v.cycle) (with_clocks (restarted v.clocks) v)

abbrev pub hears : ℕ → ℕ → View → View
hears src cyc v =
    with_mark unmarked (with_cycle (record { last = src; heard = is_heard; c = cyc; k = 0 }) (with_clocks (record { s = 0; q = v.clocks.q; e = 0 }) v))

abbrev pub misses : View → View
misses v = with_mark is_marked v

abbrev pub runs : View → View
runs v = record { mode = in_run; assigned = v.assigned; mark = v.mark; registers = v.registers; cycle = v.cycle; clocks = commanded v.clocks }

abbrev pub takes : ℕ → View → View
takes d v = with_cycle (taken_to d v.cycle) v

abbrev pub limits : ℕ → ℕ → ℕ → View → View
limits t n m v = with_registers (with_limits t n m v.registers) v

abbrev pub releases : View → View
releases v = with_registers (with_rep released v.registers) v

abbrev pub outputs : ℕ → List ℕ → View → View
outputs add xs v = with_registers (stored add xs v.registers) (with_clocks (commanded v.clocks) v)

abbrev pub named : ℕ → View → View
named sid v = record { mode = v.mode; assigned = true; mark = v.mark; registers = with_sid sid v.registers; cycle = v.cycle; clocks = v.clocks }

-- a request in reach: with the number due or one at most three past it, at the distance d from the first
pub record InReach (v : View) (r : Request) (d : ℕ) : Type 0 where
  pub last : r.src ≡ v.cycle.last
  pub somebody : v.cycle.last ≡ nobody → ⊥
  pub sid : r.dest ≡ v.registers.sid
  pub heard : v.cycle.heard ≡ is_heard
  pub cyc : r.cyc ≡ v.cycle.c
  pub low : v.cycle.k ≤ d
  pub high : d ≤ v.cycle.k + most_skipped
  pub seq : r.seq ≡ (first_seq v.cycle.c + d) % 256
  pub byte : d < 256

-- a tick stays below both limits
pub record BelowLimits (v : View) : Type 0 where
  pub sync : v.clocks.s < v.registers.n * v.registers.t
  pub command : v.mode ≡ in_run → v.clocks.q < v.registers.m * v.registers.t

-- the limit that a tick reaches first, and so its ground
pub data Reaches (v : View) : ℕ → Type 0 where
  at_sync : v.registers.n * v.registers.t ≤ v.clocks.s → Reaches v by_sync_silence
  at_command : v.mode ≡ in_run → v.clocks.s < v.registers.n * v.registers.t → v.registers.m * v.registers.t ≤ v.clocks.q → Reaches v by_command_silence
  at_window : v.mode ≡ in_run → BelowLimits v → v.mark ≡ is_marked → v.registers.t ≤ v.clocks.e → Reaches v by_window

-- the cycle ends at this tick, and no mark is set in RUN
pub record Ends (v : View) : Type 0 where
  pub over : v.registers.t ≤ v.clocks.e
  pub no_mark : v.mode ≡ in_run → v.mark ≡ is_marked → ⊥

-- a sync in its window: that of the next cycle at the end of this one, or that of this cycle, unheard, at its begin
pub data InTime (v : View) : Type 0 where
  next : v.registers.t ≤ v.clocks.e + window v.registers.t → InTime v
  same : v.cycle.heard ≡ unheard → v.clocks.e ≤ window v.registers.t → InTime v

-- the call is a body laid down for a write
pub record LaidWrite (call : Call) (r : Request) (add : ℕ) (xs : List ℕ) : Type 0 where
  pub port : ℕ
  pub body : List ℕ
  pub room : ℕ
  pub address : ℕ
  pub datl : ℕ
  pub called : call ≡ frame port body room
  pub laid : body ≡ body_of address (app_of (SafeWrite r.dest r.src r.cyc r.seq datl add) xs)
  pub length_is : length xs ≡ datl
  pub ask : r.ask ≡ writes add xs

-- the request spares the outputs: it is no output write, and covers none of them
pub record Spares (r : Request) : Type 0 where
  pub no_write : writes_outputs r.ask ≡ false
  pub none_covered : (i : ℕ) → i < image → covers i r.ask ≡ false

-- the call brings no safe request
abbrev pub BringsNone : Call → Type 0
BringsNone call = (src seq : ℕ) → Brings call src seq → ⊥

-- a call on a module of the view v, its answer, and what the two mean: it leaves the view so
pub data Did (v : View) (call : Call) (n : ℕ) (means : Event) : View → Type 0 where
  fell_at_tick : (g : ℕ) → means ≡ a_tick → Reaches (counted_on v) g → Did v call n means (fallen g (counted_on v))
  fell_at_tick_and_end : (g : ℕ) → means ≡ a_tick → Reaches (counted_on v) g → Did v call n means (next_cycle (fallen g (counted_on v)))
  ticked_on : means ≡ a_tick → BelowLimits (counted_on v) → v.clocks.e + 1 < v.registers.t → Did v call n means (counted_on v)
  ticked_on_and_end : means ≡ a_tick → BelowLimits (counted_on v) → Ends (counted_on v) → Did v call n means (next_cycle (counted_on v))
  kept : means ≡ nothing → Did v call n means v
  lost : means ≡ nothing → BringsNone call → WrongSync call n → Did v call n means (fallen by_wrong_cycle v)
  missed : means ≡ a_missed_sync → BringsNone call → Did v call n means (misses v)
  heard_only : (src cyc : ℕ) → means ≡ a_sync src cyc → v.assigned ≡ true → (v.mode ≡ in_run → InTime v) → Did v call n means (hears src cyc v)
  entered_run : (src cyc : ℕ) → means ≡ a_sync src cyc → v.assigned ≡ true → v.mode ≡ in_fallback → v.registers.rep ≡ released → Did v call n means (runs (hears src cyc v))
  taken_only : (r : Request) {d : ℕ} → means ≡ a_refused_write r → InReach v r d → Did v call n means (takes d v)
  asked : (r : Request) {d : ℕ} → means ≡ a_request r → InReach v r d → Spares r → Did v call n means (takes d v)
  configured : (r : Request) (t c m : ℕ) {d : ℕ} → means ≡ a_request r → InReach v r d → Spares r → v.mode ≡ in_fallback → Did v call n means (limits t c m (takes d v))
  released_by : (r : Request) {d : ℕ} → means ≡ a_request r → InReach v r d → Spares r → orders_release r.ask ≡ true → Did v call n means (releases (takes d v))
  withdrawn : (r : Request) {d : ℕ} → means ≡ a_request r → InReach v r d → Spares r → orders_fallback r.ask ≡ true → Did v call n means (fallen by_order (takes d v))
  output : (r : Request) (add : ℕ) (xs : List ℕ) {d : ℕ} → is_accepted n ≡ true → means ≡ a_request r → InReach v r d → writes_outputs r.ask ≡ true → v.mode ≡ in_run → LaidWrite call r add xs → Did v call n means (outputs add xs (takes d v))
  named_first : (sid : ℕ) → means ≡ an_assignment sid → v.assigned ≡ false → Did v call n means (named sid v)
  acknowledged : (sid : ℕ) → means ≡ an_assignment sid → v.assigned ≡ true → Did v call n means v

-- a call, and what it means by its answer
pub record Told : Type 0 where
  pub call : Call
  pub means : ℕ → Event

-- on a SIL2 module
abbrev pub told : Call → Told
told call = record { call = call; means = event_of call }

-- a step of the rules: one of these, shown by the agent it leaves
pub record Step (a : Agent) (call : Told) (o : Outcome) : Type 0 where
  pub view : View
  pub did : Did (view_of a) call.call o.answer (call.means o.answer) view
  pub shows : Agree (view_of o.agent) view
