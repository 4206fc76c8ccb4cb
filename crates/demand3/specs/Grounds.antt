-- Register 26h: why the module last passed from RUN to fallback, told from calls, answers and what may be seen. One theorem beside
-- demand 3, over the same histories. Assumes nothing.
use Rattle.std.specs.Prelude.{true, List, ◌≡◌, ℕ, ◌*◌, Ok}
use Rattle.std.proofs.Math.Option.{some}
use Rattle.frame_reading.specs.Reading.{read_frame}
use Rattle.frame_kinds.specs.declared.kinds.Frame.TheVariants.{Sync}
use Rattle.rules.specs.Calls.{Call, frame}
use Rattle.rules.specs.PowerUp.{power_up}
use Rattle.rules.specs.declared.Fixed.{Fixed}
use Rattle.demand3.specs.Claim.{Everywhere, BytesCalls}
use Rattle.demand3.specs.Events.{Request, a_tick, a_request, orders_fallback}
use Rattle.demand3.specs.History.{History, power_on, ◌▸◌, Entry, history}
use Rattle.demand3.specs.Numbers.{is_limit, cycle, no_ground, by_sync_silence, by_command_silence, by_wrong_cycle, by_order, by_window}
use Rattle.demand3.specs.Words.{event, silence, missed, LeavesRun, TickAtSyncLimit, TickAtCommandLimit}

-- ---- what leads from RUN to fallback

-- a sync that is refused with 12
pub record WrongSync (call : Call) (answer : ℕ) : Type 0 where
  pub port : ℕ
  pub body : List ℕ
  pub room : ℕ
  pub address : ℕ
  pub src : ℕ
  pub cyc : ℕ
  pub called : call ≡ frame port body room
  pub app : List ℕ
  pub reads : read_frame body ≡ Ok (address, Sync src cyc, app)
  pub refused : answer ≡ cycle

-- an accepted order: AAh to 17h
pub record Ordered (e : Entry) : Type 0 where
  pub request : Request
  pub accepted : event e ≡ a_request request
  pub order : orders_fallback request.ask ≡ true

-- a tick that ends a cycle in RUN, with a sync refused with 22 since the last accepted sync: with this tick, the ticks since the last
-- accepted sync are a multiple of t
pub record TickAtMissedEnd (h : History) (e : Entry) : Type 0 where
  pub tick : event e ≡ a_tick
  pub ticks : ℕ
  pub since : missed h ≡ some ticks
  pub cycles : ℕ
  pub end : silence (h ▸ e) ≡ cycles * e.before.t

-- ---- the ground

-- the ground of the call e after the calls of h: silence of syncs comes before silence of commands, and both before the window
pub data Ground (h : History) (e : Entry) : ℕ → Type 0 where
  silent : TickAtSyncLimit h e → Ground h e by_sync_silence
  idle : TickAtCommandLimit h e → (TickAtSyncLimit h e → ⊥) → Ground h e by_command_silence
  wrong : WrongSync e.call e.answer → Ground h e by_wrong_cycle
  ordered : Ordered e → Ground h e by_order
  late : TickAtMissedEnd h e → (TickAtSyncLimit h e → ⊥) → (TickAtCommandLimit h e → ⊥) → Ground h e by_window

-- g is the ground of the last passage from RUN to fallback among the calls of a history, or 0 if there was none
pub data LastGround : History → ℕ → Type 0 where
  none : LastGround power_on no_ground
  passage : {h : History} {e : Entry} {g : ℕ} → LeavesRun e → Ground h e g → LastGround (h ▸ e) g
  still : {h : History} {e : Entry} {g : ℕ} → (LeavesRun e → ⊥) → LastGround h g → LastGround (h ▸ e) g

-- ---- the statement

-- 26h shows it, before every call, so at power-up too, and after every call
pub record Grounded (h : History) : Type 0 where
  pub before : Everywhere (λ past e. LastGround past e.before.ground) h
  pub after : Everywhere (λ past e. LastGround (past ▸ e) e.after.ground) h

-- for every MAC, IID and VER, a limit of requests that is 16 or 64, and every list of calls from power-up
abbrev pub ShowsGround : Type 0
ShowsGround = (mac iid ver : ℕ) (fixed : Fixed) → is_limit fixed.limit ≡ true
    → (calls : List Call) → BytesCalls calls → Grounded (history (power_up mac iid ver fixed) power_on calls)
