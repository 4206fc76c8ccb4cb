-- Document 01's words for demand 3, each defined by what one more event makes of it. Assumes nothing.
use Rattle.std.specs.Prelude.{true, List, [], ◌∷◌, ◌≡◌, ℕ, zero, suc, ◌+◌, ◌-◌, ◌*◌, ◌%◌, ◌≤◌, eqb}
use Rattle.std.proofs.Math.Option.{Option, none, some}
use Rattle.base.specs.Choice.{choose}
use Rattle.demand3.specs.Events.{Event, a_tick, a_sync, a_missed_sync, a_request, a_refused_write, an_assignment, nothing, orders_release, writes_outputs, Request}
use Rattle.demand3.specs.History.{History, power_on, ◌▸◌, Entry}
use Rattle.demand3.specs.Numbers.{in_run, in_fallback, most_skipped, first_seq}

abbrev pub event : Entry → Event
event e = e.event

-- a sync: SRC and CYC
abbrev pub SyncOf : Type 0
SyncOf = ℕ × ℕ

-- the last accepted sync
abbrev pub sync_after : Event → Option SyncOf → Option SyncOf
sync_after a_tick y = y
sync_after (a_sync src cyc) y = some (src, cyc)
sync_after a_missed_sync y = y
sync_after (a_request r) y = y
sync_after (a_refused_write r) y = y
sync_after (an_assignment sid) y = y
sync_after nothing y = y

abbrev pub last_sync : History → Option SyncOf
last_sync power_on = none
last_sync (h ▸ e) = sync_after (event e) (last_sync h)

-- the own SID: that given by the first accepted SID assignment
abbrev pub sid_after : Event → Option ℕ → Option ℕ
sid_after a_tick i = i
sid_after (a_sync src cyc) i = i
sid_after a_missed_sync i = i
sid_after (a_request r) i = i
sid_after (a_refused_write r) i = i
sid_after (an_assignment sid) none = some sid
sid_after (an_assignment sid) (some i) = some i
sid_after nothing i = i

abbrev pub own_sid : History → Option ℕ
own_sid power_on = none
own_sid (h ▸ e) = sid_after (event e) (own_sid h)

-- the SEQs of the requests taken since the last accepted sync, the latest first
abbrev pub taken_after : Event → List ℕ → List ℕ
taken_after a_tick l = l
taken_after (a_sync src cyc) l = []
taken_after a_missed_sync l = l
taken_after (a_request r) l = r.seq ∷ l
taken_after (a_refused_write r) l = r.seq ∷ l
taken_after (an_assignment sid) l = l
taken_after nothing l = l

abbrev pub taken : History → List ℕ
taken power_on = []
taken (h ▸ e) = taken_after (event e) (taken h)

-- the number due: the first SEQ for the CYC of the last accepted sync or, once a request was taken after it, the SEQ
-- last taken plus one, modulo 256
abbrev pub due_after : Option SyncOf → List ℕ → Option ℕ
due_after none l = none
due_after (some y) [] = some (first_seq y.1)
due_after (some y) (x ∷ l) = some ((x + 1) % 256)

abbrev pub number_due : History → Option ℕ
number_due h = due_after (last_sync h) (taken h)

-- a fresh number: the number due or one at most three past it, modulo 256
pub record FreshNumber (number-due : Option ℕ) (seq : ℕ) : Type 0 where
  pub due : ℕ
  pub is_due : number-due ≡ some due
  pub past : ℕ
  pub few : past ≤ most_skipped
  pub number : seq ≡ (due + past) % 256

-- the numbers skipped since the last accepted sync: for each request taken, those from the one due up to its own, without its own
abbrev pub numbers_from : (count first : ℕ) → List ℕ → List ℕ
numbers_from zero x l = l
numbers_from (suc n) x l = x ∷ numbers_from n ((x + 1) % 256) l

abbrev pub skipped_by : Option ℕ → ℕ → List ℕ → List ℕ
skipped_by none seq l = l
skipped_by (some due) seq l = numbers_from ((seq + 256 - due) % 256) due l

abbrev pub skipped_after : Event → Option ℕ → List ℕ → List ℕ
skipped_after a_tick due l = l
skipped_after (a_sync src cyc) due l = []
skipped_after a_missed_sync due l = l
skipped_after (a_request r) due l = skipped_by due r.seq l
skipped_after (a_refused_write r) due l = skipped_by due r.seq l
skipped_after (an_assignment sid) due l = l
skipped_after nothing due l = l

abbrev pub skipped : History → List ℕ
skipped power_on = []
skipped (h ▸ e) = skipped_after (event e) (number_due h) (skipped h)

-- all differ
abbrev pub Differs : ℕ → List ℕ → Type 0
Differs x [] = Unit {0}
Differs x (y ∷ l) = (x ≡ y → ⊥) × Differs x l

abbrev pub AllDiffer : List ℕ → Type 0
AllDiffer [] = Unit {0}
AllDiffer (x ∷ l) = Differs x l × AllDiffer l

-- ticks since the last accepted sync, or since power-up if there was none
abbrev pub silence_after : Event → ℕ → ℕ
silence_after a_tick x = x + 1
silence_after (a_sync src cyc) x = 0
silence_after a_missed_sync x = x
silence_after (a_request r) x = x
silence_after (a_refused_write r) x = x
silence_after (an_assignment sid) x = x
silence_after nothing x = x

abbrev pub silence : History → ℕ
silence power_on = 0
silence (h ▸ e) = silence_after (event e) (silence h)

-- ticks in RUN since the last output write or the entry to RUN, whichever is later; from the mode before and the mode after
abbrev pub idle_in_run : Event → ℕ → ℕ
idle_in_run a_tick x = x + 1
idle_in_run (a_sync src cyc) x = x
idle_in_run a_missed_sync x = x
idle_in_run (a_request r) x = choose (writes_outputs r.ask) 0 x
idle_in_run (a_refused_write r) x = x
idle_in_run (an_assignment sid) x = x
idle_in_run nothing x = x

abbrev pub idle_after : ℕ → ℕ → Event → ℕ → ℕ
idle_after before after v x = choose (eqb before in_run) (idle_in_run v x) (choose (eqb after in_run) 0 x)

abbrev pub idle : History → ℕ
idle power_on = 0
idle (h ▸ e) = idle_after e.before.mode e.after.mode (event e) (idle h)

-- ticks since the first sync that was refused with 22 after the last accepted sync; none if there is no such sync
abbrev pub missed_after : Event → Option ℕ → Option ℕ
missed_after a_tick none = none
missed_after a_tick (some x) = some (x + 1)
missed_after (a_sync src cyc) y = none
missed_after a_missed_sync none = some 0
missed_after a_missed_sync (some x) = some x
missed_after (a_request r) y = y
missed_after (a_refused_write r) y = y
missed_after (an_assignment sid) y = y
missed_after nothing y = y

abbrev pub missed : History → Option ℕ
missed power_on = none
missed (h ▸ e) = missed_after (event e) (missed h)

-- a call that takes the module from RUN into fallback, and one that takes it from fallback to RUN
pub record LeavesRun (e : Entry) : Type 0 where
  pub from : e.before.mode ≡ in_run
  pub to : e.after.mode ≡ in_fallback

pub record EntersRun (e : Entry) : Type 0 where
  pub from : e.before.mode ≡ in_fallback
  pub to : e.after.mode ≡ in_run

-- a tick at the sync limit: with it there were at least n × t ticks since the last accepted sync; n and t are those before it
pub record TickAtSyncLimit (h : History) (e : Entry) : Type 0 where
  pub tick : event e ≡ a_tick
  pub limit : e.before.n * e.before.t ≤ silence (h ▸ e)

-- a tick at the command limit, in the same way
pub record TickAtCommandLimit (h : History) (e : Entry) : Type 0 where
  pub tick : event e ≡ a_tick
  pub run : e.before.mode ≡ in_run
  pub limit : e.before.m * e.before.t ≤ idle (h ▸ e)

-- a tick at the window's limit: with it there were at least t ticks since a sync was refused with 22, and none was accepted since
pub record TickAtWindowLimit (h : History) (e : Entry) : Type 0 where
  pub ticks : ℕ
  pub tick : event e ≡ a_tick
  pub since : missed (h ▸ e) ≡ some ticks
  pub limit : e.before.t ≤ ticks

-- an accepted sync to a module in RUN
pub record SyncInRun (e : Entry) : Type 0 where
  pub src : ℕ
  pub cyc : ℕ
  pub sync : event e ≡ a_sync src cyc
  pub run : e.before.mode ≡ in_run

-- a release order was accepted, and since then the module did not leave RUN and no tick was at the sync limit
pub data Released : History → Type 0 where
  ordered : {h : History} {e : Entry} (r : Request) → event e ≡ a_request r → orders_release r.ask ≡ true → Released (h ▸ e)
  still : {h : History} {e : Entry} → Released h → (LeavesRun e → ⊥) → (TickAtSyncLimit h e → ⊥) → Released (h ▸ e)
