-- What the terminals show: the outputs, worked out from the calls, their answers and the mode. What was in the output registers is
-- not read. One theorem beside demand 3, over the same histories. Assumes nothing.
use Rattle.std.specs.Prelude.{Bool, true, false, not, ◌&&◌, List, ◌≡◌, ℕ, ◌+◌, ◌-◌, ◌<◌, eqb, leb, ltb, length, get_or}
use Rattle.std.proofs.Math.Option.{Option, none, some}
use Rattle.base.specs.Choice.{choose}
use Rattle.rules.specs.Calls.{Call}
use Rattle.rules.specs.PowerUp.{power_up}
use Rattle.rules.specs.Requests.{Ask, reads, writes}
use Rattle.rules.specs.declared.Fixed.{Fixed}
use Rattle.demand3.specs.Claim.{Everywhere, BytesCalls}
use Rattle.demand3.specs.Events.{Event, a_tick, a_sync, a_missed_sync, a_request, a_refused_write, an_assignment, nothing}
use Rattle.demand3.specs.History.{History, power_on, ◌▸◌, history}
use Rattle.demand3.specs.Numbers.{in_run, outputs_at, image, is_limit}
use Rattle.demand3.specs.Words.{event}

-- ---- the last accepted write

-- a request covers output i: it is a write, and its data from ADD on reach the register of the output
abbrev pub covers : (i : ℕ) → Ask → Bool
covers i (reads datl add) = false
covers i (writes add xs) = leb add (outputs_at + i) && ltb (outputs_at + i) (add + length xs)

-- the byte that it has for output i
abbrev pub byte_for : (i : ℕ) → Ask → ℕ
byte_for i (reads datl add) = 0x00
byte_for i (writes add xs) = get_or xs (outputs_at + i - add) 0x00

-- the byte of the last accepted write that covered output i, after one more event
abbrev pub last_byte_by : (i : ℕ) → Event → Option ℕ → Option ℕ
last_byte_by i a_tick x = x
last_byte_by i (a_sync src cyc) x = x
last_byte_by i a_missed_sync x = x
last_byte_by i (a_request r) x = choose (covers i r.ask) (some (byte_for i r.ask)) x
last_byte_by i (a_refused_write r) x = x
last_byte_by i (an_assignment sid) x = x
last_byte_by i nothing x = x

-- the same since the module last entered RUN; by the mode before the call and the mode after it
abbrev pub last_byte_after : (i before after : ℕ) → Event → Option ℕ → Option ℕ
last_byte_after i before after v x = choose (not (eqb before in_run) && eqb after in_run) none (last_byte_by i v x)

-- the byte of the last accepted write that covered output i since the module last entered RUN; none if there is none
abbrev pub last_byte : (i : ℕ) → History → Option ℕ
last_byte i power_on = none
last_byte i (h ▸ e) = last_byte_after i e.before.mode e.after.mode (event e) (last_byte i h)

-- ---- what is shown

-- that byte, or 00h if there is none
abbrev pub or_zero : Option ℕ → ℕ
or_zero none = 0x00
or_zero (some x) = x

-- what the terminals show of output i after the calls of a history: that byte, or 00h in fallback
abbrev pub shown : (i : ℕ) → History → ℕ
shown i power_on = 0x00
shown i (h ▸ e) = choose (eqb e.after.mode in_run) (or_zero (last_byte i (h ▸ e))) 0x00

-- ---- the statement

-- each output register is that, before every call, so at power-up too, and after every call
pub record Terminals (h : History) : Type 0 where
  pub before : Everywhere (λ past e. (i : ℕ) → i < image → e.before.out i ≡ shown i past) h
  pub after : Everywhere (λ past e. (i : ℕ) → i < image → e.after.out i ≡ shown i (past ▸ e)) h

-- for every MAC, IID and VER, a limit of requests that is 16 or 64, and every list of calls from power-up
abbrev pub ShowsTerminals : Type 0
ShowsTerminals = (mac iid ver : ℕ) (fixed : Fixed) → is_limit fixed.limit ≡ true
    → (calls : List Call) → BytesCalls calls → Terminals (history (power_up mac iid ver fixed) power_on calls)
