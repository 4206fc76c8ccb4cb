-- What demand 3 means for the concentrators on the ring: a request is taken only if it is fresh; one from a
-- concentrator that lost the ring, a copy of one already taken, or one whose number was skipped, changes neither an output
-- nor the mode. Assumes nothing.
use Rattle.std.specs.Prelude.{true, List, ◌∷◌, ◌≡◌, ℕ, ◌<◌, Ok}
use Rattle.std.proofs.Math.Option.{some}
use Rattle.frame_reading.specs.Reading.{read_frame}
use Rattle.frame_kinds.specs.declared.kinds.Frame.TheVariants.{SafeRead, SafeWrite}
use Rattle.rules.specs.Calls.{Call, frame}
use Rattle.rules.specs.PowerUp.{power_up}
use Rattle.rules.specs.declared.Fixed.{Fixed}
use Rattle.demand3.specs.Claim.{Everywhere, BytesCalls}
use Rattle.demand3.specs.Events.{Request, a_sync, a_request, a_refused_write}
use Rattle.demand3.specs.History.{History, power_on, ◌▸◌, Entry, history}
use Rattle.demand3.specs.Numbers.{image, is_limit}
use Rattle.demand3.specs.Words.{event, last_sync, own_sid, taken, number_due, FreshNumber, skipped, Differs}

-- ---- every request that is taken is fresh

-- the call takes this request: answered 0 or 16
pub data Takes (e : Entry) (r : Request) : Type 0 where
  accepts : event e ≡ a_request r → Takes e r
  refuses : event e ≡ a_refused_write r → Takes e r

-- to the own SID, from the source and with the cycle of the last accepted sync, with the number due or one at most three
-- past it
pub record Fresh (h : History) (r : Request) : Type 0 where
  pub own : own_sid h ≡ some r.dest
  pub of_sync : last_sync h ≡ some (r.src, r.cyc)
  pub fresh : FreshNumber (number_due h) r.seq

-- ---- what a call brings, whatever the answer

-- the body reads as a safe request with these fields
pub data Asks (body : List ℕ) (dest src cyc seq : ℕ) : Type 0 where
  to_read : (address datl add : ℕ) (app : List ℕ) → read_frame body ≡ Ok (address, SafeRead dest src cyc seq datl add, app) → Asks body dest src cyc seq
  to_write : (address datl add : ℕ) (app : List ℕ) → read_frame body ≡ Ok (address, SafeWrite dest src cyc seq datl add, app) → Asks body dest src cyc seq

-- a frame call, on any port and with any reply buffer, whose body is such a request
pub record Brings (call : Call) (src seq : ℕ) : Type 0 where
  pub port : ℕ
  pub body : List ℕ
  pub room : ℕ
  pub dest : ℕ
  pub cyc : ℕ
  pub called : call ≡ frame port body room
  pub asks : Asks body dest src cyc seq

-- the call changes neither an output nor the mode
pub record Unchanged (e : Entry) : Type 0 where
  pub outputs : (i : ℕ) → i < image → e.after.out i ≡ e.before.out i
  pub mode : e.after.mode ≡ e.before.mode

-- ---- the concentrator that lost the ring

-- a sync from another source was accepted, and since then none from src
pub data Deposed (src : ℕ) : History → Type 0 where
  by : {h : History} {e : Entry} (other cyc : ℕ) → event e ≡ a_sync other cyc → (src ≡ other → ⊥) → Deposed src (h ▸ e)
  since : {h : History} {e : Entry} → Deposed src h → ((cyc : ℕ) → event e ≡ a_sync src cyc → ⊥) → Deposed src (h ▸ e)

-- ---- copies, and numbers skipped

-- x is in the list
pub data Among (x : ℕ) : List ℕ → Type 0 where
  here : {l : List ℕ} → Among x (x ∷ l)
  there : {y : ℕ} {l : List ℕ} → Among x l → Among x (y ∷ l)

-- ---- the statements

pub record Sharper (h : History) : Type 0 where
  -- every request taken, a read or a refused write too, is fresh
  pub fresh : Everywhere (λ past e. (r : Request) → Takes e r → Fresh past r) h
  -- after a sync from another source is accepted, no request of the earlier concentrator, not even a write, changes an
  -- output or the mode until a sync of its own is accepted again
  pub deposed : Everywhere (λ past e. (src seq : ℕ) → Brings e.call src seq → Deposed src past → Unchanged e) h
  -- a request with a SEQ already taken since the last accepted sync, as a copy on either port has, changes neither
  pub copy : Everywhere (λ past e. (src seq : ℕ) → Brings e.call src seq → Among seq (taken past) → Unchanged e) h
  -- no request taken has a SEQ skipped since the last accepted sync
  pub unskipped : Everywhere (λ past e. (r : Request) → Takes e r → Differs r.seq (skipped past)) h
  -- a request with such a SEQ changes neither
  pub late : Everywhere (λ past e. (src seq : ℕ) → Brings e.call src seq → Among seq (skipped past) → Unchanged e) h

-- for every MAC, IID and VER, a limit of requests that is 16 or 64, and every list of calls from power-up
abbrev pub Sharpened : Type 0
Sharpened = (mac iid ver : ℕ) (fixed : Fixed) → is_limit fixed.limit ≡ true
    → (calls : List Call) → BytesCalls calls → Sharper (history (power_up mac iid ver fixed) power_on calls)
