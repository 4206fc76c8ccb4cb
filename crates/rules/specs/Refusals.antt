-- Document 01, "Who causes which number": what each refusal changes. A refusal sends nothing, and changes only what its
-- row says. Assumes nothing.
use Rattle.std.specs.Prelude.{Bool, true, false, ◌&&◌, ◌||◌, List, [], ◌≡◌, ℕ, zero, suc, ◌+◌, ◌-◌, ◌<◌, eqb, length, get_or, Ok, Err}
use Rattle.std.specs.Int.Bits.{bit_or}
use Rattle.base.specs.Choice.{choose, within}
use Rattle.fields.specs.Fields.{numbers}
use Rattle.wire.specs.Body.{ReadBody, read_body}
use Rattle.frame_kinds.specs.Kinds.{head_of}
use Rattle.frame_kinds.specs.declared.kinds.Frame.{Frame}
use Rattle.frame_kinds.specs.declared.kinds.Frame.TheVariants.{Sync, SafeRead, SafeWrite, PlainRead, PlainWrite, SafeResponse, PlainSyncResponse, PlainResponse, TidAssignment, SidAssignment, SidAssignment4, Acknowledgement, Invariants}
use Rattle.frame_forms.specs.Forms.{Read}
use Rattle.rules.specs.Answers.{body_length, fcs, reserved, elsewhere, typ, form, crc, source, addressee, cycle, repeat, out_of_order, too_many, outside_rules, not_allowed, eight_others, unsound, reply_room, host_input, outside_window}
use Rattle.rules.specs.Calls.{Call, tick, frame, left_in}
use Rattle.rules.specs.Fallback.{withheld, ground_after, enter_fallback}
use Rattle.rules.specs.FrameCall.{agent_read}
use Rattle.rules.specs.Grounds.{by_wrong_cycle}
use Rattle.rules.specs.Marks.{counter_by, line_marked, format_marked, sequence_marked, skip_marked, window_marked}
use Rattle.rules.specs.Registers.{out_rep, statut, cpt_seq, cpt_for, ground_at, outputs_at, image}
use Rattle.rules.specs.Replies.{Outcome}
use Rattle.rules.specs.Requests.{distance}
use Rattle.rules.specs.State.{in_fallback, is_marked, unmarked, running, reg, with_taken}
use Rattle.rules.specs.declared.Agent.{Agent}

-- ---- the table

-- what a refusal changes
pub data Change : Type 0 where
  nothing : Change
  -- STATUT bit 5
  line_mark : Change
  -- STATUT bit 5, and CPT_FOR (24h) + 1
  format_mark : Change
  -- STATUT bit 1, and CPT_SEQ (20h) + 1
  sequence_mark : Change
  -- the same, and fallback
  sequence_fall : Change
  -- STATUT bit 1, and the mark
  window_mark : Change
  -- k becomes the number after the request's own; with a skip STATUT bit 1, and CPT_SEQ + 1 for each number skipped
  request_taken : (skips : ℕ) → Change

-- the numbers of refusals: 1 to 22
abbrev pub is_refusal : ℕ → Bool
is_refusal n = within body_length outside_window n

-- the row of a number; 12 has two, one for a sync in RUN and one for a request; that of 16 says how many numbers were skipped
abbrev pub row_of : (to_sync : Bool) (skips : ℕ) → ℕ → Change
row_of to_sync skips n =
    -- the line: 1 to 4
    choose (within body_length fcs n) line_mark
    -- other stations: 5 and 6
    (choose (within reserved elsewhere n) nothing
    -- a concentrator: 7, 8 to 11, 12, 13, 14, 15, 16, 22
    (choose (eqb n typ) format_mark
    (choose (within form addressee n) nothing
    (choose (eqb n cycle) (choose to_sync sequence_fall sequence_mark)
    (choose (eqb n repeat) nothing
    (choose (eqb n out_of_order) sequence_mark
    (choose (eqb n too_many) nothing
    (choose (eqb n outside_rules) (request_taken skips)
    (choose (eqb n outside_window) window_mark
    -- 17 and 18; the host: 19 to 21
    nothing)))))))))

-- 6, 9, 10, 11 and 13, which leave no trace
abbrev pub leaves_all : ℕ → Bool
leaves_all n = eqb n elsewhere || (eqb n crc || (eqb n source || (eqb n addressee || eqb n repeat)))

-- the others that leave none: 5, 8, 15 and 17 to 21
abbrev pub leaves_too : ℕ → Bool
leaves_too n =
    eqb n reserved
    || (eqb n form || (eqb n too_many || (eqb n not_allowed || (eqb n eight_others || (eqb n unsound || (eqb n reply_room || eqb n host_input))))))

-- the whole agent after a change
abbrev pub changed : Change → Agent → Agent
changed nothing a = a
changed line_mark a = line_marked a
changed format_mark a = format_marked a
changed sequence_mark a = sequence_marked a
changed sequence_fall a = enter_fallback by_wrong_cycle (sequence_marked a)
changed window_mark a = window_marked a
changed (request_taken skips) a = with_taken (a.taken + skips + 1) (skip_marked skips a)

-- ---- the parts that a change names

-- registers, by address
abbrev pub names_register : Change → ℕ → Bool
names_register nothing i = false
names_register line_mark i = eqb i statut
names_register format_mark i = eqb i statut || eqb i cpt_for
names_register sequence_mark i = eqb i statut || eqb i cpt_seq
names_register sequence_fall i = eqb i statut || (eqb i cpt_seq || (eqb i out_rep || (eqb i ground_at || within 0x80 0xBF i)))
names_register window_mark i = eqb i statut
names_register (request_taken zero) i = false
names_register (request_taken (suc skips)) i = eqb i statut || eqb i cpt_seq

-- mode and q
abbrev pub names_mode : Change → Bool
names_mode nothing = false
names_mode line_mark = false
names_mode format_mark = false
names_mode sequence_mark = false
names_mode sequence_fall = true
names_mode window_mark = false
names_mode (request_taken skips) = false

-- k
abbrev pub names_taken : Change → Bool
names_taken nothing = false
names_taken line_mark = false
names_taken format_mark = false
names_taken sequence_mark = false
names_taken sequence_fall = false
names_taken window_mark = false
names_taken (request_taken skips) = true

-- the mark
abbrev pub names_mark : Change → Bool
names_mark nothing = false
names_mark line_mark = false
names_mark format_mark = false
names_mark sequence_mark = false
names_mark sequence_fall = true
names_mark window_mark = true
names_mark (request_taken skips) = false

-- b is a except for the parts that a change names
pub record ButFor (row : Change) (a b : Agent) : Type 0 where
  pub registers : (i : ℕ) → names_register row i ≡ false → reg b i ≡ reg a i
  pub size : length b.regs ≡ length a.regs
  pub mode : names_mode row ≡ false → b.mode ≡ a.mode
  pub q : names_mode row ≡ false → b.idle ≡ a.idle
  pub k : names_taken row ≡ false → b.taken ≡ a.taken
  pub mark : names_mark row ≡ false → b.mark ≡ a.mark
  pub c : b.cycle ≡ a.cycle
  pub heard : b.heard ≡ a.heard
  pub e : b.elapsed ≡ a.elapsed
  pub s : b.silence ≡ a.silence
  pub last_source : b.last ≡ a.last
  pub recorded : b.known ≡ a.known
  pub recorded_count : b.count ≡ a.count
  pub fixed : b.fixed ≡ a.fixed

-- STATUT after a change: bit 5, bit 1, and bit 7 with fallback
abbrev pub status_by : Change → ℕ → ℕ
status_by nothing x = x
status_by line_mark x = bit_or x 0x20
status_by format_mark x = bit_or x 0x20
status_by sequence_mark x = bit_or x 0x02
status_by sequence_fall x = bit_or (bit_or x 0x02) 0x80
status_by window_mark x = bit_or x 0x02
status_by (request_taken zero) x = x
status_by (request_taken (suc skips)) x = bit_or x 0x02

-- the counters that go up, and stop at 255
abbrev pub raises : Change → ℕ → Bool
raises nothing i = false
raises line_mark i = false
raises format_mark i = eqb i cpt_for
raises sequence_mark i = eqb i cpt_seq
raises sequence_fall i = eqb i cpt_seq
raises window_mark i = false
raises (request_taken skips) i = eqb i cpt_seq

-- how many are counted: the one refusal, or the numbers skipped
abbrev pub count_of : Change → ℕ
count_of nothing = 1
count_of line_mark = 1
count_of format_mark = 1
count_of sequence_mark = 1
count_of sequence_fall = 1
count_of window_mark = 1
count_of (request_taken skips) = skips

-- what the named parts are in b
pub record Makes (row : Change) (a b : Agent) : Type 0 where
  pub status : reg b statut ≡ status_by row (reg a statut)
  pub counters : (i : ℕ) → raises row i ≡ true → reg b i ≡ counter_by (count_of row) (reg a i)
  pub fallback : names_mode row ≡ true → (b.mode ≡ in_fallback) × (b.idle ≡ 0)
  pub not_released : names_mode row ≡ true → reg b out_rep ≡ withheld
  pub ground : names_mode row ≡ true → reg b ground_at ≡ ground_after by_wrong_cycle a
  pub outputs : names_mode row ≡ true → (i : ℕ) → i < image → reg b (outputs_at + i) ≡ 0
  pub k : names_taken row ≡ true → b.taken ≡ a.taken + count_of row + 1
  -- set by 22, cleared with fallback
  pub mark : names_mark row ≡ true → b.mark ≡ choose (names_mode row) unmarked is_marked

-- ---- a refused call

-- the address and the application data of a body that was read; a refused one has none
abbrev pub address_of : ReadBody → ℕ
address_of (Ok b) = b.0
address_of (Err e) = 0

abbrev pub data_of : ReadBody → List ℕ
data_of (Ok b) = b.1
data_of (Err e) = []

-- what the body of a call is read as
abbrev pub read_of : List ℕ → Read
read_of body = agent_read (address_of (read_body body)) (data_of (read_body body))

-- whether it is a sync (TYP 00h), and whether the sync comes in RUN
abbrev pub is_sync : Frame → Bool
is_sync f = eqb (get_or (numbers (head_of f)) 0 0) 0x00

abbrev pub reads_sync : Read → Bool
reads_sync (Ok f) = is_sync f
reads_sync (Err e) = false

abbrev pub brings_sync : Call → Bool
brings_sync (tick xs) = false
brings_sync (frame port body room) = reads_sync (read_of body)

abbrev pub sync_in_run : Agent → Call → Bool
sync_in_run a call = brings_sync call && running a

-- how many numbers a request skips: those from k up to its own, without its own
abbrev pub skips_by : Agent → Frame → ℕ
skips_by a (SafeRead dest src cyc seq datl add) = distance seq cyc - a.taken
skips_by a (SafeWrite dest src cyc seq datl add) = distance seq cyc - a.taken
skips_by a (Sync src cyc) = 0
skips_by a (PlainRead src datl add) = 0
skips_by a (PlainWrite src datl add) = 0
skips_by a (SafeResponse dest src cyc seq kind datl add stat) = 0
skips_by a (PlainSyncResponse src datl add stat) = 0
skips_by a (PlainResponse src kind datl add) = 0
skips_by a (TidAssignment src iid tid) = 0
skips_by a (SidAssignment src sec mac sid) = 0
skips_by a (SidAssignment4 src sec mac sid sid2 src2) = 0
skips_by a (Acknowledgement src dst sec mac) = 0
skips_by a (Invariants dest src cyc seq config logic) = 0

abbrev pub skips_read : Agent → Read → ℕ
skips_read a (Ok f) = skips_by a f
skips_read a (Err e) = 0

abbrev pub skips : Agent → Call → ℕ
skips a (tick xs) = 0
skips a (frame port body room) = skips_read a (read_of body)

-- its number is in the table, nothing is sent, the reply buffer is untouched, and the agent is the one that the
-- number's row gives: it is as before except for the parts that the row names, and these are as the row says if there
-- are 256 registers
pub record Refused (a : Agent) (call : Call) (o : Outcome) : Type 0 where
  pub number : is_refusal o.answer ≡ true
  pub silent : o.line ≡ []
  pub buffer : (bytes : List ℕ) → left_in o bytes ≡ bytes
  pub state : o.agent ≡ changed (row_of (sync_in_run a call) (skips a call) o.answer) a
  pub others : ButFor (row_of (sync_in_run a call) (skips a call) o.answer) a o.agent
  pub named : length a.regs ≡ 256 → Makes (row_of (sync_in_run a call) (skips a call) o.answer) a o.agent
