-- Cases on the bench, P1 to P14: one table of statements over the rules. Assumes nothing.
use Rattle.std.specs.Prelude.{true, List, [], ◌∷◌, ◌++◌, ◌≡◌, ℕ, zero, suc, ◌-◌, ◌≤◌, length, take, drop}
use Rattle.crc.specs.Crc.{Fcs, crc_of}
use Rattle.wire.specs.Body.{answer_to_body}
use Rattle.stuffing.specs.Stuffing.{stuff}
use Rattle.frame_writing.specs.Writing.{frame_line}
use Rattle.frame_kinds.specs.declared.kinds.Frame.TheVariants.{SafeResponse}
use Rattle.rules.specs.Calls.{Call, act}
use Rattle.rules.specs.Fixed.{doors_limit, is_limit, fits}
use Rattle.rules.specs.PowerUp.{power_up}
use Rattle.rules.specs.Registers.{typ_at, out_rep, tcyc}
use Rattle.rules.specs.Requests.{first_seq}
use Rattle.rules.specs.Sound.{sound}
use Rattle.rules.specs.State.{in_run, in_fallback, is_heard, t_of, n_of, m_of}
use Rattle.rules.specs.declared.Agent.{Agent}
use Rattle.rules.specs.declared.Fixed.{Fixed}
use Rattle.bench.specs.BusCalls.{module_of, own_sid, concentrator, assigns, syncs, asks_for, writes_to, after, silent}

-- the start of P9 to P14, by calls from power-up: the SID is assigned, t is set to 10 and the release ordered in a cycle
-- with CYC b, and the next sync, with CYC c, leads to RUN; n 2 and m 5 are power-up's
abbrev pub prelude : ℕ → ℕ → List Call
prelude b c = assigns ∷ syncs b ∷ writes_to b 0 tcyc (0x0A ∷ []) ∷ writes_to b 1 out_rep (0x55 ∷ []) ∷ syncs c ∷ []

abbrev pub after_prelude_of : (limit b c : ℕ) → Agent
after_prelude_of limit b c = after (prelude b c) (module_of limit)

abbrev pub after_prelude : ℕ → ℕ → Agent
after_prelude b c = after_prelude_of doors_limit b c

-- in RUN with t 10, n 2 and m 5, in a heard cycle with CYC c, e ms of it gone
pub record InRun (c e : ℕ) (a : Agent) : Type 0 where
  pub sound_is : sound a ≡ true
  pub run : a.mode ≡ in_run
  pub t : t_of a ≡ 10
  pub n : n_of a ≡ 2
  pub m : m_of a ≡ 5
  pub heard : a.heard ≡ is_heard
  pub cyc : a.cycle ≡ c
  pub e_is : a.elapsed ≡ e

-- n times ten ticks and a sync with the next CYC
abbrev pub on_time : ℕ → ℕ → List Call
on_time zero c = []
on_time (suc n) c = silent 10 ++ (syncs (suc c) ∷ on_time n (suc c))

-- n reads of one register in a cycle with CYC 05h, after k other requests
abbrev pub asked : ℕ → ℕ → List Call
asked zero k = []
asked (suc n) k = asks_for 0x05 k 1 typ_at ∷ asked n (suc k)

pub data Bench : Type 0 where
  p1 p2 p3 p4 p5 p6 p7 p8 p9 p10 p11 p12 p13 p14 : Bench

abbrev pub Says' : Bench → Type 0
-- first SEQ for CYC 05h is FBh, for 00h 00h, for FFh 01h
Says' p1 = first_seq 0x05 ≡ 0xFB
Says' p2 = first_seq 0x00 ≡ 0x00
Says' p3 = first_seq 0xFF ≡ 0x01
-- 7E 31 7D stuffs to 7D 5E 31 7D 5D
Says' p4 = stuff (0x7E ∷ 0x31 ∷ 0x7D ∷ []) ≡ 0x7D ∷ 0x5E ∷ 0x31 ∷ 0x7D ∷ 0x5D ∷ []
-- in the stuffed part of a body of 7 to 543 bytes 7D 31 is 2
Says' p5 = (a : ℕ) (xs ys : List ℕ) → 7 ≤ length (a ∷ (xs ++ (0x7D ∷ 0x31 ∷ ys))) → length (a ∷ (xs ++ (0x7D ∷ 0x31 ∷ ys))) ≤ 543 → (answer_to_body (a ∷ (xs ++ (0x7D ∷ 0x31 ∷ ys)))).0 ≡ 2
-- there a last 7D is 2
Says' p6 = (a : ℕ) (xs : List ℕ) → 7 ≤ length (a ∷ (xs ++ (0x7D ∷ []))) → length (a ∷ (xs ++ (0x7D ∷ []))) ≤ 543 → (answer_to_body (a ∷ (xs ++ (0x7D ∷ [])))).0 ≡ 2
-- FCS rule over ASCII 123456789 is 29B1h
Says' p7 = crc_of Fcs (0x31 ∷ 0x32 ∷ 0x33 ∷ 0x34 ∷ 0x35 ∷ 0x36 ∷ 0x37 ∷ 0x38 ∷ 0x39 ∷ []) ≡ 0x29B1
-- power-up and 255 ticks: c = 01h
Says' p8 = (mac iid ver : ℕ) (fixed : Fixed) → fits fixed ≡ true → (after (silent 255) (power_up mac iid ver fixed)).cycle ≡ 0x01
-- t 10, n 2, m 5: RUN after 19 silent ticks, fallback at the 20th
Says' p9 =
    InRun 0x05 0 (after_prelude 0x04 0x05)
    × ((after (silent 19) (after_prelude 0x04 0x05)).mode ≡ in_run)
    × ((after (silent 20) (after_prelude 0x04 0x05)).mode ≡ in_fallback)
-- from there, syncs on time, no output write: RUN at 49, fallback at 50
Says' p10 =
    ((after (on_time 4 0x05 ++ silent 9) (after_prelude 0x04 0x05)).mode ≡ in_run)
    × ((after (on_time 4 0x05 ++ silent 10) (after_prelude 0x04 0x05)).mode ≡ in_fallback)
-- RUN, heard c FFh, e = t − 1: CYC 00h accepted, 01h is 12
Says' p11 =
    InRun 0xFF 9 (after (silent 9) (after_prelude 0xFE 0xFF))
    × ((act (after (silent 9) (after_prelude 0xFE 0xFF)) (syncs 0x00)).answer ≡ 0)
    × ((act (after (silent 9) (after_prelude 0xFE 0xFF)) (syncs 0x01)).answer ≡ 12)
-- RUN: one byte at BFh accepted, two are 16
Says' p12 =
    ((act (after_prelude 0x04 0x05) (writes_to 0x05 0 0xBF (0xA5 ∷ []))).answer ≡ 0)
    × ((act (after_prelude 0x04 0x05) (writes_to 0x05 0 0xBF (0xA5 ∷ 0x5A ∷ []))).answer ≡ 16)
-- reading 254 from 02h is served, 255 from 00h is error 55h
Says' p13 =
    ((act (after_prelude 0x04 0x05) (asks_for 0x05 0 254 0x02)).line
    ≡ frame_line 0xF0 (SafeResponse concentrator own_sid 0x05 0xFC 0x70 254 0x02 0x00) (take 254 (drop 0x02 (after_prelude 0x04 0x05).regs)))
    × ((act (after_prelude 0x04 0x05) (asks_for 0x05 0 255 0x00)).line ≡ frame_line 0xF0 (SafeResponse concentrator own_sid 0x05 0xFC 0x55 0 0x00 0x00) [])
-- the 64th request is taken, the 65th is 15
Says' p14 =
    ((act (after (asked 63 0) (after_prelude 0x04 0x05)) (asks_for 0x05 63 1 typ_at)).answer ≡ 0)
    × ((act (after (asked 64 0) (after_prelude 0x04 0x05)) (asks_for 0x05 64 1 typ_at)).answer ≡ 15)

-- P14 with either limit of requests: the request with that number is taken, the next is 15
abbrev pub AtLimit : Type 0
AtLimit =
    (limit : ℕ) → is_limit limit ≡ true
    → ((act (after (asked (limit - 1) 0) (after_prelude_of limit 0x04 0x05)) (asks_for 0x05 (limit - 1) 1 typ_at)).answer ≡ 0)
    × ((act (after (asked limit 0) (after_prelude_of limit 0x04 0x05)) (asks_for 0x05 limit 1 typ_at)).answer ≡ 15)
