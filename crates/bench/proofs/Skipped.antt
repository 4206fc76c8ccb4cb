-- What the requests that skip numbers are answered, and what they count. Assumes nothing.
use mathlib.Core.Bool.{true}
use mathlib.Core.List.{List, [], ◌∷◌}
use mathlib.Core.Path.{◌≡◌, refl, sym, ap, ◌∙◌, subst}
use Prim.Native.Nat.{ℕ, ◌+◌, ◌≤◌, ◌<◌}
use native.Mathlib.Omega.{arith}
use borrow.Author.Tests.{ltb-true, ltb-false, leb-true, leb-false}
use lib.Dec.{leb, ltb}
use lib.ListN.{length}
use Rattle.base.proofs.Choosing.{by_test}
use Rattle.frame_kinds.specs.declared.kinds.Frame.TheVariants.{SafeWrite}
use Rattle.rules.specs.Calls.{act}
use Rattle.rules.specs.Fallback.{enter_fallback}
use Rattle.rules.specs.Fixed.{is_limit, lighting_limit, doors_limit, fits}
use Rattle.rules.specs.Marks.{skip_marked}
use Rattle.rules.specs.PowerUp.{power_regs}
use Rattle.rules.specs.Registers.{typ_at, cpt_seq, outputs_at, low_bytes, low_number}
use Rattle.rules.specs.Replies.{Deed, Outcome, read_reply, send_frame, sent}
use Rattle.rules.specs.Requests.{distance, taken_at, reads, on_distance, on_request}
use Rattle.rules.specs.Sound.{settings_sound, sources_sound, counters_sound, outputs_zero, run_sound, fallback_sound, sound}
use Rattle.rules.specs.Sources.{holds, distinct, below24, is_recorded, sid_of}
use Rattle.rules.specs.State.{reg}
use Rattle.rules.specs.Writes.{span_at, span_of, on_write}
use Rattle.rules.specs.declared.Agent.{Agent}
use Rattle.rules.proofs.Refused.{sent_answer}
use Rattle.rules.proofs.Skips.{below, beyond, past_limit, in_reach}
use Rattle.bench.specs.BusCalls.{own_sid, own_tid, concentrator, comes, seq_of, after, answers}
use Rattle.bench.specs.Cases.{after_prelude_of, asked}
use Rattle.bench.specs.Skips.{AtDistance, Counted, running, Skips}
use Rattle.bench.proofs.Acting.{acts_at, write_lays, Coming, calls, agent_after, after_calls, answers_to, answers_calls}
use Rattle.bench.proofs.RunCases.{asking, ask_lays, addressed, reached}
use Rattle.bench.proofs.Started.{ready, acted_sound, distance_is, ready_sound, started, start_05}

-- ---- at every distance
module _ (limit : ℕ) (fit : is_limit limit ≡ true) (n d : ℕ) (few : n ≤ limit) (byte : d < 256) where
  abbrev at : Agent
  at = ready limit 0x05 n

  answered : (act (after (asked n 0) (after_prelude_of limit 0x04 0x05)) (comes own_tid (asking d) [])).answer
      ≡ (sent (on_request 1 at own_sid concentrator 0x05 (seq_of 0x05 d) (reads 1 typ_at))).answer
  unfolding power_regs low_bytes
  answered =
      ap (λ (o : Outcome). o.answer)
      (acts_at (ask_lays d) (reached limit fit n few) ∙ acted_sound own_tid (asking d) [] at (ready_sound limit fit 0x05 n few))

  is_at : distance (seq_of 0x05 d) 0x05 ≡ d
  is_at = distance_is 0x05 d (omega arith) byte

pub at_distance : AtDistance
unfolding sent send_frame read_reply power_regs low_bytes
at_distance limit fit n d few byte =
    let a : Agent = ready limit 0x05 n in
    let seq : ℕ = seq_of 0x05 d in
    let is : distance seq 0x05 ≡ d = is_at limit fit n d few byte in
    let p = addressed limit fit n in
    let answer : Deed → ℕ = λ b. (sent b).answer in
    answered limit fit n d few byte
    ∙ by_test (λ x. (sent (on_request 1 a own_sid concentrator 0x05 seq (reads 1 typ_at))).answer ≡ x) (ltb d n)
    (λ e. ap answer (below 1 a own_sid concentrator 0x05 seq (reads 1 typ_at) p (omega (arith, is, ltb-true d n e))))
    (λ up. by_test (λ x. (sent (on_request 1 a own_sid concentrator 0x05 seq (reads 1 typ_at))).answer ≡ x) (ltb (n + 3) d)
    (λ e. ap answer (beyond 1 a own_sid concentrator 0x05 seq (reads 1 typ_at) p (omega (arith, is, ltb-true (n + 3) d e))))
    (λ down. let low : n ≤ distance seq 0x05 = omega (arith, is, ltb-false d n up) in
    let high : distance seq 0x05 ≤ n + 3 = omega (arith, is, ltb-false (n + 3) d down) in
    by_test (λ x. (sent (on_request 1 a own_sid concentrator 0x05 seq (reads 1 typ_at))).answer ≡ x) (leb limit d)
    (λ e. ap answer (past_limit 1 a own_sid concentrator 0x05 seq (reads 1 typ_at) p low high (omega (arith, is, leb-true limit d e))))
    (λ e. ap answer (in_reach 1 a own_sid concentrator 0x05 seq (reads 1 typ_at) p low high (omega (arith, is, leb-false limit d e))) ∙ sent_answer (read_reply 1 (taken_at (distance seq 0x05) a) concentrator seq 1 typ_at))))

-- ---- what is counted
abbrev write : (k add : ℕ) (xs : List ℕ) → length xs < 256 → add < 256 → Coming
write k add xs p q = record {
  port = 1;
  addr = own_tid;
  f = SafeWrite own_sid concentrator 0x05 (seq_of 0x05 k) (length xs) add;
  xs = xs;
  on_port = refl;
  lays = write_lays 0x05 k add xs (omega arith) p q;
}

abbrev read : ℕ → Coming
read k = record { port = 1; addr = own_tid; f = asking k; xs = []; on_port = refl; lays = ask_lays k }

abbrev losing : List Coming
losing =
    write 1 0x80 (0x01 ∷ []) (omega arith) (omega arith)
    ∷ write 2 0x81 (0x02 ∷ []) (omega arith) (omega arith)
    ∷ write 3 0x82 (0x03 ∷ []) (omega arith) (omega arith)
    ∷ write 0 0x80 (0xFF ∷ []) (omega arith) (omega arith)
    ∷ []

abbrev outside : List Coming
outside = write 3 0xBF (0x01 ∷ 0x02 ∷ []) (omega arith) (omega arith) ∷ []

abbrev full : List Coming
full = write 0 cpt_seq (0xFE ∷ []) (omega arith) (omega arith) ∷ write 4 0x80 (0x01 ∷ []) (omega arith) (omega arith) ∷ []

abbrev over : List Coming
over = write 3 cpt_seq (0xFE ∷ []) (omega arith) (omega arith) ∷ []

abbrev few : List Coming
few = read 3 ∷ read 7 ∷ read 11 ∷ read 15 ∷ read 16 ∷ []

few_told : answers (calls few) (after_prelude_of lighting_limit 0x04 0x05) ≡ answers_to few (ready lighting_limit 0x05 0)
few_told =
    ap (answers (calls few)) (started lighting_limit refl 0x04 0x05 (omega arith) (omega arith) refl)
    ∙ answers_calls few (ready lighting_limit 0x05 0)

left : (cs : List Coming) → after (calls cs) running ≡ agent_after cs (ready doors_limit 0x05 0)
left cs = ap (after (calls cs)) start_05 ∙ after_calls cs (ready doors_limit 0x05 0)

told : (cs : List Coming) → answers (calls cs) running ≡ answers_to cs (ready doors_limit 0x05 0)
told cs = ap (answers (calls cs)) start_05 ∙ answers_calls cs (ready doors_limit 0x05 0)

counted : (status count : ℕ) {a b : Agent} → a ≡ b → Counted status count b → Counted status count a
counted status count e = subst (Counted status count) (sym e)

pub skips : Skips
unfolding sent send_frame on_request on_distance skip_marked distance read_reply on_write span_at span_of enter_fallback settings_sound sources_sound counters_sound outputs_zero run_sound fallback_sound sound fits holds distinct below24 is_recorded sid_of low_number power_regs low_bytes
skips = (
  told losing ∙ refl,
  ap (λ (a : Agent). reg a outputs_at) (left losing) ∙ refl,
  counted 0x02 1 (left losing) (refl, refl),
  ap (λ (o : Outcome). o.line) (acts_at (ask_lays 2) start_05) ∙ refl,
  counted 0x00 2 (left (read 2 ∷ [])) (refl, refl),
  told outside ∙ refl,
  counted 0x02 3 (left outside) (refl, refl),
  few_told ∙ refl,
  counted 0x02 255 (left full) (refl, refl),
  counted 0x02 0xFE (left over) (refl, refl),
)
