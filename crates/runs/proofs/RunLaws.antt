-- A run along the bytes of a list of calls: how far it has come, one more call, and its end. Assumes nothing.
use mathlib.Core.List.{List, [], ◌∷◌, ◌++◌, append_assoc, append-nil}
use mathlib.Core.Path.{◌≡◌, refl, sym, ap, ap₂, ◌∙◌, subst}
use Prim.Native.Nat.{ℕ, ◌+◌, ◌*◌, ◌≤◌, ◌<◌}
use native.Mathlib.Omega.{arith}
use lib.ListN.{length, take, drop, length-append, length-drop, take-append-drop, drop_of_length-le}
use lib.Seq.{sets}
use Rattle.fields.specs.Fields.{laid}
use Rattle.fields.proofs.Tables.{length_laid}
use Rattle.rules.specs.Calls.{Call}
use Rattle.rules.specs.declared.Agent.{Agent}
use Rattle.demand3.specs.History.{History, power_on, ◌▸◌, entry_of}
use Rattle.demand3.specs.Reached.{Reached, Continues}
use Rattle.demand3.proofs.ReachedLaws.{reached_holds, reached_sharper, reached_grounded, reached_terminals}
use Rattle.runs.specs.CallBytes.{bytes_in, heading, call_bytes, list_bytes, AllMakable, Stepped}
use Rattle.runs.specs.Log.{record_of, record_size, logged, Ran}
use Rattle.runs.proofs.LogLaws.{Finished, calls_of, last_of, history_of, records_of, calls_more, last_more, history_more, records_more, logged_is, one_more}

-- `done` is done, and `to` bytes are written down; `rest` is ahead
pub record Progress (start : Agent) (room : ℕ) (calls : List Call) (s : List ℕ) (at to : ℕ) (a : Agent) (log : List ℕ) : Type 0 where
  pub done : List Finished
  pub rest : List Call
  pub parts : calls_of done ++ rest ≡ calls
  pub makable : AllMakable room rest
  pub ahead : drop at s ≡ list_bytes rest
  pub length_is : to ≡ record_size + record_size * length done
  pub agent_is : last_of start done ≡ a
  pub reached : Reached (history_of start power_on done) a
  pub wrote : take to log ≡ record_of 0 start ++ records_of done
  pub full : length start.regs ≡ 256

pub at_start : (start : Agent) (room : ℕ) (calls : List Call) (s log : List ℕ) → s ≡ list_bytes calls → AllMakable room calls → Reached power_on start
    → length start.regs ≡ 256 → record_size ≤ length log → (to : ℕ) → to ≡ 0 + record_size → (log' : List ℕ) → log' ≡ sets log 0 (record_of 0 start)
    → Progress start room calls s 0 to start log'
at_start start room calls s log e makable reached full h to t log' w = record {
  done = [];
  rest = calls;
  parts = refl;
  makable = makable;
  ahead = e;
  length_is = t;
  agent_is = refl;
  reached = reached;
  wrote = ap₂ take t w ∙ one_more log 0 0 start full h ∙ sym (append-nil (record_of 0 start));
  full = full;
}

module _ (start : Agent) (room : ℕ) (calls : List Call) (s : List ℕ) (at to : ℕ) (a : Agent) (log : List ℕ) (p : Progress start room calls s at to a log) where
  -- before the end something is left
  none_left : at < length s → drop at s ≡ [] → ⊥
  none_left h e = omega (arith, sym (length-drop at s) ∙ ap length e)

  -- what the code returned for the next call, after what is done
  module _ (d : Finished) where
    reached_on : Continues a d.call d.answer d.agent → Reached (history_of start power_on (p.done ++ (d ∷ []))) d.agent
    reached_on c =
        subst (λ (h : History). Reached h d.agent)
        (sym (history_more start power_on p.done d
        ∙ ap (λ (b : Agent). history_of start power_on p.done ▸ entry_of b d.call d.answer d.agent) p.agent_is))
        (c (history_of start power_on p.done) p.reached).reached

    wrote_on : to + record_size ≤ length log
        → take (to + record_size) (sets log to (record_of d.answer d.agent)) ≡ record_of 0 start ++ records_of (p.done ++ (d ∷ []))
    wrote_on k =
        one_more log to d.answer d.agent d.full k
        ∙ ap (λ (l : List ℕ). l ++ record_of d.answer d.agent) p.wrote
        ∙ append_assoc (record_of 0 start) (records_of p.done) (record_of d.answer d.agent)
        ∙ ap (λ (l : List ℕ). record_of 0 start ++ l) (sym (records_more p.done d))

  turned : at < length s → to + record_size ≤ length log → (answer : ℕ) (b : Agent) (next : ℕ) → Stepped s at room a answer b next → length b.regs ≡ 256
      → (rest : List Call) → calls_of p.done ++ rest ≡ calls → AllMakable room rest → drop at s ≡ list_bytes rest
      → Progress start room calls s next (to + record_size) b (sets log to (record_of answer b))
  turned h k answer b next step full [] parts makable ahead = absurd (none_left h ahead)
  turned h k answer b next step full (x ∷ xs) parts makable ahead =
      let d : Finished = record { call = x; answer = answer; agent = b; full = full } in
      record {
        done = p.done ++ (d ∷ []);
        rest = xs;
        parts = calls_more p.done d xs ∙ parts;
        makable = makable.1;
        ahead = step.comes_to x (list_bytes xs) ahead makable.0;
        length_is = omega (arith, p.length_is, length-append p.done (d ∷ []));
        agent_is = last_more start p.done d;
        reached = reached_on d (step.continues x (list_bytes xs) ahead makable.0);
        wrote = wrote_on d k;
        full = p.full;
      }

  -- the reply buffer has kept its length
  pub turns : at < length s → to + record_size ≤ length log → (answer : ℕ) (b : Agent) (next to' now : ℕ)
      → now ≡ room → Stepped s at now a answer b next → length b.regs ≡ 256 → to' ≡ to + record_size
      → (log' : List ℕ) → log' ≡ sets log to (record_of answer b) → Progress start room calls s next to' b log'
  turns h k answer b next to' now e step full t log' w =
      subst (λ (i : ℕ). Progress start room calls s next i b log') (sym t)
      (subst (Progress start room calls s next (to + record_size) b) (sym w)
      (turned h k answer b next (subst (λ (m : ℕ). Stepped s at m a answer b next) e step) full p.rest p.parts p.makable p.ahead))

  calls_done : (ds : List Finished) → length (calls_of ds) ≡ length ds
  calls_done [] = refl
  calls_done (d ∷ ds) = omega (arith, calls_done ds)

  no_place : at < length s → length log < to + record_size → record_size + record_size * length calls ≤ length log
      → (rest : List Call) → calls_of p.done ++ rest ≡ calls → drop at s ≡ list_bytes rest → ⊥
  no_place h k few [] parts ahead = none_left h ahead
  no_place h k few (x ∷ xs) parts ahead =
      omega (arith, p.length_is, calls_done p.done, sym (length-append (calls_of p.done) (x ∷ xs)) ∙ ap length parts)

  pub never_full : at < length s → length log < to + record_size → record_size + record_size * length calls ≤ length log → ⊥
  never_full h k few = no_place h k few p.rest p.parts p.ahead

  at_end_lem : length s ≤ at → (rest : List Call) → calls_of p.done ++ rest ≡ calls → drop at s ≡ list_bytes rest → calls_of p.done ≡ calls
  at_end_lem h [] parts ahead = sym (append-nil (calls_of p.done)) ∙ parts
  at_end_lem h (x ∷ xs) parts ahead =
      let e : length (list_bytes (x ∷ xs)) ≡ 0 = ap length (sym ahead ∙ drop_of_length-le s h) in
      absurd (omega (arith, e, length-append (call_bytes x) (list_bytes xs), length-append (laid (heading x)) (bytes_in x), length_laid (heading x)))

  -- the history that is read off the log
  same_history : length s ≤ at → history_of start power_on p.done ≡ logged power_on calls log
  same_history h =
      let all : log ≡ record_of 0 start ++ (records_of p.done ++ drop to log) =
      sym (take-append-drop to log) ∙ ap (λ (l : List ℕ). l ++ drop to log) p.wrote ∙ append_assoc (record_of 0 start) (records_of p.done) (drop to log) in
      sym (logged_is p.done start power_on 0 (drop to log) p.full)
      ∙ ap₂ (λ (xs : List Call) (l : List ℕ). logged power_on xs l) (at_end_lem h p.rest p.parts p.ahead) (sym all)

  pub ran : length s ≤ at → Ran calls a log
  ran h =
      let r : Reached (logged power_on calls log) a = subst (λ (g : History). Reached g a) (same_history h) p.reached in
      record { holds = reached_holds r; sharper = reached_sharper r; grounded = reached_grounded r; terminals = reached_terminals r; reached = r }
