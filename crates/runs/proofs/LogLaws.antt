-- A log read back: what the code returned for each call is what is read off its records. Assumes nothing.
use mathlib.Core.List.{List, [], ◌∷◌, ◌++◌, append_assoc, append-nil}
use mathlib.Core.Path.{◌≡◌, refl, sym, ap, ◌∙◌}
use Prim.Native.Nat.{ℕ, suc, ◌+◌, ◌≤◌}
use native.Mathlib.Nat.{add-zero}
use native.Mathlib.Omega.{arith}
use lib.ListN.{length, get_or, take, drop, length-append}
use lib.Seq.{length-take-le, take_at, drop_at, get_or-drop, sets, sets-eq}
use Rattle.rules.specs.Calls.{Call}
use Rattle.rules.specs.declared.Agent.{Agent}
use Rattle.demand3.specs.History.{History, ◌▸◌, Seen, seen_of, seen, call_entry, entry_of}
use Rattle.runs.specs.Log.{record_of, record_size, seen_in, logged}

-- a call that the code has made: what it answered, and the agent that it left
pub record Finished : Type 0 where
  pub call : Call
  pub answer : ℕ
  pub agent : Agent
  pub full : length agent.regs ≡ 256

abbrev pub calls_of : List Finished → List Call
calls_of [] = []
calls_of (d ∷ ds) = d.call ∷ calls_of ds

-- the agent at the end, the history, and the records after the one at power-up
abbrev pub last_of : Agent → List Finished → Agent
last_of a [] = a
last_of a (d ∷ ds) = last_of d.agent ds

abbrev pub history_of : Agent → History → List Finished → History
history_of a h [] = h
history_of a h (d ∷ ds) = history_of d.agent (h ▸ entry_of a d.call d.answer d.agent) ds

abbrev pub records_of : List Finished → List ℕ
records_of [] = []
records_of (d ∷ ds) = record_of d.answer d.agent ++ records_of ds

-- ---- one call more

pub calls_more : (ds : List Finished) (d : Finished) (xs : List Call) → calls_of (ds ++ (d ∷ [])) ++ xs ≡ calls_of ds ++ (d.call ∷ xs)
calls_more [] d xs = refl
calls_more (c ∷ ds) d xs = ap (λ (ys : List Call). c.call ∷ ys) (calls_more ds d xs)

pub last_more : (a : Agent) (ds : List Finished) (d : Finished) → last_of a (ds ++ (d ∷ [])) ≡ d.agent
last_more a [] d = refl
last_more a (c ∷ ds) d = last_more c.agent ds d

pub history_more : (a : Agent) (h : History) (ds : List Finished) (d : Finished)
    → history_of a h (ds ++ (d ∷ [])) ≡ history_of a h ds ▸ entry_of (last_of a ds) d.call d.answer d.agent
history_more a h [] d = refl
history_more a h (c ∷ ds) d = history_more c.agent (h ▸ entry_of a c.call c.answer c.agent) ds d

pub records_more : (ds : List Finished) (d : Finished) → records_of (ds ++ (d ∷ [])) ≡ records_of ds ++ record_of d.answer d.agent
records_more [] d = append-nil (record_of d.answer d.agent)
records_more (c ∷ ds) d =
    let r = record_of c.answer c.agent in
    ap (λ (l : List ℕ). r ++ l) (records_more ds d) ∙ sym (append_assoc r (records_of ds) (record_of d.answer d.agent))

-- ---- read back

at_drop : (l : List ℕ) (i : ℕ) → get_or l i 0 ≡ get_or (drop i l) 0 0
at_drop l i = ap (λ (k : ℕ). get_or l k 0) (sym (add-zero i)) ∙ sym (get_or-drop i l 0 0)

module _ (n : ℕ) (a : Agent) (full : length a.regs ≡ 256) (rest : List ℕ) where
  pub record_length : length (record_of n a) ≡ record_size
  record_length = ap (λ (i : ℕ). suc (suc i)) full

  seen_back : seen_in (record_of n a ++ rest) ≡ seen a
  seen_back = ap (seen_of a.mode) (take_at a.regs rest 256 full)

  after_record : drop record_size (record_of n a ++ rest) ≡ rest
  after_record = drop_at (record_of n a) rest record_size record_length

pub logged_is : (ds : List Finished) (a : Agent) (h : History) (n : ℕ) (rest : List ℕ) → length a.regs ≡ 256
    → logged h (calls_of ds) (record_of n a ++ (records_of ds ++ rest)) ≡ history_of a h ds
logged_is [] a h n rest full = refl
logged_is (d ∷ ds) a h n rest full =
    let x : Call = d.call in
    let b : Agent = d.agent in
    let m : ℕ = d.answer in
    let xs : List Call = calls_of ds in
    let tail : List ℕ = records_of ds ++ rest in
    let l : List ℕ = record_of n a ++ ((record_of m b ++ records_of ds) ++ rest) in
    let next : drop record_size l ≡ record_of m b ++ tail =
    after_record n a full ((record_of m b ++ records_of ds) ++ rest) ∙ append_assoc (record_of m b) (records_of ds) rest in
    let answer : get_or l record_size 0 ≡ m = at_drop l record_size ∙ ap (λ (k : List ℕ). get_or k 0 0) next in
    let before : seen_in l ≡ seen a = seen_back n a full ((record_of m b ++ records_of ds) ++ rest) in
    let behind : seen_in (drop record_size l) ≡ seen b = ap seen_in next ∙ seen_back m b d.full tail in
    ap (λ (k : List ℕ). logged (h ▸ call_entry x (get_or l record_size 0) (seen_in l) (seen_in (drop record_size l))) xs k) next
    ∙ ap (λ (i : ℕ). logged (h ▸ call_entry x i (seen_in l) (seen_in (drop record_size l))) xs (record_of m b ++ tail)) answer
    ∙ ap (λ (k : Seen). logged (h ▸ call_entry x m k (seen_in (drop record_size l))) xs (record_of m b ++ tail)) before
    ∙ ap (λ (k : Seen). logged (h ▸ call_entry x m (seen a) k) xs (record_of m b ++ tail)) behind
    ∙ logged_is ds b (h ▸ entry_of a x m b) m rest d.full

-- ---- written

-- a record after what stands
pub one_more : (log : List ℕ) (to n : ℕ) (a : Agent) → length a.regs ≡ 256 → to + record_size ≤ length log
    → take (to + record_size) (sets log to (record_of n a)) ≡ take to log ++ record_of n a
one_more log to n a full h =
    let r : List ℕ = record_of n a in
    let long : length r ≡ record_size = record_length n a full [] in
    let e = sets-eq r log to (omega (arith, long)) in
    ap (take (to + record_size)) e
    ∙ take_at (take to log ++ r) (drop (to + length r) log) (to + record_size)
    (omega (arith, length-append (take to log) r, length-take-le to log (omega arith), long))

-- the first two bytes of a record, then its registers
pub two_then : (l r : List ℕ) (at next : ℕ) (x y : ℕ) → next ≡ at + 2 → sets (sets l at (x ∷ y ∷ [])) next r ≡ sets l at (x ∷ y ∷ r)
two_then l r at next x y h = let e : next ≡ suc (suc at) = omega arith in ap (λ (i : ℕ). sets (sets l at (x ∷ y ∷ [])) i r) e
