-- THE WHOLE: what the steps print over any lines is the line load of the script, as it is defined over the list of its lines. Assumes
-- nothing.
use Rattle.std.proofs.Common.{◌≡◌, ℕ, zero, suc, ◌+◌, ◌%◌, ◌^◌, ◌<◌, ◌≤◌, Bool, true, false, leb, List, [], ◌∷◌, ◌++◌, length, take, sym, refl, ap, ◌∙◌, ap₂, append_assoc, append-nil, mod-eq_of_lt, arith, le-leb}
use borrow.Author.Tests.{lt-leb}
use Rattle.base.proofs.Choosing.{choose_true, choose_false}
use Rattle.console.specs.Lines.{lines_of}
use Rattle.console.specs.Programs.{Quiet, next_all, says_all, transcript}
use Rattle.console.proofs.SpeakingLaws.{quiet_rest}
use Rattle.rules.specs.State.{t_of}
use Rattle.script_lines.specs.Forms.{line_of}
use Rattle.script_lines.specs.Doing.{script_module, done}
use Rattle.load_text.specs.Printing.{open_text}
use Rattle.load_text.specs.declared.Cycle.{Cycle}
use Rattle.load_text.proofs.PrintingLaws.{none_open, one_open}
use Rattle.load.specs.Cycles.{counted_from, sent_before, cycles_of, cycles_text, most_lines, load_text}
use Rattle.load.specs.Loading.{start, counted_next, cycle_after, after, ended_text, shown, loading}
use Rattle.load.specs.declared.cycles.Counted.{Counted}
use Rattle.load.specs.declared.cycles.Loading.{Loading}
use Rattle.load.proofs.Kept.{Kept, tcyc_some, never_wraps, kept_after, kept_start}

-- ---- cycles and what is still to come
-- a cycle with n more bytes
abbrev more : Cycle → ℕ → Cycle
more c n = record { first = c.first; bytes = c.bytes + n; tcyc = c.tcyc }

none_more : (c : Cycle) → open_text (more c 0) ≡ open_text c
none_more c = ap (λ (n : ℕ). open_text (record { first = c.first; bytes = n; tcyc = c.tcyc })) (let z : c.bytes + 0 ≡ c.bytes = omega arith in z)

-- what is printed if the cycle c is open before the lines hs
abbrev rest : Cycle → List Counted → List ℕ
rest c hs = open_text (more c (sent_before hs)) ++ cycles_text (cycles_of hs)

-- one line, and what is printed after it
module _ (n t sent : ℕ) (c : Cycle) (hs : List Counted) where
  opened : 0 < t → open_text c ++ rest (record { first = n; bytes = sent; tcyc = t }) hs ≡ rest c (record { number = n; opens = true; tcyc = t; sent = sent } ∷ hs)
  unfolding sent_before cycles_of cycles_text
  opened h =
      ap₂ (λ (x y : List ℕ). x ++ (y ++ cycles_text (cycles_of hs))) (sym (none_more c))
      (one_open (record { first = n; bytes = sent + sent_before hs; tcyc = t }) (λ e. omega arith))

  stayed : c.bytes + sent < 2 ^ 32
      → rest (record { first = c.first; bytes = (c.bytes + sent) % 2 ^ 32; tcyc = c.tcyc }) hs ≡ rest c (record { number = n; opens = false; tcyc = t; sent = sent } ∷ hs)
  unfolding sent_before cycles_of
  stayed h =
      let e : (c.bytes + sent) % 2 ^ 32 + sent_before hs ≡ c.bytes + (sent + sent_before hs) = omega (arith, mod-eq_of_lt h) in
      ap (λ (b : ℕ). open_text (record { first = c.first; bytes = b; tcyc = c.tcyc }) ++ cycles_text (cycles_of hs)) e

  turn : (b : Bool) → 0 < t → c.bytes + sent < 2 ^ 32
      → ended_text b c ++ rest (cycle_after (record { number = n; opens = b; tcyc = t; sent = sent }) c) hs
      ≡ rest c (record { number = n; opens = b; tcyc = t; sent = sent } ∷ hs)
  unfolding cycle_after
  turn true h w = opened h
  turn false h w = stayed w

-- ---- past the millionth line
pub quiet : (p : Loading) → most_lines ≤ p.lines → Quiet loading p
unfolding after shown
quiet p h =
    let e : leb most_lines p.lines ≡ true = le-leb most_lines p.lines h in
    record { stays = λ l. choose_true _ _ e; silent = λ l. choose_true _ _ e }

-- ---- all lines
abbrev printed : Loading → List (List ℕ) → List ℕ
printed p ls = says_all loading p ls ++ open_text (next_all loading p ls).cycle

past : (p : Loading) (ls : List (List ℕ)) → most_lines ≤ p.lines → printed p ls ≡ open_text p.cycle
past p ls h =
    let q = quiet_rest loading p (quiet p h) ls in
    ap₂ (λ (t : List ℕ) (s : Loading). t ++ open_text s.cycle) q.1 q.0

-- before the millionth line: what a line makes and prints
module _ (p : Loading) (h : p.lines < most_lines) (l : List ℕ) where
  abbrev next : Loading
  next = record { agent = (done p.agent (line_of l)).agent; lines = p.lines + 1; cycle = cycle_after (counted_next p (line_of l)) p.cycle }

  before : leb most_lines p.lines ≡ false
  before = lt-leb most_lines p.lines h

  is_next : after p (line_of l) ≡ next
  unfolding after
  is_next = choose_false _ _ before

  one_printed : (ls : List (List ℕ)) → printed p (l ∷ ls) ≡ ended_text (counted_next p (line_of l)).opens p.cycle ++ printed next ls
  unfolding shown
  one_printed ls =
      ap₂ (λ (t : List ℕ) (s : Loading). (t ++ says_all loading s ls) ++ open_text (next_all loading s ls).cycle) (choose_false _ _ before) is_next
      ∙ append_assoc (ended_text (counted_next p (line_of l)).opens p.cycle) (says_all loading next ls) (open_text (next_all loading next ls).cycle)

from : (n : ℕ) (p : Loading) (ls : List (List ℕ)) → Kept p → p.lines + n ≡ most_lines
    → printed p ls ≡ rest p.cycle (counted_from (p.lines + 1) p.agent (take n ls))
unfolding counted_from sent_before cycles_of cycles_text
from zero p ls k e = past p ls (omega arith) ∙ sym (none_more p.cycle) ∙ sym (append-nil (open_text (more p.cycle 0)))
from (suc n) p [] k e = sym (none_more p.cycle) ∙ sym (append-nil (open_text (more p.cycle 0)))
from (suc n) p (l ∷ ls) k e =
    let h : p.lines < most_lines = omega arith in
    let i = from n (next p h l) ls (next_kept h) (omega arith) in
    one_printed p h l ls
    ∙ ap (λ (t : List ℕ). ended_text (counted_next p (line_of l)).opens p.cycle ++ t) i
    ∙ turn (p.lines + 1) (t_of p.agent) (length (done p.agent (line_of l)).line) p.cycle
    (counted_from (p.lines + 1 + 1) (done p.agent (line_of l)).agent (take n ls)) (counted_next p (line_of l)).opens (tcyc_some p k l) (never_wraps p k l h)
  where
    next_kept : (h : p.lines < most_lines) → Kept (next p h l)
    next_kept h = rw (is_next p h l) at (kept_after p k l)

-- no cycle is open at the start, so what is sent before the first accepted sync is not printed
none_first : (n : ℕ) → open_text (more start.cycle n) ≡ []
none_first n = none_open (more start.cycle n) refl

-- THE THEOREM: for any lines, and so for any input
pub lines_load : (ls : List (List ℕ)) → printed start ls ≡ load_text ls
unfolding load_text
lines_load ls =
    let hs : List Counted = counted_from 1 script_module (take most_lines ls) in
    from most_lines start ls kept_start refl ∙ ap (λ (t : List ℕ). t ++ cycles_text (cycles_of hs)) (none_first (sent_before hs))

pub input_load : (input : List ℕ) → transcript loading input ≡ load_text (lines_of input)
input_load input = lines_load (lines_of input)
