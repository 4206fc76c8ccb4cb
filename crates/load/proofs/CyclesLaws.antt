-- Laws of a line: what it makes of the cycle that is open, and what is printed for it. Assumes nothing.
use Rattle.std.proofs.Common.{◌≡◌, ℕ, ◌+◌, ◌<◌, ◌≤◌, Bool, true, false, leb, Bor, List, [], length, append-nil, refl, sym, ap, ◌∙◌, ap₂, arith, le-leb}
use borrow.Author.Tests.{lt-leb}
use Rattle.std.specs.Prelude.{Result, Ok, Err}
use Rattle.std.specs.Result.{result_unwrap_or}
use Rattle.base.proofs.Choosing.{by_test, choose_true, choose_false}
use Rattle.text.specs.Texts.{with_piece}
use Rattle.console.specs.Handing.{with_text}
use Rattle.rules.specs.Replies.{Outcome}
use Rattle.rules.specs.State.{t_of}
use Rattle.rules.specs.declared.Agent.{Agent}
use Rattle.agent_state.specs.Refusing.{answer_of}
use Rattle.agent_state.specs.declared.refusal.Refusal.{Refusal}
use Rattle.script_lines.specs.Forms.{Step}
use Rattle.script_lines.specs.Doing.{done, told}
use Rattle.load_text.specs.Printing.{open_text}
use Rattle.load_text.specs.declared.Cycle.{Cycle}
use Rattle.load_text.proofs.PrintingLaws.{open_length}
use Rattle.load.specs.Cycles.{is_opening, most_lines}
use Rattle.load.specs.Loading.{counted_next, cycle_after, after, ended_text, shown}
use Rattle.load.specs.declared.cycles.Counted.{Counted}
use Rattle.load.specs.declared.cycles.Loading.{Loading}

-- ---- the text of the cycle that a line ends, or none
pub ended_short : (b : Bool) (c : Cycle) → length (ended_text b c) ≤ 64
ended_short true c = open_length c
ended_short false c = omega arith

module _ (page : List ℕ) where
  pub none_put : page ≡ with_text page []
  unfolding with_piece
  none_put = by_test (λ (t : List ℕ). page ≡ t) (leb (length page + 0) 16384) (λ k. sym (append-nil page)) (λ k. refl)

  module _ (b : Bool) (c : Cycle) where
    pub ended_none : b ≡ false → page ≡ with_text page (ended_text b c)
    ended_none e = rw e none_put

    pub ended_one : (page' : List ℕ) → b ≡ true → page' ≡ with_text page (open_text c) → page' ≡ with_text page (ended_text b c)
    ended_one page' e p = rw e p

-- ---- a line past the millionth
module _ (p : Loading) (s : Step) (h : most_lines ≤ p.lines) where
  past_test : leb most_lines p.lines ≡ true
  past_test = le-leb most_lines p.lines h

  pub past_after : p ≡ after p s
  unfolding after
  past_after = sym (choose_true _ _ past_test)

  pub past_shown : [] ≡ shown p s
  unfolding shown
  past_shown = sym (choose_true _ _ past_test)

-- ---- a line before: what the code was told of it
-- the answer, the module, and how much was sent; `none` is an empty part
pub told_answer : (r : Result (Bor (List ℕ)) Refusal) (a : Agent) → answer_of r ≡ (told r a).answer
told_answer (Ok xs) a = refl
told_answer (Err e) a = refl

pub told_agent : (r : Result (Bor (List ℕ)) Refusal) (a : Agent) → a ≡ (told r a).agent
told_agent (Ok xs) a = refl
told_agent (Err e) a = refl

pub told_sent : (r : Result (Bor (List ℕ)) Refusal) (a : Agent) (none : Bor (List ℕ)) → none.now ≡ [] → length (result_unwrap_or r none).now ≡ length (told r a).line
told_sent (Ok xs) a none z = refl
told_sent (Err e) a none z = ap length z

module _ (p : Loading) (s : Step) (o : Outcome) (n : ℕ) (b : Bool) (below : p.lines < most_lines)
    (e : o ≡ done p.agent s) (sent_is : n ≡ length o.line) (f : b ≡ is_opening s o.answer) where
  abbrev line : Counted
  line = record { number = p.lines + 1; opens = b; tcyc = t_of p.agent; sent = n }

  before_test : leb most_lines p.lines ≡ false
  before_test = lt-leb most_lines p.lines below

  opens_is : b ≡ is_opening s (done p.agent s).answer
  opens_is = f ∙ ap (λ (x : Outcome). is_opening s x.answer) e

  line_is : line ≡ counted_next p s
  line_is = ap₂ (λ (m : ℕ) (c : Bool). record { number = p.lines + 1; opens = c; tcyc = t_of p.agent; sent = m }) (sent_is ∙ ap (λ (x : Outcome). length x.line) e) opens_is

  pub line_after : (c : Cycle) → c ≡ cycle_after line p.cycle → ◌≡◌ {A = Loading} record { agent = o.agent; lines = p.lines + 1; cycle = c } (after p s)
  unfolding after
  line_after c q =
      let a : o.agent ≡ (done p.agent s).agent = ap (λ (x : Outcome). x.agent) e in
      let d : c ≡ cycle_after (counted_next p s) p.cycle = q ∙ ap (λ (x : Counted). cycle_after x p.cycle) line_is in
      rw (a, d) (sym (choose_false _ _ before_test))

  pub line_shown : ended_text b p.cycle ≡ shown p s
  unfolding shown
  line_shown = ap (λ (c : Bool). ended_text c p.cycle) opens_is ∙ sym (choose_false _ _ before_test)

-- ---- what is printed for a line is short
pub few_shown : (p : Loading) (s : Step) → length (shown p s) ≤ 64
unfolding shown
few_shown p s =
    by_test (λ (t : List ℕ). length t ≤ 64) (leb most_lines p.lines) (λ e. omega arith) (λ e. ended_short (counted_next p s).opens p.cycle)
