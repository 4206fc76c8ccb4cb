-- What holds after every line: the module is good, so TCYC is not 0; and a million lines of 545 bytes are below 2 ^ 32, so no sum
-- wraps. Assumes nothing.
use Rattle.std.proofs.Common.{ℕ, ◌+◌, ◌*◌, ◌^◌, ◌<◌, ◌≤◌, leb, List, [], ◌∷◌, arith, leb-false}
use native.Mathlib.Nat.{mod-le}
use Rattle.base.proofs.Choosing.{by_test}
use Rattle.rules.specs.Calls.{least_room}
use Rattle.rules.specs.Good.{Good}
use Rattle.rules.proofs.GoodFacts.{good_t}
use Rattle.console.specs.Programs.{next_all}
use Rattle.script_lines.specs.Forms.{line_of}
use Rattle.script_lines.proofs.GoodLines.{line_sized, done_good, done_sent, module_good}
use Rattle.load_text.specs.declared.Cycle.{Cycle}
use Rattle.load.specs.Cycles.{most_lines}
use Rattle.load.specs.Loading.{start, counted_next, cycle_after, after, loading}
use Rattle.load.specs.declared.cycles.Loading.{Loading}

pub record Kept (p : Loading) : Type 0 where
  pub good : Good p.agent
  pub lines_most : p.lines ≤ most_lines
  pub bytes_most : p.cycle.bytes ≤ least_room * p.lines

pub kept_start : Kept start
kept_start = record { good = module_good; lines_most = omega arith; bytes_most = omega arith }

module _ (p : Loading) (k : Kept p) (l : List ℕ) where
  line_sent : (counted_next p (line_of l)).sent ≤ least_room
  line_sent = done_sent p.agent (line_of l) k.good (line_sized l)

  -- TCYC at a line
  pub tcyc_some : 0 < (counted_next p (line_of l)).tcyc
  tcyc_some = good_t p.agent k.good

  -- no sum wraps
  pub never_wraps : p.lines < most_lines → p.cycle.bytes + (counted_next p (line_of l)).sent < 2 ^ 32
  never_wraps h = omega (arith, k.bytes_most, line_sent)

  bytes_after : (cycle_after (counted_next p (line_of l)) p.cycle).bytes ≤ least_room * (p.lines + 1)
  unfolding cycle_after
  bytes_after =
      by_test (λ (c : Cycle). c.bytes ≤ least_room * (p.lines + 1)) (counted_next p (line_of l)).opens (λ e. omega (arith, line_sent))
      (λ e. omega (arith, mod-le (p.cycle.bytes + (counted_next p (line_of l)).sent) (2 ^ 32), k.bytes_most, line_sent))

  pub kept_after : Kept (after p (line_of l))
  unfolding after
  kept_after =
      by_test Kept (leb most_lines p.lines) (λ e. k)
      (λ e. record {
        good = done_good p.agent (line_of l) k.good (line_sized l);
        lines_most = omega (arith, leb-false most_lines p.lines e);
        bytes_most = bytes_after;
      })

kept_from : (p : Loading) (ls : List (List ℕ)) → Kept p → Kept (next_all loading p ls)
kept_from p [] k = k
kept_from p (l ∷ ls) k = kept_from (after p (line_of l)) ls (kept_after p k l)

-- after any lines
pub kept : (ls : List (List ℕ)) → Kept (next_all loading start ls)
kept ls = kept_from start ls kept_start

pub sums_fit : (ls : List (List ℕ)) (l : List ℕ) → let p = next_all loading start ls in p.lines < most_lines → p.cycle.bytes + (counted_next p (line_of l)).sent < 2 ^ 32
sums_fit ls l h =
    let p = next_all loading start ls in
    let k = kept ls in
    omega (arith, k.bytes_most, line_sent p k l)
