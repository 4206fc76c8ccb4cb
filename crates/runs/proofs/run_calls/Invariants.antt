-- What is done is written down, and the rest is ahead. Assumes nothing.
use Rattle.std.proofs.Common.{◌≡◌, ◌-◌, ◌≤◌, List, true, length}
use Rattle.demand3.specs.Numbers.{is_limit}
use Rattle.rules.specs.Calls.{Call}
use Rattle.runs.specs.CallBytes.{list_bytes, AllMakable}
use Rattle.runs.proofs.RunLaws.{Progress}
use Rattle.runs.proofs.run_calls.Given as goal

abbrev pub invariant-loop-at : goal.invariant-loop-at
invariant-loop-at l = record {
  same_reply : length l.reply ≡ length l.fn.reply;
  same_log : length l.log ≡ length l.fn.log;
  within : l.to ≤ length l.log;
  progress : is_limit l.limit ≡ true → (list : List Call) → l.calls ≡ list_bytes list → AllMakable (length l.fn.reply) list
      → Progress l.initial.agent (length l.fn.reply) list l.calls l.at l.to l.agent l.log;
}

abbrev pub decreases-loop-at : goal.decreases-loop-at
decreases-loop-at l = length l.calls - l.at
