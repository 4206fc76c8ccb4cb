-- Inputs: C0h to FFh, set by the host, 64 bytes a call. Assumes nothing.
use Rattle.std.specs.Prelude.{List, ℕ}
use Rattle.rules.specs.Registers.{inputs_at}
use Rattle.rules.specs.State.{store_all}
use Rattle.rules.specs.declared.Agent.{Agent}

unfoldable pub with_inputs : List ℕ → Agent → Agent
with_inputs xs a = store_all inputs_at xs a
