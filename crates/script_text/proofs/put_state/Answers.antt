-- The mode and c. Assumes nothing.
use Rattle.script_text.proofs.PrintingLaws.{state_put}
use Rattle.script_text.proofs.put_state.Goals as goal

pub returns : goal.returns
returns g c = state_put _ c.args.text.now c.args.agent.now _ _ c.requires c.put_mode.ensures c.add_hex.ensures
