-- The answer, the state, what the trace shows and the end of the line. Assumes nothing.
use Rattle.std.proofs.Common.{rules}
use Rattle.script_text.specs.Made.{outcome_of}
use Rattle.script_text.proofs.PrintingLaws.{answer_room, state_room, view_room, fields_put, fields_length}
use Rattle.script_text.proofs.put_fields.Goals as goal

pub put_state-requires : goal.put_state-requires
put_state-requires g c = (search rules, answer_room _ _ _ _ _ c.requires.1 c.put_answer.ensures)

pub put_view-requires : goal.put_view-requires
put_view-requires g c = (search rules, (c.requires.0, state_room _ _ _ _ _ _ _ c.requires.1 c.put_answer.ensures c.put_state.ensures))

pub put-requires : goal.put-requires
put-requires g c = (search rules, view_room _ _ _ _ _ _ _ _ _ c.requires.1 c.put_answer.ensures c.put_state.ensures c.put_view.ensures.text c.put_view.ensures.most)

pub returns-clause-text : goal.returns-clause-text
returns-clause-text g c =
    let a = c.args in
    fields_put a.view a.number (outcome_of a.made) a.text.now _ _ _ _ c.put_answer.ensures c.put_state.ensures c.put_view.ensures.text c.put.ensures.text

pub returns-clause-most : goal.returns-clause-most
returns-clause-most g c = fields_length c.args.view c.args.number (outcome_of c.args.made) c.put_view.ensures.most
