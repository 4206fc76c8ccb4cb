-- What a line made of the module, as an outcome of the rules. Assumes nothing.
use Rattle.rules.specs.Replies.{Outcome}
use Rattle.script_text.specs.declared.Made.{Made}

abbrev pub outcome_of : Made → Outcome
outcome_of m = record { answer = m.answer; agent = m.agent.now; line = m.sent.now }
