-- An error says no data. Assumes nothing.
use Rattle.agent_replies.proofs.ReplyLaws.{read_error}
use Rattle.agent_replies.proofs.replies.read_reply.Goals as goal

pub response-requires : goal.response-requires
response-requires c = (c.requires, read_error _ c.ranges.add.fits)
