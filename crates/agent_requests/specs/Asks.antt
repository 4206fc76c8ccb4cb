-- What a request asks for, and what it does, by the request as the code has it. Assumes nothing.
use Rattle.rules.specs.Replies.{Deed}
use Rattle.rules.specs.Requests.{reads, writes, on_request}
use Rattle.rules.specs.Requests as rule
use Rattle.rules.specs.declared.Agent.{Agent}
use Rattle.agent_requests.specs.declared.Ask.{Ask}
use Rattle.agent_requests.specs.declared.Ask.TheVariants.{Reads, Writes}
use Rattle.agent_requests.specs.declared.Request.{Request}

abbrev pub ask_of : Ask → rule.Ask
ask_of (Reads datl add) = reads datl add
ask_of (Writes add data') = writes add data'.now

abbrev pub requested : Request → Agent → Deed
requested r a = on_request r.port a r.dest r.src r.cyc r.seq (ask_of r.ask)
