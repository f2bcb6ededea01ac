use Rattle.inf_laws_client.specs.Asked.{WasAsked}
use Rattle.inf_laws_client.proofs.AskedFacts.{answers_lookup, begun_asks, composed_asks, given_up_asks, idle_asks, placed_asks, served_asks, weaker_asks}
use Rattle.inf_laws_client.proofs.laws.clients_ask_their_groups.Goals as goal

pub returns-clause-start : goal.returns-clause-start
returns-clause-start c = λ postings who calls. idle_asks (WasAsked postings) who calls

pub returns-clause-composing : goal.returns-clause-composing
returns-clause-composing c = λ digest postings s asks_its. composed_asks digest (WasAsked postings) s asks_its

pub returns-clause-giving_up : goal.returns-clause-giving_up
returns-clause-giving_up c = λ postings s asks_its. given_up_asks (WasAsked postings) s asks_its

pub returns-clause-beginning : goal.returns-clause-beginning
returns-clause-beginning c = λ digest postings s ask asks_its. begun_asks digest (WasAsked postings) ask s asks_its

pub returns-clause-asking : goal.returns-clause-asking
returns-clause-asking c = λ postings s place number ask asks_its is at. placed_asks (WasAsked postings) place number ask s asks_its is at

pub returns-clause-telling : goal.returns-clause-telling
returns-clause-telling c = λ digest postings s place told asks_its. served_asks digest (WasAsked postings) place told s asks_its

pub returns-clause-more : goal.returns-clause-more
returns-clause-more c = λ postings others s more asks_its. weaker_asks (WasAsked postings) (WasAsked others) more s asks_its

pub returns-clause-lookups : goal.returns-clause-lookups
returns-clause-lookups c = λ postings s place given asks_its told. answers_lookup (WasAsked postings) place given s asks_its told
