use Rattle.inf_laws_client.proofs.PathClients.{begun_keeps, composed_keeps, given_up_keeps, idle_keeps, placed_keeps, served_keeps}
use Rattle.inf_laws_client.proofs.laws.clients_keep_to_paths.Goals as goal

pub returns-clause-start : goal.returns-clause-start
returns-clause-start c = λ digest who calls. idle_keeps who calls

pub returns-clause-composing : goal.returns-clause-composing
returns-clause-composing c = λ digest s keeps. composed_keeps digest s keeps

pub returns-clause-giving_up : goal.returns-clause-giving_up
returns-clause-giving_up c = λ digest s keeps. given_up_keeps s keeps

pub returns-clause-beginning : goal.returns-clause-beginning
returns-clause-beginning c = λ digest s ask keeps. begun_keeps digest ask s keeps

pub returns-clause-asking : goal.returns-clause-asking
returns-clause-asking c = λ digest s place number ask keeps is. placed_keeps place number ask s keeps is

pub returns-clause-telling : goal.returns-clause-telling
returns-clause-telling c = λ digest s place told keeps now. served_keeps digest place told s keeps now
