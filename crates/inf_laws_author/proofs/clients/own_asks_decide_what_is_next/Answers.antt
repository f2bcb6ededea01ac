use Rattle.std.proofs.Common.{sym, ap, ◌∙◌, subst}
use Rattle.inf_duty.specs.Duty.{Duty}
use Rattle.inf_duty.specs.Own.{client_of}
use Rattle.inf_duty.specs.ClientState.{ClientState}
use Rattle.inf_laws_author.proofs.clients.own_asks_decide_what_is_next.Goals as goal

pub returns-clause-state : goal.returns-clause-state
returns-clause-state c world client h g legal too same =
    let shows = c.own_asks_show_the_client.ensures world client in
    sym (shows h legal) ∙ ap (client_of world client) same ∙ shows g too

pub returns-clause-duty : goal.returns-clause-duty
returns-clause-duty c world client h g legal too same number ask =
    let shows = c.own_asks_show_the_client.ensures world client in
    subst (λ (s : ClientState). Duty world.digest s number ask)
    (sym (shows h legal) ∙ ap (client_of world client) same ∙ shows g too)
