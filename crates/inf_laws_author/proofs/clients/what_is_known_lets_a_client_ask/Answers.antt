use Rattle.std.proofs.Common.{subst}
use Rattle.inf_duty.specs.Duty.{Duty}
use Rattle.inf_duty.specs.ClientState.{ClientState}
use Rattle.inf_duty.specs.Own.{own_asks}
use Rattle.inf_laws_author.proofs.LaterAnswers.{duty_stays}
use Rattle.inf_laws_author.proofs.OwnOrder.{known_asks_rise}
use Rattle.inf_laws_author.proofs.clients.what_is_known_lets_a_client_ask.Goals as goal

pub returns : goal.returns
returns c world h legal number ask known there less duty =
    let client = ask.from.client in
    let rises = known_asks_rise client h known less in
    record {
      client = there;
      duty =
          subst (λ (s : ClientState). Duty world.digest s number ask)
          (c.own_asks_show_the_client.ensures world client h legal)
          (duty_stays world client known (own_asks client h) rises less number ask duty);
    }
