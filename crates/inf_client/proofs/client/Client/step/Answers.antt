use Rattle.std.proofs.Common.{◌≡◌, ◌≢◌, ◌≤◌, true, false, [], length, map, slice_get, Some, sym, ap, subst, ◌∙◌, arith, rules}
use Rattle.inf_client.specs.Client.{AsksNext, Client, Steps, client_with}
use Rattle.inf_client.specs.Group.{IsKept}
use Rattle.inf_client.proofs.ClientFacts.{asks_inside, asks_winding, full, rests_given_up, rests_inside}
use Rattle.inf_client.proofs.WayFacts.{was_free}
use Rattle.inf_duty.specs.Outcome.{all_given_up}
use Rattle.inf_duty.specs.Duty.{has_ask}
use Rattle.inf_duty.specs.Group.{group}
use Rattle.inf_duty.specs.Messages.{post_of}
use Rattle.inf_client.proofs.client.Client.step.Goals.{else-is_winding-via-then-is_winding+else-sent-group_size, else-is_winding-via-else-is_winding}
use Rattle.inf_client.proofs.client.Client.step.Goals as goal

pub returns-in-Some : goal.returns-in-Some
returns-in-Some g c =
    let i = c.self.inside in
    let digest = g.R.IdRule.digest_of c.args.rule.now in
    let s = i.state in
    let here : i.has_given_up ≡ false = c.if-self.false in
    let quiet : i.is_handed ≡ false = ap (λ (a : Client). a.handed) c.self.view_is ∙ c.requires in
    let kept : IsKept s false i.log false i.outbox.items =
    subst (λ gone. IsKept s gone i.log false i.outbox.items) here
    (subst (λ handed. IsKept s i.has_given_up i.log handed i.outbox.items) quiet c.self.invariant) in
    let next = asks_inside s i.log i.outbox.items c.pop_front.new.self.items c.in-Some.number c.in-Some.ask kept c.in-Some.ensures.items digest in
    subst (λ (a : Client). AsksNext digest c.in-Some.number c.in-Some.ask a (client_with s i.has_given_up i.log true)) c.self.view_is
    (subst (λ gone. AsksNext digest c.in-Some.number c.in-Some.ask (client_with s gone i.log i.is_handed) (client_with s gone i.log true)) (sym here)
    (subst (λ handed. AsksNext digest c.in-Some.number c.in-Some.ask (client_with s false i.log handed) (client_with s false i.log true)) (sym quiet) next))

pub returns-then-sent-group_size : goal.returns-then-sent-group_size
returns-then-sent-group_size g c =
    let i = c.self.inside in
    let digest = g.R.IdRule.digest_of c.args.rule.now in
    let s = i.state in
    let post = c.winding_ask-number.result in
    let here : i.has_given_up ≡ false = c.if-self.false in
    let quiet : i.is_handed ≡ false = ap (λ (a : Client). a.handed) c.self.view_is ∙ c.requires in
    let kept : IsKept s false i.log false i.outbox.items =
    subst (λ gone. IsKept s gone i.log false i.outbox.items) here
    (subst (λ handed. IsKept s i.has_given_up i.log handed i.outbox.items) quiet c.self.invariant) in
    let inside : s.sent ≢ [] = search rules in
    let at : slice_get (map (post_of s) (group s.who s.stage)) (length s.sent) ≡ Some post =
    subst (λ index. slice_get (map (post_of s) (group s.who s.stage)) index ≡ Some post) c.sent_size-sent.ensures c.winding_ask-number.ensures.posts in
    let next = asks_winding s i.log i.outbox.items post.0 post.1 kept inside at (c.winding_ask-number.ensures.next c.sent_size-sent.ensures) digest in
    subst (λ (a : Client). AsksNext digest post.0 post.1 a (client_with s i.has_given_up i.log true)) c.self.view_is
    (subst (λ gone. AsksNext digest post.0 post.1 (client_with s gone i.log i.is_handed) (client_with s gone i.log true)) (sym here)
    (subst (λ handed. AsksNext digest post.0 post.1 (client_with s false i.log handed) (client_with s false i.log true)) (sym quiet) next))

pub returns-then-not-is_between : goal.returns-then-not-is_between
returns-then-not-is_between g c =
    let i = c.self.inside in
    let digest = g.R.IdRule.digest_of c.args.rule.now in
    let s = i.state in
    let told = c.rest-then-not-is_between.result in
    let here : i.has_given_up ≡ false = c.if-self.false in
    let quiet : i.is_handed ≡ false = ap (λ (a : Client). a.handed) c.self.view_is ∙ c.requires in
    let kept : IsKept s i.has_given_up i.log false i.outbox.items =
    subst (λ handed. IsKept s i.has_given_up i.log handed i.outbox.items) quiet c.self.invariant in
    let inside : s.sent ≢ [] = search rules in
    let none : i.outbox.items ≡ [] = search rules in
    let all : length (group s.who s.stage) ≤ length s.sent =
    elim c.else-is_winding.branch [
      | else-is_winding-via-then-is_winding+else-sent-group_size w ↦
          omega (arith, w.if-sent-group_size.false, w.group_size.ensures, c.sent_size-sent.ensures)
      | else-is_winding-via-else-is_winding w ↦
          full s i.has_given_up i.log i.outbox.items kept none inside (sym c.is_winding.ensures ∙ w.if-is_winding.false)
    ] in
    let rests = rests_inside digest s i.log told inside c.rest-then-not-is_between.ensures.quiet (c.rest-then-not-is_between.ensures.inside all) in
    subst (λ (a : Client). Steps digest a told (client_with s i.has_given_up i.log i.is_handed)) c.self.view_is
    (subst (λ gone. Steps digest (client_with s gone i.log i.is_handed) told (client_with s gone i.log i.is_handed)) (sym here)
    (subst (λ handed. Steps digest (client_with s false i.log handed) told (client_with s false i.log handed)) (sym quiet) rests))

pub returns-in-None : goal.returns-in-None
returns-in-None g c =
    let i = c.self.inside in
    let digest = g.R.IdRule.digest_of c.args.rule.now in
    let s = i.state in
    let now = c.next_group.new.state in
    let log = c.next_group.new.log in
    let told = c.rest-in-None.result in
    let here : i.has_given_up ≡ false = c.if-self.false in
    let quiet : i.is_handed ≡ false = ap (λ (a : Client). a.handed) c.self.view_is ∙ c.requires in
    let between : s.sent ≡ [] = search rules in
    let has_one : c.has_ask.result ≡ true = search rules in
    let asks : has_ask s ≡ true = sym c.has_ask.ensures.value ∙ has_one in
    let all : now ≡ all_given_up s.left s = search rules in
    let none : has_ask now ≡ false = search rules in
    let stays : now.sent ≡ [] = search rules in
    let same : log ≡ i.log = search rules in
    let rests = rests_given_up digest s now i.log log told between (c.has_ask.ensures.asking digest between has_one) (was_free s now asks all none) all stays same
    c.rest-in-None.ensures.quiet (c.rest-in-None.ensures.askless digest none) in
    subst (λ (a : Client). Steps digest a told (client_with now true log i.is_handed)) c.self.view_is
    (subst (λ gone. Steps digest (client_with s gone i.log i.is_handed) told (client_with now true log i.is_handed)) (sym here)
    (subst (λ handed. Steps digest (client_with s false i.log handed) told (client_with now true log handed)) (sym quiet) rests))
