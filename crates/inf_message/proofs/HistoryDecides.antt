-- The `==` of asks and events tells exactly whether two of them are equal.
use Rattle.std.proofs.Common.{◌≡◌, Decides, refl, ap}
use Rattle.std.proofs.lemmas.Bool.Decides.{Decides-like, Decides-and, Decides-eqb}
use Rattle.inf_base.specs.declared.caller.Caller.{Caller}
use Rattle.inf_base.specs.declared.caller.CallRef.{CallRef}
use Rattle.inf_base.proofs.Decides.{different, call_decides, caller_decides}
use Rattle.inf_message.specs.declared.ask.Ask.{Ask}
use Rattle.inf_message.specs.declared.event.Event.{Event}
use Rattle.inf_message.specs.declared.event.Event.TheVariants as event
use Rattle.inf_message.specs.declared.request.Request.{Request}
use Rattle.inf_message.specs.contracts.ask.AskPartialEq.TheImpl as ask_eq
use Rattle.inf_message.specs.contracts.event.EventPartialEq.TheImpl as event_eq
use Rattle.inf_message.proofs.ReplyDecides.{reply_decides}
use Rattle.inf_message.proofs.RequestDecides.{request_decides}

abbrev ask_of : CallRef → Caller → Request → Ask
ask_of from caller request = record { from = from; caller = caller; request = request }

same_ask : (f g : CallRef) (c d : Caller) (r s : Request) → f ≡ g → c ≡ d → r ≡ s → ask_of f c r ≡ ask_of g d s
same_ask f g c d r s x y z = rw (x, y, z) refl

pub ask_decides : (a b : Ask) → Decides (ask_eq.eq-value.it a b) (a ≡ b)
ask_decides a b =
    Decides-like _
    (λ p. same_ask a.from b.from a.caller b.caller a.request b.request p.0 p.1.0 p.1.1)
    (λ e. (ap (λ (x : Ask). x.from) e, (ap (λ (x : Ask). x.caller) e, ap (λ (x : Ask). x.request) e)))
    (Decides-and _ _ (call_decides a.from b.from) (Decides-and _ _ (caller_decides a.caller b.caller) (request_decides a.request b.request)))

pub event_decides : (a b : Event) → Decides (event_eq.eq-value.it a b) (a ≡ b)
event_decides (event.Ask number ask) (event.Ask n a) =
    Decides-like _ (λ p. rw (p.0, p.1) refl) (λ e. (cc, cc)) (Decides-and _ _ (Decides-eqb number n) (ask_decides ask a))
event_decides (event.Serve number place reply) (event.Serve n p r) =
    Decides-like _ (λ q. rw (q.0, q.1.0, q.1.1) refl) (λ e. (cc, (cc, cc)))
    (Decides-and _ _ (Decides-eqb number n) (Decides-and _ _ (Decides-eqb place p) (reply_decides reply r)))
event_decides a b = different (λ e. cc)
