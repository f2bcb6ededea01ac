-- What a client of a run kept of its Asks.
use Rattle.std.proofs.Common.{◌≡◌, ℕ, List, [], ◌∷◌, ◌++◌, map, reverse, slice_get, Option, Some, None, refl, sym, ap, subst, ◌∙◌}
use Rattle.std.specs.List.{filter_map, cons_option}
use Rattle.std.proofs.lemmas.List.{append-nil}
use Rattle.std.proofs.lemmas.List.Elements.{filter_map-append}
use mathlib.Core.List.{reverse-cons}
use Rattle.inf_duty.specs.Own.{client_of, own_of}
use Rattle.inf_duty.specs.World.{World}
use Rattle.inf_laws_history.specs.Legal.{Legal}
use Rattle.inf_laws_history.proofs.OwnHistory.{shows_state}
use Rattle.inf_message.specs.declared.event.Event.{Event}
use Rattle.inf_message.specs.History.{asks_of, trip_of, trips_of}
use Rattle.inf_client.specs.Client.{Client, trips_of_client}
use Rattle.inf_sched.specs.Run.{AreClients, IsClient}

cons_back : {X : Type 0} (o : Option X) (xs : List X) → reverse (cons_option o xs) ≡ reverse xs ++ cons_option o []
cons_back None xs = sym (append-nil (reverse xs))
cons_back (Some x) xs = reverse-cons x xs

filter_back : {X Y : Type 0} (f : X → Option Y) (xs : List X) → filter_map f (reverse xs) ≡ reverse (filter_map f xs)
filter_back f [] = refl
filter_back f (x ∷ xs) =
    ap (filter_map f) (reverse-cons x xs)
    ∙ filter_map-append f (reverse xs) (x ∷ [])
    ∙ ap (λ front. front ++ filter_map f (x ∷ [])) (filter_back f xs)
    ∙ sym (cons_back (f x) (filter_map f xs))

-- what a client kept of its trips are those of the history
pub trips_same : (world : World) (h : List Event) (clients : List Client) (client : ℕ) (a : Client) → AreClients world h clients → slice_get clients client ≡ Some a
    → trips_of_client a ≡ reverse (trips_of client h)
trips_same world h clients client a are at = ap (filter_map trip_of) (are.asks client a at) ∙ filter_back trip_of (asks_of client h)

-- its Asks show what it is
pub asks_show : (world : World) (h : List Event) (clients : List Client) (client : ℕ) (a : Client) → Legal world h → AreClients world h clients → slice_get clients client ≡ Some a
    → IsClient (client_of world client (map own_of a.log.asks)) a
asks_show world h clients client a legal are at =
    subst (λ s. IsClient s a)
    (sym (ap (λ owns. client_of world client (map own_of owns)) (are.asks client a at) ∙ shows_state world client h legal))
    (are.each client a at)
