-- A short history of two clients and two servers, in which answers come in another order than asks.
use Rattle.std.specs.Prelude.{ℕ, List, [], ◌∷◌}
use Rattle.inf_base.specs.declared.key.LookKey.TheVariants as look_key
use Rattle.inf_message.specs.declared.ask.Ask.{Ask}
use Rattle.inf_message.specs.declared.event.Event.{Event}
use Rattle.inf_message.specs.declared.event.Event.TheVariants as event
use Rattle.inf_message.specs.declared.reply.Reply.TheVariants as reply
use Rattle.inf_message.specs.declared.request.Request.{Request}
use Rattle.inf_message.specs.declared.request.Request.TheVariants as request
use Rattle.inf_message.specs.declared.trip.Trip.{Trip}
use Rattle.inf_message.specs.History.{Served, served_ask}

-- the first call of a client
abbrev pub ask_by : ℕ → Request → Ask
ask_by client r =
    record { from = record { client = client; number = 1 }; caller = record { uid = 7; gid = 7 }; request = r }

abbrev pub look : ℕ → Ask
look client = ask_by client (request.Lookup look_key.Top)

abbrev pub release : ℕ → Ask
release client = ask_by client request.Release

-- client 0 looks up at server 1 and client 1 at server 0; server 1 answers; client 0 asks server 0 to release, which
-- answers this and then client 1; client 1 asks server 1 to release, which waits
abbrev pub short : List Event
short =
    event.Ask 1 (release 1) ∷ event.Serve 0 2 reply.NoDir ∷ event.Serve 0 4 reply.Fine ∷ event.Ask 0 (release 0)
    ∷ event.Serve 1 1 reply.Gone ∷ event.Ask 0 (look 1) ∷ event.Ask 1 (look 0) ∷ []

abbrev pub by_server_0 : List Served
by_server_0 =
    served_ask (look 1) 2 reply.NoDir ∷ served_ask (release 0) 4 reply.Fine ∷ []

abbrev pub trips_by_client_0 : List Trip
trips_by_client_0 =
    record { number = 0; ask = release 0; ask_place = 4; serve_place = 5; reply = reply.Fine }
    ∷ record { number = 1; ask = look 0; ask_place = 1; serve_place = 3; reply = reply.Gone } ∷ []
