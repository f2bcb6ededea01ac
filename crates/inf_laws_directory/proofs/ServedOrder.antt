-- The order of a server's objects from the first on.
use Rattle.std.proofs.Common.{ℕ, Bool, true, false, cond, [], ◌∷◌}
use Rattle.inf_base.specs.declared.triple.Triple.TheVariants as triple
use Rattle.inf_content.specs.Order.{AreInOrder}
use Rattle.inf_content.proofs.Ordered.{made_in_order, none_in_order}
use Rattle.inf_message.specs.declared.ask.Ask.{Ask}
use Rattle.inf_server.specs.Machine.{machine}
use Rattle.inf_server.specs.State.{Site, State, is_here, nobody, opening, root_content, root_id}
use Rattle.inf_laws_server.proofs.Serves.{machine_serves, served_in_order}

either_in_order : (b : Bool) (here elsewhere : State) → AreInOrder here.contents → AreInOrder elsewhere.contents → AreInOrder (cond {A = State} b here elsewhere).contents
either_in_order true here elsewhere ordered others = ordered
either_in_order false here elsewhere ordered others = others

-- the root is made where nothing stands yet
root_in_order : (site : Site) → AreInOrder (root_content site ∷ [])
root_in_order site = made_in_order (root_id site) 0 triple.Root nobody [] none_in_order

pub opening_in_order : (site : Site) → AreInOrder (opening site).contents
opening_in_order site = either_in_order (is_here site (root_id site)) _ _ (root_in_order site) none_in_order

pub next_in_order : (site : Site) (state : State) (place : ℕ) (ask : Ask) → AreInOrder state.contents → AreInOrder (machine site state place ask).state.contents
next_in_order site state place ask ordered = served_in_order site state place ask _ _ (machine_serves site state place ask) ordered
