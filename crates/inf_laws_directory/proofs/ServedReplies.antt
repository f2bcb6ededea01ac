-- What one Serve replies, by the request that it serves.
use Rattle.std.proofs.Common.{◌≡◌, inl, inr, ℕ, false, List, refl, ap}
use Rattle.std.proofs.lemmas.Bool.{both_ways}
use Rattle.std.proofs.lemmas.Bool.Decides.{Decides-eqb}
use Rattle.inf_base.specs.declared.access.Access.{Access}
use Rattle.inf_base.specs.declared.directory.DirRef.{DirRef}
use Rattle.inf_base.specs.declared.entry.Entry.{Entry}
use Rattle.inf_base.specs.declared.id.Id.{Id}
use Rattle.inf_base.specs.declared.item.Item.{Item}
use Rattle.inf_base.specs.declared.key.Key.{Key}
use Rattle.inf_base.specs.declared.key.LookKey.{LookKey}
use Rattle.inf_base.specs.declared.key.LookKey.TheVariants as look
use Rattle.inf_base.specs.Identity.{server_of}
use Rattle.inf_message.specs.declared.ask.Ask.{Ask}
use Rattle.inf_message.specs.declared.reply.Reply.{Reply}
use Rattle.inf_message.specs.declared.reply.Reply.TheVariants as reply
use Rattle.inf_message.specs.declared.request.Request.{Request}
use Rattle.inf_message.specs.declared.request.Request.TheVariants as request
use Rattle.inf_server.specs.Chains.{before_last}
use Rattle.inf_server.specs.Machine.{Serves}
use Rattle.inf_server.specs.State.{Site, State, is_here}
use Rattle.inf_laws_server.specs.CameTo.{IsDone, MayReply}
use Rattle.inf_laws_server.specs.Replies.{FindsUnder, IsKeyOf, is_failure}
use Rattle.inf_laws_server.proofs.Serves.{always_done, may_reply, was_done}
use Rattle.inf_laws_directory.specs.Looked.{IsLookup}
use Rattle.inf_laws_directory.specs.Objects.{Objects, Service, site_in}
use Rattle.inf_laws_directory.specs.Owes.{MayWriteAt}
use Rattle.inf_laws_directory.specs.Root.{NoOtherRoot}
use Rattle.inf_laws_directory.proofs.Lookups.{IsThere, there_at_top, there_by_name}

-- ---- clean-ups, where they belong

module _ (service : Service) (number : ℕ) (old : State) (place : ℕ) (ask : Ask) (given : Reply) (new : State)
    (serves : Serves (site_in service number) old place ask given new) where
  kept_here : (id : Id) → number ≡ server_of id service.servers → is_here (site_in service number) id ≡ false → ⊥
  kept_here id is elsewhere = both_ways _ elsewhere ((Decides-eqb number (server_of id service.servers)).1 is)

  pub cancel_fine : (dir : DirRef) → ask.request ≡ request.Cancel dir → number ≡ server_of dir.id service.servers → given ≡ reply.Fine
  cancel_fine dir asked here =
      (always_done (site_in service number) old place ask (request.Cancel dir) asked (kept_here dir.id here) refl refl
      (λ error denies. denies) (λ by at blocks. blocks) (λ kept clashes. clashes) refl given new serves).said

  pub drop_fine : (dir : DirRef) → ask.request ≡ request.Drop dir → number ≡ server_of dir.id service.servers → given ≡ reply.Fine
  drop_fine dir asked here =
      (always_done (site_in service number) old place ask (request.Drop dir) asked (kept_here dir.id here) refl refl
      (λ error denies. denies) (λ by at blocks. blocks) (λ kept clashes. clashes) refl given new serves).said

  pub unseal_fine : (dir : DirRef) → ask.request ≡ request.Unseal dir → number ≡ server_of dir.id service.servers → given ≡ reply.Fine
  unseal_fine dir asked here =
      (always_done (site_in service number) old place ask (request.Unseal dir) asked (kept_here dir.id here) refl refl
      (λ error denies. denies) (λ by at blocks. blocks) (λ kept clashes. clashes) refl given new serves).said

  pub forget_fine : (parent : Id) (dir : DirRef) → ask.request ≡ request.Forget parent dir → number ≡ server_of parent service.servers → given ≡ reply.Fine
  forget_fine parent dir asked here =
      (always_done (site_in service number) old place ask (request.Forget parent dir) asked (kept_here parent here) refl refl
      (λ error denies. denies) (λ by at blocks. blocks) (λ kept clashes. clashes) refl given new serves).said

-- ---- lookups

-- lookups alone find access objects
found_for : (asked : Request) (told : Key) → FindsUnder told asked → IsLookup asked
found_for (request.Lookup sought) told finds = record { sought = sought; is_lookup = refl }
found_for other_request told finds = absurd finds

finds : (site : Site) (old : State) (ask : Ask) (asked : Request) (told : Key) (access : Access) → MayReply site old ask asked (reply.Found told access)
    → FindsUnder told asked
finds site old ask asked told access (inl succeeds) = succeeds
finds site old ask asked told access (inr (inl fails)) = absurd fails
finds site old ask asked told access (inr (inr wants)) = absurd (let is = wants.0 in cc)

lists_none : (site : Site) (old : State) (ask : Ask) (asked : Request) (items : List Item) → MayReply site old ask asked (reply.Listing items) → ⊥
lists_none site old ask asked items (inl succeeds) = succeeds
lists_none site old ask asked items (inr (inl fails)) = fails
lists_none site old ask asked items (inr (inr wants)) = let is = wants.0 in cc

module _ (site : Site) (old : State) (place : ℕ) (ask : Ask) (given : Reply) (new : State) (serves : Serves site old place ask given new) where
  pub found_by_lookup : (told : Key) (access : Access) → given ≡ reply.Found told access → IsLookup ask.request
  found_by_lookup told access is =
      found_for ask.request told (finds site old ask ask.request told access (may_reply site old place ask given new serves ask.request _ refl is))

  pub found_under : (sought : LookKey) (told : Key) (access : Access) → ask.request ≡ request.Lookup sought → given ≡ reply.Found told access
      → IsKeyOf sought told
  found_under sought told access asked is =
      finds site old ask (request.Lookup sought) told access (may_reply site old place ask given new serves (request.Lookup sought) _ asked is)

  pub no_listing : (items : List Item) → given ≡ reply.Listing items → ⊥
  no_listing items is = lists_none site old ask ask.request items (may_reply site old place ask given new serves ask.request _ refl is)

-- what a lookup finds is true when it is told
module _ (service : Service) (objects : Objects) (number place : ℕ) (root : Access) (ask : Ask) (told : Key) (access : Access) (new : State)
    (stands : NoOtherRoot service objects root) where
  by_key : (sought : LookKey) → IsDone (site_in service number) (objects number) place ask (request.Lookup sought) (reply.Found told access) new
      → IsThere service objects root told access
  by_key look.Top is = there_at_top service objects number place root ask told access (reply.Found told access) new refl stands is
  by_key (look.At id name) is = there_by_name service objects number place root ask told access (reply.Found told access) new refl id name is

  pub found_there : Serves (site_in service number) (objects number) place ask (reply.Found told access) new → IsThere service objects root told access
  found_there serves =
      let found = found_by_lookup (site_in service number) (objects number) place ask (reply.Found told access) new serves told access refl in
      by_key found.sought
      (was_done (site_in service number) (objects number) place ask (reply.Found told access) new serves (request.Lookup found.sought) found.is_lookup refl)

-- ---- what is done had the caller's permission to write

module _ (site : Site) (old : State) (place : ℕ) (ask : Ask) (given : Reply) (new : State) (serves : Serves site old place ask given new) where
  pub reserved_may_write : (chain : List Entry) (name : List ℕ) (version : ℕ) → ask.request ≡ request.Reserve chain name
      → given ≡ reply.Reserved version → MayWriteAt ask.caller chain
  reserved_may_write chain name version asked is =
      let may = (was_done site old place ask given new serves (request.Reserve chain name) asked (ap is_failure is)).passed in
      record { last = may.entry; ends = may.is_asked.last; may = record { search = may.search; write = may.write } }

  pub sealed_may_write : (chain : List Entry) → ask.request ≡ request.Seal chain → given ≡ reply.Fine → MayWriteAt ask.caller (before_last chain)
  sealed_may_write chain asked is =
      let may = (was_done site old place ask given new serves (request.Seal chain) asked (ap is_failure is)).passed in
      record { last = may.parent; ends = may.above; may = record { search = may.search; write = may.write } }
