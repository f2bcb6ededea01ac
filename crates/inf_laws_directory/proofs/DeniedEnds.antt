-- A request that was refused asked the directory at the end of its chain.
use Rattle.std.proofs.Common.{◌⊎◌, inl, inr, ℕ, List, [], ◌∷◌}
use Rattle.inf_base.specs.declared.entry.Entry.{Entry}
use Rattle.inf_base.specs.declared.errno.Errno.{Errno}
use Rattle.inf_message.specs.declared.ask.Ask.{Ask}
use Rattle.inf_message.specs.declared.op.Op.TheVariants as op
use Rattle.inf_message.specs.declared.request.Request.TheVariants as request
use Rattle.inf_server.specs.Chains.{before_last, last_of}
use Rattle.inf_server.specs.State.{Site, State}
use Rattle.inf_laws_server.specs.Denied.{Denies, DeniesName, IsClosed, IsFull, IsUnwritable}
use Rattle.inf_laws_server.specs.Passed.{IsAsked}

pub record HasAsked (site : Site) (state : State) (ask : Ask) (chain : List Entry) : Type 0 where
  pub value : Entry
  pub is_asked : IsAsked site state ask.from (last_of chain) (chain ∷ []) value

module _ (site : Site) (state : State) (ask : Ask) (chain : List Entry) where
  module _ (name : List ℕ) (error : Errno) where
    pub asked_if_put : DeniesName site state ask chain name error → HasAsked site state ask chain
    asked_if_put (inl is) = record { value = is.entry; is_asked = is.is_asked }
    asked_if_put (inr (inl is)) = record { value = is.entry; is_asked = is.is_asked }
    asked_if_put (inr (inr is)) = record { value = is.entry; is_asked = is.is_asked }

    pub asked_if_look : Denies site state ask (request.Finish chain (op.Stat name)) error → HasAsked site state ask chain
    asked_if_look (inl is) = record { value = is.entry; is_asked = is.is_asked }
    asked_if_look (inr is) = record { value = is.entry; is_asked = is.is_asked }

    pub asked_if_walk : Denies site state ask (request.Finish chain (op.Walk name)) error → HasAsked site state ask chain
    asked_if_walk (inl is) = record { value = is.entry; is_asked = is.is_asked }
    asked_if_walk (inr is) = record { value = is.entry; is_asked = is.is_asked }

    pub asked_if_none : Denies site state ask (request.Finish chain (op.RmdirName name)) error → HasAsked site state ask chain
    asked_if_none (inl is) = record { value = is.entry; is_asked = is.is_asked }
    asked_if_none (inr (inl is)) = record { value = is.entry; is_asked = is.is_asked }
    asked_if_none (inr (inr is)) = record { value = is.entry; is_asked = is.is_asked }

  module _ (error : Errno) where
    by_reason : IsClosed site state ask (last_of chain) (chain ∷ []) (before_last chain) error
        ⊎ IsUnwritable site state ask (last_of chain) (chain ∷ []) (before_last chain) error ⊎ IsFull site state ask chain error → HasAsked site state ask chain
    by_reason (inl is) = record { value = is.entry; is_asked = is.is_asked }
    by_reason (inr (inl is)) = record { value = is.entry; is_asked = is.is_asked }
    by_reason (inr (inr is)) = record { value = is.entry; is_asked = is.is_asked }

    pub asked_if_seal : Denies site state ask (request.Seal chain) error → HasAsked site state ask chain
    asked_if_seal denies = by_reason denies.because
