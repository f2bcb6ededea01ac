-- Changes that are in the way, by what was told.
use Rattle.std.specs.Prelude.{◌≡◌, ◌⊎◌, ℕ, List, Some}
use Rattle.inf_base.specs.declared.access.Access.{Access}
use Rattle.inf_base.specs.declared.caller.CallRef.{CallRef}
use Rattle.inf_base.specs.declared.directory.DirRef.{DirRef}
use Rattle.inf_base.specs.declared.key.Key.{Key}
use Rattle.inf_base.specs.declared.key.LookKey.{LookKey}
use Rattle.inf_base.specs.declared.key.LookKey.TheVariants as look
use Rattle.inf_base.specs.Same.{dir_of}
use Rattle.inf_message.specs.declared.reply.Reply.TheVariants as reply
use Rattle.inf_message.specs.declared.reply.Spot.{Spot}
use Rattle.inf_resolve.specs.declared.known.Known.{Known}
use Rattle.inf_resolve.specs.Known.{told_under}

-- the directory was told: the root, or what stands under a name
pub record IsToldDir (known : List Known) (dir : DirRef) : Type 0 where
  pub asked : LookKey
  pub told : Known
  pub is_known : told_under asked known ≡ Some told
  pub key : Key
  pub access : Access
  pub is_found : told.reply ≡ reply.Found key access
  pub same : dir_of access ≡ dir

-- a lookup of this key was told so of the call, of a directory of this birth
pub record IsToldBusy (known : List Known) (asked : LookKey) (by : CallRef) (born place : ℕ) : Type 0 where
  pub told : Known
  pub is_known : told_under asked known ≡ Some told
  pub at : Spot
  pub is_busy : told.reply ≡ reply.Busy by at born
  pub is_place : told.place ≡ place

pub record IsBusyAtTop (known : List Known) (by : CallRef) (place : ℕ) : Type 0 where
  pub born : ℕ
  pub busy : IsToldBusy known look.Top by born place

-- under a name it counts where it is of a directory that was told
pub record IsBusyInside (known : List Known) (by : CallRef) (place : ℕ) : Type 0 where
  pub dir : DirRef
  pub name : List ℕ
  pub busy : IsToldBusy known (look.At dir.id name) by dir.born place
  pub is_told : IsToldDir known dir

abbrev pub IsInTheWay : List Known → CallRef → ℕ → Type 0
IsInTheWay known by place = IsBusyAtTop known by place ⊎ IsBusyInside known by place
