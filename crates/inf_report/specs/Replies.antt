-- How replies are printed.
use Rattle.std.specs.Prelude.{ℕ, List, ◌++◌, codes}
use Rattle.std.specs.Fmt.{decimal}
use Rattle.inf_base.specs.declared.setup.ClientLine.{ClientLine}
use Rattle.inf_message.specs.declared.reply.Reply.{Reply}
use Rattle.inf_message.specs.declared.reply.Reply.TheVariants as reply
use Rattle.inf_message.specs.declared.reply.Spot.{Spot}
use Rattle.inf_message.specs.declared.reply.Spot.TheVariants as spot
use Rattle.inf_report.specs.Calls.{listing_text, ref_text, refused_text, stat_text}
use Rattle.inf_report.specs.Identifiers.{access_text, key_text, triple_text}
use Rattle.inf_report.specs.Numbers.{meta_text, numbers_text, set_positions}

-- where a change in flight touches the call
abbrev pub spot_text : Spot → List ℕ
spot_text (spot.Carried position) = codes "carried " ++ decimal position
spot_text spot.Slot = codes "slot"
spot_text spot.Inside = codes "inside"
spot_text spot.Sealed = codes "sealed"
spot_text spot.Bearer = codes "bearer"
spot_text spot.Change = codes "change"

abbrev pub reply_text : List ClientLine → Reply → List ℕ
reply_text clients (reply.Found key access) = codes "found " ++ key_text key ++ codes " " ++ access_text access
reply_text clients (reply.Absent born) = codes "absent " ++ decimal born
reply_text clients (reply.IsFile born) = codes "file " ++ decimal born
reply_text clients reply.NoDir = codes "nodir"
reply_text clients reply.Gone = codes "gone"
reply_text clients (reply.Stale hits) = codes "stale " ++ numbers_text (set_positions hits)
reply_text clients (reply.Busy by spot born) =
    codes "busy " ++ ref_text clients by ++ codes " " ++ spot_text spot ++ codes " " ++ decimal born
reply_text clients reply.Other = codes "other"
reply_text clients reply.NoMem = codes "nomem"
reply_text clients (reply.Reserved version) = codes "reserved " ++ decimal version
reply_text clients (reply.Held meta) = codes "held " ++ meta_text meta
reply_text clients (reply.Clash kept) = codes "clash " ++ triple_text kept
reply_text clients reply.Fine = codes "fine"
reply_text clients (reply.Refused error) = refused_text error
reply_text clients (reply.Stat kind meta) = stat_text kind meta
reply_text clients (reply.Listing items) = listing_text items
