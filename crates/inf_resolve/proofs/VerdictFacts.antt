-- Whether an attempt is over, where the root was told.
use Rattle.std.proofs.Common.{◌≡◌, ℕ, List, Option, Some, refl, ap, sym, ◌∙◌}
use Rattle.inf_base.specs.declared.access.Access.{Access}
use Rattle.inf_base.specs.declared.entry.Entry.{Entry}
use Rattle.inf_base.specs.declared.id.Id.{Id}
use Rattle.inf_base.specs.declared.key.Key.{Key}
use Rattle.inf_base.specs.declared.key.LookKey.TheVariants as look
use Rattle.inf_base.specs.Same.{dir_of}
use Rattle.inf_message.specs.declared.reply.Reply.{Reply}
use Rattle.inf_message.specs.declared.reply.Reply.TheVariants as reply
use Rattle.inf_resolve.specs.declared.known.Known.{Known}
use Rattle.inf_resolve.specs.declared.looked.Looked.{Looked}
use Rattle.inf_resolve.specs.declared.resolved.Verdict.{Verdict}
use Rattle.inf_resolve.specs.Known.{told_entry, told_under}
use Rattle.inf_resolve.specs.Resolved.{behind_root, by_root, by_told, resolved, verdict_of}

pub found_verdict : (digest : List ℕ → Id) (root : Id) (looked : Looked) (known : List Known) (told : Known)
    (k : Key) (access : Access) (v : Verdict)
    → told_under look.Top known ≡ Some told → told.reply ≡ reply.Found k access
    → ((by : List ℕ → Id) (top : Entry) → dir_of top.access ≡ dir_of access
    → v ≡ verdict_of (behind_root by looked known top))
    → v ≡ verdict_of (resolved digest root looked known)
found_verdict digest root looked known told k access v there is behind =
    behind digest (told_entry k access told.place) refl
    ∙ sym (ap (λ (given : Reply). verdict_of (by_root digest looked known told.place given)) is)
    ∙ sym (ap (λ (found : Option Known). verdict_of (by_told digest root looked known found)) there)
