use Rattle.std.proofs.Common.{refl}
use Rattle.inf_base.specs.declared.key.LookKey.TheVariants as look
use Rattle.inf_message.specs.declared.reply.Reply.TheVariants as reply
use Rattle.inf_laws_directory.specs.Objects.{site_in}
use Rattle.inf_laws_directory.proofs.ServedReplies.{found_by_lookup, found_under, no_listing}
use Rattle.inf_laws_directory.proofs.telling.lookups_answer_what_was_asked.Goals as goal

pub returns-clause-top : goal.returns-clause-top
returns-clause-top c = λ service at state new ask given k access serves asked found.
    found_under (site_in service at.number) state at.ask_place ask given new serves look.Top k access asked found

pub returns-clause-names : goal.returns-clause-names
returns-clause-names c = λ service at state new ask given id name k access serves asked found.
    found_under (site_in service at.number) state at.ask_place ask given new serves
    (look.At id name) k access asked found

pub returns-clause-lookups : goal.returns-clause-lookups
returns-clause-lookups c = λ service at state new ask given k access serves found.
    found_by_lookup (site_in service at.number) state at.ask_place ask given new serves k access found

pub returns-clause-no_listing : goal.returns-clause-no_listing
returns-clause-no_listing c = λ service at state new ask items serves.
    no_listing (site_in service at.number) state at.ask_place ask (reply.Listing items) new serves items refl
