use Rattle.std.proofs.Common.{◌≡◌, None, ap, subst}
use Rattle.inf_base.specs.declared.entry.Entry.{Entry}
use Rattle.inf_base.specs.Content.{file}
use Rattle.inf_base.specs.Same.{dir_of}
use Rattle.inf_content.specs.Contents.{slots_at}
use Rattle.inf_content.specs.Slots.{with_slot}
use Rattle.inf_laws_directory.specs.Changes.{Puts}
use Rattle.inf_laws_directory.specs.Objects.{content_in, site_in}
use Rattle.inf_laws_directory.specs.Serves.{directories_after}
use Rattle.inf_laws_directory.specs.Things.{a_file, thing_in}
use Rattle.inf_server.specs.Files.{new_file}
use Rattle.inf_laws_directory.proofs.ServiceFacts.{put_by}
use Rattle.inf_laws_directory.proofs.SlotFacts.{with_slot_apart, with_slot_here}
use Rattle.inf_laws_directory.proofs.ServedKinds.{created, has_edited}
use Rattle.inf_server.specs.Chains.{last_of}
use Rattle.inf_laws_server.specs.Edits as edit
use Rattle.inf_laws_directory.proofs.serves.creating_puts_a_file.Goals as goal

pub returns : goal.returns
returns c = λ service objects number ask chain last name mode done is at_last.
    let was_created = created (site_in service number) (objects number) ask done chain name mode is in
    let put = was_created.passed in
    let has = has_edited (site_in service number) (objects number) done.state ask.from (last_of chain) put.entry (edit.puts name (new_file ask.caller mode)) put.is_asked was_created.did in
    let dir = dir_of put.entry.access in
    let slot = file (new_file ask.caller mode) None in
    let same : put.entry ≡ last = cc (put.is_asked.last, at_last) in
    let slots = slots_at dir (objects number).contents in
    subst (λ (e : Entry). Puts (content_in service objects) (directories_after service objects number done.state) (dir_of e.access) name (a_file (new_file ask.caller mode))) same
    (put_by service objects number done.state dir (with_slot name slot) has name
    (λ other apart. ap thing_in (with_slot_apart name other slot slots apart))
    (a_file (new_file ask.caller mode)) (ap thing_in put.free) (ap thing_in (with_slot_here name slot slots)))
