use Rattle.std.proofs.Common.{◌≡◌, Option, refl, ap, ◌∙◌}
use Rattle.inf_base.specs.Content.{Content}
use Rattle.inf_content.specs.Contents.{content_at}
use Rattle.inf_laws_directory.specs.Objects.{content_in, site_in}
use Rattle.inf_laws_directory.specs.Serves.{directories_after}
use Rattle.inf_laws_directory.proofs.ContentFacts.{dropped_apart}
use Rattle.inf_laws_directory.proofs.Kept.{each_content}
use Rattle.inf_laws_directory.proofs.ServiceFacts.{looks_as_found}
use Rattle.inf_server.specs.State.{State}
use Rattle.inf_laws_directory.proofs.ServedKinds.{dropped}
use Rattle.inf_laws_directory.proofs.serves.dropping_leaves_others.Goals as goal

pub returns : goal.returns
returns c = λ service objects number ask dir done ordered is.
    let contents = (objects number).contents in
    let new = ap (λ (s : State). s.contents) (dropped (site_in service number) (objects number) ask done dir is).did in
    λ other apart.
    looks_as_found (content_in service objects) (directories_after service objects number done.state) other
    (each_content service objects number done.state (λ (old now : Option Content). now ≡ old) other
    (λ here. ap (content_at other) new ∙ dropped_apart dir other ask.from contents ordered.identifiers apart) (λ elsewhere. refl))
