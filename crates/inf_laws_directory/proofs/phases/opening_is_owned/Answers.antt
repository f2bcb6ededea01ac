use Rattle.std.proofs.Common.{◌≡◌, true, false, None, is_some, inl, refl, sym, ap, ◌∙◌, subst}
use Rattle.inf_base.specs.declared.caller.CallRef.{CallRef}
use Rattle.inf_base.specs.declared.directory.DirRef.{DirRef}
use Rattle.inf_content.specs.Contents.{seal_of}
use Rattle.inf_server.specs.State.{root_access}
use Rattle.inf_laws_directory.specs.Objects.{Service, content_in, site_in}
use Rattle.inf_laws_directory.specs.Owned.{AreOwned, Has, HasPlace}
use Rattle.inf_laws_directory.specs.Phases.{IsLoose, Phase, Phases, idle}
use Rattle.inf_laws_directory.specs.Things.{thing_in}
use Rattle.inf_laws_directory.proofs.CallFacts.{none_not_some}
use Rattle.inf_laws_directory.proofs.Kept.{each_dir}
use Rattle.inf_laws_directory.proofs.Opened.{no_slot, opened, opened_others, opened_top, top}
use Rattle.inf_laws_directory.proofs.ServedOrder.{opening_in_order}
use Rattle.inf_laws_directory.proofs.phases.opening_is_owned.Goals as goal

module _ (service : Service) where
  no_seal : (dir : DirRef) → seal_of (content_in service (opened service) dir) ≡ None
  no_seal dir =
      each_dir (top service) (λ (d : DirRef). seal_of (content_in service (opened service) d) ≡ None)
      (ap seal_of (opened_top service)) (λ other apart. ap seal_of (opened_others service other apart)) dir

  opened_owned : (phases : Phases) → ((call : CallRef) → phases call ≡ idle) → AreOwned service (opened service) (root_access (site_in service 0)) phases
  opened_owned phases idles = record {
    order = λ number. opening_in_order (site_in service number);
    has = λ call. subst (λ (p : Phase). Has service (opened service) call p) (sym (idles call)) tt;
    reservations = λ dir name by access is. none_not_some _ _ (no_slot service dir name) is;
    seals = λ dir content by there sealed. none_not_some _ _ (no_seal dir) (ap seal_of there ∙ sealed);
    holds = λ dir name slot is. none_not_some _ _ (no_slot service dir name) is;
    root_kept = ap is_some (opened_top service);
    linked_kept = λ parent name access linked. none_not_some _ _ (ap thing_in (no_slot service parent name)) linked;
    placed = each_dir (top service) (λ (d : DirRef). is_some (content_in service (opened service) d) ≡ true → HasPlace (content_in service (opened service)) (root_access (site_in service 0)) phases d)
        (λ there. inl refl) (λ other apart there. let none : false ≡ true = sym (ap is_some (opened_others service other apart)) ∙ there in absurd cc);
    once = λ parent other name second access same linked also is. none_not_some _ _ (ap thing_in (no_slot service parent name)) linked;
    root_free = λ parent name access linked same. none_not_some _ _ (ap thing_in (no_slot service parent name)) linked;
    root_apart = λ call loose. subst (λ (p : Phase). IsLoose p (top service)) (idles call) loose;
  }

pub returns : goal.returns
returns c = λ service phases idles. opened_owned service phases idles
