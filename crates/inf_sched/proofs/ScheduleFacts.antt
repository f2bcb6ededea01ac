-- What a run comes to once the moves of its order are made.
use Rattle.std.proofs.Common.{◌≡◌, ℕ, List, [], reverse, sym, ap, ap₂, subst, ◌∙◌}
use Rattle.std.proofs.lemmas.List.{reverse-reverse}
use Rattle.inf_base.specs.declared.id.Id.{Id}
use Rattle.inf_base.specs.declared.setup.Setup.{Setup}
use Rattle.inf_birth.specs.Digest.{sha_id}
use Rattle.inf_birth.specs.declared.rule.ShaRule.{ShaRule}
use Rattle.inf_core.specs.Core.{IsSameRun, Running, world_in}
use Rattle.inf_duty.specs.World.{world_by, World, world_of}
use Rattle.inf_laws_history.specs.Legal.{Legal}
use Rattle.inf_message.specs.declared.call_result.CallResult.{CallResult}
use Rattle.inf_message.specs.declared.event.Event.{Event}
use Rattle.inf_order.specs.declared.moves.Move.{Move}
use Rattle.inf_sched.specs.Order.{ByMoves, ByOrder, results_in}
use Rattle.inf_sched.specs.Run.{Playing, scene_of}
use Rattle.inf_sched.specs.Scene.{Scene, opening}
use Rattle.inf_sched.proofs.ServeFacts.{same_world}

back : (events history : List Event) → events ≡ reverse history → reverse events ≡ history
back events history is = ap reverse is ∙ reverse-reverse history

pub made_by_order : {R : Type 0} (digest_of : R → List ℕ → Id) (w : World) (order : List Move) (run after : Playing R) (events : List Event) (results : List CallResult)
    → world_in digest_of run.core ≡ w → scene_of run ≡ opening w
    → ByMoves (world_in digest_of run.core) order (scene_of run) (scene_of after) → IsSameRun run.core after.core
    → events ≡ reverse after.core.history → results ≡ results_in (world_in digest_of after.core) (scene_of after)
    → ByOrder w order (reverse events) results
made_by_order digest_of w order run after events results is begins moves same history counted = record {
  scene = scene_of after;
  moves = subst (λ s. ByMoves w order s (scene_of after)) begins (subst (λ v. ByMoves v order (scene_of run) (scene_of after)) is moves);
  made = sym (back events after.core.history history);
  counted = counted ∙ ap (λ v. results_in v (scene_of after)) (same_world digest_of run.core after.core same ∙ is);
}

pub made_legal : {R : Type 0} (digest_of : R → List ℕ → Id) (w : World) (run after : Playing R) (h : List Event)
    → world_in digest_of run.core ≡ w → IsSameRun run.core after.core → Legal (world_in digest_of after.core) h → Legal w h
made_legal digest_of w run after h is same legal = subst (λ v. Legal v h) (same_world digest_of run.core after.core same ∙ is) legal

-- ---- a script's own digest

abbrev pub sha_digest : ShaRule → List ℕ → Id
sha_digest rule message = sha_id rule.bytes message

pub sha_world : (rule : ShaRule) (setup copy : Setup) (core : Running ShaRule) → core ≡ record { rule = rule; setup = copy; history = [] } → copy ≡ setup → rule.bytes ≡ setup.digest_bytes
    → world_in sha_digest core ≡ world_of setup
sha_world rule setup copy core is copied bytes =
    ap (world_in sha_digest) is ∙ ap₂ (λ (s : Setup) n. record { setup = s; digest = sha_id n }) copied bytes

pub sha_opening : (setup copy : Setup) (scene : Scene) → scene ≡ opening (world_by (λ message. sha_id setup.digest_bytes message) copy) → copy ≡ setup
    → scene ≡ opening (world_of setup)
sha_opening setup copy scene is copied =
    is ∙ ap (λ (s : Setup). opening (record { setup = s; digest = sha_id setup.digest_bytes })) copied
