use Rattle.inf_laws_directory.proofs.ServedOrder.{next_in_order, opening_in_order}
use Rattle.inf_laws_directory.proofs.serves.objects_stay_in_order.Goals as goal

pub returns-clause-opening : goal.returns-clause-opening
returns-clause-opening c = opening_in_order

pub returns-clause-next : goal.returns-clause-next
returns-clause-next c = next_in_order
