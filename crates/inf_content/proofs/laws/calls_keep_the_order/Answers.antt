use Rattle.inf_content.proofs.Ordered.{dropped_in_order, erased_in_order, filled_in_order, held_in_order, lifted_in_order, made_in_order, none_in_order, reserved_in_order, sealed_in_order, settled_in_order, unsealed_in_order, with_file_in_order, with_meta_in_order, without_slot_in_order}
use Rattle.inf_content.proofs.laws.calls_keep_the_order.Goals as goal

pub returns : goal.returns
returns c = record {
  start = none_in_order;
  made = made_in_order;
  dropped = dropped_in_order;
  sealed = sealed_in_order;
  unsealed = unsealed_in_order;
  reserved = reserved_in_order;
  filed = with_file_in_order;
  changed = with_meta_in_order;
  removed = without_slot_in_order;
  held = held_in_order;
  settled = settled_in_order;
  filled = filled_in_order;
  lifted = lifted_in_order;
  erased = erased_in_order;
}
