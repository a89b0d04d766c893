use Rattle.udt_model.proofs.Sorted.{orders_agree, sorting_agrees, visible_agrees}
use Rattle.udt_model.proofs.sorting.stored_keys_order_versions.Goals as goal

pub returns : goal.returns
returns c = record { orders = orders_agree; sorting = sorting_agrees; visible = visible_agrees }
