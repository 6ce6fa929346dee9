use Rattle.kc_user.proofs.UserLemmas.{map-replicate}
use Rattle.kc_values.specs.ValueLists.{value_of_number}
use Rattle.kc_values.proofs.value_list.ValueList.empty.Goals as goal

pub returns : goal.returns
returns c = rw (c.in_ok-places.ensures.items_if_clones_equal (λ y e. e)) (map-replicate (value_of_number _) c.args.count 0)
