use Rattle.atomic_list.proofs.Closings.{list_in_view, list_from_view}
use Rattle.atomic_list.proofs.laws.views_have_lists.Goals as goal

pub returns : goal.returns
returns c = λ shape p z chain. (list_in_view shape p z chain, list_from_view shape p z chain)
