-- Sound list words have a chain.
use Rattle.std.proofs.Common.{ℕ, List, sym, subst}
use Rattle.persist_model.specs.Region.{Words}
use Rattle.persist_model.specs.Shape.{Shape}
use Rattle.persist_model.specs.Chain.{Chain}
use Rattle.atomic_list.specs.Rules.{IsList, at_rest, appending, removing}
use Rattle.atomic_list.proofs.Cases.{Chain-at_rest, Chain-appending}
use Rattle.atomic_list.proofs.Removing.{Chain-removing}

pub list_has_chain : (shape : Shape) (part : ℕ) (w : Words) (xs : List ℕ) → IsList shape part w xs → Chain w xs
list_has_chain shape part w xs (at_rest h) = Chain-at_rest shape part w xs h
list_has_chain shape part w xs (appending front node h e) = subst (Chain w) (sym e) (Chain-appending shape part w front node h)
list_has_chain shape part w xs (removing front node rest h e) = subst (Chain w) (sym e) (Chain-removing shape part w front node rest h)
