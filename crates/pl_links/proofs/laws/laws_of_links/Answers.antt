use Rattle.pl_links.proofs.BrokenLaws.{exactly_the_broken}
use Rattle.pl_links.proofs.BrokenOrder.{broken_in_order}
use Rattle.pl_links.proofs.Slots.{only_child}
use Rattle.pl_links.proofs.Elsewhere.{elsewhere, elsewhere_with}
use Rattle.pl_links.proofs.laws.laws_of_links.Goals as goal

pub returns : goal.returns
returns c = record { members = λ model items b. exactly_the_broken model items b; ordered = λ model items rising. broken_in_order model items rising; child = λ items apart parent slot p. only_child items apart parent slot p; placed = λ model items p own absent none. elsewhere_with model items p own absent none; taken = λ model items p own here none. elsewhere items p own here model none }
