use Rattle.std.proofs.Common.{refl}
use Rattle.compare.specs.Facts.{module_facts}
use Rattle.compare.proofs.Lists.{compared-then}
use Rattle.compare.proofs.modules.Pair.difference.Goals as goal

pub returns-in-Some : goal.returns-in-Some
unfolding module_facts
returns-in-Some c = compared-then _ _ _ _ _ _ c.in-Some.ensures refl

pub returns-in-Some-procedures : goal.returns-in-Some-procedures
unfolding module_facts
returns-in-Some-procedures c = compared-then _ _ _ _ _ _ c.in_default.ensures (compared-then _ _ _ _ _ _ c.in-Some-procedures.ensures refl)

pub returns-in-Some-name : goal.returns-in-Some-name
unfolding module_facts
returns-in-Some-name c =
    compared-then _ _ _ _ _ _ c.in_default.ensures
    (compared-then _ _ _ _ _ _ c.in_default-procedures.ensures
    (compared-then _ _ _ _ _ _ c.in-Some-name.ensures refl))

pub returns : goal.returns
unfolding module_facts
returns c =
    compared-then _ _ _ _ _ _ c.in_default.ensures
    (compared-then _ _ _ _ _ _ c.in_default-procedures.ensures
    (compared-then _ _ _ _ _ _ c.in_default-name.ensures c.code.ensures))
