use Rattle.std.proofs.Common.{◌≡◌, ◌+◌, ◌-◌, ◌*◌, ◌≤◌, replicate}
use Rattle.mcode.specs.Image.{first_module, most_modules, modules_from, no_module}
use Rattle.image.proofs.read_modules.Given as goal

abbrev pub invariant-loop-i : goal.invariant-loop-i
invariant-loop-i l =
    (l.base ≤ first_module + 65538 * l.i) × (modules_from l.s l.count 0 1 first_module (replicate most_modules no_module) ≡ modules_from l.s (l.count - l.i) l.i l.at l.base l.modules)
