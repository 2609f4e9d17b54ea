-- What the check of a code solves.
use Rattle.mcode.specs.Depths.{Analysis, depths}
use Rattle.depths.specs.declared.code.Rules.{Rules}

-- the depths of the code among the modules of its program
abbrev pub depths_of : Rules → Analysis
depths_of r = depths r.code.image.now r.program.now r.code.m
