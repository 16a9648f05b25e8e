-- The pairs of the definitions and those of the code.
use Rattle.backrefs.specs.declared.backrefs.Pair.{Pair as Read}
use Rattle.backrefs.specs.declared.backrefs.Pair.TheVariants.{Escaped, Single}
use Rattle.backrefs.specs.Backrefs.{Pair, escaped, single}

-- the pair that a value of the code stands for
abbrev pub meant_pair : Read → Pair
meant_pair (Escaped b) = escaped b
meant_pair (Single b) = single b
