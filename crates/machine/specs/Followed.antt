-- What a machine means under a bound `M: Machine`, as `meaning_of M.Machine m.now`: at its own order, from its own first state.
use Rattle.numbering.specs.Meaning.{Meaning}
use Rattle.machine.specs.declared.machine.Machine.{Ghosts}
use Rattle.machine.specs.Means.{means}

abbrev pub meaning_of : {X S : Type 0} → Ghosts X S → X → Meaning
meaning_of M x = means (M.model x) (M.depth x) (M.begin x)
