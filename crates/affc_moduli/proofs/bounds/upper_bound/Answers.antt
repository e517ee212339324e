use Rattle.std.proofs.Common.{refl}
use Rattle.affc_moduli.proofs.bounds.upper_bound.Goals as goal

pub returns-then-begins_void : goal.returns-then-begins_void
returns-then-begins_void c = record { bounded = λ z inside. absurd (c.if-begins_void.ensures refl z inside) }
