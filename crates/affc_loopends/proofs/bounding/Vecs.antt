-- Vecs of given elements: values of the type, where no code ever made one.
use Rattle.std.proofs.Common.{◌<◌, ◌^◌, List, length, refl}
use Rattle.std.specs.Global.{Vec, Global}
use denote.RawPtr.{null_ptr}
use Rattle.affc_loopends.proofs.bounding.Numbers.{le_itself}

-- the one value of the allocator's type
abbrev somewhere : Global
somewhere = record { memory = record { seal = tt } }

-- (its block is never read: the pointer is null)
abbrev pub vec_of : {X : Type 0} → (xs : List X) → length xs < 2 ^ 63 → Vec X
vec_of xs small = record { ptr = null_ptr; len = length xs; cap = length xs; alloc = somewhere; items = xs; ok = (refl, le_itself (length xs)); small = small }
