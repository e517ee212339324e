-- Counts of faults and of wants of memory.
use Rattle.std.specs.Prelude.{◌≡◌, ◌<◌, ◌+◌, ◌-◌, ◌^◌, ℕ, Bool, true, false, Option, IfSome, max, min}

-- The count has risen, or stands at its type's end, where it can't rise. Of two calls in a row, where the count
-- rose in the first and doesn't fall in the second, it rose in both together. That would be lost if the second case
-- were said as `new ≡ 2 ^ 64 - 1`, since nothing bounds a count from above.
abbrev pub Rose : ℕ → ℕ → Type 0
Rose old new = new < 2 ^ 64 - 1 → old < new

-- the count stays, of a folder or a sink that tells this
abbrev pub StaysWhereTold : {A : Type 0} → Option A → ℕ → ℕ → Type 0
StaysWhereTold told old new = IfSome told (λ _. new ≡ old)

-- the count after one more, in a `u64` that stays at its type's end
abbrev pub raised : ℕ → ℕ
raised count = max count (min (count + 1) (2 ^ 64 - 1))

-- the count after a call, which counts or doesn't
abbrev pub counted : Bool → ℕ → ℕ
counted true count = raised count
counted false count = count
