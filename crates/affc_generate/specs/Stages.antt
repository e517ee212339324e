-- A pipeline of n stages, as source and schedule: each stage sums three neighbours of the stage before it, and the first copies the input.
use Rattle.std.specs.Prelude.{ℕ, ◌+◌, ◌-◌, ◌*◌, List, ◌++◌, codes, decimal}
use Rattle.std.specs.List.{flat_map, range_with_len}

-- ---- The source

-- `M + 6`
abbrev pub wider : ℕ → List ℕ
wider by = codes "M + " ++ decimal by

-- the extent of the temporary with this number: what the stages behind it read of it
abbrev pub extent : (n k : ℕ) → List ℕ
extent n k = wider (2 * (n - k))

-- `  uint64_t a1[M + 4];`
abbrev pub declaration : (n k : ℕ) → List ℕ
declaration n k = codes "  uint64_t a" ++ decimal k ++ codes "[" ++ extent n k ++ codes "];\n"

-- a loop of i below an end round one assignment
unfoldable pub for_front : List ℕ
for_front = codes "  for (int64_t i = 0; i < "

unfoldable pub for_behind : List ℕ
for_behind = codes "; i++) {\n    "

abbrev pub loop_of : (end assignment : List ℕ) → List ℕ
loop_of end assignment = for_front ++ end ++ for_behind ++ assignment ++ codes ";\n  }\n"

-- `a0[i] + a0[i + 1] + a0[i + 2]`, of the temporary with this number
abbrev pub element : (k : ℕ) → (subscript : List ℕ) → List ℕ
element k subscript = codes "a" ++ decimal k ++ codes "[" ++ subscript ++ codes "]"

abbrev pub neighbours : ℕ → List ℕ
neighbours k = element k (codes "i") ++ codes " + " ++ element k (codes "i + 1") ++ codes " + " ++ element k (codes "i + 2")

abbrev pub first_loop : (n : ℕ) → List ℕ
first_loop n = loop_of (extent n 0) (codes "a0[i] = in[i]")

-- `a1[i] = a0[i] + a0[i + 1] + a0[i + 2]`
abbrev pub summed : (k : ℕ) → List ℕ
summed k = element k (codes "i") ++ codes " = " ++ neighbours (k - 1)

abbrev pub stage : (n k : ℕ) → List ℕ
stage n k = loop_of (extent n k) (summed k)

abbrev pub last_loop : (n : ℕ) → List ℕ
last_loop n = loop_of (codes "M") (codes "out[i] = " ++ neighbours (n - 1))

unfoldable pub head_front : List ℕ
head_front = codes "#include <stdint.h>\n#pragma affc param M 1 1000\nvoid big(int64_t M, const uint64_t in["

unfoldable pub head_behind : List ℕ
head_behind = codes "], uint64_t out[M]) {\n"

abbrev pub head : (n : ℕ) → List ℕ
head n = head_front ++ extent n 0 ++ head_behind

-- the source of n stages, from 1 on
abbrev pub source : (n : ℕ) → List ℕ
source n =
    head n
    ++ (flat_map (declaration n) (range_with_len 0 n)
    ++ (first_loop n ++ (flat_map (stage n) (range_with_len 1 (n - 1)) ++ (last_loop n ++ codes "}\n"))))

-- ---- The schedule

-- when a stage runs, as soon as what it reads is there: `S2: (i + 4);`, and its inverse: ` i = t0 - 4;`
abbrev pub time_of : ℕ → List ℕ
time_of k = codes "S" ++ decimal k ++ codes ": (i + " ++ decimal (2 * k) ++ codes ");"

abbrev pub inverse_of : ℕ → List ℕ
inverse_of k = codes " i = t0 - " ++ decimal (2 * k) ++ codes ";\n"

abbrev pub line : ℕ → List ℕ
line k = time_of k ++ inverse_of k

unfoldable pub schedule_front : List ℕ
schedule_front = codes "time 1;\nS0: (i); i = t0;\n"

-- the schedule of n stages
abbrev pub schedule : (n : ℕ) → List ℕ
schedule n = schedule_front ++ flat_map line (range_with_len 1 n)

-- ---- What it comes to

-- the extents of all temporaries where M is 1000, summed
abbrev pub whole : (n : ℕ) → ℕ
whole n = n * 1000 + n * (n + 1)
