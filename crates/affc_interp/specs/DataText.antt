-- The text of a program's data, and of what a run gives back: a line for each parameter, in order.
--
--     param N 4
--     array in 1 2 3
use Rattle.std.specs.Prelude.{◌≡◌, ℕ, ◌^◌, ◌<◌, suc, ◌≤◌, ℤ, int_le, ◌&&◌, nat_eq, IsTrue, if◌then◌else◌, List, [], ◌∷◌, ◌++◌, All, length, take, map, filter, codes, decimal, Result, Ok, Err}
use Rattle.std.specs.Fmt.{signed_decimal}
use Rattle.affc_ast.specs.declared.tree.Decl.{Decl}
use Rattle.affc_ast.specs.declared.tree.Param.{Param}
use Rattle.affc_ast.specs.declared.tree.Param.TheVariants.{Number, Array}
use Rattle.affc_ast.specs.declared.tree.Program.{Program}
use Rattle.affc_ast.specs.Cause.{Cause}
use Rattle.affc_ast.specs.Fits.{meets, is_output_role}
use Rattle.affc_ast.specs.Meaning.{extents_of, arrays_of}
use Rattle.affc_ast.specs.Store.{Store}
use Rattle.affc_interp.specs.Layout.{size_of}

-- ---- Lines. Each is given what stands behind it.

-- `param N 4`
abbrev pub number_line : (name : List ℕ) → ℤ → (behind : List ℕ) → List ℕ
number_line name z behind = codes "param " ++ (name ++ (codes " " ++ (signed_decimal z ++ behind)))

-- each number with a space before it
abbrev pub spaced : List ℕ → (behind : List ℕ) → List ℕ
spaced [] behind = behind
spaced (v ∷ vs) behind = 32 ∷ (decimal v ++ spaced vs behind)

-- `array in 1 2 3`
abbrev pub array_line : (name : List ℕ) → List ℕ → (behind : List ℕ) → List ℕ
array_line name values behind = codes "array " ++ (name ++ spaced values behind)

-- a line ends at a line feed, or where the text ends
abbrev pub EndsLine : (behind rest : List ℕ) → Type 0
EndsLine [] rest = rest ≡ []
EndsLine (b ∷ bs) rest = (b ≡ 10) × (bs ≡ rest)

-- ---- Data

-- a number within its range, and the rest of the text behind its line
abbrev pub NumberLine : (name : List ℕ) → (low high : ℤ) → (text : List ℕ) → ℤ → (rest : List ℕ) → Type 0
NumberLine name low high text z rest = IsTrue (int_le low z && int_le z high) × ((behind : List ℕ) × (text ≡ number_line name z behind) × EndsLine behind rest)

-- so many numbers of `uint64_t`, and the rest of the text behind their line
abbrev pub ArrayLine : (name : List ℕ) → (count : ℕ) → (text : List ℕ) → List ℕ → (rest : List ℕ) → Type 0
ArrayLine name count text values rest = (length values ≡ count) × All (λ v. v < 2 ^ 64) values × ((behind : List ℕ) × (text ≡ array_line name values behind) × EndsLine behind rest)

-- An array has as many elements as the product of its extents. With an extent that is below 1, or that can't be
-- read in `int64_t`, it has none.
abbrev pub elements_in : Result (List ℤ) Cause → ℕ
elements_in (Ok extents) = size_of extents
elements_in (Err cause) = 0

abbrev pub element_count : Decl → (names : List ℤ) → ℕ
element_count d names = elements_in (extents_of 0 d.extents 0 names)

-- The text begins with the lines of these parameters. They give p, and the values of each array, the last subscript
-- running fastest. An extent is read with the numbers before it, of which `before` are those before these lines.
abbrev pub HasLines : (before : List ℤ) → List Param → (p : List ℤ) → (values : List (List ℕ)) → (text rest : List ℕ) → Type 0
HasLines before [] [] [] text rest = text ≡ rest
HasLines before (Number name low high ∷ ps) (z ∷ zs) values text rest =
    (next : List ℕ) × NumberLine name low high text z next × HasLines (before ++ z ∷ []) ps zs values next rest
HasLines before (Array d ∷ ps) p (vs ∷ values) text rest =
    (next : List ℕ) × ArrayLine d.name (element_count d before) text vs next × HasLines before ps p values next rest
HasLines before _ _ _ text rest = ⊥

-- The text is a program's data: it has a line for each parameter and no more, and p meets the context.
pub record FeedReads (text : List ℕ) (program : Program) (p : List ℤ) (values : List (List ℕ)) : Type 0 where
  pub lines : HasLines [] program.params p values text []
  pub context : IsTrue (meets program.context p)

-- ---- The first line that is wrong

-- the text begins with right lines for these parameters
abbrev pub BeginsRight : (before : List ℤ) → List Param → (text : List ℕ) → Type 0
BeginsRight before ps text = (p : List ℤ) × (values : List (List ℕ)) × (rest : List ℕ) × HasLines before ps p values text rest

-- the first m lines are right, and the next one isn't, if there is to be one
pub record RightUpTo (before : List ℤ) (ps : List Param) (text : List ℕ) (m : ℕ) : Type 0 where
  pub within : m ≤ length ps
  pub right : BeginsRight before (take m ps) text
  pub wrong : m < length ps → BeginsRight before (take (suc m) ps) text → ⊥

-- Line n is the first that is wrong. Where the line of each parameter is right, it is the one behind them: there are
-- further bytes, or the context isn't met.
pub record IsWrongLine (text : List ℕ) (program : Program) (n : ℕ) : Type 0 where
  pub before : ℕ
  pub is_next : n ≡ suc before
  pub up_to : RightUpTo [] program.params text before
  pub no_data : (p : List ℤ) (values : List (List ℕ)) → FeedReads text program p values → ⊥

-- ---- What a run gives back

-- the values of an array's elements, in their order
abbrev pub values_of : (array : ℕ) → Store → List ℕ
values_of array store = map (λ e. e.1) (filter (λ e. nat_eq e.0.0 array) store)

-- a line for each array of role `Output`, from this number on
abbrev pub output_lines : (array : ℕ) → List Decl → Store → List ℕ
output_lines array [] store = []
output_lines array (d ∷ ds) store =
    if is_output_role d.role then array_line d.name (values_of array store) (10 ∷ output_lines (suc array) ds store) else output_lines (suc array) ds store

-- the text of what the output arrays hold
abbrev pub output_text : Program → Store → List ℕ
output_text program outputs = output_lines 0 (arrays_of program.params) outputs
