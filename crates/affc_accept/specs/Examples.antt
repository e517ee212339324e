-- Layouts of small nests, and folds with bases.
use Rattle.std.specs.Prelude.{◌≡◌, ℕ, pos, true, false, List, [], ◌∷◌, flat_map, None}
use Rattle.affc_rows.specs.Forms.{Affine}
use Rattle.affc_ast.specs.declared.tree.ArrayId.{ArrayId}
use Rattle.affc_ast.specs.declared.tree.Role.{Role}
use Rattle.affc_ast.specs.declared.tree.Role.TheVariants.{Output, Temp}
use Rattle.affc_basis.specs.declared.basis.Basis.{Basis}
use Rattle.affc_basis.specs.Examples.{whole}
use Rattle.affc_nest.specs.declared.nest.Access.{Access}
use Rattle.affc_nest.specs.declared.nest.ArrayInfo.{ArrayInfo}
use Rattle.affc_nest.specs.declared.nest.Entry.{Entry}
use Rattle.affc_nest.specs.declared.nest.Nest.{Nest}
use Rattle.affc_basis.specs.Turned.{turned}
use Rattle.affc_certvalue.specs.declared.fold.fold.CertFold.{CertFold}
use Rattle.affc_cert.specs.declared.tree.layout.Store.{Store}
use Rattle.affc_accept.specs.Bases.{KeepsBasis}
use Rattle.affc_accept.specs.Columns.{form_exchanged}
use Rattle.affc_accept.specs.Layouts.{loads_of, temporaries_from}

-- ---- A nest: out = t[0] behind two statements with t[0] = .., of which the second can have no instances, and a temporary u

abbrev pub id : ℕ → ArrayId
id n = record { 0 = n }

-- a number, where there are no parameters
abbrev pub plain_number : ℕ → Affine
plain_number n = record { coefs = []; constant = pos n }

abbrev pub at_zero : ℕ → Access
at_zero array = record { array = id array; subs = plain_number 0 ∷ [] }

abbrev pub info : Role → List Affine → ArrayInfo
info role extents = record { role = role; extents = extents }

abbrev pub entry_with : (statement : ℕ) → (accesses : List Access) → Entry
entry_with n accesses = record { part = n; statement = n; alive = true; loops = []; domain = record { columns = 0; rows = [] }; ranges = []; accesses = accesses }

abbrev pub small_nest : Nest
small_nest = record {
  params = [];
  context = record { columns = 0; rows = [] };
  arrays = info Output [] ∷ info Temp (plain_number 3 ∷ []) ∷ info Temp [] ∷ [];
  entries = entry_with 0 (at_zero 1 ∷ []) ∷ record (entry_with 1 (at_zero 1 ∷ [])) { alive = false } ∷ entry_with 2 (at_zero 1 ∷ record { array = id 0; subs = [] } ∷ []) ∷ [];
}

abbrev pub store_by : ℕ → Store
store_by n = record { statement = n; loops = 0 }

-- The first part alone is one that the load's tree may name.
abbrev pub DeadStoresNothing : Type 0
DeadStoresNothing = flat_map (loads_of small_nest) small_nest.entries ≡ record { columns = 0; stores = store_by 0 ∷ [] } ∷ []

-- Of the two temporaries one has no dimensions, and no fold.
abbrev pub ScalarHasNoFold : Type 0
ScalarHasNoFold = temporaries_from 0 small_nest.arrays ≡ (1, 1) ∷ []

-- ---- Folds of t, over the identity or the other basis of one dimension

abbrev pub fold_by : Basis → Affine → CertFold
fold_by basis modulus = record { array = id 1; basis = basis; moduli = record { form = modulus; least = None } ∷ [] }

-- the other one is given
abbrev pub given_turned : List (ArrayId × Basis)
given_turned = (id 1, turned) ∷ []

abbrev pub given_whole : List (ArrayId × Basis)
given_whole = (id 1, whole) ∷ []

-- It is kept by a fold over it, and by the identity with the extent as modulus.
abbrev pub GivenIsKept : Type 0
GivenIsKept = KeepsBasis small_nest given_turned (fold_by turned (plain_number 2))

abbrev pub WholeIsKept : Type 0
WholeIsKept = KeepsBasis small_nest given_turned (fold_by whole (plain_number 3))

-- It isn't by the identity with another modulus, nor, where the identity is given, is that by the other one.
abbrev pub OtherModulusIsNot : Type 0
OtherModulusIsNot = ¬ (KeepsBasis small_nest given_turned (fold_by whole (plain_number 2)))

abbrev pub OtherBasisIsNot : Type 0
OtherBasisIsNot = ¬ (KeepsBasis small_nest given_whole (fold_by turned (plain_number 3)))

-- Where none is given, each does.
abbrev pub NoneIsGiven : Type 0
NoneIsGiven = KeepsBasis small_nest [] (fold_by turned (plain_number 2))

-- ---- A form over a parameter, two iterators and a quotient

-- In the text the iterators come first, and the quotient stays the last.
abbrev pub IteratorsComeFirst : Type 0
IteratorsComeFirst =
    form_exchanged 1 2 (record { coefs = pos 2 ∷ pos 3 ∷ pos 4 ∷ pos 5 ∷ []; constant = pos 6 }) ≡ record { coefs = pos 3 ∷ pos 4 ∷ pos 2 ∷ pos 5 ∷ []; constant = pos 6 }
