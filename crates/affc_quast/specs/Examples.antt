-- Small trees: what they name, their leaves, and the place of each load's tree. Each value was found by hand from the rules.
use Rattle.std.specs.Prelude.{◌≡◌, ℕ, ◌^◌, ℤ, pos, negsuc, true, List, [], ◌∷◌, Some, None}
use Rattle.affc_rows.specs.Forms.{Affine}
use Rattle.affc_nest.specs.declared.nest.Access.{Access}
use Rattle.affc_nest.specs.declared.nest.Entry.{Entry}
use Rattle.affc_nest.specs.declared.nest.Nest.{Nest}
use Rattle.affc_nest.specs.Divisions.{quotient_range}
use Rattle.affc_quast.specs.Leaves.{leaves_of, padded, path_ranges}
use Rattle.affc_quast.specs.Sources.{loads_before, tree_of}
use Rattle.affc_quast.specs.Trees.{Tree, Test, Div, Source, Input, named_at, quotients_at, depth_of, divisions_of}

abbrev pub form : List ℤ → ℤ → Affine
form cs k = record { coefs = cs; constant = k }

-- over N, i: S0(i - 1) where i is at least 1, and else S1 at the half of i + 1
abbrev pub tree : Tree
tree =
    Test (form (pos 0 ∷ pos 1 ∷ []) (negsuc 0))
    (Source 0 (form (pos 0 ∷ pos 1 ∷ []) (negsuc 0) ∷ []))
    (Div (form (pos 0 ∷ pos 1 ∷ []) (pos 1)) (pos 2) (Source 1 (form (pos 0 ∷ pos 0 ∷ pos 1 ∷ []) (pos 0) ∷ [])))

-- ---- What is named

-- where the form is 0 too the test is met
abbrev pub TestsAreMetAtZero : Type 0
TestsAreMetAtZero = (named_at tree (pos 4 ∷ pos 1 ∷ []) ≡ Some (record { statement = 0; iterators = pos 0 ∷ [] }))
    × (named_at tree (pos 4 ∷ pos 0 ∷ []) ≡ Some (record { statement = 1; iterators = pos 0 ∷ [] }))
    × (named_at Input (pos 4 ∷ pos 0 ∷ []) ≡ None)

-- also below 0: the half of -3 + 1, and the half of -4 + 1
abbrev pub QuotientsRoundDown : Type 0
QuotientsRoundDown = (named_at tree (pos 4 ∷ negsuc 2 ∷ []) ≡ Some (record { statement = 1; iterators = negsuc 0 ∷ [] }))
    × (named_at tree (pos 4 ∷ negsuc 3 ∷ []) ≡ Some (record { statement = 1; iterators = negsuc 1 ∷ [] }))
    × (quotients_at tree (pos 4 ∷ negsuc 3 ∷ []) ≡ negsuc 1 ∷ [])
    × (quotients_at tree (pos 4 ∷ pos 1 ∷ []) ≡ [])

-- the tree on either side of a test, or on both: its longest way counts, and once
abbrev test_of : Tree → Tree → Tree
test_of on off = Test (form [] (pos 0)) on off

abbrev pub WaysAreCounted : Type 0
WaysAreCounted = (depth_of tree ≡ 2)
    × (depth_of (test_of Input tree) ≡ 3)
    × (depth_of (test_of tree Input) ≡ 3)
    × (depth_of (test_of tree tree) ≡ 3)
    × (divisions_of tree ≡ 1)
    × (divisions_of (test_of Input tree) ≡ 1)
    × (divisions_of (test_of tree Input) ≡ 1)
    × (divisions_of (test_of tree tree) ≡ 1)

-- ---- Leaves

-- i - 1; and behind -i, both sides of the quotient, i + 1 - 2 q and 2 q - i
abbrev pub LeavesInOrder : Type 0
LeavesInOrder = leaves_of 2 tree
    ≡ record {
      columns = 2;
      rows = form (pos 0 ∷ pos 1 ∷ []) (negsuc 0) ∷ [];
      divisions = [];
      named = Some (record { part = 0; iterators = form (pos 0 ∷ pos 1 ∷ []) (negsuc 0) ∷ [] });
    }
    ∷ record {
      columns = 3;
      rows = form (pos 0 ∷ negsuc 0 ∷ []) (pos 0) ∷ form (pos 0 ∷ pos 1 ∷ negsuc 1 ∷ []) (pos 1) ∷ form (pos 0 ∷ negsuc 0 ∷ pos 2 ∷ []) (pos 0) ∷ [];
      divisions = (form (pos 0 ∷ pos 1 ∷ []) (pos 1), pos 2) ∷ [];
      named = Some (record { part = 1; iterators = form (pos 0 ∷ pos 0 ∷ pos 1 ∷ []) (pos 0) ∷ [] });
    }
    ∷ []

-- columns more are behind
abbrev pub PaddedBehind : Type 0
PaddedBehind = padded 4 (form (pos 3 ∷ pos 5 ∷ []) (pos 7)) ≡ form (pos 3 ∷ pos 5 ∷ pos 0 ∷ pos 0 ∷ []) (pos 7)

-- the half of i + 1 where i is from 0 to 3; a quotient past 2^60
abbrev pub RangesOfQuotients : Type 0
RangesOfQuotients = (path_ranges ((pos 1, pos 4) ∷ (pos 0, pos 3) ∷ []) ((form (pos 0 ∷ pos 1 ∷ []) (pos 1), pos 2) ∷ []) ≡ (pos 1, pos 4) ∷ (pos 0, pos 3) ∷ (pos 0, pos 2) ∷ [])
    × (quotient_range ((pos 0, pos 3) ∷ []) (form (negsuc 0 ∷ []) (pos (2 ^ 62))) (pos 1) ≡ (pos (2 ^ 60), pos (2 ^ 60)))

-- ---- The trees of all loads

abbrev access : Access
access = record { array = record { 0 = 0 }; subs = [] }

abbrev entry : (statement : ℕ) → List Access → Entry
entry statement accesses = record { part = statement; statement = statement; alive = true; loops = []; domain = record { columns = 0; rows = [] }; ranges = []; accesses = accesses }

-- statements with one load, with two and with none
abbrev nest : Nest
nest = record {
  params = [];
  context = record { columns = 0; rows = [] };
  arrays = [];
  entries = entry 0 (access ∷ access ∷ []) ∷ entry 1 (access ∷ access ∷ access ∷ []) ∷ entry 2 (access ∷ []) ∷ [];
}

abbrev pub TreesInOrder : Type 0
TreesInOrder = (tree_of nest (Input ∷ Input ∷ tree ∷ []) 1 1 ≡ Some tree) × (tree_of nest (tree ∷ Input ∷ Input ∷ []) 0 0 ≡ Some tree) × (loads_before nest.entries 3 ≡ 3)
