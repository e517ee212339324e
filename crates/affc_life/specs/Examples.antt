-- The clash systems of small programs. Each row was found by hand from the rules.
use Rattle.std.specs.Prelude.{◌≡◌, ℕ, zero, suc, ℤ, pos, negsuc, true, false, List, [], ◌∷◌, length, take}
use Rattle.affc_rows.specs.Forms.{Affine}
use Rattle.affc_system.specs.Systems.{Rows, HasNoPoint}
use Rattle.affc_trace.specs.declared.schedule.Schedule.TheVariants.{Source}
use Rattle.affc_trace.specs.Examples.{blur, together}
use Rattle.affc_trace.specs.Law.{IsIn}
use Rattle.affc_nest.specs.Nests.{nest_of}
use Rattle.affc_nest.specs.declared.nest.Access.{Access}
use Rattle.affc_nest.specs.declared.nest.Entry.{Entry}
use Rattle.affc_nest.specs.declared.nest.Nest.{Nest}
use Rattle.affc_order.specs.Systems.{target_order}
use Rattle.affc_quast.specs.Trees.{Tree, Test, Div}
use Rattle.affc_quast.specs.Trees as tree
use Rattle.affc_life.specs.Asked.{KeepsLimits}
use Rattle.affc_life.specs.Clashes.{Clash, Order, apart_rows, between_rows, numbered_loads, clashes_of, clashes}

abbrev pub form : List ℤ → ℤ → Affine
form cs k = record { coefs = cs; constant = k }

abbrev over : (columns : ℕ) → List Affine → Rows
over n rows = record { columns = n; rows = rows }

-- ---- The blur: t[i] = in[i] + 1, and then out[i] = t[i] + t[i + 1] + t[i + 2], at the times i and i + 2

-- S0(i + k), over N and i
abbrev stored_at : (k : ℤ) → Tree
stored_at k = tree.Source 0 (form (pos 0 ∷ pos 1 ∷ []) k ∷ [])

abbrev blur_trees : List Tree
blur_trees = tree.Input ∷ stored_at (pos 0) ∷ stored_at (pos 1) ∷ stored_at (pos 2) ∷ []

-- t is array 2. A store comes before a load at an earlier time, or at the same time by its number: two systems, and two for the
-- elements, for each of three loads.
abbrev pub BlurHasTwelve : Type 0
BlurHasTwelve = length (clashes (nest_of blur) blur_trees together 2) ≡ 12

-- In the order of the text all stores come first: one system, and two for the elements, for each of three loads.
abbrev pub BlurHasSix : Type 0
BlurHasSix = length (clashes (nest_of blur) blur_trees Source 2) ≡ 6

-- `in` is loaded and never stored, `out` is stored and never loaded
abbrev pub OthersHaveNone : Type 0
OthersHaveNone = (clashes (nest_of blur) blur_trees together 0 ≡ []) × (clashes (nest_of blur) blur_trees together 1 ≡ [])

-- of the load t[i + 1] alone: over N, i and the store's j, with N from 1 to 4, 0 <= i < N and 0 <= j < N + 2
abbrev middle_front : List Affine → List Affine
middle_front rows =
    form (pos 1 ∷ pos 0 ∷ pos 0 ∷ []) (negsuc 0) ∷ form (negsuc 0 ∷ pos 0 ∷ pos 0 ∷ []) (pos 4)
    ∷ form (pos 0 ∷ pos 1 ∷ pos 0 ∷ []) (pos 0) ∷ form (pos 1 ∷ negsuc 0 ∷ pos 0 ∷ []) (negsuc 0)
    ∷ form (pos 0 ∷ pos 1 ∷ pos 0 ∷ []) (pos 0) ∷ form (pos 0 ∷ negsuc 0 ∷ pos 0 ∷ []) (pos 3)
    ∷ form (pos 0 ∷ pos 0 ∷ pos 1 ∷ []) (pos 0) ∷ form (pos 1 ∷ pos 0 ∷ negsuc 0 ∷ []) (pos 1)
    ∷ form (pos 0 ∷ pos 0 ∷ pos 1 ∷ []) (pos 0) ∷ form (pos 0 ∷ pos 0 ∷ negsuc 0 ∷ []) (pos 5)
    ∷ rows

abbrev middle : List Affine → Clash
middle rows = record {
  system = over 3 (middle_front rows);
  ranges = (pos 1, pos 4) ∷ (pos 0, pos 3) ∷ (pos 0, pos 5) ∷ [];
  x = form (pos 0 ∷ pos 1 ∷ pos 0 ∷ []) (pos 1) ∷ [];
  y = form (pos 0 ∷ pos 0 ∷ pos 1 ∷ []) (pos 0) ∷ [];
}

-- i + 1 < j; then j < i + 2, or j = i + 2; then i + 1 < j, or j < i + 1
abbrev pub MiddleClashes : Type 0
MiddleClashes = clashes (nest_of blur) (tree.Input ∷ tree.Input ∷ stored_at (pos 1) ∷ tree.Input ∷ []) together 2
    ≡ middle (form (pos 0 ∷ negsuc 0 ∷ pos 1 ∷ []) (negsuc 1) ∷ form (pos 0 ∷ pos 1 ∷ negsuc 0 ∷ []) (pos 1) ∷ form (pos 0 ∷ negsuc 0 ∷ pos 1 ∷ []) (negsuc 1) ∷ [])
    ∷ middle (form (pos 0 ∷ negsuc 0 ∷ pos 1 ∷ []) (negsuc 1) ∷ form (pos 0 ∷ pos 1 ∷ negsuc 0 ∷ []) (pos 1) ∷ form (pos 0 ∷ pos 1 ∷ negsuc 0 ∷ []) (pos 0) ∷ [])
    ∷ middle (
    form (pos 0 ∷ negsuc 0 ∷ pos 1 ∷ []) (negsuc 1)
    ∷ form (pos 0 ∷ negsuc 0 ∷ pos 1 ∷ []) (negsuc 1) ∷ form (pos 0 ∷ pos 1 ∷ negsuc 0 ∷ []) (pos 2)
    ∷ form (pos 0 ∷ negsuc 0 ∷ pos 1 ∷ []) (negsuc 1) ∷ []
    )
    ∷ middle (
    form (pos 0 ∷ negsuc 0 ∷ pos 1 ∷ []) (negsuc 1)
    ∷ form (pos 0 ∷ negsuc 0 ∷ pos 1 ∷ []) (negsuc 1) ∷ form (pos 0 ∷ pos 1 ∷ negsuc 0 ∷ []) (pos 2)
    ∷ form (pos 0 ∷ pos 1 ∷ negsuc 0 ∷ []) (pos 0) ∷ []
    )
    ∷ []

-- ---- A nest over N from 1 to 9: for (i = 0; i < N; i++) A[i + 1] = A[i];

abbrev access : (array : ℕ) → List Affine → Access
access array subs = record { array = record { 0 = array }; subs = subs }

abbrev here : Access
here = access 0 (form (pos 0 ∷ pos 1 ∷ []) (pos 0) ∷ [])

abbrev next : Access
next = access 0 (form (pos 0 ∷ pos 1 ∷ []) (pos 1) ∷ [])

abbrev shifts : Entry
shifts = record {
  part = 0;
  statement = 0;
  alive = true;
  loops = 0 ∷ [];
  domain = over 2 (
      form (pos 1 ∷ pos 0 ∷ []) (negsuc 0) ∷ form (negsuc 0 ∷ pos 0 ∷ []) (pos 9)
      ∷ form (pos 0 ∷ pos 1 ∷ []) (pos 0) ∷ form (pos 1 ∷ negsuc 0 ∷ []) (negsuc 0) ∷ []
      );
  ranges = (pos 0, pos 8) ∷ [];
  accesses = here ∷ next ∷ [];
}

abbrev nest : Nest
nest = record { params = (pos 1, pos 9) ∷ []; context = over 1 []; arrays = []; entries = shifts ∷ [] }

-- S0(i - 1) where i >= 1, and what was handed in where i = 0
abbrev chained : Tree
chained = Test (form (pos 0 ∷ pos 1 ∷ []) (negsuc 0)) (tree.Source 0 (form (pos 0 ∷ pos 1 ∷ []) (negsuc 0) ∷ [])) tree.Input

abbrev pub chain_front : List Affine → List Affine
chain_front rows =
    form (pos 1 ∷ pos 0 ∷ pos 0 ∷ []) (negsuc 0) ∷ form (negsuc 0 ∷ pos 0 ∷ pos 0 ∷ []) (pos 9)
    ∷ form (pos 0 ∷ pos 1 ∷ pos 0 ∷ []) (pos 0) ∷ form (pos 1 ∷ negsuc 0 ∷ pos 0 ∷ []) (negsuc 0)
    ∷ form (pos 0 ∷ pos 1 ∷ pos 0 ∷ []) (negsuc 0)
    ∷ form (pos 0 ∷ pos 0 ∷ pos 1 ∷ []) (pos 0) ∷ form (pos 1 ∷ pos 0 ∷ negsuc 0 ∷ []) (negsuc 0)
    ∷ rows

abbrev pub chain_clash : List Affine → Clash
chain_clash rows = record {
  system = over 3 (chain_front rows);
  ranges = (pos 1, pos 9) ∷ (pos 0, pos 8) ∷ (pos 0, pos 8) ∷ [];
  x = form (pos 0 ∷ pos 1 ∷ pos 0 ∷ []) (pos 0) ∷ [];
  y = form (pos 0 ∷ pos 0 ∷ pos 1 ∷ []) (pos 1) ∷ [];
}

-- i - 1 < j and j < i
abbrev pub chain_orders : List Affine → List Affine
chain_orders rows = form (pos 0 ∷ negsuc 0 ∷ pos 1 ∷ []) (pos 0) ∷ form (pos 0 ∷ pos 1 ∷ negsuc 0 ∷ []) (negsuc 0) ∷ rows

-- in the order of the source: i >= 1 behind the domain; then i < j + 1, or j + 1 < i
abbrev pub ChainClashes : Type 0
ChainClashes = clashes nest (chained ∷ []) Source 0
    ≡ chain_clash (chain_orders (form (pos 0 ∷ negsuc 0 ∷ pos 1 ∷ []) (pos 0) ∷ []))
    ∷ chain_clash (chain_orders (form (pos 0 ∷ pos 1 ∷ negsuc 0 ∷ []) (negsuc 1) ∷ []))
    ∷ []

-- the load's own store comes after it, so no store stands between
abbrev pub OwnStoreIsNone : Type 0
OwnStoreIsNone = (c : Clash) → IsIn c (clashes nest (chained ∷ []) Source 0) → HasNoPoint c.system

-- where i is 2 q or 2 q + 1, S0(q): the columns are N, i, q and the store's j, and q is from 0 to 4
abbrev halved : Tree
halved = Div (form (pos 0 ∷ pos 1 ∷ []) (pos 0)) (pos 2) (tree.Source 0 (form (pos 0 ∷ pos 0 ∷ pos 1 ∷ []) (pos 0) ∷ []))

abbrev halved_clash : (last : Affine) → Clash
halved_clash last = record {
  system = over 4 (
      form (pos 1 ∷ pos 0 ∷ pos 0 ∷ pos 0 ∷ []) (negsuc 0) ∷ form (negsuc 0 ∷ pos 0 ∷ pos 0 ∷ pos 0 ∷ []) (pos 9)
      ∷ form (pos 0 ∷ pos 1 ∷ pos 0 ∷ pos 0 ∷ []) (pos 0) ∷ form (pos 1 ∷ negsuc 0 ∷ pos 0 ∷ pos 0 ∷ []) (negsuc 0)
      ∷ form (pos 0 ∷ pos 1 ∷ negsuc 1 ∷ pos 0 ∷ []) (pos 0) ∷ form (pos 0 ∷ negsuc 0 ∷ pos 2 ∷ pos 0 ∷ []) (pos 1)
      ∷ form (pos 0 ∷ pos 0 ∷ pos 0 ∷ pos 1 ∷ []) (pos 0) ∷ form (pos 1 ∷ pos 0 ∷ pos 0 ∷ negsuc 0 ∷ []) (negsuc 0)
      ∷ form (pos 0 ∷ pos 0 ∷ negsuc 0 ∷ pos 1 ∷ []) (negsuc 0) ∷ form (pos 0 ∷ pos 1 ∷ pos 0 ∷ negsuc 0 ∷ []) (negsuc 0) ∷ last ∷ []
      );
  ranges = (pos 1, pos 9) ∷ (pos 0, pos 8) ∷ (pos 0, pos 4) ∷ (pos 0, pos 8) ∷ [];
  x = form (pos 0 ∷ pos 1 ∷ pos 0 ∷ pos 0 ∷ []) (pos 0) ∷ [];
  y = form (pos 0 ∷ pos 0 ∷ pos 0 ∷ pos 1 ∷ []) (pos 1) ∷ [];
}

-- q < j and j < i; i < j + 1, or j + 1 < i
abbrev pub HalvedClashes : Type 0
HalvedClashes = clashes nest (halved ∷ []) Source 0 ≡ halved_clash (form (pos 0 ∷ negsuc 0 ∷ pos 0 ∷ pos 1 ∷ []) (pos 0)) ∷ halved_clash (form (pos 0 ∷ pos 1 ∷ pos 0 ∷ negsuc 0 ∷ []) (negsuc 1)) ∷ []

-- ---- A nest without parameters and loops: A[0] = ..; A[1] = ..; B[0] = A[0]; A[0] = ..; B[0] = A[1];

abbrev constant_access : (array : ℕ) → (subscript : ℤ) → Access
constant_access array subscript = access array (form [] subscript ∷ [])

abbrev straight : (statement : ℕ) → List Access → Entry
straight statement accesses = record { part = statement; statement = statement; alive = true; loops = []; domain = over 0 []; ranges = []; accesses = accesses }

abbrev pub in_turn : Nest
in_turn = record {
  params = [];
  context = over 0 [];
  arrays = [];
  entries = straight 0 (constant_access 0 (pos 0) ∷ [])
      ∷ straight 1 (constant_access 0 (pos 1) ∷ [])
      ∷ straight 2 (constant_access 0 (pos 0) ∷ constant_access 1 (pos 0) ∷ [])
      ∷ straight 3 (constant_access 0 (pos 0) ∷ [])
      ∷ straight 4 (constant_access 0 (pos 1) ∷ constant_access 1 (pos 0) ∷ [])
      ∷ [];
}

-- A[x] is loaded, A[y] is stored between; the row says which is less
abbrev turn : (x y row : ℤ) → Clash
turn x y row = record { system = over 0 (form [] row ∷ []); ranges = []; x = form [] x ∷ []; y = form [] y ∷ [] }

-- A[1] is stored before the load of A[0], and A[0] before that of A[1]: the pair stands in both orders
abbrev pub BothOrders : Type 0
BothOrders = clashes in_turn (tree.Source 0 [] ∷ tree.Source 1 [] ∷ []) Source 0
    ≡ turn (pos 0) (pos 1) (pos 0) ∷ turn (pos 0) (pos 1) (negsuc 1) ∷ turn (pos 1) (pos 0) (negsuc 1) ∷ turn (pos 1) (pos 0) (pos 0) ∷ []

-- what is stored in B is never loaded
abbrev pub NeverLoaded : Type 0
NeverLoaded = clashes in_turn (tree.Source 0 [] ∷ tree.Source 1 [] ∷ []) Source 1 ≡ []

-- of loads of one array and stores of one, which may have equal subscripts
abbrev walked : (loaded stored : ℕ) → (before : Order) → List Clash
walked loaded stored before =
    clashes_of in_turn (tree.Source 0 [] ∷ tree.Source 1 [] ∷ []) (record { loaded = loaded; stored = stored; after = target_order in_turn Source; before = before; differ = false })

abbrev walked_by : (x y : ℤ) → Clash
walked_by x y = record { system = over 0 []; ranges = []; x = form [] x ∷ []; y = form [] y ∷ [] }

-- B[0] is stored once between A[1] and its load
abbrev pub AcrossArrays : Type 0
AcrossArrays = walked 0 1 (target_order in_turn Source) ≡ walked_by (pos 1) (pos 0) ∷ []

-- where the order before loads is the other way round: A[0] is stored once behind a load of A
abbrev pub AcrossOrders : Type 0
AcrossOrders = walked 0 0 (λ n a b. target_order in_turn Source n b a) ≡ walked_by (pos 0) (pos 0) ∷ []

-- ---- A[0] = ..; A[1] = A[0]; B[0] = A[0];

abbrev twice_loaded : Nest
twice_loaded = record in_turn {
  entries = straight 0 (constant_access 0 (pos 0) ∷ [])
      ∷ straight 1 (constant_access 0 (pos 0) ∷ constant_access 0 (pos 1) ∷ [])
      ∷ straight 2 (constant_access 0 (pos 0) ∷ constant_access 1 (pos 0) ∷ [])
      ∷ [];
}

-- A[0] lives from its store to its last load, so the store between its two loads is one beside it; for the instance that stores
-- there, which loads it first, that store is none
abbrev pub LivesToLastLoad : Type 0
LivesToLastLoad = clashes twice_loaded (tree.Source 0 [] ∷ tree.Source 0 [] ∷ []) Source 0 ≡ turn (pos 0) (pos 1) (pos 0) ∷ turn (pos 0) (pos 1) (negsuc 1) ∷ []

-- without the last load there is none
abbrev pub OwnStoreAlone : Type 0
OwnStoreAlone = clashes (record twice_loaded { entries = take 2 twice_loaded.entries }) (tree.Source 0 [] ∷ []) Source 0 ≡ []

-- ---- How deep a tree may be

abbrev pub deep : ℕ → Tree
deep zero = tree.Input
deep (suc n) = Test (form [] (pos 0)) (deep n) tree.Input

-- 400 tests above a leaf are few enough, and one more is too many
abbrev pub DepthsOfTrees : Type 0
DepthsOfTrees = KeepsLimits in_turn 0 (deep 400) × (KeepsLimits in_turn 0 (deep 401) → ⊥)

-- ---- Which elements differ, and which accesses load

-- in two dimensions: the first differs, or it is equal and the second differs; a scalar has one element
abbrev pub DimensionsInTurn : Type 0
DimensionsInTurn =
    (apart_rows (form (pos 1 ∷ []) (pos 0) ∷ form [] (pos 5) ∷ []) (form (pos 3 ∷ []) (pos 0) ∷ form [] (pos 7) ∷ []) []
    ≡ (form (pos 2 ∷ []) (negsuc 0) ∷ [])
    ∷ (form (negsuc 1 ∷ []) (negsuc 0) ∷ [])
    ∷ (form (negsuc 1 ∷ []) (pos 0) ∷ form (pos 2 ∷ []) (pos 0) ∷ form [] (pos 1) ∷ [])
    ∷ (form (negsuc 1 ∷ []) (pos 0) ∷ form (pos 2 ∷ []) (pos 0) ∷ form [] (negsuc 2) ∷ [])
    ∷ [])
    × (apart_rows [] [] (form [] (pos 0) ∷ []) ≡ [])

-- The rows of the order behind the named instance come first, then those of the order before the load, then those of the
-- elements; and of the systems, those of the first order stand together.
abbrev pub RowsInTurn : Type 0
RowsInTurn =
    between_rows true (form [] (pos 9) ∷ []) (over 0 (form [] (pos 1) ∷ []) ∷ over 0 (form [] (pos 2) ∷ []) ∷ []) (over 0 (form [] (pos 3) ∷ []) ∷ over 0 (form [] (pos 4) ∷ []) ∷ []) (form [] (pos 5) ∷ []) (form [] (pos 7) ∷ [])
    ≡ (form [] (pos 9) ∷ form [] (pos 1) ∷ form [] (pos 3) ∷ form [] (pos 1) ∷ [])
    ∷ (form [] (pos 9) ∷ form [] (pos 1) ∷ form [] (pos 3) ∷ form [] (negsuc 2) ∷ [])
    ∷ (form [] (pos 9) ∷ form [] (pos 1) ∷ form [] (pos 4) ∷ form [] (pos 1) ∷ [])
    ∷ (form [] (pos 9) ∷ form [] (pos 1) ∷ form [] (pos 4) ∷ form [] (negsuc 2) ∷ [])
    ∷ (form [] (pos 9) ∷ form [] (pos 2) ∷ form [] (pos 3) ∷ form [] (pos 1) ∷ [])
    ∷ (form [] (pos 9) ∷ form [] (pos 2) ∷ form [] (pos 3) ∷ form [] (negsuc 2) ∷ [])
    ∷ (form [] (pos 9) ∷ form [] (pos 2) ∷ form [] (pos 4) ∷ form [] (pos 1) ∷ [])
    ∷ (form [] (pos 9) ∷ form [] (pos 2) ∷ form [] (pos 4) ∷ form [] (negsuc 2) ∷ [])
    ∷ []

abbrev pub LastOneIsNoLoad : Type 0
LastOneIsNoLoad = numbered_loads 0 (here ∷ next ∷ here ∷ []) ≡ (0, here) ∷ (1, next) ∷ []

-- a part without instances neither loads nor stores
abbrev never : Nest
never = record nest { entries = record shifts { alive = false } ∷ [] }

abbrev pub NoneOfTheDead : Type 0
NoneOfTheDead = clashes never (chained ∷ []) Source 0 ≡ []
