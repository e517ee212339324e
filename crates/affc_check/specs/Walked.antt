-- Walks over the clash systems of an array, leaf by leaf.
use Rattle.std.specs.Prelude.{◌≡◌, ◌⊎◌, ℕ, ◌+◌, ℤ, pos, List, [], ◌∷◌, ◌++◌, length, map, flat_map, Option, None, Some, slice_get}
use Rattle.affc_rows.specs.Forms.{Affine}
use Rattle.affc_system.specs.declared.pairs.PairSystem.{PairSystem}
use Rattle.affc_ast.specs.declared.tree.ArrayId.{ArrayId}
use Rattle.affc_trace.specs.Law.{IsIn}
use Rattle.affc_basis.specs.Moduli.{IsModulus}
use Rattle.affc_nest.specs.declared.nest.Nest.{Nest}
use Rattle.affc_nest.specs.Parts.{coordinates}
use Rattle.affc_sched.specs.Legality.{IsAsked}
use Rattle.affc_quast.specs.Leaves.{Leaf}
use Rattle.affc_quast.specs.Seen.{trees_of}
use Rattle.affc_life.specs.Asked.{IsPath}
use Rattle.affc_life.specs.Clashes.{Clash, Walk, clash_of, clashes, live_walk}
use Rattle.affc_life.specs.Drafts.{clashes_of_leaf}
use Rattle.affc_life.specs.Sizes.{AnyLarge}
use Rattle.affc_life.specs.declared.clash.ClashProduct.{ClashProduct}
use Rattle.affc_certvalue.specs.Limits.{IsWord}
use Rattle.affc_certvalue.specs.fold.Limits.{IsMarkWithin, IsLeastWithin}
use Rattle.affc_certvalue.specs.declared.fold.fold.CertLeast.{CertLeast}
use Rattle.affc_certvalue.specs.declared.fold.fold.CertModulus.{CertModulus}
use Rattle.affc_questions.specs.Asked.{IsAlong}
use Rattle.affc_check.specs.list.ByClash.{questions_by, clash_at}
use Rattle.affc_check.specs.list.Items.{Item, Question}
use Rattle.affc_check.specs.list.Limits.{AnyPasses}
use Rattle.affc_check.specs.list.Loads.{AreTreeParts}
use Rattle.affc_check.specs.list.Walks.{clash_systems}
use Rattle.affc_check.specs.Looked.{AreLooked}
use Rattle.affc_check.specs.declared.fold_looks.Kept.{Kept}
use Rattle.affc_check.specs.declared.fold_looks.Setting.{Setting}
use Rattle.affc_check.specs.declared.list.item.Loaded.{Loaded}
use Rattle.affc_check.specs.declared.list.shown.Along.{Along}
use Rattle.affc_check.specs.declared.walks.Carried.{Carried}
use Rattle.affc_check.specs.declared.walks.Clashing.{Clashing}
use Rattle.affc_check.specs.declared.walks.Sought.{Sought}
use Rattle.affc_check.specs.declared.walks.Sought.TheVariants.{Ahead, Here, Nowhere}

-- ---- Distances

-- the questions on the distances in clash systems along a row, if one is given
abbrev pub along_items : Option Along → List Clash → List Item
along_items None cs = []
along_items (Some a) cs = map Question (flat_map (questions_by a.rows.now a.k a.row.now a.modulus.now) cs)

-- what these questions are asked of: each clash system, as the code holds it, is along the row
abbrev pub AreAllAlong : (rows : List Affine) → (row modulus : Affine) → List Clash → Type 0
AreAllAlong rows row modulus cs = (s : PairSystem) → IsIn (clash_of s) cs → IsAlong rows row modulus s

abbrev pub AreAlong : Option Along → List Clash → Type 0
AreAlong None cs = Unit {0}
AreAlong (Some a) cs = AreAllAlong a.rows.now a.row.now a.modulus.now cs

-- each row with its modulus
abbrev pub AreRowsAlong : Nest → List Clash → (rows : List Affine) → List Affine → List CertModulus → Type 0
AreRowsAlong nest cs rows [] ms = Unit {0}
AreRowsAlong nest cs rows (row ∷ more) [] = Unit {0}
AreRowsAlong nest cs rows (row ∷ more) (m ∷ ms) =
    AreAllAlong rows row m.form cs × IsModulus nest.context.columns m.form × IsMarkWithin nest.context.columns m.least × AreRowsAlong nest cs rows more ms

-- ---- One clash system

-- the one with the number z has this number among those of a leaf, which are kept and all among the clash systems so far
pub record IsPlaced (before : List Clash) (z : ℤ) (products : List ClashProduct) (n : ℤ) : Type 0 where
  pub same : clash_at before z ≡ clash_at (map clash_of (clash_systems products)) n
  pub among : (s : PairSystem) → IsIn s (clash_systems products) → IsIn (clash_of s) before

-- the same, where there is one
pub record IsHere (before : List Clash) (z : ℤ) (products : List ClashProduct) (n : ℕ) : Type 0 where
  pub clash : Clash
  pub there : clash_at before z ≡ Some clash
  pub is : slice_get (map clash_of (clash_systems products)) n ≡ Some clash
  pub among : (s : PairSystem) → IsIn s (clash_systems products) → IsIn (clash_of s) before

-- one has this number, or it is so far past them all
abbrev pub IsFurther : List PairSystem → ℕ → Option ℕ → Type 0
IsFurther systems n None = (s : PairSystem) × (slice_get systems n ≡ Some s)
IsFurther systems n (Some left) = n ≡ length systems + left

-- so far behind these clash systems the one with the number z is sought
abbrev pub StandsAt : Sought → List Clash → (z : ℤ) → Type 0
StandsAt (Ahead left) before z = z ≡ pos (length before + left)
StandsAt (Here products n) before z = IsHere before z products.items n
StandsAt Nowhere before z = (cs : List Clash) → clash_at cs z ≡ None

-- it is sought on among these
abbrev pub Seeks : (old new : Sought) → List Clash → Type 0
Seeks old new cs = (before : List Clash) (z : ℤ) → StandsAt old before z → StandsAt new (before ++ cs) z

-- the number of the clash system that shows that a modulus is least
abbrev pub IsNumberIn : Option (ℤ × List ℤ) → ℤ → Type 0
IsNumberIn None z = ⊥
IsNumberIn (Some pair) z = pair.0 ≡ z

abbrev pub IsNumberOf : Option CertLeast → ℤ → Type 0
IsNumberOf None z = ⊥
IsNumberOf (Some l) z = IsNumberIn l.pair z

-- that one is sought
abbrev pub StandsFor : Option CertLeast → Sought → List Clash → Type 0
StandsFor least sought cs = (z : ℤ) → IsNumberOf least z → StandsAt sought cs z

pub record IsNumbered (sought : Sought) (products : List ClashProduct) (n : ℤ) : Type 0 where
  pub word : IsWord n
  pub placed : (before : List Clash) (z : ℤ) → StandsAt sought before z → IsPlaced before z products n

-- the same pair among the clash systems of these products
abbrev pub IsSamePair : List Clash → Option (ℤ × List ℤ) → List ClashProduct → Option (ℤ × List ℤ) → Type 0
IsSamePair cs None products own = own ≡ None
IsSamePair cs (Some pair) products own = (n : ℤ) × (own ≡ Some (n, pair.1)) × (clash_at cs pair.0 ≡ clash_at (map clash_of (clash_systems products)) n)

pub record IsSame (cs : List Clash) (least : CertLeast) (kept : Kept) : Type 0 where
  pub own : CertLeast
  pub is : kept.least ≡ Some own
  pub p : own.p ≡ least.p
  pub pair : IsSamePair cs least.pair kept.products.items own.pair
  pub within : (parameters : ℕ) → IsLeastWithin parameters least → IsLeastWithin parameters own
  pub among : (s : PairSystem) → IsIn s (clash_systems kept.products.items) → IsIn (clash_of s) cs

-- what shows that a modulus is least is kept, beside the clash systems of a leaf
abbrev pub IsKept : CertLeast → Sought → Kept → Type 0
IsKept least sought kept = (cs : List Clash) → StandsFor (Some least) sought cs → IsSame cs least kept

-- ---- Walks

-- these clash systems are walked over, and none passes the limits
pub record Walked (along : Option Along) (old new : Carried) (cs : List Clash) : Type 0 where
  pub looked : AreLooked old.looked new.looked (along_items along cs)
  pub sought : Seeks old.sought new.sought cs
  pub systems : List PairSystem
  pub are : map clash_of systems ≡ cs
  pub fits : ¬ (AnyLarge cs)

-- one of them passes the limits, or a question on distances does
abbrev pub Breaks : Option Along → List Clash → Type 0
Breaks along cs = AnyLarge cs ⊎ AnyPasses (along_items along cs)

abbrev pub walk_in : Clashing → Walk
walk_in a = live_walk a.nest.now a.schedule.now a.array.0

-- the clash systems of a load and a leaf
abbrev pub leaf_clashes : Clashing → Loaded → Leaf → List Clash
leaf_clashes a l leaf = clashes_of_leaf a.nest.now (walk_in a) l.reader.now l.load.now leaf

-- what a walk asks of a leaf
pub record IsWalked (a : Clashing) (l : Loaded) (leaf : Leaf) : Type 0 where
  pub path : IsPath a.nest.now (length a.nest.now.params + coordinates l.reader.now) leaf
  pub along : AreAlong a.along (leaf_clashes a l leaf)

-- ---- Certificates

-- the loads are those of the nest, with these trees
pub record IsSetting (s : Setting) : Type 0 where
  pub asked : IsAsked s.nest.now s.schedule.now
  pub parts : AreTreeParts s.nest.now (trees_of s.flow.now) s.parts.now

-- the clash systems of an array
abbrev pub clashes_in : Setting → ArrayId → List Clash
clashes_in s array = clashes s.nest.now (trees_of s.flow.now) s.schedule.now array.0
