-- The items of trees and folds, by what the code goes over.
use Rattle.std.specs.Prelude.{◌≡◌, ℕ, ◌+◌, List, [], ◌∷◌, ◌++◌, map, flat_map, Option, slice_get}
use Rattle.affc_rows.specs.Forms.{Affine}
use Rattle.affc_system.specs.declared.pairs.PairSystem.{PairSystem}
use Rattle.affc_trace.specs.declared.schedule.Schedule.{Schedule}
use Rattle.affc_basis.specs.Moduli.{IsModulus}
use Rattle.affc_nest.specs.declared.nest.Access.{Access}
use Rattle.affc_nest.specs.declared.nest.Entry.{Entry}
use Rattle.affc_nest.specs.declared.nest.Nest.{Nest}
use Rattle.affc_sched.specs.Touched.{Each}
use Rattle.affc_quast.specs.Leaves.{Leaf}
use Rattle.affc_quast.specs.Seen.{trees_of}
use Rattle.affc_quast.specs.Trees.{Tree}
use Rattle.affc_flow.specs.Questions.{leaf_questions, questions_of_load}
use Rattle.affc_life.specs.Asked.{KeepLimits}
use Rattle.affc_life.specs.Clashes.{clashes}
use Rattle.affc_life.specs.Products.{systems_in}
use Rattle.affc_life.specs.declared.clash.ClashProduct.{ClashProduct}
use Rattle.affc_life.specs.Sizes.{AnyLarge}
use Rattle.affc_cert.specs.declared.cert.Cert.{Cert}
use Rattle.affc_certvalue.specs.fold.Limits.{IsMarkWithin}
use Rattle.affc_certvalue.specs.declared.fold.fold.CertFold.{CertFold}
use Rattle.affc_certvalue.specs.declared.fold.fold.CertModulus.{CertModulus}
use Rattle.affc_questions.specs.Asked.{IsAlong}
use Rattle.affc_check.specs.list.Certs.{modulus_said, IsFoldSaid, AreFoldsSaid, IsFoldFor, IsFoldWithin}
use Rattle.affc_check.specs.list.Held.{flow_item}
use Rattle.affc_check.specs.list.Items.{Item, FoldShown, fold_items, items}
use Rattle.affc_check.specs.list.Limits.{HoldsOfNone}
use Rattle.affc_check.specs.list.Passes.{FoldPasses, NonePasses}

-- ---- Trees

-- the items of a leaf
abbrev pub leaf_items : Nest → Entry → Access → Leaf → List Item
leaf_items nest reader load leaf = map flow_item (leaf_questions nest reader load (nest.params ++ reader.ranges) leaf)

-- the items of a load with this tree
abbrev pub load_items : Nest → Entry → Access → Option Tree → List Item
load_items nest reader load tree = map flow_item (questions_of_load nest reader load tree)

-- load by load, where the loads of the entry have these trees
abbrev pub own_items : Nest → List Tree → Entry → (load : ℕ) → List Access → List (List Item)
own_items nest own reader load [] = []
own_items nest own reader load (x ∷ []) = []
own_items nest own reader load (x ∷ y ∷ ys) = load_items nest reader x (slice_get own load) ∷ own_items nest own reader (load + 1) (y ∷ ys)

-- ---- Folds

-- the clash systems of these products
abbrev pub clash_systems : List ClashProduct → List PairSystem
clash_systems products = flat_map systems_in products

-- what a certificate says of a fold of an array with these clash systems
abbrev pub fold_shown : CertFold → List PairSystem → FoldShown
fold_shown c systems = record { array = c.array.0; rows = c.basis.rows; moduli = map modulus_said c.moduli; systems = systems }

-- each row with its modulus, which is over the parameters of each clash system
abbrev pub AreRowsAsked : Nest → List PairSystem → (rows : List Affine) → List Affine → List CertModulus → Type 0
AreRowsAsked nest systems rows [] ms = Unit {0}
AreRowsAsked nest systems rows (row ∷ more) [] = Unit {0}
AreRowsAsked nest systems rows (row ∷ more) (m ∷ ms) =
    Each (IsAlong rows row m.form) systems × IsModulus nest.context.columns m.form × IsMarkWithin nest.context.columns m.least
    × AreRowsAsked nest systems rows more ms

-- what the items of a fold are asked of
pub record IsFoldAsked (nest : Nest) (trees : List Tree) (c : CertFold) : Type 0 where
  pub limits : KeepLimits nest trees
  pub of_array : IsFoldFor nest c
  pub within : IsFoldWithin nest c

-- what a certificate says of folds of arrays with these clash systems
abbrev pub folds_shown : List CertFold → List (List PairSystem) → List FoldShown
folds_shown [] ss = []
folds_shown (c ∷ cs) [] = []
folds_shown (c ∷ cs) (s ∷ ss) = fold_shown c s ∷ folds_shown cs ss

-- the clash systems of these folds' arrays, up to the first fold of which one passes the limits
abbrev pub AreSystems : Nest → Schedule → List Tree → List CertFold → List (List PairSystem) → Type 0
AreSystems nest schedule trees [] [] = Unit {0}
AreSystems nest schedule trees [] (s ∷ ss) = ⊥
AreSystems nest schedule trees (c ∷ cs) [] = AnyLarge (clashes nest trees schedule c.array.0)
AreSystems nest schedule trees (c ∷ cs) (s ∷ ss) =
    IsFoldSaid nest schedule trees c (fold_shown c s) × ¬ (AnyLarge (clashes nest trees schedule c.array.0)) × AreSystems nest schedule trees cs ss

-- these are put behind
pub record SystemsAdded (nest : Nest) (schedule : Schedule) (trees : List Tree) (cs : List CertFold) (old new : List (List PairSystem)) : Type 0 where
  pub systems : List (List PairSystem)
  pub put : new ≡ old ++ systems
  pub are : AreSystems nest schedule trees cs systems

-- the items of these folds, whose arrays have these clash systems, are put behind
pub record FoldsListed (nest : Nest) (schedule : Schedule) (trees : List Tree) (cs : List CertFold) (systems : List (List PairSystem)) (old new : List Item) : Type 0 where
  pub said : AreFoldsSaid nest schedule trees cs (folds_shown cs systems)
  pub put : new ≡ old ++ flat_map (fold_items nest) (folds_shown cs systems)
  pub within : HoldsOfNone (FoldPasses nest schedule trees) cs

-- all items of a certificate, where its folds' arrays have these clash systems
pub record IsListing (nest : Nest) (schedule : Schedule) (c : Cert) (is : List Item) (systems : List (List PairSystem)) : Type 0 where
  pub said : AreFoldsSaid nest schedule (trees_of c.flow) c.folds (folds_shown c.folds systems)
  pub are : is ≡ items nest schedule c.context (trees_of c.flow) (folds_shown c.folds systems)
  pub within : NonePasses nest schedule c
