-- Which parts of a certificate have a question that passes the limits of a system. Part 0 is the object with its keys, and asks
-- nothing; the trees and then the folds are numbered on from 1.
use Rattle.std.specs.Prelude.{◌≡◌, ◌⊎◌, ℕ, ◌+◌, if◌then◌else◌, List, [], ◌∷◌, length, map, flat_map, replicate}
use Rattle.affc_trace.specs.declared.schedule.Schedule.{Schedule}
use Rattle.affc_nest.specs.declared.nest.Access.{Access}
use Rattle.affc_nest.specs.declared.nest.Entry.{Entry}
use Rattle.affc_nest.specs.declared.nest.Nest.{Nest}
use Rattle.affc_quast.specs.Seen.{trees_of}
use Rattle.affc_quast.specs.Sources.{loads_in, tree_of}
use Rattle.affc_quast.specs.Trees.{Tree}
use Rattle.affc_flow.specs.Questions.{questions_of_load}
use Rattle.affc_life.specs.Clashes.{clashes}
use Rattle.affc_life.specs.Sizes.{AnyLarge}
use Rattle.affc_cert.specs.declared.cert.Cert.{Cert}
use Rattle.affc_certvalue.specs.declared.fold.fold.CertFold.{CertFold}
use Rattle.affc_check.specs.list.Certs.{IsFoldSaid}
use Rattle.affc_check.specs.list.Items.{Item, Question, FoldShown, fold_items}
use Rattle.affc_check.specs.list.Limits.{AnyPasses, IsFirst, HoldsOfNone}

-- ---- Trees

-- the items of the trees of one entry's loads from this number on, load by load
abbrev pub items_by_load : Nest → List Tree → Entry → (load : ℕ) → List Access → List (List Item)
items_by_load nest trees reader load [] = []
items_by_load nest trees reader load (x ∷ []) = []
items_by_load nest trees reader load (x ∷ y ∷ ys) =
    map (λ q. Question q.system) (questions_of_load nest reader x (tree_of nest trees reader.part load)) ∷ items_by_load nest trees reader (load + 1) (y ∷ ys)

abbrev pub items_by_entry : Nest → List Tree → Entry → List (List Item)
items_by_entry nest trees e = if e.alive then items_by_load nest trees e 0 e.accesses else replicate (loads_in e) []

-- the items of each tree; of a load in an entry that can have no instances, none
abbrev pub items_by_tree : Nest → List Tree → List (List Item)
items_by_tree nest trees = flat_map (items_by_entry nest trees) nest.entries

-- ---- Folds

-- a clash system of the fold's array passes the limits, and with it each question on distances in it; or a question does
abbrev pub FoldPasses : Nest → Schedule → List Tree → CertFold → Type 0
FoldPasses nest schedule trees c =
    AnyLarge (clashes nest trees schedule c.array.0) ⊎ ((f : FoldShown) × IsFoldSaid nest schedule trees c f × AnyPasses (fold_items nest f))

-- ---- Parts

-- the first tree that passes has the part's number
pub record TreePassesFirst (nest : Nest) (c : Cert) (part : ℕ) : Type 0 where
  pub tree : ℕ
  pub number : part ≡ 1 + tree
  pub first : IsFirst AnyPasses (items_by_tree nest (trees_of c.flow)) tree

-- no tree passes, and the first fold that does has the part's number
pub record FoldPassesFirst (nest : Nest) (schedule : Schedule) (c : Cert) (part : ℕ) : Type 0 where
  pub trees : HoldsOfNone AnyPasses (items_by_tree nest (trees_of c.flow))
  pub fold : ℕ
  pub number : part ≡ (1 + length (trees_of c.flow)) + fold
  pub first : IsFirst (FoldPasses nest schedule (trees_of c.flow)) c.folds fold

abbrev pub PassesFirst : Nest → Schedule → Cert → (part : ℕ) → Type 0
PassesFirst nest schedule c part = TreePassesFirst nest c part ⊎ FoldPassesFirst nest schedule c part

pub record NonePasses (nest : Nest) (schedule : Schedule) (c : Cert) : Type 0 where
  pub trees : HoldsOfNone AnyPasses (items_by_tree nest (trees_of c.flow))
  pub folds : HoldsOfNone (FoldPasses nest schedule (trees_of c.flow)) c.folds
