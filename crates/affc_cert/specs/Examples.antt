-- Values that are refused or not, each judged by hand.
use Rattle.affc_cert.specs.Refusals.{refusal}
use Rattle.affc_cert.specs.declared.cert.CertFault.TheVariants as fault
use Rattle.affc_cert.specs.declared.layout.Layout.{Layout}
use Rattle.affc_certvalue.specs.fold.Folds.{matrix, modulus, this_number, fold}
use Rattle.affc_certvalue.specs.declared.fold.layout.Temporary.{Temporary}
use Rattle.affc_certvalue.specs.proof.Values.{leaf_node, cut_node, split_node}
use Rattle.affc_certvalue.specs.proof.Verdicts.{multipliers, proof}
use Rattle.affc_cert.specs.tree.Trees.{tree, path}
use Rattle.affc_cert.specs.tree.Values.{input_node}
use Rattle.affc_cert.specs.declared.tree.layout.Load.{Load}
use Rattle.affc_certvalue.specs.Values.{list_value, whole_value, numbers_value}
use Rattle.affc_certvalue.specs.declared.verdict.Verdict.TheVariants.{Shape, Number, Fine}
use Rattle.serde_json.specs.Data.{Data, null, number, unsigned, float, string, object, Items, no_members, member}
use Rattle.serde_json.specs.Events.{items_len}
use Rattle.std.specs.Prelude.{◌≡◌, ℕ, ◌<◌, Float, pos, negsuc, List, [], ◌∷◌, None, Some, codes}

-- 2^63, which is whole and fits no i64
abbrev past : Data
past = number (unsigned 9223372036854775808)

abbrev pair : Data → Data → Data
pair row times = list_value (row ∷ times ∷ [])

abbrev n : ℕ → Data
n k = whole_value (pos k)

-- ---- Proofs

abbrev leaf : Data
leaf = leaf_node ((0, 1) ∷ (7, 9007199254740992) ∷ [])

abbrev cut : Data
cut = cut_node [] (negsuc 0) (record { coefs = pos 1 ∷ []; constant = pos 0 })

abbrev split : Data
split = split_node [] (negsuc 4)

abbrev node : List ℕ → List Data → Data
node tag parts = list_value (string tag ∷ parts)

abbrev split_at : Data → Data
split_at at = list_value (node (codes "s") (list_value [] ∷ at ∷ []) ∷ leaf ∷ leaf ∷ [])

abbrev wide : Data
wide = cut_node [] (pos 1) (record { coefs = pos 1099511627777 ∷ []; constant = pos 0 })

-- each tag has its part of the list; one end too early or too late is a wrong shape
abbrev pub ProofsAreJudged : Type 0
ProofsAreJudged = (proof (list_value (leaf ∷ [])) ≡ Fine)
    × (proof (list_value []) ≡ Shape)
    × (proof (list_value (leaf ∷ leaf ∷ [])) ≡ Shape)
    × (proof (list_value (cut ∷ leaf ∷ [])) ≡ Fine)
    × (proof (list_value (cut ∷ [])) ≡ Shape)
    × (proof (list_value (split ∷ leaf ∷ cut ∷ leaf ∷ [])) ≡ Fine)
    × (proof (list_value (split ∷ leaf ∷ [])) ≡ Shape)
    × (proof (list_value (input_node ∷ [])) ≡ Shape)
    × (proof leaf ≡ Shape)
    × (proof (list_value (list_value (string (codes "c") ∷ list_value [] ∷ n 1 ∷ list_value [] ∷ []) ∷ leaf ∷ [])) ≡ Shape)
    × (proof (list_value (cut_node [] (pos 1) (record { coefs = pos 1099511627777 ∷ []; constant = pos 0 }) ∷ leaf ∷ [])) ≡ Number)
    × (proof (list_value (cut_node [] (pos 1) (record { coefs = pos 1099511627776 ∷ []; constant = pos 0 }) ∷ leaf ∷ [])) ≡ Fine)
    × (proof (list_value (wide ∷ [])) ≡ Shape)
    × (proof (list_value (n 1 ∷ [])) ≡ Shape)
    × (proof (list_value (list_value [] ∷ [])) ≡ Shape)
    × (proof (list_value (node (codes "f") (list_value [] ∷ n 1 ∷ []) ∷ [])) ≡ Shape)
    × (proof (list_value (node (codes "f") (n 1 ∷ []) ∷ [])) ≡ Shape)
    × (proof (split_at null) ≡ Shape)
    × (proof (split_at past) ≡ Number)
    × ((x : Float) → proof (split_at (number (float x))) ≡ Number)

-- Row numbers rise. They do not count where one isn't whole.
abbrev by_pairs : List Data → Data
by_pairs pairs = list_value (node (codes "f") (list_value pairs ∷ []) ∷ [])

abbrev pub MultipliersAreJudged : Type 0
MultipliersAreJudged = (proof (list_value (leaf_node ((1, 1) ∷ (1, 1) ∷ []) ∷ [])) ≡ Shape)
    × (proof (list_value (leaf_node ((1, 1) ∷ (0, 0) ∷ []) ∷ [])) ≡ Shape)
    × (proof (list_value (leaf_node ((0, 0) ∷ (1, 1) ∷ []) ∷ [])) ≡ Number)
    × (proof (list_value (leaf_node ((0, 9007199254740993) ∷ []) ∷ [])) ≡ Number)
    × (proof (list_value (leaf_node ((4294967295, 1) ∷ []) ∷ [])) ≡ Fine)
    × (proof (list_value (leaf_node ((4294967296, 1) ∷ []) ∷ [])) ≡ Number)
    × (proof (list_value (list_value (string (codes "f") ∷ list_value (pair past (n 1) ∷ pair (n 0) (n 1) ∷ []) ∷ []) ∷ [])) ≡ Number)
    × (proof (list_value (list_value (string (codes "f") ∷ list_value (list_value (n 0 ∷ []) ∷ []) ∷ []) ∷ [])) ≡ Shape)
    × (proof (by_pairs (pair (n 3) (n 1) ∷ pair (n 2) (n 1) ∷ pair past (n 1) ∷ [])) ≡ Number)
    × (proof (by_pairs (pair (n 3) (n 1) ∷ pair (n 2) past ∷ [])) ≡ Shape)
    × ((x : Float) → proof (by_pairs (pair (n 1) (n 1) ∷ pair (number (float x)) (n 1) ∷ [])) ≡ Number)
    × ((ds : Items) → 1024 < items_len ds → multipliers ds ≡ Shape)

-- ---- Trees: over one column, naming statement 3 with two loops

abbrev load : Load
load = record { columns = 1; stores = record { statement = 3; loops = 2 } ∷ [] }

abbrev over_one : Data
over_one = numbers_value (pos 1 ∷ pos 0 ∷ [])

abbrev over_two : Data
over_two = numbers_value (pos 1 ∷ pos 2 ∷ pos 0 ∷ [])

abbrev named : Data → List Data → Data
named statement forms = list_value (string (codes "w") ∷ statement ∷ list_value forms ∷ [])

abbrev div : ℕ → Data
div by = list_value (string (codes "d") ∷ over_one ∷ n by ∷ [])

abbrev pub TreesAreJudged : Type 0
TreesAreJudged = (tree load (list_value (input_node ∷ [])) ≡ Fine)
    × (tree load (list_value (named (n 3) (over_one ∷ over_one ∷ []) ∷ [])) ≡ Fine)
    × (tree load (list_value (named (n 3) (over_one ∷ []) ∷ [])) ≡ Shape)
    × (tree load (list_value (named (n 2) (over_one ∷ over_one ∷ []) ∷ [])) ≡ Shape)
    × (tree load (list_value (named (whole_value (negsuc 0)) (over_one ∷ over_one ∷ []) ∷ [])) ≡ Shape)
    × (tree load (list_value (named past [] ∷ [])) ≡ Number)
    × (tree load (list_value (named past (over_two ∷ []) ∷ [])) ≡ Shape)
    × (tree load (list_value (div 2 ∷ named (n 3) (over_two ∷ over_two ∷ []) ∷ [])) ≡ Fine)
    × (tree load (list_value (div 2 ∷ named (n 3) (over_one ∷ over_one ∷ []) ∷ [])) ≡ Shape)
    × (tree load (list_value (div 0 ∷ input_node ∷ [])) ≡ Number)
    × (tree load (list_value (list_value (string (codes "t") ∷ over_one ∷ []) ∷ input_node ∷ [])) ≡ Shape)
    × (tree load (list_value (list_value (string (codes "t") ∷ over_one ∷ []) ∷ div 1 ∷ input_node ∷ input_node ∷ [])) ≡ Fine)
    × (tree load (list_value (input_node ∷ input_node ∷ [])) ≡ Shape)
    × (tree load (list_value []) ≡ Shape)
    × (tree load (list_value (named (n 3) (over_one ∷ over_one ∷ over_one ∷ []) ∷ [])) ≡ Shape)
    × (tree load (list_value (named null [] ∷ [])) ≡ Shape)
    × ((x : Float) → tree load (list_value (named (number (float x)) [] ∷ [])) ≡ Number)
    × (tree load (list_value (node (codes "w") (n 3 ∷ []) ∷ [])) ≡ Shape)
    × (tree load (list_value (node (codes "d") (over_one ∷ []) ∷ input_node ∷ [])) ≡ Shape)
    × (tree load (list_value (node (codes "d") (over_one ∷ past ∷ []) ∷ input_node ∷ [])) ≡ Number)
    × (tree load (list_value (node (codes "i") (n 0 ∷ []) ∷ [])) ≡ Shape)
    × (tree load (list_value (node (codes "f") (list_value [] ∷ []) ∷ [])) ≡ Shape)
    × (path 399 ≡ Fine)
    × (path 400 ≡ Number)

-- ---- Folds

abbrev marked : Data → Data → Data → Data
marked clash p point = object (member (codes "form") over_one (member (codes "least") (object (member (codes "clash") clash (member (codes "p") p (member (codes "point") point no_members)))) no_members))

abbrev pub FoldsAreJudged : Type 0
FoldsAreJudged = (modulus 1 (object (member (codes "form") over_one (member (codes "least") null no_members))) ≡ Fine)
    × (modulus 2 (object (member (codes "form") over_one (member (codes "least") null no_members))) ≡ Shape)
    × (modulus 1 (object (member (codes "form") over_one no_members)) ≡ Shape)
    × (modulus 1 (object (member (codes "form") over_one (member (codes "least") null (member (codes "more") null no_members)))) ≡ Shape)
    × (modulus 1 (marked null (list_value (n 5 ∷ [])) null) ≡ Fine)
    × (modulus 1 (marked null (list_value []) null) ≡ Shape)
    × (modulus 1 (marked (n 0) (list_value (n 5 ∷ [])) (list_value [])) ≡ Fine)
    × (modulus 1 (marked (n 0) (list_value (n 5 ∷ [])) null) ≡ Shape)
    × (modulus 1 (marked null (list_value (n 5 ∷ [])) (list_value [])) ≡ Shape)
    × (modulus 1 (marked past (list_value (n 5 ∷ [])) (list_value [])) ≡ Number)
    × (modulus 1 (object (member (codes "form") over_one (member (codes "least") (n 1) no_members))) ≡ Shape)
    × (modulus 1 (marked null (list_value (null ∷ [])) null) ≡ Shape)
    × (modulus 1 (marked (n 0) (list_value (n 5 ∷ [])) (list_value (past ∷ []))) ≡ Number)
    × (matrix 2 (list_value (numbers_value (pos 1 ∷ pos 0 ∷ []) ∷ [])) ≡ Shape)
    × (matrix 1 (list_value (numbers_value (pos 1 ∷ pos 0 ∷ []) ∷ [])) ≡ Shape)
    × (matrix 1 (list_value (numbers_value (pos 257 ∷ []) ∷ [])) ≡ Number)
    × ((x : Float) → this_number 2 (number (float x)) ≡ Number)
    × (this_number 2 (n 2) ≡ Fine)
    × (this_number 2 (n 3) ≡ Shape)
    × (this_number 2 past ≡ Number)
    × (this_number 2 null ≡ Shape)

-- ---- Order: two loads, no temporary

abbrev layout : Layout
layout = record { parameters = 1; loads = load ∷ load ∷ []; temporaries = [] }

abbrev whole : Data → List Data → List Data → Data
whole version flow proofs =
    object
    (member (codes "affc") version
    (member (codes "context") (numbers_value (pos 4 ∷ []))
    (member (codes "flow") (list_value flow) (member (codes "folds") (list_value []) (member (codes "proofs") (list_value proofs) no_members)))))

abbrev right : Data
right = list_value (input_node ∷ [])

abbrev wrong_number : Data
wrong_number = list_value (div 0 ∷ input_node ∷ [])

-- version, then the first wrong shape, then the first wrong number
abbrev pub RefusalsAreInOrder : Type 0
RefusalsAreInOrder = (refusal layout (whole (n 1) (right ∷ right ∷ []) []) ≡ None)
    × (refusal layout (whole (n 2) (right ∷ []) []) ≡ Some fault.Version)
    × (refusal layout (object (member (codes "affc") null no_members)) ≡ Some fault.Version)
    × (refusal layout (object no_members) ≡ Some (fault.Shape 0))
    × (refusal layout null ≡ Some (fault.Shape 0))
    × (refusal layout (whole (n 1) (right ∷ []) []) ≡ Some (fault.Shape 0))
    × (refusal layout (whole (n 1) (right ∷ wrong_number ∷ []) []) ≡ Some (fault.Number 2))
    × (refusal layout (whole (n 1) (wrong_number ∷ right ∷ []) (list_value (leaf ∷ []) ∷ list_value [] ∷ [])) ≡ Some (fault.Shape 4))

-- ---- Parts: a load, a temporary, and proofs behind them

abbrev one_of_each : Temporary → Layout
one_of_each t = record { parameters = 1; loads = load ∷ []; temporaries = t ∷ [] }

abbrev parts : (context flow folds proofs : Data) → Data
parts context flow folds proofs =
    object
    (member (codes "affc") (n 1)
    (member (codes "context") context (member (codes "flow") flow (member (codes "folds") folds (member (codes "proofs") proofs no_members)))))

abbrev here : Data
here = numbers_value (pos 4 ∷ [])

abbrev none : Data
none = list_value []

abbrev one : Data → Data
one d = list_value (d ∷ [])

abbrev pub PartsAreNumbered : Type 0
PartsAreNumbered = ((t : Temporary) → refusal (one_of_each t) (parts here (one none) (one null) (one none)) ≡ Some (fault.Shape 1))
    × ((t : Temporary) → refusal (one_of_each t) (parts here (one right) (one null) (one none)) ≡ Some (fault.Shape 2))
    × ((t : Temporary) (d : Data) → fold 1 t d ≡ Fine → refusal (one_of_each t) (parts here (one right) (one d) (one none)) ≡ Some (fault.Shape 3))
    × ((t : Temporary) (d : Data) → fold 1 t d ≡ Number → refusal (one_of_each t) (parts here (one wrong_number) (one d) (one none)) ≡ Some (fault.Shape 3))
    × ((t : Temporary) (d : Data) → fold 1 t d ≡ Number → refusal (one_of_each t) (parts here (one right) (one d) (one (split_at past))) ≡ Some (fault.Number 2))
    × ((t : Temporary) (d : Data) → fold 1 t d ≡ Number → refusal (one_of_each t) (parts (one past) (one right) (one d) none) ≡ Some (fault.Number 0))
    × ((t : Temporary) (d : Data) → fold 1 t d ≡ Number → refusal (one_of_each t) (parts none (one right) (one d) none) ≡ Some (fault.Shape 0))

abbrev empty : Layout
empty = record { parameters = 1; loads = []; temporaries = [] }

abbrev versioned : Data → Data
versioned version =
    object
    (member (codes "affc") version
    (member (codes "context") null (member (codes "flow") none (member (codes "folds") none (member (codes "proofs") none no_members)))))

-- the object alone: its version, its keys, and the lists under them
abbrev pub ObjectsAreJudged : Type 0
ObjectsAreJudged = (refusal empty (parts here none none none) ≡ None)
    × (refusal empty (parts null none none none) ≡ Some (fault.Shape 0))
    × (refusal empty (parts none none none none) ≡ Some (fault.Shape 0))
    × (refusal empty (parts (numbers_value (pos 1 ∷ pos 2 ∷ [])) none none none) ≡ Some (fault.Shape 0))
    × (refusal empty (parts (one past) none none none) ≡ Some (fault.Number 0))
    × (refusal empty (parts (one past) none none (one none)) ≡ Some (fault.Shape 1))
    × (refusal empty (parts here null none none) ≡ Some (fault.Shape 0))
    × (refusal empty (parts here (one right) none none) ≡ Some (fault.Shape 0))
    × (refusal empty (parts here none null none) ≡ Some (fault.Shape 0))
    × (refusal empty (parts here none (one null) none) ≡ Some (fault.Shape 0))
    × (refusal empty (parts here none none null) ≡ Some (fault.Shape 0))
    × (refusal empty (object (member (codes "affc") (n 1) (member (codes "context") here (member (codes "flow") none (member (codes "folds") none no_members))))) ≡ Some (fault.Shape 0))
    × (refusal empty (object (member (codes "a") null (member (codes "affc") (n 1) (member (codes "context") here (member (codes "flow") none (member (codes "folds") none (member (codes "proofs") none no_members))))))) ≡ Some (fault.Shape 0))
    × (refusal empty (versioned (n 1)) ≡ Some (fault.Shape 0))
    × (refusal empty (versioned (string (codes "1"))) ≡ Some fault.Version)
    × ((x : Float) → refusal empty (versioned (number (float x))) ≡ Some fault.Version)
