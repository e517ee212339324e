-- The trees of all loads, none of whose questions has a point.
use Rattle.std.proofs.Common.{◌≡◌, ℕ, zero, suc, ℤ, ◌+◌, ◌-◌, ◌<◌, IsTrue, if◌then◌else◌, List, [], ◌∷◌, ◌++◌, length, Option, Some, refl, sym, ap, subst, ◌∙◌, arith}
use Rattle.std.specs.Prelude.{slice_get}
use Rattle.std.proofs.lemmas.Option.{same_Some, none-some}
use Rattle.affc_system.specs.Boxes.{InBox}
use Rattle.affc_system.specs.Systems.{IsPoint, HasNoPoint}
use Rattle.affc_ast.specs.declared.tree.Instance.{Instance}
use Rattle.affc_ast.specs.declared.tree.Program.{Program}
use Rattle.affc_ast.specs.Store.{Element}
use Rattle.affc_ast.specs.Trace.{trace, store_of, loads_of}
use Rattle.affc_trace.specs.Dataflow.{IsSource}
use Rattle.affc_trace.specs.Law.{IsIn}
use Rattle.affc_trace.specs.Laws.{IsInContext}
use Rattle.affc_trace.proofs.Members.{to_first, to_second, to_flat_map}
use Rattle.affc_trace.proofs.Runs.{slice_left}
use Rattle.affc_domain.specs.Ranges.{number_ranges}
use Rattle.affc_domain.proofs.RangeLemmas.{in_ranges, box_append}
use Rattle.affc_domain.proofs.Lists.{stands_in, there_is, to_mapped}
use Rattle.affc_nest.specs.declared.nest.Access.{Access}
use Rattle.affc_nest.specs.declared.nest.Entry.{Entry}
use Rattle.affc_nest.specs.declared.nest.Nest.{Nest}
use Rattle.affc_nest.specs.Laws.{HasNest, NamesArrays, element_at, IsEntry}
use Rattle.affc_nest.specs.Nests.{nest_of}
use Rattle.affc_nest.proofs.EntryLemmas.{entries_stand, ranges_hold_iterators}
use Rattle.affc_sched.proofs.LegalLemmas.{Stood, events_are}
use Rattle.affc_quast.specs.Sources.{loads_in, tree_of}
use Rattle.affc_quast.specs.Limits.{Shaped}
use Rattle.affc_quast.specs.Trees.{Tree, named_at, quotients_at}
use Rattle.affc_quast.proofs.RangeLemmas.{leaf_is_boxed}
use Rattle.affc_flow.specs.Laws.{Loads, IsSourceOf, FlowNamesSources, FlowNamesAll}
use Rattle.affc_flow.specs.Questions.{Question, questions_of_load, questions_of_loads, flow_questions}
use Rattle.affc_flow.proofs.PathLemmas.{parameters_are, reader_stands}
use Rattle.affc_flow.proofs.LoadLemmas.{load_there}
use Rattle.affc_flow.proofs.NamesLemmas.{HoldsLeaves, tree_names}

-- the questions of one load are among those of all
among_loads : (nest : Nest) (trees : List Tree) (e : Entry) (q : Question) (xs : List Access) (first k : ℕ) (x : Access) → slice_get xs k ≡ Some x → suc k < length xs
    → IsIn q (questions_of_load nest e x (tree_of nest trees e.part (first + k))) → IsIn q (questions_of_loads nest trees e first xs)
among_loads nest trees e q [] first k x at less i = absurd (none-some x at)
among_loads nest trees e q (y ∷ []) first k x at less i = absurd (omega (arith, less))
among_loads nest trees e q (y ∷ z ∷ ys) first zero x at less i =
    to_first (questions_of_load nest e y (tree_of nest trees e.part first)) (questions_of_loads nest trees e (first + 1) (z ∷ ys)) q
    (subst (λ n. IsIn q (questions_of_load nest e y (tree_of nest trees e.part n))) (none first) (subst (λ x. IsIn q (questions_of_load nest e x (tree_of nest trees e.part (first + 0)))) (sym (same_Some y x at)) i))
  where
    none : (n : ℕ) → n + 0 ≡ n
    none n = omega arith
among_loads nest trees e q (y ∷ z ∷ ys) first (suc k) x at less i =
    to_second (questions_of_load nest e y (tree_of nest trees e.part first)) (questions_of_loads nest trees e (first + 1) (z ∷ ys)) q
    (among_loads nest trees e q (z ∷ ys) (first + 1) k x at (omega (arith, less)) (subst (λ n. IsIn q (questions_of_load nest e x (tree_of nest trees e.part n))) (moved first k) i))
  where
    moved : (m n : ℕ) → m + suc n ≡ (m + 1) + n
    moved m n = omega arith

-- ---- One load

module _ (program : Program) (p : List ℤ) (trees : List Tree) (has : HasNest program) (named : NamesArrays program) (inside : IsInContext program p)
    (s k : ℕ) (e : Entry) (at : slice_get (nest_of program).entries s ≡ Some e) (less : k < loads_in e) (a : Access) (a_at : slice_get e.accesses k ≡ Some a)
    (b : Instance) (number : b.statement ≡ s) (runs : IsIn b (trace program p)) where
  own : e.part ≡ s
  own = ((entries_stand program has).1 s e at).number

  is : b ≡ record { statement = e.part; iterators = b.iterators }
  is = λ i. record { statement = (number ∙ sym own) i; iterators = b.iterators }

  enough : suc k < length e.accesses
  enough = more (length e.accesses) less
    where
      more : (n : ℕ) → k < n - 1 → suc k < n
      more n h = omega (arith, h)

  pub loaded : Loads program p b.iterators e a
  loaded = record {
    has = has;
    named = named;
    context = inside;
    entry = subst (λ k. IsEntry program k e) (sym own) at;
    made = stands_in e.accesses k a a_at;
    runs = subst (λ i. IsIn i (trace program p)) is runs;
  }

  l : length p ≡ length (number_ranges program.params)
  l = parameters_are program p b.iterators e a loaded

  st : Stood program p e b.iterators
  st = reader_stands program p b.iterators e a loaded

  abbrev ranges : List (ℤ × ℤ)
  ranges = (nest_of program).params ++ e.ranges

  pub its_box : InBox ((nest_of program).params ++ e.ranges) (p ++ b.iterators)
  its_box =
      box_append (nest_of program).params e.ranges p b.iterators (in_ranges program.params p inside.ranges)
      ((ranges_hold_iterators program e.part e has loaded.entry st.alive).hold p (record { statement = e.part; iterators = b.iterators }) refl inside loaded.runs)

  pub width : length (nest_of program).params + length e.loops ≡ length p + length b.iterators
  width = ap (λ k. k + length e.loops) (sym l) ∙ ap (λ k. length p + k) (sym st.long)

  pub among : IsIn e (nest_of program).entries
  among = st.among

  pub alive : IsTrue e.alive
  alive = st.alive

  -- the element that is loaded
  pub loads_it : slice_get (loads_of program p b) k ≡ Some (element_at (p ++ b.iterators) a)
  loads_it =
      let here : Instance = record { statement = e.part; iterators = b.iterators } in
      subst (λ i. slice_get (loads_of program p i) k ≡ Some (element_at (p ++ b.iterators) a)) (sym is)
      (load_there (element_at (p ++ b.iterators)) e.accesses (loads_of program p here) (store_of program p here) k a (events_are program has p l e b.iterators st) a_at less)

  -- what the tree is said to name is what the load of the instance finds
  pub as_source : (source : Option Instance) (x : Element) → slice_get (loads_of program p b) k ≡ Some x → IsSourceOf program p b.iterators e a source → IsSource program p b x source
  as_source source x load r =
      let here : Instance = record { statement = e.part; iterators = b.iterators } in
      let element : element_at (p ++ b.iterators) a ≡ x =
      same_Some (element_at (p ++ b.iterators) a) x
      (sym (to_mapped (element_at (p ++ b.iterators)) e.accesses k a a_at) ∙ ap (λ es. slice_get es k) (events_are program has p l e b.iterators st)
      ∙ slice_left (loads_of program p here) (store_of program p here ∷ []) k x (subst (λ i. slice_get (loads_of program p i) k ≡ Some x) is load)) in
      subst (λ i. IsSource program p i x source) (sym is) (subst (λ x. IsSource program p here x source) element r.is)

  asked : (tree : Tree) → tree_of (nest_of program) trees s k ≡ Some tree → (q : Question) → IsIn q (questions_of_load (nest_of program) e a (Some tree)) → IsIn q (flow_questions (nest_of program) trees)
  asked tree there q i =
      let all : IsIn q (questions_of_loads (nest_of program) trees e 0 e.accesses) =
      among_loads (nest_of program) trees e q e.accesses 0 k a a_at enough
      (subst (λ n. IsIn q (questions_of_load (nest_of program) e a (tree_of (nest_of program) trees e.part n))) (sym (first k))
      (subst (λ o. IsIn q (questions_of_load (nest_of program) e a o)) (sym (ap (λ n. tree_of (nest_of program) trees n k) own ∙ there)) i)) in
      to_flat_map (λ e. if e.alive then questions_of_loads (nest_of program) trees e 0 e.accesses else []) (nest_of program).entries e q st.among
      (subst (λ t. IsIn q (if t then questions_of_loads (nest_of program) trees e 0 e.accesses else [])) (sym st.alive) all)
    where
      first : (n : ℕ) → 0 + n ≡ n
      first n = omega arith

  -- which points ranges hold is left open
  pub names : (Holds : List (ℤ × ℤ) → List ℤ → Type 0) → ((rs ss : List (ℤ × ℤ)) (xs ys : List ℤ) → Holds rs xs → InBox ss ys → Holds (rs ++ ss) (xs ++ ys))
      → (tree : Tree) → tree_of (nest_of program) trees s k ≡ Some tree → Shaped (length (nest_of program).params + length e.loops) tree
      → HoldsLeaves Holds ((nest_of program).params ++ e.ranges) tree (p ++ b.iterators)
      → ((q : Question) → IsIn q (flow_questions (nest_of program) trees) → (point : List ℤ) → Holds q.ranges point → IsPoint q.system point → ⊥)
      → IsSourceOf program p b.iterators e a (named_at tree (p ++ b.iterators))
  names Holds join tree there shaped held none =
      tree_names Holds join program p b.iterators e a ranges tree loaded (subst (λ n. Shaped n tree) width shaped) held (λ q i. none q (asked tree there q i))

-- the access of a load
pub load_access : (e : Entry) (k : ℕ) → k < loads_in e → (a : Access) × (slice_get e.accesses k ≡ Some a)
load_access e k less = there_is e.accesses k (fewer (length e.accesses) less)
  where
    fewer : (n : ℕ) → k < n - 1 → k < n
    fewer n h = omega (arith, h)

-- ---- The laws

pub flow_names_sources : FlowNamesSources
flow_names_sources program p trees has named inside shapes near none s k e at less =
    let t = shapes s k e at less in
    let a = load_access e k less in (
      t.0,
      t.1,
      λ b x number runs load.
          as_source program p trees has named inside s k e at less a.0 a.1 b number runs (named_at t.0 (p ++ b.iterators)) x load
          (names program p trees has named inside s k e at less a.0 a.1 b number runs InBox box_append t.0 t.1 t.2
          (λ l shaped i wide met. leaf_is_boxed t.0 (p ++ b.iterators) (quotients_at t.0 (p ++ b.iterators)) ((nest_of program).params ++ e.ranges) l shaped i
          (its_box program p trees has named inside s k e at less a.0 a.1 b number runs) (near s k e t.0 at less t.1 b number runs) wide met) none),
    )

-- with no ranges to hold
module _ (program : Program) (p : List ℤ) (trees : List Tree) (has : HasNest program) (named : NamesArrays program) (inside : IsInContext program p)
    (none : (q : Question) → IsIn q (flow_questions (nest_of program) trees) → HasNoPoint q.system)
    (s k : ℕ) (e : Entry) (at : slice_get (nest_of program).entries s ≡ Some e) (less : k < loads_in e) (tree : Tree) (there : tree_of (nest_of program) trees s k ≡ Some tree)
    (shaped : Shaped (length (nest_of program).params + length e.loops) tree) (b : Instance) (number : b.statement ≡ s) (runs : IsIn b (trace program p)) where
  anywhere : (a : Access) → slice_get e.accesses k ≡ Some a → IsSourceOf program p b.iterators e a (named_at tree (p ++ b.iterators))
  anywhere a a_at =
      names program p trees has named inside s k e at less a a_at b number runs (λ rs xs. Unit {0}) (λ rs ss xs ys h g. tt) tree there shaped (λ l shaped i wide met. tt) (λ q i point h is. none q i point is)

pub flow_names_all : FlowNamesAll
flow_names_all program p trees has named inside shapes none = (
  λ s k e at less.
      let t = shapes s k e at less in
      let a = load_access e k less in (
        t.0,
        t.1,
        λ b x number runs load.
            as_source program p trees has named inside s k e at less a.0 a.1 b number runs (named_at t.0 (p ++ b.iterators)) x load
            (anywhere program p trees has named inside none s k e at less t.0 t.1 t.2 b number runs a.0 a.1),
      ),
  λ s k e x tree b at less of temporary there number runs.
      let t = shapes s k e at less in
      let same : t.0 ≡ tree = same_Some t.0 tree (sym t.1 ∙ there) in
      (anywhere program p trees has named inside none s k e at less tree there (subst (Shaped (length (nest_of program).params + length e.loops)) same t.2) b number runs x of).written temporary,
)
