-- The leaf of one point.
use Rattle.std.proofs.Common.{◌≡◌, ℕ, zero, suc, ◌+◌, ◌^◌, ◌≤◌, ℤ, pos, false, true≢false, IsTrue, List, [], ◌∷◌, ◌++◌, length, map, replicate, Option, Some, None, refl, sym, ap, subst, ◌∙◌, arith}
use Rattle.std.specs.Prelude.{unsigned_abs}
use Rattle.std.specs.List.{All}
use Rattle.std.proofs.lemmas.List.Elements.{All-nil, All-cons, All-head, All-tail}
use Rattle.affc_rows.specs.Forms.{value, values_of, HaveColumns}
use Rattle.affc_system.specs.Boxes.{pin}
use Rattle.affc_system.specs.Systems.{IsPoint}
use Rattle.affc_ast.specs.declared.tree.Instance.{Instance}
use Rattle.affc_ast.specs.declared.tree.Program.{Program}
use Rattle.affc_ast.specs.Trace.{loads_of, store_of}
use Rattle.affc_trace.specs.Law.{IsIn}
use Rattle.affc_domain.specs.Ranges.{number_ranges}
use Rattle.affc_domain.proofs.FormLemmas.{number_value, number_width}
use Rattle.affc_domain.proofs.ColumnLemmas.{no_columns, more_columns, cons_is}
use Rattle.affc_nest.specs.Domains.{number_form}
use Rattle.affc_nest.specs.declared.nest.Access.{Access}
use Rattle.affc_nest.specs.declared.nest.Entry.{Entry}
use Rattle.affc_nest.specs.declared.nest.Nest.{Nest}
use Rattle.affc_nest.specs.Laws.{element_at}
use Rattle.affc_nest.specs.Nests.{nest_of}
use Rattle.affc_nest.proofs.EntryLemmas.{entries_stand, points_are_instances}
use Rattle.affc_sched.proofs.LegalLemmas.{Stood, entry_at, events_are}
use Rattle.affc_quast.specs.Limits.{narrow, FitsForm, IsTreeWithin}
use Rattle.affc_quast.specs.Paths.{IsNear}
use Rattle.affc_quast.specs.Trees.{Tree, Source, Input}
use Rattle.affc_flow.specs.Laws.{Loads, IsSourceOf}
use Rattle.affc_flow.specs.Questions.{is_temporary}
use Rattle.affc_dataflow.specs.Searches.{IsRightAt, Covers, IsSlight, IsLoad}
use Rattle.affc_latest.specs.Stores.{IsReadFrom, IsWriterAt}
use Rattle.affc_dataflow.specs.Unwritten.{LoadsUnwritten, IsUnwritten}
use Rattle.affc_latest.proofs.LastLemmas.{pinned_is}
use Rattle.affc_flow.proofs.LoadLemmas.{load_there}
use Rattle.affc_flow.proofs.PathLemmas.{parameters_are, reader_stands}

-- ---- Forms of numbers

numbers_value : (columns : ℕ) (ns xs : List ℤ) → values_of (map (number_form columns) ns) xs ≡ ns
numbers_value columns [] xs = refl
numbers_value columns (n ∷ ns) xs = cons_is (value (number_form columns n) xs) n (values_of (map (number_form columns) ns) xs) ns (number_value columns n xs) (numbers_value columns ns xs)

numbers_wide : (columns : ℕ) (ns : List ℤ) → HaveColumns columns (map (number_form columns) ns)
numbers_wide columns [] = no_columns columns
numbers_wide columns (n ∷ ns) = more_columns columns (number_form columns n) (map (number_form columns) ns) (number_width columns n) (numbers_wide columns ns)

zeros_fit : (n : ℕ) → All (λ c. unsigned_abs c ≤ 2 ^ 20) (replicate n (pos 0))
zeros_fit zero = All-nil (λ c. unsigned_abs c ≤ 2 ^ 20)
zeros_fit (suc n) = All-cons (λ c. unsigned_abs c ≤ 2 ^ 20) (pos 0) (replicate n (pos 0)) (omega arith) (zeros_fit n)

numbers_fit : (columns : ℕ) (ns : List ℤ) → All (λ x. unsigned_abs x ≤ 2 ^ 40) ns → All (FitsForm narrow) (map (number_form columns) ns)
numbers_fit columns [] h = All-nil (FitsForm narrow)
numbers_fit columns (n ∷ ns) h =
    All-cons (FitsForm narrow) (number_form columns n) (map (number_form columns) ns) (record { coefs_fit = zeros_fit columns; constant_fits = All-head IsSlight n ns h }) (numbers_fit columns ns (All-tail IsSlight n ns h))

numbers_long : (columns : ℕ) (ns : List ℤ) → length (map (number_form columns) ns) ≡ length ns
numbers_long columns [] = refl
numbers_long columns (n ∷ ns) = ap suc (numbers_long columns ns)

-- ---- At the point

module _ (nest : Nest) (e : Entry) (x : Access) (number : ℕ) (h : IsLoad nest e x number) where
  -- the loads at the point are those at its parameters and iterators
  same_front : (p its qs js : List ℤ) → length p ≡ length qs → qs ++ js ≡ p ++ its → (p ≡ qs) × (its ≡ js)
  same_front [] its [] js l q = (refl, sym q)
  same_front [] its (y ∷ qs) js l q = absurd (omega (arith, l))
  same_front (z ∷ p) its [] js l q = absurd (omega (arith, l))
  same_front (z ∷ p) its (y ∷ qs) js l q =
      let r = same_front p its qs js (omega (arith, l)) (tails y z (qs ++ js) (p ++ its) q) in
      (cons_is z y p qs (heads z y (p ++ its) (qs ++ js) (sym q)) r.0, r.1)
    where
      heads : (x y : ℤ) (xs ys : List ℤ) → x ∷ xs ≡ y ∷ ys → x ≡ y
      heads x y xs ys e = cc

      tails : (x y : ℤ) (xs ys : List ℤ) → x ∷ xs ≡ y ∷ ys → xs ≡ ys
      tails x y xs ys e = cc

  -- a leaf without tests, right where it is asked at these numbers
  covers_point : (p its : List ℤ) (tree : Tree) → length p ≡ length nest.params
      → ((program : Program) → nest ≡ nest_of program → Loads program p its e x → IsRightAt program p its e x tree) → IsTreeWithin narrow 0 12 nest x.array.0 (length nest.params + length e.loops) tree
      → Covers nest e x (map pin (p ++ its)) 0 tree
  covers_point p its tree l right within = record {
    right = λ program qs js is loads inside.
        let q : qs ++ js ≡ p ++ its = pinned_is (p ++ its) (qs ++ js) inside in
        let k : length p ≡ length qs = l ∙ ap (λ (n : Nest). length n.params) is ∙ sym (parameters_are program qs js e x loads) in
        let r = same_front p its qs js k q in
        subst (λ zs. IsRightAt program zs js e x tree) r.0
        (subst (λ zs. IsRightAt program p zs e x tree) r.1
        (right program is (subst (λ zs. Loads program p zs e x) (sym r.1) (subst (λ zs. Loads program zs js e x) (sym r.0) loads))));
    within = within;
  }

  -- no instance stands there
  pub nothing_covers : (point : List ℤ) (tree : Tree) → tree ≡ Input → (IsPoint e.domain point → ⊥) → Covers nest e x (map pin point) 0 tree
  nothing_covers point tree t none = subst (Covers nest e x (map pin point) 0) (sym t) (record {
    right = λ program qs js is loads inside.
        let s = reader_stands program qs js e x loads in
        let m = (points_are_instances program qs (record { statement = e.part; iterators = js }) e loads.has s.at s.alive (parameters_are program qs js e x loads)).1 (loads.context, loads.runs) in
        absurd (none (subst (IsPoint e.domain) (pinned_is point (qs ++ js) inside) m));
    within = record { shaped = tt; stores = tt; fits = tt; short = omega arith; few = omega arith };
  })

  module _ (p its : List ℤ) (l : length p ≡ length nest.params) where
    -- the instance is named
    pub named_covers : (columns : ℕ) (w : Instance) (tree : Tree) → columns ≡ length nest.params + length e.loops → tree ≡ Source w.statement (map (number_form columns) w.iterators)
        → IsReadFrom nest e x p its (Some w) → IsWriterAt nest x.array.0 w → Covers nest e x (map pin (p ++ its)) 0 tree
    named_covers columns w tree c t from writer = subst (Covers nest e x (map pin (p ++ its)) 0) (sym t)
        (covers_point p its (Source w.statement (map (number_form columns) w.iterators)) l
        (λ program is loads.
        let same : (◌≡◌ {A = Option Instance} (Some (record { statement = w.statement; iterators = values_of (map (number_form columns) w.iterators) (p ++ its) })) (Some w)) =
        λ i. Some (record { statement = w.statement; iterators = numbers_value columns w.iterators (p ++ its) i }) in
        record {
          source = subst (IsSourceOf program p its e x) (sym same) (record { is = from program is loads; written = λ t. (w, refl) });
          near = All-nil IsNear;
        })
        (record {
          shaped = subst (λ k. HaveColumns k (map (number_form columns) w.iterators)) c (numbers_wide columns w.iterators);
          stores = record {
            entry = writer.entry;
            there = writer.there;
            alive = writer.alive;
            store = writer.store;
            is_store = writer.is_store;
            of_array = writer.of_array;
            each = numbers_long columns w.iterators ∙ writer.long;
          };
          fits = numbers_fit columns w.iterators writer.near;
          short = omega arith;
          few = omega arith;
        }))

    -- nothing stores it before, and it is no temporary's
    pub input_covers : (tree : Tree) → tree ≡ Input → IsReadFrom nest e x p its None → is_temporary nest x.array.0 ≡ false → Covers nest e x (map pin (p ++ its)) 0 tree
    input_covers tree t from other = subst (Covers nest e x (map pin (p ++ its)) 0) (sym t)
        (covers_point p its Input l
        (λ program is loads. record {
          source = record {
            is = from program is loads;
            written = λ t. absurd (true≢false (sym t ∙ (ap (λ n. is_temporary n x.array.0) (sym is) ∙ other)));
          };
          near = All-nil IsNear;
        })
        (record { shaped = tt; stores = tt; fits = tt; short = omega arith; few = omega arith }))

    -- nothing stores it before, though it is a temporary's
    pub is_unwritten : length its ≡ length e.loops → IsPoint e.domain (p ++ its) → IsReadFrom nest e x p its None → IsTrue (is_temporary nest x.array.0)
        → IsUnwritten nest x.array.0 number p (record { statement = e.statement; iterators = its })
    is_unwritten k m from temp = λ program is has named.
        let b : Instance = record { statement = e.part; iterators = its } in
        let i : IsIn e (nest_of program).entries = subst (λ (n : Nest). IsIn e n.entries) is h.touched.there in
        let at = entry_at program has e i in
        let l' : length p ≡ length (number_ranges program.params) = l ∙ ap (λ (n : Nest). length n.params) is in
        let r = (points_are_instances program p b e has at h.touched.alive l').0 m in
        let s : Stood program p e its = record { among = i; at = at; alive = h.touched.alive; long = k } in
        let ev = events_are program has p l' e its s in
        let loads : Loads program p its e x = record { has = has; named = named; context = r.0; entry = at; made = h.touched.among; runs = r.1 } in
        let own : e.statement ≡ e.part = ((entries_stand program has).1 e.part e at).statement in
        subst (λ j. LoadsUnwritten program x.array.0 number p (record { statement = j; iterators = its })) (sym own)
        record {
          context = r.0;
          runs = r.1;
          element = element_at (p ++ its) x;
          of_array = refl;
          loaded = load_there (element_at (p ++ its)) e.accesses (loads_of program p b) (store_of program p b) number x ev h.there h.load;
          temporary = subst (λ n. IsTrue (is_temporary n x.array.0)) is temp;
          none = from program is loads;
        }
