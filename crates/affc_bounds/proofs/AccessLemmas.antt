-- What the questions on accesses find is where an access lies outside its array.
use Rattle.std.proofs.Common.{◌≡◌, ◌⊎◌, ℕ, zero, suc, ◌+◌, ◌<◌, ℤ, pos, negsuc, ◌≤ℤ◌, ◌<ℤ◌, Bool, true, false, IsTrue, List, [], ◌∷◌, ◌++◌, length, get_or, take, drop, map, Option, Some, refl, sym, ap, subst, ◌∙◌, inl, inr, arith}
use Rattle.std.specs.Prelude.{◌&&◌, int_le, int_lt, slice_get}
use Rattle.std.proofs.lemmas.Int.{ints}
use Rattle.std.proofs.lemmas.Option.{none-some, same_Some, slice_get_within}
use Rattle.affc_rows.specs.Forms.{Affine, value, values_of}
use Rattle.std.proofs.lemmas.List.{take-append-drop}
use Rattle.affc_system.specs.Order.{LexLe}
use Rattle.affc_system.specs.Systems.{Rows, IsPoint}
use Rattle.affc_ast.specs.declared.tree.ArrayId.{ArrayId}
use Rattle.affc_ast.specs.declared.tree.Instance.{Instance}
use Rattle.affc_ast.specs.declared.tree.Program.{Program}
use Rattle.affc_ast.specs.Store.{Element}
use Rattle.affc_ast.specs.Trace.{assignments, trace, events}
use Rattle.affc_ast.specs.Values.{is_within}
use Rattle.affc_trace.specs.Law.{IsIn}
use Rattle.affc_trace.specs.Laws.{IsInContext}
use Rattle.affc_domain.specs.Ranges.{number_ranges}
use Rattle.affc_domain.proofs.Lists.{true_both, le_true, lt_true, from_map, to_mapped, stands_in, there_is}
use Rattle.affc_domain.proofs.PlainLemmas.{has_assignment}
use Rattle.affc_domain.proofs.RangeLemmas.{box_length, in_ranges, box_append}
use Rattle.affc_domain.proofs.TurnLemmas.{instances_turn}
use Rattle.affc_domain.specs.Arrays.{declared_arrays, extents_at}
use Rattle.affc_safe.specs.Safe.{LiesWithin}
use Rattle.affc_nest.specs.declared.nest.Access.{Access}
use Rattle.affc_nest.specs.declared.nest.Entry.{Entry}
use Rattle.affc_nest.specs.declared.nest.Nest.{Nest}
use Rattle.affc_nest.specs.Laws.{HasNest, IsEntry, element_at, NamesArrays, LiesOutside}
use Rattle.affc_nest.specs.Nests.{nest_of}
use Rattle.affc_nest.specs.Questions.{extents_of_access, low_question, high_question}
use Rattle.affc_nest.proofs.AccessLemmas.{accesses_are_events}
use Rattle.affc_nest.proofs.EntryLemmas.{site_of, entries_stand, points_are_instances, none_where_not_alive, ranges_hold_iterators}
use Rattle.affc_nest.proofs.QuestionLemmas.{AllWide, arrays_wide, subs_wide, extents_there, says_low, says_high, or_less, as_many, dimension_within, access_point}
use Rattle.affc_leaf.specs.Points.{IsLeastPoint}
use Rattle.affc_bounds.specs.Found.{IsFirst, IsNearer}
use Rattle.affc_bounds.specs.Looks.{IsLeastIn, IsOutsideAt, box_of, InDimension, InDimensions, InAccesses, InEntry, InEntries}
use Rattle.affc_bounds.specs.Spots.{IsOutside, spot_of}
use Rattle.affc_bounds.specs.declared.fault.MeaningFault.TheVariants.{Bounds}
use Rattle.affc_bounds.specs.declared.found.Found.{Found}
use Rattle.affc_bounds.proofs.OrderLemmas.{lex_spots, first_of_both, moved, none_more, none_before}

-- ---- What is found lies outside

-- the spot of a fault among accesses
pub record SaysOutside (program : Program) (found : Found) : Type 0 where
  pub array : ArrayId
  pub access : ℕ
  pub p : List ℤ
  pub here : Instance
  pub key : found.key ≡ spot_of p here access
  pub fault : found.fault ≡ Bounds array access p here
  pub outside : IsOutside program p here access
  pub of_array : array.0 ≡ outside.element.0

-- the access and the dimension of what is found in an entry
record FoundIn (nest : Nest) (e : Entry) (found : Found) : Type 0 where
  number : ℕ
  access : Access
  at : slice_get e.accesses number ≡ Some access
  dimension : ℕ
  sub : Affine
  sub_at : slice_get access.subs dimension ≡ Some sub
  extent : Affine
  extent_at : slice_get (extents_of_access nest access) dimension ≡ Some extent
  point : InDimension nest e number access.array sub extent found

module _ (nest : Nest) (e : Entry) (found : Found) where
  in_dimensions : (number : ℕ) (array : ArrayId) (subs extents : List Affine) → InDimensions nest e number array subs extents found
      → (j : ℕ) × (s : Affine) × (x : Affine) × (slice_get subs j ≡ Some s) × (slice_get extents j ≡ Some x) × InDimension nest e number array s x found
  in_dimensions number array [] extents i = absurd i
  in_dimensions number array (s ∷ ss) [] i = absurd i
  in_dimensions number array (s ∷ ss) (x ∷ xs) (inl i) = (0, s, x, refl, refl, i)
  in_dimensions number array (s ∷ ss) (x ∷ xs) (inr i) = let r = in_dimensions number array ss xs i in (suc r.0, r.1, r.2, r.3, r.4, r.5)

  in_accesses : (first : ℕ) (xs : List Access) → InAccesses nest e first xs found
      → (j : ℕ) × (x : Access) × (slice_get xs j ≡ Some x) × InDimensions nest e (first + j) x.array x.subs (extents_of_access nest x) found
  in_accesses first [] i = absurd i
  in_accesses first (x ∷ xs) (inl i) = (0, x, refl, subst (λ k. InDimensions nest e k x.array x.subs (extents_of_access nest x) found) (none_more first) i)
  in_accesses first (x ∷ xs) (inr i) =
      let r = in_accesses (first + 1) xs i in
      (suc r.0, r.1, r.2, subst (λ k. InDimensions nest e k r.1.array r.1.subs (extents_of_access nest r.1) found) (moved first r.0) r.3)

  found_in : InAccesses nest e 0 e.accesses found → FoundIn nest e found
  found_in i =
      let r = in_accesses 0 e.accesses i in
      let q : InDimensions nest e r.0 r.1.array r.1.subs (extents_of_access nest r.1) found = subst (λ k. InDimensions nest e k r.1.array r.1.subs (extents_of_access nest r.1) found) (none_before r.0) r.3 in
      let d = in_dimensions r.0 r.1.array r.1.subs (extents_of_access nest r.1) q in
      record { number = r.0; access = r.1; at = r.2; dimension = d.0; sub = d.1; sub_at = d.3; extent = d.2; extent_at = d.4; point = d.5 }

in_entries : (nest : Nest) (found : Found) (es : List Entry) → InEntries nest es found → (k : ℕ) × (e : Entry) × (slice_get es k ≡ Some e) × InEntry nest e found
in_entries nest found [] i = absurd i
in_entries nest found (e ∷ es) (inl i) = (0, e, refl, i)
in_entries nest found (e ∷ es) (inr i) = let r = in_entries nest found es i in (suc r.0, r.1, r.2, r.3)

-- an element with a subscript outside doesn't lie within
not_within : (program : Program) (p : List ℤ) (here : Instance) (access dimension : ℕ) (o : LiesOutside program p here access dimension) → LiesWithin program p o.element → ⊥
not_within program p here access dimension o t =
    let w = dimension_within o.element.1 (get_or (extents_at (declared_arrays program) p) o.element.0 []) dimension o.subscript o.extent t o.is_subscript o.is_extent in
    elim o.outside [ inl low ↦ below o.subscript w.0 low | inr high ↦ above o.subscript o.extent w.1 high ]
  where
    below : (x : ℤ) → pos 0 ≤ℤ x → x ≤ℤ negsuc 0 → ⊥
    below x h g = omega (arith, ints)

    above : (x n : ℤ) → x <ℤ n → n ≤ℤ x → ⊥
    above x n h g = omega (arith, ints)

module _ (program : Program) (has : HasNest program) (found : Found) where
  -- of either question
  at_point : (e : Entry) → IsEntry program e.statement e → IsTrue e.alive → (f : FoundIn (nest_of program) e found) (question : Rows) → question.columns ≡ e.domain.columns
      → ((p its : List ℤ) → IsPoint question (p ++ its) → IsPoint (low_question e.domain f.sub) (p ++ its) ⊎ IsPoint (high_question e.domain (length e.loops) f.sub f.extent) (p ++ its))
      → IsOutsideAt (length (nest_of program).params) e.statement f.number f.access.array (box_of (nest_of program) e) question found → SaysOutside program found
  at_point e h alive f question columns sides o =
      let here : Instance = record { statement = e.statement; iterators = o.iterators } in
      let names : List ℤ = o.p ++ o.iterators in
      let out = access_point program o.p here e f.number f.dimension f.access f.sub f.extent has h alive f.at f.sub_at f.extent_at o.width (sides o.p o.iterators o.meets) in
      let touched : slice_get (map (element_at names) e.accesses) f.number ≡ Some (element_at names f.access) = to_mapped (element_at names) e.accesses f.number f.access f.at in
      let are : map (element_at names) e.accesses ≡ events program o.p here = accesses_are_events program o.p here e has h (o.meets.width ∙ columns) in
      let same : element_at names f.access ≡ out.element = same_Some (element_at names f.access) out.element (sym touched ∙ ap (λ (ys : List Element). slice_get ys f.number) are ∙ out.touched) in
      record {
        array = f.access.array;
        access = f.number;
        p = o.p;
        here = here;
        key = o.key;
        fault = o.fault;
        outside = record { context = out.context; runs = out.runs; element = out.element; touched = out.touched; outside = not_within program o.p here f.number f.dimension out };
        of_array = ap (λ (y : Element). y.0) same;
      }

  pub found_is_outside : InEntries (nest_of program) (nest_of program).entries found → SaysOutside program found
  found_is_outside i =
      let r = in_entries (nest_of program) found (nest_of program).entries i in
      let e : Entry = r.1 in
      let number : e.statement ≡ r.0 = ((entries_stand program has).1 r.0 e r.2).statement in
      let h : IsEntry program e.statement e = subst (λ k. IsEntry program k e) (sym number) r.2 in
      let f = found_in (nest_of program) e found r.3.1 in
      elim f.point [
        | inl low ↦ at_point e h r.3.0 f (low_question e.domain f.sub) refl (λ p its is. inl is) low
        | inr high ↦ at_point e h r.3.0 f (high_question e.domain (length e.loops) f.sub f.extent) refl (λ p its is. inr is) high
      ]

-- ---- What lies outside is found

-- the spot of an access, as it is found
abbrev pub found_at : (array : ℕ) (access : ℕ) (p : List ℤ) → Instance → Found
found_at array access p here = record { key = spot_of p here access; fault = Bounds (record { 0 = array }) access p here }

module _ (program : Program) (has : HasNest program) (p : List ℤ) (here : Instance) (e : Entry) (h : IsEntry program here.statement e) (alive : IsTrue e.alive)
    (inside : IsInContext program p) (runs : IsIn here (trace program p)) (number : ℕ) (array : ArrayId) where
  abbrev names : List ℤ
  names = p ++ here.iterators

  abbrev m : ℕ
  m = length (number_ranges program.params)

  abbrev here_found : Found
  here_found = found_at array.0 number p here

  long : length p ≡ m
  long = sym (box_length (number_ranges program.params) p (in_ranges program.params p inside.ranges))

  its_number : e.statement ≡ here.statement
  its_number = ((entries_stand program has).1 here.statement e h).statement

  -- a point of a question is found
  point_found : (question : Rows) → IsPoint question names → IsOutsideAt m e.statement number array (box_of (nest_of program) e) question here_found
  point_found question meets = record {
    p = p;
    iterators = here.iterators;
    width = long;
    inside = box_append (number_ranges program.params) e.ranges p here.iterators (in_ranges program.params p inside.ranges)
        ((ranges_hold_iterators program here.statement e has h alive).hold p here refl inside runs);
    meets = meets;
    key = ap (λ s. spot_of p (record { statement = s; iterators = here.iterators }) number) (sym its_number);
    fault = ap (λ s. Bounds array number p (record { statement = s; iterators = here.iterators })) (sym its_number);
  }

  domain_point : IsPoint e.domain names
  domain_point = (points_are_instances program p here e has h alive long).1 (inside, runs)

  at_least : (z : ℤ) → negsuc 0 <ℤ z → pos 0 ≤ℤ z
  at_least z k = omega (arith, ints)

  -- an access that isn't within is found in some dimension
  dimensions_found : (subs extents : List Affine) → length subs ≡ length extents → AllWide e.domain.columns subs → AllWide m extents
      → (is_within (values_of subs names) (values_of extents p) ≡ true → ⊥) → InDimensions (nest_of program) e number array subs extents here_found
  dimensions_found [] [] l u v out = absurd (out refl)
  dimensions_found [] (x ∷ extents) l u v out = absurd (omega arith)
  dimensions_found (s ∷ subs) [] l u v out = absurd (omega arith)
  dimensions_found (s ∷ subs) (x ∷ extents) l u v out =
      elim (or_less (negsuc 0) (value s names)) [
        | inl low ↦ inl (inl (point_found (low_question e.domain s) (says_low program has p here e h alive s x u.0 v.0 long domain_point low)))
        | inr least ↦ elim (or_less (value s names) (value x p)) [
          | inl high ↦ inl (inr (point_found (high_question e.domain (length e.loops) s x) (says_high program has p here e h alive s x u.0 v.0 long domain_point high)))
          | inr less ↦ inr (dimensions_found subs extents (omega (arith, l)) u.1 v.1 (λ w. out (true_both (int_le (pos 0) (value s names) && int_lt (value s names) (value x p)) (is_within (values_of subs names) (values_of extents p))
              (true_both (int_le (pos 0) (value s names)) (int_lt (value s names) (value x p)) (le_true (pos 0) (value s names) (at_least (value s names) least)) (lt_true (value s names) (value x p) less)) w)))
        ]
      ]

to_accesses : (nest : Nest) (e : Entry) (found : Found) (first : ℕ) (xs : List Access) (j : ℕ) (x : Access) → slice_get xs j ≡ Some x
    → InDimensions nest e (first + j) x.array x.subs (extents_of_access nest x) found → InAccesses nest e first xs found
to_accesses nest e found first [] j x h i = absurd (none-some x h)
to_accesses nest e found first (y ∷ xs) zero x h i =
    let same : x ≡ y = sym (same_Some y x h) in
    inl (subst (λ (z : Access). InDimensions nest e first z.array z.subs (extents_of_access nest z) found) same (subst (λ k. InDimensions nest e k x.array x.subs (extents_of_access nest x) found) (sym (none_more first)) i))
to_accesses nest e found first (y ∷ xs) (suc j) x h i =
    inr (to_accesses nest e found (first + 1) xs j x h (subst (λ k. InDimensions nest e k x.array x.subs (extents_of_access nest x) found) (sym (moved first j)) i))

to_entries : (nest : Nest) (found : Found) (es : List Entry) (k : ℕ) (e : Entry) → slice_get es k ≡ Some e → InEntry nest e found → InEntries nest es found
to_entries nest found [] k e h i = absurd (none-some e h)
to_entries nest found (x ∷ es) zero e h i = inl (subst (λ y. InEntry nest y found) (sym (same_Some x e h)) i)
to_entries nest found (x ∷ es) (suc k) e h i = inr (to_entries nest found es k e h i)

pub outside_is_found : (program : Program) → HasNest program → NamesArrays program → (p : List ℤ) (here : Instance) (access : ℕ) (o : IsOutside program p here access)
    → InEntries (nest_of program) (nest_of program).entries (found_at o.element.0 access p here)
outside_is_found program has named p here access o =
    let t = (instances_turn program p here).0 o.runs in
    let a = has_assignment program here.statement t.0 t.1 in
    let there = there_is (nest_of program).entries here.statement (fewer (entries_stand program has).0 (slice_get_within (assignments program) here.statement a.0 a.1)) in
    by_entry there.0 there.1 there.0.alive refl
  where
    fewer : {x y k : ℕ} → x ≡ y → k < y → k < x
    fewer e h = omega (arith, e, h)

    l : length p ≡ length (number_ranges program.params)
    l = sym (box_length (number_ranges program.params) p (in_ranges program.params p o.context.ranges))

    by_entry : (e : Entry) → IsEntry program here.statement e → (t : Bool) → e.alive ≡ t → InEntries (nest_of program) (nest_of program).entries (found_at o.element.0 access p here)
    by_entry e h false dead = absurd ((none_where_not_alive program e here has h dead).1 p o.context o.runs)
    by_entry e h true alive =
        let n : Nest = nest_of program in
        let names : List ℤ = p ++ here.iterators in
        let is = (points_are_instances program p here e has h alive l).1 (o.context, o.runs) in
        let are = accesses_are_events program p here e has h is.width in
        let r = from_map (element_at names) e.accesses access o.element (ap (λ (ys : List Element). slice_get ys access) are ∙ o.touched) in
        let x : Access = r.0 in
        let same : o.element ≡ element_at names x = r.2 in
        let exts : List Affine = extents_of_access n x in
        let s = site_of program here.statement e h in
        let out : is_within (values_of x.subs names) (values_of exts p) ≡ true → ⊥ = λ w.
        o.outside (subst (λ (y : Element). LiesWithin program p y) (sym same) (ap (is_within (values_of x.subs names)) (extents_there program p x.array.0 has.plain l) ∙ w)) in
        let d = dimensions_found program has p here e h alive o.context o.runs access x.array x.subs exts (as_many program here.statement e named h x (stands_in e.accesses access x r.1))
        (subs_wide program here.statement e s access x r.1) (arrays_wide (length (number_ranges program.params)) (declared_arrays program) x.array.0) out in
        let found : Found = found_at x.array.0 access p here in
        let d' : InDimensions n e (0 + access) x.array x.subs exts found = subst (λ k. InDimensions n e k x.array x.subs exts found) (sym (none_before access)) d in
        let i = to_entries n found n.entries here.statement e h (alive, to_accesses n e found 0 e.accesses access x r.1 d') in
        subst (λ k. InEntries n n.entries (found_at k access p here)) (sym (ap (λ (y : Element). y.0) same)) i

-- ---- The first of what is found

-- the least point of a question, cut into p and the iterators
pub asked_first : (nest : Nest) (e : Entry) (access n : ℕ) (array : ArrayId) (question : Rows) (ranges : List (ℤ × ℤ)) (point p its : List ℤ) (found : Found)
    → ranges ≡ box_of nest e → n ≡ length nest.params → IsLeastIn question ranges (Some point) → p ≡ take n point → its ≡ drop n point → length p ≡ n
    → found.key ≡ spot_of p (record { statement = e.statement; iterators = its }) access → found.fault ≡ Bounds array access p (record { statement = e.statement; iterators = its })
    → IsFirst (IsOutsideAt (length nest.params) e.statement access array (box_of nest e) question) (Some found)
asked_first nest e access n array question ranges point p its found box params least front back width key fault =
    let joined : point ≡ p ++ its = sym (ap (λ xs. xs ++ its) front ∙ ap (λ ys. take n point ++ ys) back ∙ take-append-drop n point) in
    let l : IsLeastPoint question (box_of nest e) (p ++ its) = subst (λ rs. IsLeastPoint question rs (p ++ its)) box (subst (IsLeastPoint question ranges) joined least) in
    let here : Instance = record { statement = e.statement; iterators = its } in (
      record { p = p; iterators = its; width = width ∙ params; inside = l.inside; meets = l.meets; key = key; fault = fault },
      λ g o.
          let low : LexLe (spot_of p here access) (spot_of o.p (record { statement = e.statement; iterators = o.iterators }) access) =
          lex_spots p o.p its o.iterators (pos e.statement) (pos access) (width ∙ params ∙ sym o.width) (l.meets.width ∙ sym o.meets.width) (l.least (o.p ++ o.iterators) o.inside o.meets) in
          subst (λ k. LexLe k g.key) (sym key) (subst (λ k. LexLe (spot_of p here access) k) (sym o.key) low),
    )

pub sides_first : (nest : Nest) (e : Entry) (access : ℕ) (array : ArrayId) (sub extent : Affine) (low high : Rows) (below past first : Option Found)
    → low ≡ low_question e.domain sub → high ≡ high_question e.domain (length e.loops) sub extent
    → IsFirst (IsOutsideAt (length nest.params) e.statement access array (box_of nest e) low) below → IsFirst (IsOutsideAt (length nest.params) e.statement access array (box_of nest e) high) past
    → IsNearer below past first → IsFirst (InDimension nest e access array sub extent) first
sides_first nest e access array sub extent low high below past first f g h k n =
    let Of : Rows → Found → Type 0 = λ q. IsOutsideAt (length nest.params) e.statement access array (box_of nest e) q in
    first_of_both (Of (low_question e.domain sub)) (Of (high_question e.domain (length e.loops) sub extent)) below past first
    (subst (λ q. IsFirst (Of q) below) f h) (subst (λ q. IsFirst (Of q) past) g k) n

pub dimensions_first : (nest : Nest) (e : Entry) (access : ℕ) (array : ArrayId) (subs extents more_subs more_extents : List Affine) (s x : Affine) (here others first : Option Found)
    → subs ≡ s ∷ more_subs → extents ≡ x ∷ more_extents → IsFirst (InDimension nest e access array s x) here → IsFirst (InDimensions nest e access array more_subs more_extents) others
    → IsNearer here others first → IsFirst (InDimensions nest e access array subs extents) first
dimensions_first nest e access array subs extents more_subs more_extents s x here others first f g h k n =
    subst (λ ys. IsFirst (InDimensions nest e access array subs ys) first) (sym g)
    (subst (λ ys. IsFirst (InDimensions nest e access array ys (x ∷ more_extents)) first) (sym f)
    (first_of_both (InDimension nest e access array s x) (InDimensions nest e access array more_subs more_extents) here others first h k n))

pub accesses_first : (nest : Nest) (e : Entry) (number : ℕ) (accesses more : List Access) (x : Access) (subs extents : List Affine) (here others first : Option Found)
    → accesses ≡ x ∷ more → subs ≡ x.subs → extents ≡ extents_of_access nest x
    → IsFirst (InDimensions nest e number x.array subs extents) here → IsFirst (InAccesses nest e (number + 1) more) others
    → IsNearer here others first → IsFirst (InAccesses nest e number accesses) first
accesses_first nest e number accesses more x subs extents here others first f g m h k n =
    subst (λ ys. IsFirst (InAccesses nest e number ys) first) (sym f)
    (first_of_both (InDimensions nest e number x.array x.subs (extents_of_access nest x)) (InAccesses nest e (number + 1) more) here others first
    (subst (λ ys. IsFirst (InDimensions nest e number x.array x.subs ys) here) m (subst (λ ys. IsFirst (InDimensions nest e number x.array ys extents) here) g h)) k n)

pub entries_first : (nest : Nest) (entries more : List Entry) (e : Entry) (here others first : Option Found) → entries ≡ e ∷ more
    → IsFirst (InEntry nest e) here → IsFirst (InEntries nest more) others → IsNearer here others first → IsFirst (InEntries nest entries) first
entries_first nest entries more e here others first f h k n =
    subst (λ ys. IsFirst (InEntries nest ys) first) (sym f) (first_of_both (InEntry nest e) (InEntries nest more) here others first h k n)
