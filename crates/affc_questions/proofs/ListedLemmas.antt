-- The questions that the code lists are those of the leaf.
use Rattle.std.proofs.Common.{◌≡◌, ℕ, zero, suc, ℤ, Bool, true, false, if◌then◌else◌, IsTrue, List, [], ◌∷◌, ◌++◌, map, flat_map, Option, Some, None, refl, sym, ap, ap₂, subst, ◌∙◌, inl, inr}
use Rattle.std.specs.Prelude.{nat_eq, IfSome}
use Rattle.std.proofs.lemmas.Option.{same_Some}
use Rattle.std.proofs.lemmas.List.Concat.{flat_map-append}
use Rattle.affc_rows.specs.Forms.{Affine}
use Rattle.affc_system.specs.Systems.{Rows}
use Rattle.affc_ast.specs.declared.tree.Rel.TheVariants.{Less, Greater}
use Rattle.affc_trace.specs.Law.{IsIn}
use Rattle.affc_trace.proofs.EndedReads.{append_assoc}
use Rattle.affc_trace.proofs.LastStores.{map_append, append_nil}
use Rattle.affc_trace.proofs.Once.{in_append}
use Rattle.affc_domain.proofs.Lists.{stands_in}
use Rattle.affc_nest.specs.Domains.{compare_rows}
use Rattle.affc_nest.specs.declared.nest.Access.{Access}
use Rattle.affc_nest.specs.declared.nest.Entry.{Entry}
use Rattle.affc_nest.specs.declared.nest.Nest.{Nest}
use Rattle.affc_nest.specs.Parts.{statement_of}
use Rattle.affc_order.specs.Posed.{Posed, form_at}
use Rattle.affc_order.specs.Systems.{source_order, rows_in}
use Rattle.affc_sched.specs.Questions.{equal_rows}
use Rattle.affc_quast.specs.Leaves.{Leaf, padded, negated, path_ranges}
use Rattle.affc_flow.specs.Asked.{writers_of}
use Rattle.affc_flow.specs.Questions as flow
use Rattle.affc_flow.specs.Questions.{Question, Writer, poses, is_temporary, store_of_entry, writer_if, writers}
use Rattle.affc_products.specs.Groups.{group_systems}
use Rattle.affc_products.specs.Products.{choices, product}
use Rattle.affc_questions.specs.declared.ranged.Ranged.{Ranged}
use Rattle.affc_questions.specs.Listed.{asked, in_ranges, within, behind, asks, sides, joined, first_posed, negations, own_path, over_path, own_columns, images, astray_lists, late_lists, over_beside, earlier_listed, between_listed, all_earlier, all_between, named_listed, found_listed, input_listed, listed_for}

-- ---- Maps

map_over : {A B C : Type 0} (f : B → C) (g : A → B) (h : A → C) → ((x : A) → f (g x) ≡ h x) → (xs : List A) → map f (map g xs) ≡ map h xs
map_over f g h e [] = refl
map_over f g h e (x ∷ xs) = ap (λ y. y ∷ map f (map g xs)) (e x) ∙ ap (λ ys. h x ∷ ys) (map_over f g h e xs)

map_flat : {A B C : Type 0} (f : B → C) (g : A → List B) (h : A → List C) → ((x : A) → map f (g x) ≡ h x) → (xs : List A) → map f (flat_map g xs) ≡ flat_map h xs
map_flat f g h e [] = refl
map_flat f g h e (x ∷ xs) = map_append f (g x) (flat_map g xs) ∙ ap (λ ys. ys ++ map f (flat_map g xs)) (e x) ∙ ap (λ ys. h x ++ ys) (map_flat f g h e xs)

-- ---- Groups

-- the questions of one group more
pub asked_more : (old new : List Ranged) (r : Ranged) → new ≡ old ++ r ∷ [] → flat_map asked new ≡ flat_map asked old ++ asked r
asked_more old new r e = ap (flat_map asked) e ∙ flat_map-append asked old (r ∷ []) ∙ ap (λ zs. flat_map asked old ++ zs) (append_nil (asked r))

-- where these are the choices of its factors
pub asked_as : (columns : ℕ) (front : List Affine) (ranges : List (ℤ × ℤ)) (factors : List (List (List Affine))) (lists : List (List Affine)) → choices factors ≡ lists
    → map (λ s. record { system = s; ranges = ranges }) (product columns front factors) ≡ map (asks columns front ranges) lists
asked_as columns front ranges factors lists e =
    ap (λ us. map (λ s. record { system = s; ranges = ranges }) (map (behind columns front) us)) e ∙ map_over (λ (s : Rows). record { system = s; ranges = ranges }) (behind columns front) (asks columns front ranges) (λ u. refl) lists

pub asked_in : (ranges : List (ℤ × ℤ)) (rs : List Ranged) → flat_map (in_ranges ranges) rs ≡ map (within ranges) (flat_map asked rs)
asked_in ranges rs = sym (map_flat (within ranges) asked (in_ranges ranges) (λ (r : Ranged). map_over (within ranges) (λ (s : Rows). record { system = s; ranges = r.behind }) (λ (s : Rows). record { system = s; ranges = ranges ++ r.behind }) (λ s. refl) (group_systems r.group)) rs)

-- those of two lists behind one front, and others behind them
pub lists_made : {T : Type 0} (B : List Affine → T) (old first new others : List T) (ones twos lists : List (List Affine)) → lists ≡ ones ++ twos → first ≡ old ++ map B lists → new ≡ first ++ others
    → new ≡ old ++ (map B (ones ++ twos) ++ others)
lists_made B old first new others ones twos lists i d e = e ∙ ap (λ s. s ++ others) (d ∙ ap (λ ls. old ++ map B ls) i) ∙ append_assoc old (map B (ones ++ twos)) others

-- ---- The first part that is named

pub first_append : (a : Posed) (xs ys : List Writer) → first_posed a xs ≡ None → first_posed a (xs ++ ys) ≡ first_posed a ys
first_append a [] ys e = refl
first_append a (w ∷ ws) ys e = chosen (poses a w.0) (λ q. first_append a ws ys q) e
  where
    chosen : (t : Bool) → (first_posed a ws ≡ None → first_posed a (ws ++ ys) ≡ first_posed a ys) → (if t then Some w else first_posed a ws) ≡ None → (if t then Some w else first_posed a (ws ++ ys)) ≡ first_posed a ys
    chosen true rest e = absurd (cc)
    chosen false rest e = rest e

pub first_stays : (a : Posed) (xs ys : List Writer) (v : Writer) → first_posed a xs ≡ Some v → first_posed a (xs ++ ys) ≡ Some v
first_stays a [] ys v e = absurd (cc)
first_stays a (w ∷ ws) ys v e = chosen (poses a w.0) (λ q. first_stays a ws ys v q) e
  where
    chosen : (t : Bool) → (first_posed a ws ≡ Some v → first_posed a (ws ++ ys) ≡ Some v) → (if t then Some w else first_posed a ws) ≡ Some v → (if t then Some w else first_posed a (ws ++ ys)) ≡ Some v
    chosen true rest e = e
    chosen false rest e = rest e

pub first_is_in : (a : Posed) (xs : List Writer) (v : Writer) → first_posed a xs ≡ Some v → IsIn v xs × (poses a v.0 ≡ true)
first_is_in a [] v e = absurd (cc)
first_is_in a (w ∷ ws) v e = chosen (poses a w.0) refl (λ q. first_is_in a ws v q) e
  where
    chosen : (t : Bool) → poses a w.0 ≡ t → (first_posed a ws ≡ Some v → IsIn v ws × (poses a v.0 ≡ true)) → (if t then Some w else first_posed a ws) ≡ Some v → IsIn v (w ∷ ws) × (poses a v.0 ≡ true)
    chosen true q rest e = let s : w ≡ v = same_Some w v e in (inl (sym s), subst (λ (u : Writer). poses a u.0 ≡ true) s q)
    chosen false q rest e = let r = rest e in (inr r.0, r.1)

-- among entries in two lists
pub found_first : (a : Posed) (array : ℕ) (entries front back : List Entry) (v : Writer) → entries ≡ front ++ back → first_posed a (flat_map (writers_of array) front) ≡ Some v → first_posed a (flat_map (writers_of array) entries) ≡ Some v
found_first a array entries front back v e h =
    ap (λ es. first_posed a (flat_map (writers_of array) es)) e ∙ (ap (first_posed a) (flat_map-append (writers_of array) front back) ∙ first_stays a (flat_map (writers_of array) front) (flat_map (writers_of array) back) v h)

pub found_later : (a : Posed) (array : ℕ) (entries front back : List Entry) → entries ≡ front ++ back → first_posed a (flat_map (writers_of array) front) ≡ None → first_posed a (flat_map (writers_of array) entries) ≡ first_posed a (flat_map (writers_of array) back)
found_later a array entries front back e h =
    ap (λ es. first_posed a (flat_map (writers_of array) es)) e ∙ (ap (first_posed a) (flat_map-append (writers_of array) front back) ∙ first_append a (flat_map (writers_of array) front) (flat_map (writers_of array) back) h)

pub if_some : {T : Type 0} (o : Option T) (P Q : T → Type 0) → ((x : T) → P x → Q x) → IfSome o P → IfSome o Q
if_some None P Q f h = tt
if_some (Some x) P Q f h = f x h

-- ---- Statements that store the array

-- a part that can have instances and its store
pub record Stores (e : Entry) (v : Writer) : Type 0 where
  pub is : v.0 ≡ e
  pub alive : IsTrue e.alive
  pub among : IsIn v.1 e.accesses

stores_of : (array : ℕ) (e : Entry) (v : Writer) → IsIn v (writers_of array e) → Stores e v
stores_of array e v i = living e.alive refl i
  where
    own : IsTrue e.alive → (o : Option Access) → store_of_entry e ≡ o → IsIn v (writer_if array e o) → Stores e v
    own l None s i = absurd i
    own l (Some y) s i = kept (nat_eq y.array.0 array) i
      where
        kept : (t : Bool) → IsIn v (if t then (e, y) ∷ [] else []) → Stores e v
        kept true (inl q) = record { is = ap (λ (u : Writer). u.0) q; alive = l; among = subst (λ z. IsIn z e.accesses) (sym (ap (λ (u : Writer). u.1) q)) (stands_in e.accesses _ y s) }
        kept true (inr b) = absurd b
        kept false b = absurd b

    living : (t : Bool) → e.alive ≡ t → IsIn v (if t then writer_if array e (store_of_entry e) else []) → Stores e v
    living true l i = own l (store_of_entry e) refl i
    living false l i = absurd i

pub stores_among : (array : ℕ) (entries : List Entry) (v : Writer) → IsIn v (flat_map (writers_of array) entries) → (e : Entry) × IsIn e entries × Stores e v
stores_among array [] v i = absurd i
stores_among array (e ∷ es) v i =
    elim (in_append (writers_of array e) (flat_map (writers_of array) es) v i) [ inl j ↦ (e, inl refl, stores_of array e v j) | inr j ↦ (let r = stores_among array es v j in (r.0, inr r.1, r.2)) ]

pub store_here : (array : ℕ) (e : Entry) (y : Access) → writers_of array e ≡ (e, y) ∷ [] → IsIn y e.accesses
store_here array e y h = (stores_of array e (e, y) (subst (IsIn (e, y)) (sym h) (inl refl))).among

-- ---- The same questions

module _ (nest : Nest) (reader : Entry) (load : Access) (ranges : List (ℤ × ℤ)) (leaf : Leaf) where
  -- in the ranges of the leaf's columns
  abbrev inside : List Question → List Question
  inside qs = map (within (path_ranges ranges leaf.divisions)) qs

  abbrev alone : List Affine → Question
  alone = flow.here nest reader load ranges leaf

  over_same : (lists : List (List Affine)) → inside (over_path reader leaf lists) ≡ map alone lists
  over_same =
      map_over (within (path_ranges ranges leaf.divisions)) (asks leaf.columns (own_path reader leaf) []) alone (λ rows i. record { system = behind leaf.columns (own_path reader leaf) rows; ranges = append_nil (path_ranges ranges leaf.divisions) i })

  beside_same : (v : Entry) (y : Access) (lists : List (List Affine)) → inside (over_beside nest reader load leaf v y lists) ≡ map (flow.beside nest reader load ranges leaf v y) lists
  beside_same v y =
      map_over (within (path_ranges ranges leaf.divisions)) (asks (flow.beside_columns nest reader load [] leaf v y) (flow.beside_rows nest reader load [] leaf v y) v.ranges) (flow.beside nest reader load ranges leaf v y) (λ rows. refl)

  earlier_same : (v : Entry) (y : Access) → inside (earlier_listed nest reader load leaf v y) ≡ flow.earlier_questions nest reader load ranges leaf v y
  earlier_same v y =
      let before = flow.before_load nest reader load ranges leaf v y in
      beside_same v y (map rows_in before) ∙ map_over (flow.beside nest reader load ranges leaf v y) rows_in (λ (u : Rows). flow.beside nest reader load ranges leaf v y u.rows) (λ u. refl) before

  between_same : (v : Entry) (y : Access) (a : Posed) → inside (between_listed nest reader load leaf v y a) ≡ flow.between_questions nest reader load ranges leaf v y a
  between_same v y a = beside_same v y (joined (map rows_in after) (map rows_in before)) ∙ each after
    where
      after : List Rows
      after = flow.after_named nest reader load ranges leaf v y a

      before : List Rows
      before = flow.before_load nest reader load ranges leaf v y

      each : (os : List Rows) → map (flow.beside nest reader load ranges leaf v y) (joined (map rows_in os) (map rows_in before)) ≡ flat_map (λ (o : Rows). map (λ (u : Rows). flow.beside nest reader load ranges leaf v y (o.rows ++ u.rows)) before) os
      each [] = refl
      each (o ∷ os) =
          let B = flow.beside nest reader load ranges leaf v y in
          let more : List Affine → List Affine = λ u. o.rows ++ u in
          map_append B (map more (map rows_in before)) (joined (map rows_in os) (map rows_in before))
          ∙ ap (λ zs. zs ++ map B (joined (map rows_in os) (map rows_in before)))
          (map_over B more (λ u. B (o.rows ++ u)) (λ u. refl) (map rows_in before) ∙ map_over (λ u. B (o.rows ++ u)) rows_in (λ (u : Rows). B (o.rows ++ u.rows)) (λ u. refl) before)
          ∙ ap (λ zs. map (λ (u : Rows). B (o.rows ++ u.rows)) before ++ zs) (each os)

  all_earlier_same : inside (all_earlier nest reader load leaf nest.entries) ≡ flat_map (λ (v : Writer). flow.earlier_questions nest reader load ranges leaf v.0 v.1) (writers nest load.array.0)
  all_earlier_same =
      map_flat (within (path_ranges ranges leaf.divisions)) (λ (v : Writer). earlier_listed nest reader load leaf v.0 v.1) (λ (v : Writer). flow.earlier_questions nest reader load ranges leaf v.0 v.1) (λ (v : Writer). earlier_same v.0 v.1)
      (writers nest load.array.0)

  all_between_same : (a : Posed) → inside (all_between nest reader load leaf a nest.entries) ≡ flat_map (λ (v : Writer). flow.between_questions nest reader load ranges leaf v.0 v.1 a) (writers nest load.array.0)
  all_between_same a =
      map_flat (within (path_ranges ranges leaf.divisions)) (λ (v : Writer). between_listed nest reader load leaf v.0 v.1 a) (λ (v : Writer). flow.between_questions nest reader load ranges leaf v.0 v.1 a) (λ (v : Writer). between_same v.0 v.1 a)
      (writers nest load.array.0)

  input_same : inside (input_listed nest reader load leaf) ≡ flow.input_questions nest reader load ranges leaf
  input_same = chosen (is_temporary nest load.array.0)
    where
      chosen : (t : Bool) → inside (if t then over_path reader leaf ([] ∷ []) else all_earlier nest reader load leaf nest.entries)
          ≡ (if t then alone [] ∷ [] else flat_map (λ (v : Writer). flow.earlier_questions nest reader load ranges leaf v.0 v.1) (writers nest load.array.0))
      chosen true = over_same ([] ∷ [])
      chosen false = all_earlier_same

  -- ---- Where an instance is named

  module _ (a : Posed) (w : Entry) (z : Access) where
    outside_same : (rows : List Affine) → map alone (negations (map (form_at leaf.columns (images nest leaf.columns a.iterators)) rows)) ≡ map (λ r. alone (negated (flow.of_named nest reader load ranges leaf a w z r) ∷ [])) rows
    outside_same [] = refl
    outside_same (r ∷ rows) = ap (λ qs. alone (negated (flow.of_named nest reader load ranges leaf a w z r) ∷ []) ∷ qs) (outside_same rows)

    apart_same : (fs gs : List Affine) → map alone (sides fs gs) ≡ flow.apart_questions nest reader load ranges leaf a w z fs gs
    apart_same [] gs = refl
    apart_same (f ∷ fs) [] = refl
    apart_same (f ∷ fs) (g ∷ gs) = ap (λ qs. alone (compare_rows Greater f g) ∷ alone (compare_rows Less f g) ∷ qs) (apart_same fs gs)

    late_same : map alone (late_lists nest reader leaf.columns a) ≡ flow.not_earlier_questions nest reader load ranges leaf a w z
    late_same =
        let own : List Affine = own_columns nest reader leaf.columns in
        let order : List Rows = source_order nest leaf.columns (record { part = reader.part; iterators = own }) a in
        map_append alone (map rows_in order) (if nat_eq reader.statement (statement_of nest a.part) then equal_rows own a.iterators ∷ [] else [])
        ∙ ap₂ (λ xs ys. xs ++ ys) (map_over alone rows_in (λ (o : Rows). alone o.rows) (λ o. refl) order) (same (nat_eq reader.statement (statement_of nest a.part)))
      where
        same : (t : Bool) → map alone (if t then equal_rows (own_columns nest reader leaf.columns) a.iterators ∷ [] else []) ≡ (if t then alone (equal_rows (own_columns nest reader leaf.columns) a.iterators) ∷ [] else [])
        same true = refl
        same false = refl

    named_same : inside (named_listed nest reader load leaf a w z) ≡ flow.named_questions nest reader load ranges leaf a w z
    named_same =
        let F : Affine → Affine = form_at leaf.columns (images nest leaf.columns a.iterators) in
        let gs : List Affine = map (padded leaf.columns) load.subs in
        let one = flow.outside_questions nest reader load ranges leaf a w z in
        let two = flow.apart_questions nest reader load ranges leaf a w z (map F z.subs) gs in
        let three = flow.not_earlier_questions nest reader load ranges leaf a w z in
        let four = flat_map (λ (v : Writer). flow.between_questions nest reader load ranges leaf v.0 v.1 a) (writers nest load.array.0) in
        let astray = astray_lists nest load leaf.columns a.iterators w z in
        let late = late_lists nest reader leaf.columns a in
        let pair : inside (over_path reader leaf (astray ++ late)) ≡ (one ++ two) ++ three =
        over_same (astray ++ late) ∙ map_append alone astray late
        ∙ ap₂ (λ xs ys. xs ++ ys) (map_append alone (negations (map F w.domain.rows)) (sides (map F z.subs) gs) ∙ ap₂ (λ xs ys. xs ++ ys) (outside_same w.domain.rows) (apart_same (map F z.subs) gs)) late_same in
        map_append (within (path_ranges ranges leaf.divisions)) (over_path reader leaf (astray ++ late)) (all_between nest reader load leaf a nest.entries)
        ∙ ap₂ (λ xs ys. xs ++ ys) pair (all_between_same a) ∙ append_assoc (one ++ two) three four ∙ append_assoc one two (three ++ four)

  among_same : (a : Posed) (ws : List Writer) → inside (found_listed nest reader load leaf a (first_posed a ws)) ≡ flow.questions_among nest reader load ranges leaf a ws
  among_same a [] = over_same ([] ∷ [])
  among_same a (w ∷ ws) = chosen (poses a w.0) (among_same a ws)
    where
      chosen : (t : Bool) → inside (found_listed nest reader load leaf a (first_posed a ws)) ≡ flow.questions_among nest reader load ranges leaf a ws
          → inside (found_listed nest reader load leaf a (if t then Some w else first_posed a ws)) ≡ (if t then flow.named_questions nest reader load ranges leaf a w.0 w.1 else flow.questions_among nest reader load ranges leaf a ws)
      chosen true rest = named_same a w.0 w.1
      chosen false rest = rest

  listed_same : (o : Option Posed) → inside (listed_for nest reader load leaf o) ≡ flow.questions_for nest reader load ranges leaf o
  listed_same None = input_same
  listed_same (Some a) = among_same a (writers nest load.array.0)

  -- all of them, behind none
  pub leaf_made : (o : Option Posed) (none out : List Ranged) → leaf.named ≡ o → none ≡ [] → flat_map asked out ≡ flat_map asked none ++ listed_for nest reader load leaf o
      → flat_map (in_ranges (path_ranges ranges leaf.divisions)) out ≡ flow.leaf_questions nest reader load ranges leaf
  leaf_made o none out e n h =
      asked_in (path_ranges ranges leaf.divisions) out ∙ ap inside (h ∙ ap (λ rs. flat_map asked rs ++ listed_for nest reader load leaf o) n) ∙ listed_same o ∙ ap (flow.questions_for nest reader load ranges leaf) (sym e)
