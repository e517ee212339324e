-- The systems of two accesses.
use Rattle.std.proofs.Common.{◌≡◌, ℕ, zero, suc, ◌+◌, ◌*◌, ◌<◌, ◌≤◌, ℤ, IsTrue, List, [], ◌∷◌, ◌++◌, length, map, flat_map, drop, refl, sym, ap, subst, ◌∙◌, arith}
use Rattle.std.specs.Prelude.{slice_get, nat_lt, nat_le, ◌&&◌}
use Rattle.std.specs.List.{All}
use Rattle.std.proofs.lemmas.Bool.{leb-true}
use Rattle.std.proofs.lemmas.Option.{slice_get_within}
use Rattle.affc_rows.specs.Forms.{Affine}
use Rattle.affc_system.specs.Systems.{Rows}
use Rattle.affc_ast.specs.declared.tree.Decl.{Decl}
use Rattle.affc_ast.specs.declared.tree.Program.{Program}
use Rattle.affc_ast.specs.declared.tree.Rel.TheVariants.{Equal}
use Rattle.affc_ast.specs.Meaning.{arrays_of}
use Rattle.affc_trace.specs.declared.schedule.Schedule.{Schedule}
use Rattle.affc_trace.specs.Law.{IsIn}
use Rattle.affc_trace.proofs.LastStores.{map_append}
use Rattle.affc_trace.proofs.Runs.{length_append}
use Rattle.affc_trace.proofs.Targets.{map_map}
use Rattle.affc_domain.specs.Loops.{shared}
use Rattle.affc_domain.specs.Affine.{form_of}
use Rattle.affc_domain.specs.Plain.{all_plain, plain_decls}
use Rattle.affc_domain.specs.Ranges.{number_ranges}
use Rattle.affc_domain.proofs.Lists.{both_true, length_map}
use Rattle.affc_nest.specs.Asked.{IsNest}
use Rattle.affc_nest.specs.Domains.{compare_rows, with_rows}
use Rattle.affc_nest.specs.Sides.{IsSide}
use Rattle.affc_nest.specs.declared.nest.Access.{Access}
use Rattle.affc_nest.specs.declared.nest.Entry.{Entry}
use Rattle.affc_nest.specs.declared.nest.Nest.{Nest}
use Rattle.affc_nest.specs.Laws.{HasNest}
use Rattle.affc_domain.specs.Arrays.{declared_arrays}
use Rattle.affc_nest.specs.Nests.{array_of, nest_of}
use Rattle.affc_nest.specs.Parts.{statement_or_none, statement_of}
use Rattle.affc_nest.specs.Questions.{extents_or_none, extents_of_access}
use Rattle.affc_nest.proofs.AccessLemmas.{plain_append}
use Rattle.affc_nest.proofs.EntryLemmas.{entries_stand}
use Rattle.affc_nest.proofs.QuestionLemmas.{as_many}
use Rattle.affc_nest.proofs.QuestionProofs.{sub_side}
use Rattle.affc_order.specs.Spread.{spread}
use Rattle.affc_order.specs.Systems.{lex_systems, rows_in, loops_or_none, loops_of, source_order, pair_columns, source_systems, turned_systems}
use Rattle.affc_order.proofs.CodeLemmas.{is_nest}
use Rattle.affc_sched.specs.Legality.{IsAsked}
use Rattle.affc_sched.specs.Questions.{Question, equal_rows, context_count, pair_rows, question, pair_questions}
use Rattle.affc_sched.proofs.LegalLemmas.{entry_at}
use Rattle.affc_sched.proofs.Lists.{all_from}

-- ---- Entries

pub record StandsIn (nest : Nest) (e : Entry) : Type 0 where
  pub columns : e.domain.columns ≡ length nest.params + length e.loops
  pub loops : loops_of nest e.part ≡ e.loops
  pub statement : statement_of nest e.part ≡ e.statement
  pub counted : e.part < length nest.entries

stands_of : (program : Program) → HasNest program → (e : Entry) → IsIn e (nest_of program).entries → StandsIn (nest_of program) e
stands_of program has e i =
    let h = entry_at program has e i in
    record {
      columns = ((entries_stand program has).1 e.part e h).columns;
      loops = ap loops_or_none h;
      statement = ap statement_or_none h;
      counted = slice_get_within (nest_of program).entries e.part e h;
    }

pub stands_in : (nest : Nest) → IsNest nest → (e : Entry) → IsIn e nest.entries → StandsIn nest e
stands_in nest n e i =
    subst (λ (x : Nest). StandsIn x e) (sym n.is) (stands_of n.program n.has e (subst (λ (x : Nest). IsIn e x.entries) n.is i))

pub is_counted : (nest : Nest) (schedule : Schedule) → IsAsked nest schedule → (e : Entry) → IsIn e nest.entries → e.part < length nest.entries
is_counted nest schedule q e i = (stands_in nest (is_nest nest schedule q.scheduled) e i).counted

pub columns_of_pair : (nest : Nest) → IsNest nest → (a b : Entry) → IsIn a nest.entries → IsIn b nest.entries → (length nest.params + length a.loops) + length b.loops ≡ pair_columns nest a.part b.part
columns_of_pair nest n a b i j =
    ap (λ ls. (length nest.params + length ls) + length b.loops) (sym (stands_in nest n a i).loops)
    ∙ ap (λ ls. (length nest.params + length (loops_of nest a.part)) + length ls) (sym (stands_in nest n b j).loops)

pub subs_sides : (nest : Nest) → IsNest nest → (e : Entry) → IsIn e nest.entries → (x : Access) → IsIn x e.accesses → All (IsSide (length nest.params + length e.loops)) x.subs
subs_sides nest n e i x j =
    subst (λ k. All (IsSide k) x.subs) (stands_in nest n e i).columns
    (all_from (IsSide e.domain.columns) x.subs (λ f k. sub_side nest e f n i (record { access = x; made = j; of_access = k })))

-- ---- All of them

-- what is made of the rows of an order, and of those of each of many
flat_rows : (F : List Affine → List Rows) (G : Rows → List Question) → ((o : Rows) → F o.rows ≡ map (λ q. q.system) (G o)) → (orders : List Rows)
    → flat_map F (map rows_in orders) ≡ map (λ q. q.system) (flat_map G orders)
flat_rows F G h [] = refl
flat_rows F G h (o ∷ orders) =
    ap (λ ss. ss ++ flat_map F (map rows_in orders)) (h o) ∙ ap (λ ss. map (λ (q : Question). q.system) (G o) ++ ss) (flat_rows F G h orders)
    ∙ sym (map_append (λ (q : Question). q.system) (G o) (flat_map G orders))

-- what the code has made are the questions' systems
pub systems_made : (nest : Nest) (schedule : Schedule) (a b : Entry) (x y : Access) (pair : Rows) → pair ≡ record { columns = pair_columns nest a.part b.part; rows = pair_rows nest a b x y }
    → flat_map (λ o. map (λ u. with_rows pair (o ++ u)) (map rows_in (turned_systems nest a.part b.part schedule))) (map rows_in (source_systems nest a.part b.part))
    ≡ map (λ q. q.system) (pair_questions nest a b schedule x y)
systems_made nest schedule a b x y pair e =
    let later = turned_systems nest a.part b.part schedule in
    let earlier = source_systems nest a.part b.part in
    let rows = pair_rows nest a b x y in
    let whole : Rows = record { columns = pair_columns nest a.part b.part; rows = rows } in
    ap (λ p. flat_map (λ o. map (λ u. with_rows p (o ++ u)) (map rows_in later)) (map rows_in earlier)) e
    ∙ flat_rows (λ o. map (λ u. with_rows whole (o ++ u)) (map rows_in later)) (λ o. map (question nest a b rows o) later)
    (λ o. map_map rows_in (λ u. with_rows whole (o.rows ++ u)) later ∙ sym (map_map (question nest a b rows o) (λ (q : Question). q.system) later)) earlier

-- ---- Counts

decls_few : (m : ℕ) (ds : List Decl) (k : ℕ) → IsTrue (plain_decls m ds) → length (extents_or_none (slice_get (map (array_of m) ds) k)) ≤ 4
decls_few m [] k h = omega arith
decls_few m (d ∷ ds) zero h =
    let a = both_true (nat_le (length d.extents) 4) (all_plain m d.extents && plain_decls m ds) h in
    let b : length d.extents ≤ 4 = leb-true (length d.extents) 4 a.0 in
    let c : length (map (form_of m 0) d.extents) ≡ length d.extents = length_map (form_of m 0) d.extents in
    omega arith
decls_few m (d ∷ ds) (suc k) h =
    decls_few m ds k (both_true (all_plain m d.extents) (plain_decls m ds) (both_true (nat_le (length d.extents) 4) (all_plain m d.extents && plain_decls m ds) h).1).1

-- an access has at most four subscripts
pub few_subs : (nest : Nest) (schedule : Schedule) → IsAsked nest schedule → (a : Entry) → IsIn a nest.entries → (x : Access) → IsIn x a.accesses → length x.subs ≤ 4
few_subs nest schedule q a i x j =
    let s = q.scheduled in
    let program = s.program in
    let m = length (number_ranges program.params) in
    let many : length x.subs ≡ length (extents_of_access (nest_of program) x) = as_many program a.part a q.named (entry_at program s.has a (subst (λ (z : Nest). IsIn a z.entries) s.is i)) x j in
    let few : length (extents_of_access (nest_of program) x) ≤ 4 =
    decls_few m (declared_arrays program) x.array.0 (plain_append m (arrays_of program.params) program.temps s.has.plain.arrays s.has.plain.temps) in
    omega arith

pub equal_count : (fs gs : List Affine) → length (equal_rows fs gs) ≤ 2 * length fs
equal_count [] gs = omega arith
equal_count (f ∷ fs) [] = omega arith
equal_count (f ∷ fs) (g ∷ gs) = let h = equal_count fs gs in let a = length_append (compare_rows Equal f g) (equal_rows fs gs) in omega (arith, h, a)

-- ---- What the code of two accesses keeps

pub both_few : (F G : Affine → Affine) (rows own : List Affine) (system : Rows) (columns : ℕ) → system ≡ record { columns = columns; rows = map F rows ++ map G own } → length rows ≤ 134 → length own ≤ 134 → length system.rows ≤ 268
both_few F G rows own system columns e h g =
    let a = length_append (map F rows) (map G own) in
    let b = length_map F rows in
    let c = length_map G own in
    let d : length system.rows ≡ length (map F rows ++ map G own) = ap (λ (r : Rows). length r.rows) e in
    omega (arith, h, g, a, b, c, d)

pub pair_few : (fs gs : List Affine) (system system' : Rows) → system' ≡ with_rows system (equal_rows fs gs) → length system.rows ≤ 268 → length fs ≤ 4 → length system'.rows ≤ 900
pair_few fs gs system system' e h g =
    let a = length_append system.rows (equal_rows fs gs) in
    let b = equal_count fs gs in
    let d : length system'.rows ≡ length (system.rows ++ equal_rows fs gs) = ap (λ (r : Rows). length r.rows) e in
    omega (arith, h, g, a, b, d)

pub mapped_few : (F : Affine → Affine) (xs subs : List Affine) → xs ≡ subs → length subs ≤ 4 → length (map F xs) ≤ 4
mapped_few F xs subs e h = let a = length_map F xs in let b : length xs ≡ length subs = ap length e in omega (arith, h, a, b)

abbrev whole_pair : (rows : List Affine) (ps : List (ℤ × ℤ)) (outer inner : ℕ) (own xs ys : List Affine) → Rows
whole_pair rows ps outer inner own xs ys = record {
  columns = (length ps + outer) + inner;
  rows = (map (spread (length ps) 0 inner) rows ++ map (spread (length ps) outer 0) own) ++ equal_rows (map (spread (length ps) 0 inner) xs) (map (spread (length ps) outer 0) ys);
}

pub pair_made : (nest : Nest) (a b : Entry) (x y : Access) (ps : List (ℤ × ℤ)) (outer inner : ℕ) (own xs ys : List Affine) (system system' : Rows)
    → ps ≡ nest.params → outer ≡ length a.loops → inner ≡ length b.loops → own ≡ drop (context_count nest) b.domain.rows → xs ≡ x.subs → ys ≡ y.subs
    → (length nest.params + length a.loops) + length b.loops ≡ pair_columns nest a.part b.part
    → system ≡ record { columns = (length ps + outer) + inner; rows = map (spread (length ps) 0 inner) a.domain.rows ++ map (spread (length ps) outer 0) own }
    → system' ≡ with_rows system (equal_rows (map (spread (length ps) 0 inner) xs) (map (spread (length ps) outer 0) ys))
    → system' ≡ record { columns = pair_columns nest a.part b.part; rows = pair_rows nest a b x y }
pair_made nest a b x y ps outer inner own xs ys system system' p o i w u v columns one two =
    two ∙ ap (λ (s : Rows). with_rows s (equal_rows (map (spread (length ps) 0 inner) xs) (map (spread (length ps) outer 0) ys))) one
    ∙ ap (λ rs. whole_pair a.domain.rows rs outer inner own xs ys) p
    ∙ ap (λ k. whole_pair a.domain.rows nest.params k inner own xs ys) o
    ∙ ap (λ k. whole_pair a.domain.rows nest.params (length a.loops) k own xs ys) i
    ∙ ap (λ rows. whole_pair a.domain.rows nest.params (length a.loops) (length b.loops) rows xs ys) w
    ∙ ap (λ fs. whole_pair a.domain.rows nest.params (length a.loops) (length b.loops) (drop (context_count nest) b.domain.rows) fs ys) u
    ∙ ap (λ gs. whole_pair a.domain.rows nest.params (length a.loops) (length b.loops) (drop (context_count nest) b.domain.rows) x.subs gs) v
    ∙ ap (λ k. record { columns = k; rows = pair_rows nest a b x y }) columns
