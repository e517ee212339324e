-- The entries of a nest.
use Rattle.std.proofs.Common.{◌≡◌, ℕ, zero, suc, ◌+◌, ℤ, pos, negsuc, ◌≤ℤ◌, Bool, true, false, true≢false, IsTrue, List, [], ◌∷◌, ◌++◌, length, Option, Some, None, refl, sym, ap, subst, ◌∙◌, inl, inr, arith}
use Rattle.std.specs.Prelude.{◌&&◌, slice_get, int_lt, not, if◌then◌else◌}
use Rattle.std.proofs.lemmas.Int.{ints}
use Rattle.std.proofs.lemmas.Option.{none-some, same_Some}
use Rattle.affc_rows.specs.Forms.{value}
use Rattle.affc_system.specs.Boxes.{InBox}
use Rattle.affc_system.specs.Systems.{IsPoint, HasNoPoint}
use Rattle.affc_ast.specs.declared.tree.Compare.{Compare}
use Rattle.affc_ast.specs.declared.tree.Program.{Program}
use Rattle.affc_ast.specs.Trace.{Assignment, assignments}
use Rattle.affc_trace.specs.Law.{IsIn}
use Rattle.affc_domain.specs.Loops.{loop_numbers}
use Rattle.affc_domain.specs.Ranges.{number_ranges, Ranges, Within, Never, Wide, outermost, is_near, range_of, entered, ranges_of, AreWithin, first_wide_of}
use Rattle.affc_domain.specs.Rounds.{Round, Loop, Test, rounds, loops_in}
use Rattle.affc_domain.proofs.CountLemmas.{numbers_of_loops, numbers_of_each}
use Rattle.affc_domain.proofs.FormLemmas.{number_value}
use Rattle.affc_domain.proofs.PlainLemmas.{rounds_of_each}
use Rattle.affc_domain.proofs.RangeLemmas.{iterators_keep_ranges}
use Rattle.affc_nest.specs.Domains.{number_form, domain_rows}
use Rattle.affc_nest.specs.declared.nest.Entry.{Entry}
use Rattle.affc_nest.specs.Nests.{is_alive, ranges_in, nowhere, domain_by, entry_of, entries_of}
use Rattle.affc_nest.specs.Laws.{HasNest, IsEntry, EntriesStand, PointsAreInstances, NoneWhereNotAlive, RangesHold}
use Rattle.affc_nest.proofs.DomainLemmas.{to_all, from_all}
use Rattle.affc_nest.proofs.PointLemmas.{ranges_long, instance_met, met_instance}

-- ---- Which entry is whose

-- what an entry is made of
pub record Site (params : List (ℤ × ℤ)) (context : List Compare) (rss : List (List Round)) (lss : List (List ℕ)) (as' : List Assignment) (first i : ℕ) (e : Entry) : Type 0 where
  pub its_rounds : List Round
  pub rounds_at : slice_get rss i ≡ Some its_rounds
  pub loops : List ℕ
  pub loops_at : slice_get lss i ≡ Some loops
  pub assignment : Assignment
  pub assignment_at : slice_get as' i ≡ Some assignment
  pub is : e ≡ entry_of params context (first + i) its_rounds loops assignment

site : (params : List (ℤ × ℤ)) (context : List Compare) (rss : List (List Round)) (lss : List (List ℕ)) (as' : List Assignment) (first i : ℕ) (e : Entry)
    → slice_get (entries_of params context first rss lss as') i ≡ Some e → Site params context rss lss as' first i e
site params context [] lss as' first i e h = absurd (none-some e h)
site params context (rs ∷ rss) [] as' first i e h = absurd (none-some e h)
site params context (rs ∷ rss) (ls ∷ lss) [] first i e h = absurd (none-some e h)
site params context (rs ∷ rss) (ls ∷ lss) (a ∷ as') first zero e h = record {
  its_rounds = rs;
  rounds_at = refl;
  loops = ls;
  loops_at = refl;
  assignment = a;
  assignment_at = refl;
  is = sym (same_Some _ e h) ∙ ap (λ k. entry_of params context k rs ls a) (none_more first);
}
  where
    none_more : (n : ℕ) → n ≡ n + 0
    none_more n = omega arith
site params context (rs ∷ rss) (ls ∷ lss) (a ∷ as') first (suc i) e h =
    let s = site params context rss lss as' (suc first) i e h in
    record {
      its_rounds = s.its_rounds;
      rounds_at = s.rounds_at;
      loops = s.loops;
      loops_at = s.loops_at;
      assignment = s.assignment;
      assignment_at = s.assignment_at;
      is = s.is ∙ ap (λ k. entry_of params context k s.its_rounds s.loops s.assignment) (moved first i);
    }
  where
    moved : (m n : ℕ) → suc m + n ≡ m + suc n
    moved m n = omega arith

each_entry : (params : List (ℤ × ℤ)) (context : List Compare) (rss : List (List Round)) (lss : List (List ℕ)) (as' : List Assignment) (first : ℕ)
    → length rss ≡ length as' → length lss ≡ length as' → length (entries_of params context first rss lss as') ≡ length as'
each_entry params context [] lss [] first h g = refl
each_entry params context [] lss (a ∷ as') first h g = absurd (omega arith)
each_entry params context (rs ∷ rss) lss [] first h g = absurd (omega arith)
each_entry params context (rs ∷ rss) [] (a ∷ as') first h g = absurd (omega arith)
each_entry params context (rs ∷ rss) (ls ∷ lss) (a ∷ as') first h g = ap suc (each_entry params context rss lss as' (suc first) (omega (arith, h)) (omega (arith, g)))

abbrev pub SiteOf : Program → (statement : ℕ) → Entry → Type 0
SiteOf program statement e = Site (number_ranges program.params) program.context (rounds program) (loop_numbers program) (assignments program) 0 statement e

pub site_of : (program : Program) (statement : ℕ) (e : Entry) → IsEntry program statement e → SiteOf program statement e
site_of program statement e h = site (number_ranges program.params) program.context (rounds program) (loop_numbers program) (assignments program) 0 statement e h

domain_columns : (params : List (ℤ × ℤ)) (context : List Compare) (inside : Ranges) (rs : List Round) → (domain_by params context inside rs).columns ≡ length params + loops_in rs
domain_columns params context (Within boxes) rs = refl
domain_columns params context Never rs = refl
domain_columns params context (Wide n) rs = refl

pub columns_are : (program : Program) (statement : ℕ) (e : Entry) (s : SiteOf program statement e) → e.domain.columns ≡ length (number_ranges program.params) + loops_in s.its_rounds
columns_are program statement e s = ap (λ (x : Entry). x.domain.columns) s.is ∙ domain_columns (number_ranges program.params) program.context (ranges_of (number_ranges program.params) s.its_rounds) s.its_rounds

pub loops_are : (program : Program) (statement : ℕ) (e : Entry) (s : SiteOf program statement e) → length e.loops ≡ loops_in s.its_rounds
loops_are program statement e s = ap (λ (x : Entry). length x.loops) s.is ∙ numbers_of_loops program statement s.loops s.its_rounds s.loops_at s.rounds_at

pub entries_stand : EntriesStand
entries_stand program has = (
  each_entry (number_ranges program.params) program.context (rounds program) (loop_numbers program) (assignments program) 0 (rounds_of_each program) (numbers_of_each program),
  λ statement e h. let s = site_of program statement e h in record {
    number = ap (λ (x : Entry). x.part) s.is ∙ no_less statement;
    statement = ap (λ (x : Entry). x.statement) s.is ∙ no_less statement;
    columns = columns_are program statement e s ∙ ap (λ n. length (number_ranges program.params) + n) (sym (loops_are program statement e s));
  },
)
  where
    no_less : (n : ℕ) → 0 + n ≡ n
    no_less n = omega arith

-- ---- What the interval rule says of a statement

not_wide : (outer : List (ℤ × ℤ)) (first : ℕ) (rss : List (List Round)) → first_wide_of outer first rss ≡ None
    → (k n : ℕ) (rs : List Round) → slice_get rss k ≡ Some rs → ranges_of outer rs ≡ Wide n → ⊥
not_wide outer first [] h k n rs e w = absurd (none-some rs e)
not_wide outer first (qs ∷ rss) h zero n rs e w =
    let same : qs ≡ rs = same_Some qs rs e in
    let wide : ranges_of outer qs ≡ Wide n = ap (ranges_of outer) same ∙ w in
    let none : ◌≡◌ {A = Option (ℕ × ℕ)} (Some (first, n)) None = rw wide at h in
    none-some (first, n) (sym none)
not_wide outer first (qs ∷ rss) h (suc k) n rs e w = not_wide outer (suc first) rss (others (ranges_of outer qs) refl) k n rs e w
  where
    others : (r : Ranges) → ranges_of outer qs ≡ r → first_wide_of outer (suc first) rss ≡ None
    others (Within boxes) r = rw r at h
    others Never r = rw r at h
    others (Wide m) r =
        let none : ◌≡◌ {A = Option (ℕ × ℕ)} (Some (first, m)) None = rw r at h in
        absurd (none-some (first, m) (sym none))

-- alive statements have ranges
pub ranges_there : (program : Program) (statement : ℕ) (e : Entry) → HasNest program → (s : SiteOf program statement e) → IsTrue e.alive
    → (boxes : List (ℤ × ℤ)) × (ranges_of (number_ranges program.params) s.its_rounds ≡ Within boxes)
ranges_there program statement e has s alive = chosen (ranges_of (number_ranges program.params) s.its_rounds) refl (sym (ap (λ (x : Entry). x.alive) s.is) ∙ alive)
  where
    chosen : (r : Ranges) → ranges_of (number_ranges program.params) s.its_rounds ≡ r → is_alive (ranges_of (number_ranges program.params) s.its_rounds) ≡ true
        → (boxes : List (ℤ × ℤ)) × (ranges_of (number_ranges program.params) s.its_rounds ≡ Within boxes)
    chosen (Within boxes) r a = (boxes, r)
    chosen Never r a = let no_life : false ≡ true = sym (ap is_alive r) ∙ a in absurd (true≢false (sym no_life))
    chosen (Wide n) r a = absurd (not_wide (number_ranges program.params) 0 (rounds program) has.near statement n s.its_rounds s.rounds_at r)

never_there : (program : Program) (statement : ℕ) (e : Entry) (s : SiteOf program statement e) → e.alive ≡ false → ranges_of (number_ranges program.params) s.its_rounds ≡ Never
never_there program statement e s dead = chosen (ranges_of (number_ranges program.params) s.its_rounds) refl (sym (ap (λ (x : Entry). x.alive) s.is) ∙ dead)
  where
    chosen : (r : Ranges) → ranges_of (number_ranges program.params) s.its_rounds ≡ r → is_alive (ranges_of (number_ranges program.params) s.its_rounds) ≡ false
        → ranges_of (number_ranges program.params) s.its_rounds ≡ Never
    chosen (Within boxes) r a = let life : true ≡ false = sym (ap is_alive r) ∙ a in absurd (true≢false life)
    chosen Never r a = r
    chosen (Wide n) r a = let life : true ≡ false = sym (ap is_alive r) ∙ a in absurd (true≢false life)

-- the domain of an alive statement
pub domain_is : (program : Program) (statement : ℕ) (e : Entry) (s : SiteOf program statement e) (boxes : List (ℤ × ℤ)) → ranges_of (number_ranges program.params) s.its_rounds ≡ Within boxes
    → e.domain ≡ record { columns = length (number_ranges program.params) + loops_in s.its_rounds; rows = domain_rows (number_ranges program.params) program.context boxes s.its_rounds }
domain_is program statement e s boxes w = ap (λ (x : Entry). x.domain) s.is ∙ ap (λ r. domain_by (number_ranges program.params) program.context r s.its_rounds) w

-- ---- Domains

pub points_are_instances : PointsAreInstances
points_are_instances program p b e has h alive l =
    let s = site_of program b.statement e h in
    let w = ranges_there program b.statement e has s alive in
    let d = domain_is program b.statement e s w.0 w.1 in
    let m = length (number_ranges program.params) in
    let n = loops_in s.its_rounds in (
      λ point.
          let q : IsPoint (record { columns = m + n; rows = domain_rows (number_ranges program.params) program.context w.0 s.its_rounds }) (p ++ b.iterators) = subst (λ y. IsPoint y (p ++ b.iterators)) d point in
          met_instance program p b s.its_rounds w.0 has.plain s.rounds_at w.1 l (as_many p b.iterators m n l q.width) (from_all (p ++ b.iterators) _ q.meets),
      λ inside.
          let r = instance_met program p b s.its_rounds w.0 has.plain s.rounds_at w.1 inside.0 inside.1 in
          subst (λ y. IsPoint y (p ++ b.iterators)) (sym d) (record { width = together p b.iterators m n l r.0; meets = to_all (p ++ b.iterators) _ r.1 }),
    )
  where
    length_append : (xs ys : List ℤ) → length (xs ++ ys) ≡ length xs + length ys
    length_append [] ys = omega arith
    length_append (x ∷ xs) ys = omega (arith, length_append xs ys)

    as_many : (p its : List ℤ) (m n : ℕ) → length p ≡ m → length (p ++ its) ≡ m + n → length its ≡ n
    as_many p its m n l w = let q = length_append p its in omega (arith, l, w)

    together : (p its : List ℤ) (m n : ℕ) → length p ≡ m → length its ≡ n → length (p ++ its) ≡ m + n
    together p its m n l w = let q = length_append p its in omega (arith, l, w)

pub none_where_not_alive : NoneWhereNotAlive
none_where_not_alive program e b has h dead =
    let s = site_of program b.statement e h in
    let never = never_there program b.statement e s dead in
    let ps = number_ranges program.params in
    let d : e.domain ≡ nowhere (length ps + loops_in s.its_rounds) = ap (λ (x : Entry). x.domain) s.is ∙ ap (λ r. domain_by ps program.context r s.its_rounds) never in (
      subst HasNoPoint (sym d) (no_point (length ps + loops_in s.its_rounds)),
      λ p inside i. subst (λ r. AreWithin r b.iterators) never (iterators_keep_ranges program p b s.its_rounds has.plain inside.ranges i s.rounds_at),
    )
  where
    below : (z : ℤ) → z ≡ negsuc 0 → pos 0 ≤ℤ z → ⊥
    below z e h = omega (arith, ints)

    no_point : (n : ℕ) → HasNoPoint (nowhere n)
    no_point n point is = below (value (number_form n (negsuc 0)) point) (number_value n (negsuc 0) point) (is.meets 0 (number_form n (negsuc 0)) (omega arith))

-- ---- Ranges

pub near_ranges : (rs : List Round) (outer boxes : List (ℤ × ℤ)) → ranges_of outer rs ≡ Within boxes → (r : ℤ × ℤ) → IsIn r boxes → (r.0 ≤ℤ r.1) × IsTrue (is_near r.0 && is_near r.1)
near_ranges [] outer [] e r i = absurd i
near_ranges [] outer (q ∷ boxes) e r i = absurd (cc)
near_ranges (Loop iter low rel high ∷ rs) outer boxes e r i =
    let q = range_of outer low rel high in
    let o = part q (ranges_of (outer ++ q ∷ []) rs) boxes e in
    let h : IsIn r (q ∷ o.0) = subst (λ (bs : List (ℤ × ℤ)). IsIn r bs) o.1 i in
    here q o.0 o.3 o.4 (near_ranges rs (outer ++ q ∷ []) o.0 o.2 r) h
  where
    out : (q : ℤ × ℤ) (inside : Ranges) (boxes : List (ℤ × ℤ)) → outermost q inside ≡ Within boxes → (others : List (ℤ × ℤ)) × (boxes ≡ q ∷ others) × (inside ≡ Within others)
    out q (Within rs) boxes e = (rs, cc, refl)
    out q Never boxes e = absurd (cc)
    out q (Wide n) boxes e = absurd (cc)

    chosen : (q : ℤ × ℤ) (t u : Bool) (inside : Ranges) (boxes : List (ℤ × ℤ)) → (if t then Never else (if u then Wide 0 else outermost q inside)) ≡ Within boxes
        → (others : List (ℤ × ℤ)) × (boxes ≡ q ∷ others) × (inside ≡ Within others) × (t ≡ false) × (u ≡ false)
    chosen q true u inside boxes e = absurd (cc)
    chosen q false true inside boxes e = absurd (cc)
    chosen q false false inside boxes e = let o = out q inside boxes e in (o.0, o.1, o.2, refl, refl)

    part : (q : ℤ × ℤ) (inside : Ranges) (boxes : List (ℤ × ℤ)) → entered q inside ≡ Within boxes
        → (others : List (ℤ × ℤ)) × (boxes ≡ q ∷ others) × (inside ≡ Within others) × (int_lt q.1 q.0 ≡ false) × (not (is_near q.0 && is_near q.1) ≡ false)
    part q inside boxes e = chosen q (int_lt q.1 q.0) (not (is_near q.0 && is_near q.1)) inside boxes e

    ordered : (x y : ℤ) → int_lt y x ≡ false → x ≤ℤ y
    ordered x y e = grind (arith, ints)

    kept : (u : Bool) → not u ≡ false → u ≡ true
    kept true e = refl
    kept false e = absurd (true≢false e)

    here : (q : ℤ × ℤ) (others : List (ℤ × ℤ)) → int_lt q.1 q.0 ≡ false → not (is_near q.0 && is_near q.1) ≡ false
        → (IsIn r others → (r.0 ≤ℤ r.1) × IsTrue (is_near r.0 && is_near r.1)) → IsIn r (q ∷ others) → (r.0 ≤ℤ r.1) × IsTrue (is_near r.0 && is_near r.1)
    here q others a b f (inl is) = subst (λ (z : ℤ × ℤ). (z.0 ≤ℤ z.1) × IsTrue (is_near z.0 && is_near z.1)) (sym is) (ordered q.0 q.1 a, kept (is_near q.0 && is_near q.1) b)
    here q others a b f (inr i) = f i
near_ranges (Test cond ∷ rs) outer boxes e r i = near_ranges rs outer boxes e r i

pub ranges_are_within : (program : Program) (statement : ℕ) (e : Entry) (s : SiteOf program statement e) (boxes : List (ℤ × ℤ)) → ranges_of (number_ranges program.params) s.its_rounds ≡ Within boxes → e.ranges ≡ boxes
ranges_are_within program statement e s boxes w = ap (λ (x : Entry). x.ranges) s.is ∙ ap ranges_in w

pub ranges_hold_iterators : RangesHold
ranges_hold_iterators program statement e has h alive =
    let s = site_of program statement e h in
    let w = ranges_there program statement e has s alive in
    let ps = number_ranges program.params in
    let g : e.ranges ≡ w.0 = ranges_are_within program statement e s w.0 w.1 in
    record {
      each = ap length g ∙ ranges_long s.its_rounds ps w.0 w.1 ∙ sym (loops_are program statement e s);
      near = λ r i. near_ranges s.its_rounds ps w.0 w.1 r (subst (λ (bs : List (ℤ × ℤ)). IsIn r bs) g i);
      hold = λ p b is inside i.
          let at : slice_get (rounds program) b.statement ≡ Some s.its_rounds = ap (slice_get (rounds program)) is ∙ s.rounds_at in
          subst (λ bs. InBox bs b.iterators) (sym g) (subst (λ q. AreWithin q b.iterators) w.1 (iterators_keep_ranges program p b s.its_rounds has.plain inside.ranges i at));
    }
