-- What may not be scanned of the example.
use Rattle.std.proofs.Common.{◌≡◌, ℕ, zero, suc, ◌<◌, Bool, true, false, true≢false, List, [], ◌∷◌, ◌++◌, length, get_or, map, ℤ, pos, negsuc, ◌+ℤ◌, ◌*ℤ◌, ◌≤ℤ◌, ◌<ℤ◌, refl, sym, ap, subst, ◌∙◌, arith}
use Rattle.std.specs.Global.{Vec}
use Rattle.std.specs.List.{All}
use denote.Hole.Carrier.{hidden}
use Rattle.std.proofs.lemmas.Int.{ints}
use Rattle.std.proofs.lemmas.List.Elements.{All-nil, All-cons}
use Rattle.affc_rows.specs.Forms.{Affine}
use Rattle.affc_system.specs.Systems.{Meets}
use Rattle.affc_farkas.specs.Multiples.{entry_of}
use Rattle.affc_farkas.specs.Rational.{scaled_value}
use Rattle.affc_ast.specs.declared.tree.Ix.{Ix}
use Rattle.affc_ast.specs.declared.tree.Ix.TheBlock.{shape-the_row-Ix-0, hidden-the_row-Ix-0}
use Rattle.affc_ast.specs.declared.tree.Ix.TheVariants.{Neg, Max}
use Rattle.affc_ast.specs.declared.tree.Ix.TheOpen as ix
use Rattle.affc_ast.specs.declared.tree.Ix.TheOpen.{Ix-F}
use Rattle.affc_ast.specs.declared.tree.Program.{Program}
use Rattle.affc_ast.specs.declared.tree.Stmt.{Stmt}
use Rattle.affc_ast.specs.declared.tree.Stmt.TheBlock.{shape-the_row-Stmt-0, hidden-the_row-Stmt-0}
use Rattle.affc_ast.specs.declared.tree.Stmt.TheOpen as stmt
use Rattle.affc_ast.specs.declared.tree.Stmt.TheOpen.{Stmt-F}
use Rattle.affc_ast.specs.declared.tree.Val.TheBlock.{shape-the_row-Val-0, hidden-the_row-Val-0}
use Rattle.affc_ast.specs.Recursion.{by_ix, by_stmt}
use Rattle.affc_domain.specs.Ranges.{number_ranges}
use Rattle.affc_loops.specs.Between.{program_between}
use Rattle.affc_loops.specs.Ends.{joined, lower_end, least_by, ends_of}
use Rattle.affc_loops.specs.Examples.{lit, backwards}
use Rattle.affc_loops.specs.Loops.{time_ranges}
use Rattle.affc_loops.specs.Trees.{number}
use Rattle.affc_loopends.specs.declared.bounds.Bounds.{Bounds}
use Rattle.affc_loopends.specs.declared.bounds.Bounds.TheVariants.{Between, Loose as Without}
use Rattle.affc_loopends.specs.Ends.{AreEnds}
use Rattle.affc_loopends.specs.Examples as ends
use Rattle.affc_loopends.specs.TimeRows.{system_of}
use Rattle.affc_loopends.specs.TimeSets.{IsShaped, IsTimePoint, ExtendsToTimePoint}
use Rattle.affc_loopends.proofs.Extended.{ends_hold, turns_extend}
use Rattle.affc_loopends.specs.declared.scanned.scanned.Scanned.{Scanned}
use Rattle.affc_loopends.specs.scanned.Examples.{nine, loop_between, NoRowIsLeftOut, NoRowsWhereLoose, ItsOwnOrder}
use Rattle.affc_loopends.specs.scanned.Scanned.{sides_of, AreBoundsOfEach, IsBetween, all_loose, all_sides}
use Rattle.affc_loopends.proofs.scanned.ExampleProofs.{its_statement, its_ranges, scheduled_are}
use Rattle.affc_loopends.proofs.scanned.Tight.{not_empty}

-- ---- Without a row from below -5 would be a turn at N = 3

shaped : IsShaped ends.reversed
shaped = record {
  ranges = refl;
  iterators = refl;
  times = All-cons (λ (g : Affine). length g.coefs ≡ 2) (ends.row (pos 0 ∷ negsuc 0 ∷ []) (pos 0)) [] refl (All-nil (λ (g : Affine). length g.coefs ≡ 2));
  inverse = All-cons (λ (g : Affine). length g.coefs ≡ 2) (ends.row (pos 0 ∷ negsuc 0 ∷ []) (pos 0)) [] refl (All-nil (λ (g : Affine). length g.coefs ≡ 2));
}

-- i = 0
first_turn : IsTimePoint ends.reversed (pos 3 ∷ pos 0 ∷ []) (pos 1)
unfolding shape-the_row-Ix-0 hidden-the_row-Ix-0 hidden
first_turn = record {
  width = refl;
  divisor = omega (arith, ints);
  parameters = (omega (arith, ints), omega (arith, ints), tt);
  context = tt;
  turn = (omega (arith, ints), omega (arith, ints), tt);
  within = (omega (arith, ints), omega (arith, ints), tt);
  times = refl;
}

starts : ExtendsToTimePoint ends.reversed (pos 3 ∷ [])
starts = record { x = pos 3 ∷ pos 0 ∷ []; d = pos 1; is_time_point = first_turn; begins = first }
  where
    first : (j : ℕ) → j < 1 → get_or (pos 3 ∷ pos 0 ∷ []) j (pos 0) ≡ pos 1 *ℤ get_or (pos 3 ∷ []) j (pos 0)
    first zero lt = refl
    first (suc j) lt = absurd (omega arith)

-- a row that bounds from above and holds at 0
still_holds : (r : Affine) → length r.coefs ≡ 2 → entry_of r 1 <ℤ pos 0 → pos 0 ≤ℤ scaled_value r (pos 3 ∷ pos 0 ∷ []) (pos 1) → Meets (pos 3 ∷ negsuc 4 ∷ []) r
still_holds r l above h = by r.coefs r.constant l above h
  where
    less : (b k u v : ℤ) → v ≡ b *ℤ negsuc 4 → b <ℤ pos 0 → pos 0 ≤ℤ ((u +ℤ ((b *ℤ pos 0) +ℤ pos 0)) +ℤ (pos 1 *ℤ k)) → pos 0 ≤ℤ ((u +ℤ (v +ℤ pos 0)) +ℤ k)
    less b k u v e h g = omega (arith, ints)

    by : (cs : List ℤ) (k : ℤ) → length cs ≡ 2 → entry_of (ends.row cs k) 1 <ℤ pos 0 → pos 0 ≤ℤ scaled_value (ends.row cs k) (pos 3 ∷ pos 0 ∷ []) (pos 1) → Meets (pos 3 ∷ negsuc 4 ∷ []) (ends.row cs k)
    by [] k l above h = absurd (omega arith)
    by (a ∷ []) k l above h = absurd (omega arith)
    by (a ∷ b ∷ c ∷ cs) k l above h = absurd (omega arith)
    by (a ∷ b ∷ []) k l above h = less b k (a *ℤ pos 3) (b *ℤ negsuc 4) refl above h

-- i = 5 isn't below N = 3
too_far : ExtendsToTimePoint ends.reversed (pos 3 ∷ negsuc 4 ∷ []) → ⊥
unfolding shape-the_row-Ix-0 hidden-the_row-Ix-0 hidden
too_far e = by e.x e.d e.is_time_point.width e.is_time_point.divisor (e.begins 0 (omega arith)) (e.begins 1 (omega arith)) e.is_time_point
  where
    past : (a b d : ℤ) → pos 1 ≤ℤ d → a ≡ d *ℤ pos 3 → b ≡ d *ℤ negsuc 4
        → ((((pos 0 *ℤ a) +ℤ ((negsuc 0 *ℤ b) +ℤ pos 0)) +ℤ (d *ℤ pos 0)) +ℤ d) ≤ℤ (((pos 1 *ℤ a) +ℤ pos 0) +ℤ (d *ℤ pos 0)) → ⊥
    past a b d one e f h = absurd (omega (arith, ints))

    by : (x : List ℤ) (d : ℤ) → length x ≡ 2 → pos 1 ≤ℤ d → get_or x 0 (pos 0) ≡ d *ℤ pos 3 → get_or x 1 (pos 0) ≡ d *ℤ negsuc 4 → IsTimePoint ends.reversed x d → ⊥
    by [] d l one e f t = absurd (omega arith)
    by (a ∷ []) d l one e f t = absurd (omega arith)
    by (a ∷ b ∷ c ∷ x) d l one e f t = absurd (omega arith)
    by (a ∷ b ∷ []) d l one e f t = past a b d one e f t.turn.1

no_lower : (upper : List Affine) → AreEnds (system_of ends.reversed) 1 [] upper → ⊥
no_lower upper h =
    let hold = ends_hold ends.reversed 1 [] upper (pos 3 ∷ pos 0 ∷ []) (pos 1) shaped h first_turn in
    let met : All (Meets (pos 3 ∷ negsuc 4 ∷ [])) upper =
    λ i d lt. still_holds (get_or upper i d) (h.projected_upper i d lt).is_row.terms.width (h.above i d lt) (hold.1 i d lt) in
    too_far (turns_extend ends.reversed (([], upper) ∷ []) (pos 3 ∷ []) (negsuc 4 ∷ []) shaped refl (h, tt) starts (All-nil (Meets (pos 3 ∷ negsuc 4 ∷ [])), met, tt))

-- ---- The lower end of the loop

abbrev low_step : Stmt-F Ix → Ix
low_step (stmt.For iter low rel high body) = low
low_step (stmt.If cond body other) = lit 0
low_step (stmt.Assign op array subs value) = lit 0
low_step (stmt.Block locals body) = lit 0

abbrev first_low : List Stmt → Ix
first_low [] = lit 0
first_low (x ∷ xs) = by_stmt low_step x

abbrev low_of : Program → Ix
low_of program = first_low program.body

low_given : (low high : Ix) → low_of (loop_between low high) ≡ low
unfolding shape-the_row-Ix-0 hidden-the_row-Ix-0 shape-the_row-Val-0 hidden-the_row-Val-0 shape-the_row-Stmt-0 hidden-the_row-Stmt-0 hidden
low_given low high = refl

low_by_rows : (lower upper : List Affine) → low_of (program_between nine (backwards ∷ []) (ends_of nine (backwards ∷ []) (((lower, upper) ∷ []) ∷ []))) ≡ lower_end 1 1 lower (negsuc 7)
unfolding shape-the_row-Ix-0 hidden-the_row-Ix-0 shape-the_row-Val-0 hidden-the_row-Val-0 shape-the_row-Stmt-0 hidden-the_row-Stmt-0 hidden
low_by_rows lower upper = refl

abbrev max_step : Ix-F Bool → Bool
max_step (ix.Lit k) = false
max_step (ix.Name x) = false
max_step (ix.Neg a) = false
max_step (ix.Add a b) = false
max_step (ix.Sub a b) = false
max_step (ix.Mul a b) = false
max_step (ix.Min a b) = false
max_step (ix.Max a b) = true
max_step (ix.Floord a k) = false
max_step (ix.Ceild a k) = false
max_step (ix.Mod a b) = false

abbrev is_max : Ix → Bool
is_max = by_ix max_step

max_is : (a b : Ix) → is_max (Max a b) ≡ true
unfolding shape-the_row-Ix-0 hidden-the_row-Ix-0 hidden
max_is a b = refl

none_is : is_max (Neg (lit 8)) ≡ false
unfolding shape-the_row-Ix-0 hidden-the_row-Ix-0 hidden
none_is = refl

no_max : (e : Ix) → is_max e ≡ true → e ≡ Neg (lit 8) → ⊥
no_max e m q = true≢false (sym m ∙ ap is_max q ∙ none_is)

joined_max : (x : Ix) (ys : List Ix) (z : Ix) → is_max (joined Max x (ys ++ z ∷ [])) ≡ true
joined_max x [] z = max_is x z
joined_max x (y ∷ ys) z = joined_max (Max x y) ys z

no_rows : (rows : List Affine) → lower_end 1 1 rows (negsuc 7) ≡ Neg (lit 8) → rows ≡ []
no_rows [] e = refl
no_rows (r ∷ rs) e = absurd (no_max (lower_end 1 1 (r ∷ rs) (negsuc 7)) (joined_max (least_by 1 1 r) (map (least_by 1 1) rs) (number (negsuc 7))) e)

-- ---- The answers

abbrev program_of : List Bounds → Program
program_of bs = program_between nine (backwards ∷ []) (ends_of nine (backwards ∷ []) (map sides_of bs ∷ []))

-- the one component of the one statement
record OneOf (s : Scanned) : Type 0 where
  bound : Bounds
  is_bound : AreBoundsOfEach nine its_ranges (its_statement ∷ []) ((bound ∷ []) ∷ [])
  is : s.program ≡ program_of (bound ∷ [])
  loose : s.loose.items ≡ all_loose (its_statement ∷ []) ((bound ∷ []) ∷ [])

one_of : (s : Scanned) (bss : List (List Bounds)) → AreBoundsOfEach nine its_ranges (its_statement ∷ []) bss
    → s.program ≡ program_between nine (backwards ∷ []) (ends_of nine (backwards ∷ []) (all_sides bss)) → s.loose.items ≡ all_loose (its_statement ∷ []) bss → OneOf s
one_of s [] b e l = absurd b
one_of s ([] ∷ []) b e l = let h : zero ≡ 1 = (b.0).one_each in absurd (omega arith)
one_of s ((x ∷ []) ∷ []) b e l = record { bound = x; is_bound = b; is = e; loose = l }
one_of s ((x ∷ y ∷ bs) ∷ []) b e l = let h : length (x ∷ y ∷ bs) ≡ 1 = (b.0).one_each in absurd (omega arith)
one_of s (bs ∷ cs ∷ bss) b e l = absurd b.1

alone : (s : Scanned) → IsBetween nine (backwards ∷ []) s → OneOf s
alone s b =
    one_of s b.bounds (subst (λ es. AreBoundsOfEach nine (time_ranges (number_ranges nine.params) es) es b.bounds) scheduled_are b.are_bounds) b.is
    (b.loose ∙ ap (λ es. all_loose es b.bounds) scheduled_are)

ends_at : (lower upper : Vec Affine) → AreBoundsOfEach nine its_ranges (its_statement ∷ []) ((Between lower upper ∷ []) ∷ []) → AreEnds (system_of ends.reversed) 1 lower.items upper.items
unfolding shape-the_row-Ix-0 hidden-the_row-Ix-0 hidden
ends_at lower upper a = (((a.0).projected).0).0

pub no_row_is_left_out : NoRowIsLeftOut
no_row_is_left_out high none empty scans = by (alone (record { program = loop_between (Neg (lit 8)) high; loose = none }) scans)
  where
    of : (b : Bounds) → AreBoundsOfEach nine its_ranges (its_statement ∷ []) ((b ∷ []) ∷ []) → loop_between (Neg (lit 8)) high ≡ program_of (b ∷ []) → all_loose (its_statement ∷ []) ((b ∷ []) ∷ []) ≡ [] → ⊥
    of (Without why) a e l = not_empty (record { statement = 0; component = 0; why = why }) [] l
    of (Between lower upper) a e l =
        let none_below = no_rows lower.items (sym (low_by_rows lower.items upper.items) ∙ sym (ap low_of e) ∙ low_given (Neg (lit 8)) high) in
        no_lower upper.items (subst (λ rs. AreEnds (system_of ends.reversed) 1 rs upper.items) none_below (ends_at lower upper a))

    by : OneOf (record { program = loop_between (Neg (lit 8)) high; loose = none }) → ⊥
    by o = of o.bound o.is_bound o.is (sym o.loose ∙ empty)

pub no_rows_where_loose : NoRowsWhereLoose
no_rows_where_loose a b high one named is scans = by (alone (record { program = loop_between (Max a b) high; loose = named }) scans)
  where
    of : (x : Bounds) → loop_between (Max a b) high ≡ program_of (x ∷ []) → all_loose (its_statement ∷ []) ((x ∷ []) ∷ []) ≡ one ∷ [] → ⊥
    of (Between lower upper) e l = not_empty one [] (sym l)
    of (Without why) e l = no_max (Max a b) (max_is a b) (sym (low_given (Max a b) high) ∙ ap low_of e ∙ low_by_rows [] [])

    by : OneOf (record { program = loop_between (Max a b) high; loose = named }) → ⊥
    by o = of o.bound o.is (sym o.loose ∙ is)

pub own_order : ItsOwnOrder
own_order = ((λ none empty. (refl, empty)), λ one named is scans. not_empty one [] (sym is ∙ scans.1))
