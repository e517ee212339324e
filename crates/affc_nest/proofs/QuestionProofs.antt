-- The extents and subscripts of a nest are sides, and its systems have room for one row more.
use Rattle.std.proofs.Common.{◌^◌, ◌≡◌, ℕ, suc, ◌+◌, ◌*◌, ◌<◌, ◌≤◌, ℤ, IsTrue, List, [], ◌∷◌, ◌++◌, length, map, Option, Some, None, refl, sym, ap, subst, ◌∙◌, inl, inr, arith}
use Rattle.std.specs.Prelude.{nat_le, slice_get}
use Rattle.std.proofs.lemmas.Option.{none-some}
use Rattle.affc_rows.proofs.SizeLemmas.{widened_within}
use Rattle.affc_rows.specs.Forms.{Affine}
use Rattle.affc_ast.specs.declared.tree.Compare.{Compare}
use Rattle.affc_ast.specs.declared.tree.Decl.{Decl}
use Rattle.affc_ast.specs.declared.tree.Ix.{Ix}
use Rattle.affc_ast.specs.declared.tree.Program.{Program}
use Rattle.affc_ast.specs.Joined.{tests_of}
use Rattle.affc_ast.specs.Meaning.{arrays_of}
use Rattle.affc_ast.specs.Pieces.{comparisons_of}
use Rattle.affc_trace.specs.Law.{IsIn}
use Rattle.affc_trace.proofs.Runs.{length_append}
use Rattle.affc_domain.specs.Accesses as said
use Rattle.affc_domain.specs.Accesses.{accesses_of}
use Rattle.affc_domain.specs.Affine.{form_of}
use Rattle.affc_domain.specs.Arrays.{declared_arrays}
use Rattle.affc_domain.specs.Plain.{is_plain, all_plain, plain_decls}
use Rattle.affc_domain.specs.Ranges.{Ranges, Within, Never, Wide, number_ranges, ranges_of}
use Rattle.affc_domain.specs.Rounds.{Round, Loop, Test, loops_in, comparisons_in}
use Rattle.affc_domain.proofs.Lists.{both_true, place_of, stands_in}
use Rattle.affc_domain.proofs.PlainLemmas.{assignments_are_plain}
use Rattle.affc_nest.specs.Asked.{IsNest, IsExtent, IsSubscript, NestsAreAsked, ExtentsAreAsked, SubscriptsAreAsked, EntriesAreAsked}
use Rattle.affc_nest.specs.declared.nest.Access.{Access}
use Rattle.affc_nest.specs.declared.nest.ArrayInfo.{ArrayInfo}
use Rattle.affc_nest.specs.declared.nest.Entry.{Entry}
use Rattle.affc_nest.specs.declared.nest.Nest.{Nest}
use Rattle.affc_nest.specs.Domains.{box_rows, test_rows, loop_rows, condition_rows, domain_rows}
use Rattle.affc_nest.specs.Entries.{IsPlainPlace}
use Rattle.affc_nest.specs.Nests.{array_of, access_form, domain_by, nest_of}
use Rattle.affc_nest.specs.Questions.{extents_or_none, widened}
use Rattle.affc_nest.specs.Sides.{IsSide, NearRanges}
use Rattle.affc_nest.specs.Sites.{Place}
use Rattle.affc_nest.specs.Touches.{AllPlain}
use Rattle.affc_nest.proofs.AccessLemmas.{plain_append}
use Rattle.affc_nest.proofs.CondLemmas.{few_cond}
use Rattle.affc_nest.proofs.EntryLemmas.{SiteOf, site_of, columns_are, loops_are}
use Rattle.affc_nest.proofs.PlaceProofs.{near_numbers, plain_place}
use Rattle.affc_nest.proofs.RowLemmas.{plain_side, few_box, few_tests, few_loop_rows}

-- ---- Sides

plain_form : (n : ℕ) (e : Ix) → IsTrue (is_plain n e) → IsSide n (form_of n 0 e)
plain_form n e h = subst (λ k. IsSide k (form_of n 0 e)) (no_more n) (plain_side n 0 e h)
  where
    no_more : (n : ℕ) → n + 0 ≡ n
    no_more n = omega arith

form_in : (n : ℕ) (es : List Ix) (f : Affine) → IsTrue (all_plain n es) → IsIn f (map (form_of n 0) es) → IsSide n f
form_in n [] f h i = absurd i
form_in n (e ∷ es) f h (inl is) = subst (IsSide n) (sym is) (plain_form n e (both_true (is_plain n e) (all_plain n es) h).0)
form_in n (e ∷ es) f h (inr i) = form_in n es f (both_true (is_plain n e) (all_plain n es) h).1 i

extent_in : (n : ℕ) (ds : List Decl) (a : ArrayInfo) (f : Affine) → IsTrue (plain_decls n ds) → IsIn a (map (array_of n) ds) → IsIn f a.extents → IsSide n f
extent_in n [] a f h i j = absurd i
extent_in n (d ∷ ds) a f h (inl is) j =
    let b = both_true (nat_le (length d.extents) 4) _ h in
    let c = both_true (all_plain n d.extents) (plain_decls n ds) b.1 in
    form_in n d.extents f c.0 (subst (λ (x : ArrayInfo). IsIn f x.extents) is j)
extent_in n (d ∷ ds) a f h (inr i) j =
    let b = both_true (nat_le (length d.extents) 4) _ h in
    let c = both_true (all_plain n d.extents) (plain_decls n ds) b.1 in
    extent_in n ds a f c.1 i j

sub_in : (n : ℕ) (xs : List said.Access) (x : Access) (f : Affine) → AllPlain n xs → IsIn x (map (access_form n) xs) → IsIn f x.subs → IsSide n f
sub_in n [] x f h i j = absurd i
sub_in n (y ∷ xs) x f h (inl is) j = form_in n y.1 f h.0 (subst (λ (z : Access). IsIn f z.subs) is j)
sub_in n (y ∷ xs) x f h (inr i) j = sub_in n xs x f h.1 i j

widened_side : (n k : ℕ) (f : Affine) → IsSide n f → IsSide (n + k) (widened k f)
widened_side n k f s = widened_within n k (2 ^ 16) (2 ^ 32) f s

-- ---- The context

params_are : (nest : Nest) (n : IsNest nest) → nest.params ≡ number_ranges n.program.params
params_are nest n = ap (λ (x : Nest). x.params) n.is

pub nest_near : (nest : Nest) → IsNest nest → NearRanges nest.params
nest_near nest n = subst NearRanges (sym (params_are nest n)) (near_numbers (number_ranges n.program.params) n.has.plain.ranges)

pub nest_few : (nest : Nest) → IsNest nest → length nest.params ≤ 4
nest_few nest n = subst (λ (rs : List (ℤ × ℤ)). length rs ≤ 4) (sym (params_are nest n)) n.has.plain.few_numbers

pub context_few : (nest : Nest) → IsNest nest → length nest.context.rows ≤ 32
context_few nest n =
    let m = length (number_ranges n.program.params) in
    let a : length nest.context.rows ≡ length (test_rows m 0 n.program.context) = ap (λ (x : Nest). length x.context.rows) n.is in
    let b : length (test_rows m 0 n.program.context) ≤ 2 * length n.program.context = few_tests m 0 n.program.context in
    let c : length n.program.context ≤ 16 = n.has.plain.few_conditions in
    omega arith

pub whole_few : (nest : Nest) → IsNest nest → length (box_rows nest.context.columns 0 nest.params ++ nest.context.rows) < 1024
whole_few nest n =
    let a = few_box nest.context.columns 0 nest.params in
    let b = nest_few nest n in
    let c = context_few nest n in
    let d = length_append (box_rows nest.context.columns 0 nest.params) nest.context.rows in
    omega arith

pub extent_side : (nest : Nest) (f : Affine) → IsNest nest → IsExtent nest f → IsSide nest.context.columns f
extent_side nest f n x =
    let m = length (number_ranges n.program.params) in
    let i : IsIn x.array (map (array_of m) (declared_arrays n.program)) = subst (λ (y : Nest). IsIn x.array y.arrays) n.is x.declared in
    let plain = plain_append m (arrays_of n.program.params) n.program.temps n.has.plain.arrays n.has.plain.temps in
    subst (λ k. IsSide k f) (sym (ap (λ (y : Nest). y.context.columns) n.is)) (extent_in m (declared_arrays n.program) x.array f plain i x.of_array)

-- ---- Entries

condition_count : (names : ℕ) (rs : List Round) → length (condition_rows names rs) ≤ 2 * comparisons_in rs
condition_count names [] = omega arith
condition_count names (Loop iter low rel high ∷ rs) = condition_count (suc names) rs
condition_count names (Test cond ∷ rs) =
    let a : length (test_rows names (loops_in rs) (tests_of cond)) ≤ 2 * comparisons_of cond = few_cond names (loops_in rs) cond in
    let b = condition_count names rs in
    let d = length_append (test_rows names (loops_in rs) (tests_of cond)) (condition_rows names rs) in
    omega arith

domain_count : (ps : List (ℤ × ℤ)) (context : List Compare) (boxes : List (ℤ × ℤ)) (rs : List Round) → length ps ≤ 4 → length context ≤ 16 → loops_in rs ≤ 6 → comparisons_in rs ≤ 32
    → length (domain_rows ps context boxes rs) ≤ 134
domain_count ps context boxes rs few conds loops comparisons =
    let m = length ps in
    let n = loops_in rs in
    let a : length (box_rows (m + n) 0 ps) ≤ 2 * length ps = few_box (m + n) 0 ps in
    let b : length (test_rows m n context) ≤ 2 * length context = few_tests m n context in
    let c : length (loop_rows m boxes rs) ≤ 5 * loops_in rs = few_loop_rows m boxes rs in
    let d : length (condition_rows m rs) ≤ 2 * comparisons_in rs = condition_count m rs in
    let e = length_append (box_rows (m + n) 0 ps) (test_rows m n context ++ (loop_rows m boxes rs ++ condition_rows m rs)) in
    let f = length_append (test_rows m n context) (loop_rows m boxes rs ++ condition_rows m rs) in
    let g = length_append (loop_rows m boxes rs) (condition_rows m rs) in
    omega arith

rows_count : (ps : List (ℤ × ℤ)) (context : List Compare) (inside : Ranges) (rs : List Round) → length ps ≤ 4 → length context ≤ 16 → loops_in rs ≤ 6 → comparisons_in rs ≤ 32
    → length (domain_by ps context inside rs).rows ≤ 134
rows_count ps context (Within boxes) rs few conds loops comparisons = domain_count ps context boxes rs few conds loops comparisons
rows_count ps context Never rs few conds loops comparisons = omega arith
rows_count ps context (Wide n) rs few conds loops comparisons = domain_count ps context [] rs few conds loops comparisons

pub record OfProgram (program : Program) (e : Entry) : Type 0 where
  pub statement : ℕ
  pub site : SiteOf program statement e
  pub plain : IsPlainPlace (length (number_ranges program.params)) (record { around = site.its_rounds; loops = site.loops; assignment = site.assignment })

pub entry_in : (nest : Nest) (n : IsNest nest) (e : Entry) → IsIn e nest.entries → OfProgram n.program e
entry_in nest n e i =
    let k = place_of (nest_of n.program).entries e (subst (λ (y : Nest). IsIn e y.entries) n.is i) in
    let s = site_of n.program k.0 e k.1 in
    let p : Place = record { around = s.its_rounds; loops = s.loops; assignment = s.assignment } in
    record {
      statement = k.0;
      site = s;
      plain = plain_place (length (number_ranges n.program.params)) p (assignments_are_plain n.program n.has.plain k.0 s.its_rounds s.assignment s.rounds_at s.assignment_at);
    }

pub sub_side : (nest : Nest) (e : Entry) (f : Affine) → IsNest nest → IsIn e nest.entries → IsSubscript e f → IsSide e.domain.columns f
sub_side nest e f n i x =
    let o = entry_in nest n e i in
    let m = length (number_ranges n.program.params) in
    let c = m + loops_in o.site.its_rounds in
    let j : IsIn x.access (map (access_form c) (accesses_of o.site.assignment)) = subst (λ (y : Entry). IsIn x.access y.accesses) o.site.is x.made in
    subst (λ k. IsSide k f) (sym (columns_are n.program o.statement e o.site)) (sub_in c (accesses_of o.site.assignment) x.access f o.plain.accesses j x.of_access)

pub extent_side_wide : (nest : Nest) (e : Entry) (f : Affine) → IsNest nest → IsIn e nest.entries → IsExtent nest f → IsSide e.domain.columns (widened (length e.loops) f)
extent_side_wide nest e f n i x =
    let o = entry_in nest n e i in
    let m = length (number_ranges n.program.params) in
    let s : IsSide m f = subst (λ k. IsSide k f) (ap (λ (y : Nest). y.context.columns) n.is) (extent_side nest f n x) in
    subst (λ k. IsSide k (widened (length e.loops) f)) (sym (columns_are n.program o.statement e o.site ∙ ap (λ k. m + k) (sym (loops_are n.program o.statement e o.site)))) (widened_side m (length e.loops) f s)

-- a domain has at most so many rows
pub domain_small : (nest : Nest) (e : Entry) → IsNest nest → IsIn e nest.entries → length e.domain.rows ≤ 134
domain_small nest e n i =
    let o = entry_in nest n e i in
    let ps = number_ranges n.program.params in
    subst (λ (y : Entry). length y.domain.rows ≤ 134) (sym o.site.is)
    (rows_count ps n.program.context (ranges_of ps o.site.its_rounds) o.site.its_rounds n.has.plain.few_numbers n.has.plain.few_conditions o.plain.few_loops o.plain.few_comparisons)

pub domain_few : (nest : Nest) (e : Entry) → IsNest nest → IsIn e nest.entries → length e.domain.rows < 1024
domain_few nest e n i = let h = domain_small nest e n i in omega arith

pub few_numbered : (nest : Nest) (e : Entry) → IsNest nest → IsIn e nest.entries → length e.loops ≤ 6
few_numbered nest e n i =
    let o = entry_in nest n e i in
    let l : loops_in o.site.its_rounds ≤ 6 = o.plain.few_loops in
    let s : length e.loops ≡ loops_in o.site.its_rounds = loops_are n.program o.statement e o.site in
    omega arith

-- ---- That they can be asked

pub nests_are_asked : NestsAreAsked
nests_are_asked program has = record { program = program; has = has; is = refl }

pub extents_are_asked : ExtentsAreAsked
extents_are_asked nest array dimension extent e = chosen (slice_get nest.arrays array) refl e
  where
    chosen : (o : Option ArrayInfo) → slice_get nest.arrays array ≡ o → slice_get (extents_or_none o) dimension ≡ Some extent → IsExtent nest extent
    chosen None f g = absurd (none-some extent g)
    chosen (Some a) f g = record { array = a; declared = stands_in nest.arrays array a f; of_array = stands_in a.extents dimension extent g }

pub subscripts_are_asked : SubscriptsAreAsked
subscripts_are_asked entry access dimension x sub e f =
    record { access = x; made = stands_in entry.accesses access x e; of_access = stands_in x.subs dimension sub f }

pub entries_are_asked : EntriesAreAsked
entries_are_asked nest statement entry e = stands_in nest.entries statement entry e
