-- Where the numbers and products of a program are plain, so are those of its loops.
use Rattle.std.proofs.Common.{◌≡◌, inl, inr, ℕ, suc, ◌+◌, ◌-◌, ◌^◌, ℤ, Bool, true, ◌&&◌, List, [], ◌∷◌, length, map, Some, refl, sym, ap, ◌∙◌, arith}
use Rattle.std.specs.Prelude.{slice_get}
use Rattle.std.specs.List.{All, list_all}
use Rattle.std.proofs.lemmas.Bool.{and_parts, and_from}
use Rattle.affc_rows.specs.Forms.{Affine}
use Rattle.affc_ast.specs.declared.tree.Compare.{Compare}
use Rattle.affc_ast.specs.declared.tree.Cond.{Cond}
use Rattle.affc_ast.specs.declared.tree.Ix.{Ix}
use Rattle.affc_ast.specs.declared.tree.Program.{Program}
use Rattle.affc_ast.specs.declared.tree.Rel.TheVariants.{LessEqual}
use Rattle.affc_ast.specs.declared.tree.Stmt.{Stmt}
use Rattle.affc_ast.specs.declared.tree.Stmt.TheVariants.{For, If, Block}
use Rattle.affc_ast.specs.Denials.{denied}
use Rattle.affc_ast.specs.Trace.{Assignment, assignments}
use Rattle.affc_ast.proofs.Steps.{all_here}
use Rattle.affc_trace.specs.Law.{IsIn}
use Rattle.affc_trace.specs.Target.{numbers_in}
use Rattle.affc_domain.specs.Rounds.{Round, Loop, Test, rounds}
use Rattle.affc_loops.specs.Between.{loops_between, body_between}
use Rattle.affc_loops.specs.Limits.{IsSlight}
use Rattle.affc_loops.specs.Loops.{Scheduled, loop_names, locals_of, box_tests, time_tests, as_condition, all_of, if_any, loop_tests, guarded, moved_assign, block_of, time_name}
use Rattle.affc_loops.specs.Trees.{form_tree, moved, moved_cond}
use Rattle.affc_loops.proofs.Sizes.{Within}
use Rattle.affc_cprint.proofs.Arms.{for_here, if_here, block_here}
use Rattle.affc_cprint.proofs.ReadBackValues.{Each}
use Rattle.affc_cprint.specs.Forms.{compare_passes, cond_step, cond_passes, local_passes, value_passes, stmt_step, stmt_passes, decl_passes, param_passes, program_passes}
use Rattle.affc_wellnamed.specs.Plain.{is_plain}
use Rattle.affc_loopprint.proofs.EndCases.{EndsFrom}
use Rattle.affc_loopprint.proofs.Entries.{Walk, two_at, entries}
use Rattle.affc_loopprint.proofs.Fitting.{loops_program}
use Rattle.affc_loopprint.proofs.PlainEnds.{PlainAt}
use Rattle.affc_loopprint.proofs.Conditions.{moved_same, denied_same}
use Rattle.affc_loopprint.proofs.Moved.{moved_plain, all_moved_plain, moved_value_plain}
use Rattle.affc_loopprint.proofs.Sums.{sums_plain, number_has, form_has}

-- ---- Conditions

denied_plain : (cond : Cond) → cond_passes is_plain (denied cond) ≡ cond_passes is_plain cond
denied_plain cond = denied_same (cond_step is_plain) (λ rel left right. refl) (λ bs. refl) (λ value by so. refl) cond

moved_cond_plain : (first more : ℕ) (cond : Cond) → cond_passes is_plain (moved_cond first more cond) ≡ cond_passes is_plain cond
moved_cond_plain first more cond =
    moved_same (cond_step is_plain) first more (λ rel left right. ap (λ b. b && is_plain (moved first more right)) (moved_plain first more left) ∙ ap (λ b. is_plain left && b) (moved_plain first more right))
    (λ value by so. moved_plain first more value) cond

-- ---- By the assignments, and what stands round each

abbrev pub around_plain : List Round → Assignment → Bool
around_plain [] a = list_all is_plain a.subs && value_passes is_plain a.value
around_plain (Loop iter low rel high ∷ rs) a = is_plain low && (is_plain high && around_plain rs a)
around_plain (Test cond ∷ rs) a = cond_passes is_plain cond && around_plain rs a

abbrev IsThere : Unit {0} → Stmt → Type 0
IsThere x s = stmt_passes is_plain s ≡ true

abbrev all_plain : List Stmt → Bool
all_plain body = list_all (stmt_passes is_plain) body

all_there : (body : List Stmt) → all_plain body ≡ true → Each (IsThere tt) body
all_there [] h = tt
all_there (s ∷ body) h = let p = and_parts (stmt_passes is_plain s) (all_plain body) h in (p.0, all_there body p.1)

-- as one test of each
ids : (body : List Stmt) → list_all (λ (b : Bool). b) (map (stmt_passes is_plain) body) ≡ all_plain body
ids [] = refl
ids (s ∷ body) = ap (λ b. stmt_passes is_plain s && b) (ids body)

for_passes : (iter : List ℕ) (low : _) (rel : _) (high : _) (body : List Stmt) → stmt_passes is_plain (For iter low rel high body) ≡ (is_plain low && (is_plain high && all_plain body))
for_passes iter low rel high body = for_here (stmt_step is_plain) iter low rel high body ∙ ap (λ b. is_plain low && (is_plain high && b)) (ids body)

if_passes : (cond : Cond) (body other : List Stmt) → stmt_passes is_plain (If cond body other) ≡ (cond_passes is_plain cond && (all_plain body && all_plain other))
if_passes cond body other =
    if_here (stmt_step is_plain) cond body other
    ∙ ap (λ b. cond_passes is_plain cond && (b && list_all (λ (x : Bool). x) (map (stmt_passes is_plain) other))) (ids body)
    ∙ ap (λ b. cond_passes is_plain cond && (all_plain body && b)) (ids other)

block_passes : (ls : List _) (body : List Stmt) → stmt_passes is_plain (Block ls body) ≡ (list_all (local_passes is_plain) ls && all_plain body)
block_passes ls body = block_here (stmt_step is_plain) ls body ∙ ap (λ b. list_all (local_passes is_plain) ls && b) (ids body)

walk : Walk IsThere (λ x rs a. around_plain rs a ≡ true) (λ x w. x)
walk = record {
  loop = λ x iter low rel high body h.
      let p = and_parts (is_plain low) _ (sym (for_passes iter low rel high body) ∙ h) in
      let q = and_parts (is_plain high) (all_plain body) p.1 in
      (all_there body q.1, λ rs a k. and_from _ _ p.0 (and_from _ _ q.0 k));
  test = λ x cond body other h.
      let p = and_parts (cond_passes is_plain cond) (all_plain body && all_plain other) (sym (if_passes cond body other) ∙ h) in
      let q = and_parts (all_plain body) (all_plain other) p.1 in
      (all_there body q.0, λ rs a k. and_from _ _ p.0 k, all_there other q.1, λ rs a k. and_from _ _ (denied_plain cond ∙ p.0) k);
  assign = λ x op array subs value h. h;
  block = λ x ls body h. all_there body (and_parts (list_all (local_passes is_plain) ls) (all_plain body) (sym (block_passes ls body) ∙ h)).1;
}

pub all_around : (program : Program) → all_plain program.body ≡ true → (n : ℕ) (rs : List Round) (a : Assignment) → slice_get (rounds program) n ≡ Some rs → slice_get (assignments program) n ≡ Some a → around_plain rs a ≡ true
all_around program h n rs a e f =
    two_at (λ qs b. around_plain qs b ≡ true) (rounds program) (assignments program) n rs a (entries IsThere (λ x qs b. around_plain qs b ≡ true) (λ x w. x) walk tt program.body (all_there program.body h)) e f

-- ---- Blocks

each_plain : (cs : List Compare) → list_all (compare_passes is_plain) cs ≡ true → list_all (λ (b : Bool). b) (map (cond_passes is_plain) (map as_condition cs)) ≡ true
each_plain [] h = refl
each_plain (d ∷ cs) h = let p = and_parts (compare_passes is_plain d) _ h in and_from _ _ p.0 (each_plain cs p.1)

all_of_plain : (d : Compare) (cs : List Compare) → list_all (compare_passes is_plain) (d ∷ cs) ≡ true → cond_passes is_plain (all_of d cs) ≡ true
all_of_plain d [] h = (and_parts (compare_passes is_plain d) true h).0
all_of_plain d (e ∷ es) h = all_here (cond_step is_plain) (map as_condition (d ∷ e ∷ es)) ∙ each_plain (d ∷ e ∷ es) h

if_plain : (cond : Cond) (body : List Stmt) → cond_passes is_plain cond ≡ true → all_plain body ≡ true → all_plain (If cond body [] ∷ []) ≡ true
if_plain cond body h k = and_from _ true (if_passes cond body [] ∙ and_from _ _ h (and_from _ true k refl)) refl

any_plain : (cs : List Compare) (body : List Stmt) → list_all (compare_passes is_plain) cs ≡ true → all_plain body ≡ true → all_plain (if_any cs body) ≡ true
any_plain [] body h k = k
any_plain (c ∷ cs) body h k = if_plain (all_of c cs) body (all_of_plain c cs h) k

box_plain : (from : ℕ) (rs : List (ℤ × ℤ)) → All (Within (2 ^ 31)) rs → list_all (compare_passes is_plain) (box_tests from rs) ≡ true
box_plain from [] w = refl
box_plain from (r ∷ rs) w =
    let e : Within (2 ^ 31) r = w 0 r (omega arith) in
    let e0 = e.0 in let e1 = e.1 in
    let low = number_has (λ z. is_plain z ≡ true) 0 (sums_plain 0) r.0 (omega (arith, e0)) in
    let high = number_has (λ z. is_plain z ≡ true) 0 (sums_plain 0) r.1 (omega (arith, e1)) in
    and_from _ _ (and_from _ true low refl) (and_from _ _ high (box_plain (suc from) rs (λ i y m. w (suc i) y (omega (arith, m)))))

form_plain : (first from : ℕ) (f : Affine) → IsSlight f → is_plain (form_tree first from f) ≡ true
form_plain first from f s = let most = first + (from + (length f.coefs - first)) in form_has (λ z. is_plain z ≡ true) most (sums_plain most) first from f s (omega arith) (omega arith)

times_plain : (first from component : ℕ) (fs : List Affine) → All IsSlight fs → list_all (compare_passes is_plain) (time_tests first from component fs) ≡ true
times_plain first from component [] s = refl
times_plain first from component (f ∷ fs) s = and_from _ _ (form_plain first from f (s 0 f (omega arith))) (times_plain first from (suc component) fs (λ i y k. s (suc i) y (omega (arith, k))))

locals_plain : (first : ℕ) (ws : List (List ℕ)) (gs : List Affine) → All IsSlight gs → list_all (local_passes is_plain) (locals_of first ws gs) ≡ true
locals_plain first [] gs s = refl
locals_plain first (w ∷ ws) [] s = refl
locals_plain first (w ∷ ws) (g ∷ gs) s = and_from _ _ (form_plain first first g (s 0 g (omega arith))) (locals_plain first ws gs (λ i y k. s (suc i) y (omega (arith, k))))

guarded_plain : (first more from : ℕ) (rs : List Round) (a : Assignment) → around_plain rs a ≡ true → all_plain (guarded first more from rs (moved_assign first more a ∷ [])) ≡ true
guarded_plain first more from [] a h =
    let p = and_parts (list_all is_plain a.subs) _ h in
    and_from _ true (and_from _ _ (all_moved_plain first more a.subs ∙ p.0) (moved_value_plain first more a.value ∙ p.1)) refl
guarded_plain first more from (Loop iter low rel high ∷ rs) a h =
    let p = and_parts (is_plain low) _ h in
    let q = and_parts (is_plain high) _ p.1 in
    any_plain (loop_tests first more from low rel high) (guarded first more (suc from) rs (moved_assign first more a ∷ []))
    (and_from _ _ (and_from _ true (moved_plain first more low ∙ p.0) refl) (and_from _ true (moved_plain first more high ∙ q.0) refl)) (guarded_plain first more (suc from) rs a q.1)
guarded_plain first more from (Test cond ∷ rs) a h =
    let p = and_parts (cond_passes is_plain cond) _ h in
    if_plain (moved_cond first more cond) (guarded first more from rs (moved_assign first more a ∷ [])) (moved_cond_plain first more cond ∙ p.0) (guarded_plain first more from rs a p.1)

-- what is asked of a statement
pub record Slight (e : Scheduled) : Type 0 where
  pub near : All (Within (2 ^ 31)) e.ranges
  pub slight : All IsSlight e.times.forms
  pub inverse_slight : All IsSlight e.times.inverse
  pub around : around_plain e.around e.assignment ≡ true

block_plain : (first more : ℕ) (e : Scheduled) → Slight e → stmt_passes is_plain (block_of first more e) ≡ true
block_plain first more e s =
    let from = first + more in
    let ls = locals_of first (loop_names e.around) e.times.inverse in
    let body = if_any (box_tests from e.ranges) (if_any (time_tests first from first e.times.forms) (guarded first more from e.around (moved_assign first more e.assignment ∷ []))) in
    block_passes ls body
    ∙ and_from _ _ (locals_plain first (loop_names e.around) e.times.inverse s.inverse_slight)
    (any_plain (box_tests from e.ranges) _ (box_plain from e.ranges s.near)
    (any_plain (time_tests first from first e.times.forms) _ (times_plain first from first e.times.forms s.slight) (guarded_plain first more from e.around e.assignment s.around)))

-- ---- The program

blocks_plain : (first more : ℕ) (es : List Scheduled) → ((e : Scheduled) → IsIn e es → Slight e) → all_plain (map (block_of first more) es) ≡ true
blocks_plain first more [] h = refl
blocks_plain first more (e ∷ es) h = and_from _ _ (block_plain first more e (h e (inl refl))) (blocks_plain first more es (λ f i. h f (inr i)))

all_loops_plain : (ends : List (Ix × Ix)) (component column : ℕ) (body : List Stmt) → EndsFrom PlainAt column ends → all_plain body ≡ true → all_plain (loops_between ends component body) ≡ true
all_loops_plain [] component column body w h = h
all_loops_plain (e ∷ es) component column body w h =
    and_from _ true
    (for_passes (time_name component) e.0 LessEqual e.1 (loops_between es (suc component) body)
    ∙ and_from _ _ w.0 (and_from _ _ w.1 (all_loops_plain es (suc component) (suc column) body w.2 h))) refl

body_plain : (first : ℕ) (ends : List (Ix × Ix)) (es : List Scheduled) → EndsFrom PlainAt first ends → ((e : Scheduled) → IsIn e es → Slight e) → all_plain (body_between first ends es) ≡ true
body_plain first ends [] w h = refl
body_plain first ends (e ∷ es) w h = all_loops_plain ends 0 first _ w (blocks_plain first (length ends) (e ∷ es) h)

-- of a program that passes
pub body_passes : (program : Program) → program_passes is_plain program ≡ true → all_plain program.body ≡ true
body_passes program h = (and_parts ((list_all (compare_passes is_plain) program.context && list_all (param_passes is_plain) program.params) && list_all (decl_passes is_plain) program.temps) (all_plain program.body) h).1

pub loops_pass : (program : Program) (ends : List (Ix × Ix)) (es : List Scheduled) → program_passes is_plain program ≡ true → EndsFrom PlainAt (numbers_in program.params) ends → ((e : Scheduled) → IsIn e es → Slight e)
    → program_passes is_plain (loops_program program ends es) ≡ true
loops_pass program ends es h w each =
    let p = and_parts ((list_all (compare_passes is_plain) program.context && list_all (param_passes is_plain) program.params) && list_all (decl_passes is_plain) program.temps) (all_plain program.body) h in
    and_from _ _ p.0 (body_plain (numbers_in program.params) ends es w each)
